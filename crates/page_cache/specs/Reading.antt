-- What a call that only reads leaves, and what its answer says of the folder's faults.
use Rattle.std.specs.Prelude.{ℕ, ◌≡◌, ◌⊎◌, Bool, IsTrue, OnOk, Result}
use Rattle.outer_io.specs.Files.{Files}
use Rattle.page_cache.specs.declared.cache.PageCache.{PageCache}
use Rattle.page_cache.specs.declared.faults.PageFault.{PageFault}
use Rattle.page_cache.specs.Cache.{KeepsFile, KeepsPages, MarksGo, Agrees}
use Rattle.page_cache.specs.Causes.{HasPageCause, IsSteady}

-- a call that only reads: the files are as before, where the folder tells its files (`told`); Failed is answered only
-- where the folder failed, and anything else only where it didn't
pub record OnlyReads {T : Type 0} (told : Bool) (before now : Files) (faults new_faults : ℕ)
    (result : Result T PageFault) : Type 0 where
  pub files : IsTrue told → now ≡ before
  pub cause : HasPageCause faults new_faults result
  pub steady : IsSteady faults new_faults result

-- a call that reads segments by way of a cache, those whose ids are `mine`: the files are as before; the cache keeps
-- pages of no other segment than before but of these, and agrees with the files where it did before; Failed is answered
-- only where the folder failed, and a call that is done was not failed
pub record ReadsMarking {T : Type 0} (told : Bool) (mine : ℕ → Type 0) (before now : Files) (old new : PageCache)
    (faults new_faults : ℕ) (result : Result T PageFault) : Type 0 where
  pub files : IsTrue told → now ≡ before
  pub others : (i : ℕ) → KeepsFile new i → KeepsFile old i ⊎ mine i
  pub agrees : IsTrue told → Agrees before old → Agrees before new
  pub cause : HasPageCause faults new_faults result

-- the same, and the cache knows of no leaf to be dead that it didn't know of before
pub record ReadsCached {T : Type 0} (told : Bool) (mine : ℕ → Type 0) (before now : Files) (old new : PageCache)
    (faults new_faults : ℕ) (result : Result T PageFault) : Type 0 where
  pub files : IsTrue told → now ≡ before
  pub others : (i : ℕ) → KeepsFile new i → KeepsFile old i ⊎ mine i
  pub agrees : IsTrue told → Agrees before old → Agrees before new
  pub cause : HasPageCause faults new_faults result
  pub marks : MarksGo old new

-- nothing was read, and where the call is done each page that was kept is kept
pub record ReadsNothing {T : Type 0} (before now : ℕ) (old new : PageCache) (result : Result T PageFault) : Type 0 where
  pub reads : now ≡ before
  pub kept : OnOk result (KeepsPages old new)
