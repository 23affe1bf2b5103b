-- What reading of segments leaves as it was.
use Rattle.std.specs.Prelude.{ℕ, ◌≡◌, ◌⊎◌, Bool, IsTrue, List, Contains}
use Rattle.outer_io.specs.Files.{Files}
use Rattle.page_cache.specs.declared.cache.PageCache.{PageCache}
use Rattle.page_cache.specs.Cache.{KeepsFile, Agrees}

-- reading of segments of these ids left the files, and a cache that agreed with them agrees with them still; it keeps
-- pages of no other segments than before but these
pub record IsCalm (told : Bool) (old new : Files) (before after : PageCache) (ids : List ℕ) : Type 0 where
  pub files : IsTrue told → new ≡ old
  pub agrees : IsTrue told → Agrees old before → Agrees old after
  pub others : (id : ℕ) → KeepsFile after id → KeepsFile before id ⊎ Contains ids id
