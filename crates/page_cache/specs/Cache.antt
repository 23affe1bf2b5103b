-- What contracts see of a cache: which pages it keeps, in which order, and whether they are those of the files.
use Rattle.std.specs.Prelude.{◌≡◌, ℕ, ◌-◌, List, ◌∷◌, map, take, filter}
use Rattle.outer_io.specs.declared.file_name.FileName.{FileName}
use Rattle.outer_io.specs.declared.file_name.FileName.TheVariants.{Commit, CommitNew, Segment, Live}
use Rattle.outer_io.specs.Files.{Files}
use Rattle.page_cache.specs.declared.key.PageKey.{PageKey}
use Rattle.page_cache.specs.declared.cache.PageCache.{PageCache}
use Rattle.page_cache.specs.Keys.{page_key, leaf_part, keys_but, KeepsIn, KeepsDeadIn, is_of_other}
use Rattle.page_cache.specs.Evidence.{IsPageOf}

-- the cache keeps this page of the segment's file, with these bytes
unfoldable pub Keeps : PageCache → ℕ → ℕ → List ℕ → Type 0
Keeps c id number bytes = KeepsIn c.pages.entries (page_key id number) bytes

-- the cache keeps this page of the segment's file, with whatever bytes
unfoldable pub IsKept : PageCache → ℕ → ℕ → Type 0
IsKept c id number = (bytes : List ℕ) × Keeps c id number bytes

-- each page that the one keeps the other keeps
abbrev pub KeepsPages : PageCache → PageCache → Type 0
KeepsPages old new = (id number : ℕ) → IsKept old id number → IsKept new id number

-- it keeps this page with these bytes, and knows that the leaf in this part of the payload is dead
unfoldable pub KeepsDead : PageCache → ℕ → ℕ → (offset len : ℕ) → List ℕ → Type 0
KeepsDead c id number offset len bytes = KeepsDeadIn c.pages.entries (page_key id number) (leaf_part offset len) bytes

-- marks only go: each leaf that the new knows to be dead the old knew, in a page of the same bytes
abbrev pub MarksGo : PageCache → PageCache → Type 0
MarksGo old new = (id number offset len : ℕ) (bytes : List ℕ) → KeepsDead new id number offset len bytes
    → KeepsDead old id number offset len bytes

-- it keeps some page of the segment's file
unfoldable pub KeepsFile : PageCache → ℕ → Type 0
KeepsFile c id = (number : ℕ) × IsKept c id number

-- the pages that it keeps are those that the files have
unfoldable pub Agrees : Files → PageCache → Type 0
Agrees files c = (id number : ℕ) (bytes : List ℕ) → Keeps c id number bytes → IsPageOf files (Segment id) number bytes

-- how many pages it may keep
unfoldable pub room_of : PageCache → ℕ
room_of c = c.pages.cap

-- the segment and number of each page that it keeps, the last used first
unfoldable pub order_of : PageCache → List PageKey
order_of c = map (λ e. e.0) c.pages.entries

-- this page was used: it is kept, and stands first; where it wasn't kept and the room was full, the one least lately
-- used went
pub record IsUsed (id number : ℕ) (old new : PageCache) : Type 0 where
  pub there : IsKept new id number
  pub kept : IsKept old id number → order_of new ≡ page_key id number ∷ keys_but (page_key id number) (order_of old)
  pub read : (IsKept old id number → ⊥) → order_of new ≡ page_key id number ∷ take (room_of old - 1) (order_of old)

-- the keys of other segments
abbrev pub of_others : ℕ → List PageKey → List PageKey
of_others id keys = filter (is_of_other id) keys

-- the cache keeps this page of the file of this name; only pages of segments' files are kept
abbrev pub KeepsOf : PageCache → FileName → ℕ → List ℕ → Type 0
KeepsOf c (Segment id) number bytes = Keeps c id number bytes
KeepsOf c Commit number bytes = ⊥
KeepsOf c CommitNew number bytes = ⊥
KeepsOf c (Live segment generation) number bytes = ⊥

abbrev pub IsKeptOf : PageCache → FileName → ℕ → Type 0
IsKeptOf c (Segment id) number = IsKept c id number
IsKeptOf c Commit number = ⊥
IsKeptOf c CommitNew number = ⊥
IsKeptOf c (Live segment generation) number = ⊥
