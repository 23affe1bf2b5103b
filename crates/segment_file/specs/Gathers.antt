-- What reading all leaves below a node gives.
use Rattle.std.specs.Prelude.{◌≡◌, ◌≤◌, ◌+◌, ℕ, List, ◌++◌, filter}
use Rattle.point_codec.specs.Points.{Item}
use Rattle.live_bits.specs.LiveSet.{LiveSet, is_live}
use Rattle.inner_pack.specs.Places.{Spot, end_of}
use Rattle.inner_pack.specs.Trees.{IndexTree, lengths_of}
use Rattle.page_cache.specs.declared.cache.PageCache.{PageCache}
use Rattle.page_cache.specs.Cache.{IsKept}
use Rattle.segment_file.specs.Heads.{Head, page_of}
use Rattle.segment_file.specs.Segments.{HoldsTree}

-- the leaves of the subtree are spelled, and of their entries from left to right this is so
pub record AreLeavesWith (D : ℕ) (bytes : List ℕ) (head : Head) (first : ℕ) (s : Spot) (t : IndexTree)
    (P : List Item → Type 0) : Type 0 where
  pub items : List Item
  pub holds : HoldsTree D bytes head first s t items
  pub so : P items

-- the leaves of the subtree are spelled, and their live entries were put behind the others
abbrev pub Gathers : (D : ℕ) (bytes : List ℕ) → Head → (first : ℕ) → Spot → IndexTree → LiveSet
    → (old new : List Item) → Type 0
Gathers D bytes head first s t live old new =
    AreLeavesWith D bytes head first s t (λ items. new ≡ old ++ filter (λ x. is_live live x.doc) items)

-- the leaf page in which the last leaf of a subtree stands whose first leaf begins at s
abbrev pub last_page : Spot → IndexTree → ℕ
last_page s t = (end_of s (lengths_of t)).page

-- each leaf page from the first leaf's to the last one's is read once at most, and the first isn't read where the cache
-- kept it
pub record ReadsEach (old new : ℕ) (cache : PageCache) (head : Head) (s : Spot) (t : IndexTree) : Type 0 where
  pub all : new + s.page ≤ old + last_page s t + 1
  pub begun : IsKept cache head.id (page_of head s.page) → new + s.page ≤ old + last_page s t
