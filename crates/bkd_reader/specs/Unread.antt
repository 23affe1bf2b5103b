-- When a walk over an index finds each page that it needs in the cache.
use Rattle.std.specs.Prelude.{ℕ, ◌≡◌, ◌≤◌, ◌+◌, Bool, false, List, Result, ℤ}
use Rattle.point_codec.specs.Points.{Region}
use Rattle.cell_relate.specs.Relations.{is_outside}
use Rattle.inner_pack.specs.Places.{Spot}
use Rattle.inner_pack.specs.Trees.{IndexTree, Leaf, Split}
use Rattle.inner_pack.specs.Bodies.{right_begin}
use Rattle.inner_pack.specs.Nodes.{IsAt}
use Rattle.inner_pack.specs.declared.node.NodeAt.{NodeAt}
use Rattle.page_cache.specs.declared.cache.PageCache.{PageCache}
use Rattle.page_cache.specs.declared.faults.PageFault.{PageFault}
use Rattle.page_cache.specs.Cache.{IsKept}
use Rattle.page_cache.specs.Reading.{ReadsNothing}
use Rattle.segment_file.specs.Heads.{Head, page_of}
use Rattle.bkd_reader.specs.Counts.{touched_leaves}

-- the page of each leaf is kept whose own cell is such
abbrev pub AreKept : PageCache → Head → (such : Region → Type 0) → Spot → IndexTree → Type 0
AreKept cache head such s (Leaf len own) = such own → IsKept cache head.id (page_of head s.page)
AreKept cache head such s (Split d x l r) = AreKept cache head such s l × AreKept cache head such (right_begin s l r) r

-- any leaf, whatever its own cell
abbrev pub IsAny : Region → Type 0
IsAny own = Unit {0}

-- one whose own cell isn't outside
abbrev pub IsTouched : (has : List ℤ → Bool) → (crosses : Region → Bool) → Region → Type 0
IsTouched has crosses own = is_outside has crosses own ≡ false

-- of one leaf a page is read at most, and none where that is kept in which the leaf stands
pub record ReadsLeaf {D : ℕ} {T : Type 0} (head : Head) (node : NodeAt D) (before now : ℕ) (old new : PageCache)
    (result : Result T PageFault) : Type 0 where
  pub most : now ≤ before + 1
  pub none : (first : ℕ) (s : Spot) (path : Region) (t : IndexTree) → IsAt node first s path t
      → IsKept old head.id (page_of head s.page) → ReadsNothing before now old new result

-- no more pages are read than leaves are not outside, and none where the page of each of these is kept
pub record ReadsLeaves {T : Type 0} (head : Head) (has : List ℤ → Bool) (crosses : Region → Bool) (s : Spot)
    (t : IndexTree) (before now : ℕ) (old new : PageCache) (result : Result T PageFault) : Type 0 where
  pub most : now ≤ before + touched_leaves has crosses t
  pub none : AreKept old head (IsTouched has crosses) s t → ReadsNothing before now old new result
