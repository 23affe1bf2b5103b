-- What a walk over an index costs at most, leaf by leaf; each leaf is judged by its own cell (Apache Lucene's points).
use Rattle.std.specs.Prelude.{ℕ, ◌+◌, ◌*◌, ◌≡◌, ◌≤◌, Bool, if◌then◌else◌, List, ℤ}
use Rattle.point_codec.specs.Points.{Region}
use Rattle.point_codec.specs.Cells.{left_of, right_of}
use Rattle.cell_relate.specs.Relations.{is_outside}
use Rattle.inner_pack.specs.Places.{Spot}
use Rattle.inner_pack.specs.Trees.{IndexTree, Leaf, Split, leaf_count}
use Rattle.inner_pack.specs.Nodes.{IsAt}
use Rattle.inner_pack.specs.declared.node.NodeAt.{NodeAt}
use Rattle.segment_file.specs.Heads.{Head, count_of}
use Rattle.bkd_reader.specs.declared.walk.Cost.{Cost}

-- how many entries, live or dead, are in leaves whose own cell the shape crosses; the subtree's first leaf has this
-- number
abbrev pub tested_entries : (crosses : Region → Bool) (count : ℕ → ℕ) (first : ℕ) → IndexTree → ℕ
tested_entries crosses count first (Leaf len own) = if crosses own then count first else 0
tested_entries crosses count first (Split d x l r) =
    tested_entries crosses count first l + tested_entries crosses count (first + leaf_count l) r

-- how many leaves are not outside: their own cell is crossed, or has all its points in the shape
abbrev pub touched_leaves : (has : List ℤ → Bool) (crosses : Region → Bool) → IndexTree → ℕ
touched_leaves has crosses (Leaf len own) = if is_outside has crosses own then 0 else 1
touched_leaves has crosses (Split d x l r) = touched_leaves has crosses l + touched_leaves has crosses r

-- of how many nodes the cell is asked where none is below one that isn't crossed
abbrev pub asked_cells : (crosses : Region → Bool) (path : Region) → IndexTree → ℕ
asked_cells crosses path (Leaf len own) = 1
asked_cells crosses path (Split d x l r) =
    1 + (if crosses path then
    asked_cells crosses (left_of path d x) l + asked_cells crosses (right_of path d x) r
    else 0)

-- the counts of a segment's tree
abbrev pub IsCost : (head : Head) (has : List ℤ → Bool) (crosses : Region → Bool) → IndexTree → Cost → Type 0
IsCost head has crosses t cost =
    (cost.tested ≡ tested_entries crosses (count_of head) 0 t) × (cost.touched ≡ touched_leaves has crosses t)

-- one leaf, and its entries; a leaf has at most 65,535
pub record CountsLeaf {D : ℕ} (head : Head) (node : NodeAt D) (cost : Cost) : Type 0 where
  pub tested : (first : ℕ) (s : Spot) (path : Region) (t : IndexTree) → IsAt node first s path t
      → cost.tested ≡ count_of head first
  pub touched : cost.touched ≡ 1
  pub few : (cost.tested ≤ 65535 * node.leaves) × (cost.touched ≤ node.leaves)
