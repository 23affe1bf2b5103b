-- The cells of a subtree, each within that of the node above.
use Rattle.std.proofs.Common.{◌≡◌, ℕ, Bool, true, List, ℤ, refl, subst, arith}
use Rattle.point_codec.specs.Points.{Region}
use Rattle.point_codec.specs.Cells.{left_of, right_of}
use Rattle.cell_relate.specs.Relations.{AllAnswer}
use Rattle.cell_relate.proofs.RelationLemmas.{AllAnswer-within, is_outside-all, is_outside-crosses}
use Rattle.inner_pack.specs.Trees.{IndexTree, Leaf, Split, HasCells, cell_of, leaf_count}
use Rattle.bkd_reader.specs.Counts.{tested_entries, touched_leaves}
use Rattle.point_codec.proofs.Halves.{left_within, right_within}

-- what the shape answers on all of the path cell, it answers on the paths of both children
pub all_left : (D : ℕ) (has : List ℤ → Bool) (b : Bool) (path : Region) (d : ℕ) (x : ℤ) (l r : IndexTree) → HasCells D path (Split d x l r)
    → AllAnswer has b path → AllAnswer has b (left_of path d x)
all_left D has b path d x l r cells all = AllAnswer-within has b (left_of path d x) path (left_within path d x cells.0.to) all

pub all_right : (D : ℕ) (has : List ℤ → Bool) (b : Bool) (path : Region) (d : ℕ) (x : ℤ) (l r : IndexTree) → HasCells D path (Split d x l r)
    → AllAnswer has b path → AllAnswer has b (right_of path d x)
all_right D has b path d x l r cells all = AllAnswer-within has b (right_of path d x) path (right_within path d x cells.0.from) all

-- and on the cell of the node itself
pub all_cell : (D : ℕ) (has : List ℤ → Bool) (b : Bool) (path : Region) (t : IndexTree) → HasCells D path t → AllAnswer has b path
    → AllAnswer has b (cell_of path t)
all_cell D has b path (Leaf len own) cells all = AllAnswer-within has b own path cells.1 all
all_cell D has b path (Split d x l r) cells all = all

one_touched : (D : ℕ) (has : List ℤ → Bool) (crosses : Region → Bool) (path : Region) (len : ℕ) (own : Region) → HasCells D path (Leaf len own)
    → AllAnswer has true own → touched_leaves has crosses (Leaf len own) ≡ 1
one_touched D has crosses path len own cells all = rw (is_outside-all has crosses own cells.0.ordered all) refl

touched_below : (D : ℕ) (has : List ℤ → Bool) (crosses : Region → Bool) (path : Region) (t : IndexTree) → HasCells D path t → AllAnswer has true path
    → touched_leaves has crosses t ≡ leaf_count t
touched_below D has crosses path (Leaf len own) cells all = one_touched D has crosses path len own cells (AllAnswer-within has true own path cells.1 all)
touched_below D has crosses path (Split d x l r) cells all =
    let a = touched_below D has crosses (left_of path d x) l cells.1 (all_left D has true path d x l r cells all) in
    let b = touched_below D has crosses (right_of path d x) r cells.2 (all_right D has true path d x l r cells all) in
    omega (arith, a, b)

-- below a node all of whose points are the shape's each leaf is touched
pub touched_all : (D : ℕ) (has : List ℤ → Bool) (crosses : Region → Bool) (path : Region) (t : IndexTree) → HasCells D path t
    → AllAnswer has true (cell_of path t) → touched_leaves has crosses t ≡ leaf_count t
touched_all D has crosses path (Leaf len own) cells all = one_touched D has crosses path len own cells all
touched_all D has crosses path (Split d x l r) cells all = touched_below D has crosses path (Split d x l r) cells all

-- ---- what a leaf costs whose own cell is crossed

module _ (has : List ℤ → Bool) (crosses : Region → Bool) (count : ℕ → ℕ) (first len : ℕ) (seen own : Region) (same : seen ≡ own) where
  pub crossed_tested : crosses seen ≡ true → count first ≡ tested_entries crosses count first (Leaf len own)
  crossed_tested e = subst (λ r. count first ≡ tested_entries crosses count first (Leaf len r)) same (rw e refl)

  pub crossed_touched : crosses seen ≡ true → 1 ≡ touched_leaves has crosses (Leaf len own)
  crossed_touched e = subst (λ r. 1 ≡ touched_leaves has crosses (Leaf len r)) same (rw (is_outside-crosses has crosses seen e) refl)
