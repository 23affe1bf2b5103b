-- What a subtree costs whose cell isn't crossed, and for how many cells a walk asks.
use Rattle.std.proofs.Common.{◌≡◌, ℕ, ◌+◌, ◌*◌, ◌≤◌, Bool, true, false, cond, List, set, ℤ, refl, arith}
use Rattle.point_codec.specs.Points.{Region, all_le}
use Rattle.point_codec.specs.Cells.{left_of, right_of}
use Rattle.point_codec.proofs.Corners.{both_true, all_le-trans}
use Rattle.point_codec.proofs.Halves.{left_within, right_within, set_below}
use Rattle.cell_relate.specs.Relations.{IsUncrossed, KeepsUncrossed}
use Rattle.cell_relate.proofs.RelationLemmas.{is_outside-outside, uncrossed_within}
use Rattle.inner_pack.specs.Trees.{IndexTree, Leaf, Split, HasCells, cell_of, leaf_count}
use Rattle.segment_file.proofs.Subtrees.{some_leaf}
use Rattle.bkd_reader.specs.Counts.{asked_cells, tested_entries, touched_leaves}

-- a path cell has a point, as the leaves below it have
ordered_path : (D : ℕ) (path : Region) (t : IndexTree) → HasCells D path t → all_le path.lo path.hi ≡ true
ordered_path D path (Leaf len own) cells =
    let ends = both_true (all_le path.lo own.lo) (all_le own.hi path.hi) cells.1 in
    all_le-trans path.lo own.lo path.hi ends.0 (all_le-trans own.lo own.hi path.hi cells.0.ordered ends.1)
ordered_path D path (Split d x l r) cells =
    all_le-trans path.lo (set path.hi d x) path.hi (ordered_path D (left_of path d x) l cells.1) (set_below path.hi d x cells.0.to)

-- ---- below a cell that isn't crossed

module _ (D : ℕ) (has : List ℤ → Bool) (crosses : Region → Bool) (keeps : KeepsUncrossed crosses) where
  left_uncrossed : (answer : Bool) (path : Region) (d : ℕ) (x : ℤ) (l r : IndexTree) → HasCells D path (Split d x l r) → IsUncrossed has crosses path answer
      → IsUncrossed has crosses (left_of path d x) answer
  left_uncrossed answer path d x l r cells u =
      uncrossed_within has crosses keeps answer (left_of path d x) path (left_within path d x cells.0.to) (ordered_path D (left_of path d x) l cells.1) u

  right_uncrossed : (answer : Bool) (path : Region) (d : ℕ) (x : ℤ) (l r : IndexTree) → HasCells D path (Split d x l r) → IsUncrossed has crosses path answer
      → IsUncrossed has crosses (right_of path d x) answer
  right_uncrossed answer path d x l r cells u =
      uncrossed_within has crosses keeps answer (right_of path d x) path (right_within path d x cells.0.from) (ordered_path D (right_of path d x) r cells.2) u

  untested_below : (count : ℕ → ℕ) (first : ℕ) (answer : Bool) (path : Region) (t : IndexTree) → HasCells D path t → IsUncrossed has crosses path answer
      → 0 ≡ tested_entries crosses count first t
  untested_below count first answer path (Leaf len own) cells u =
      let here : IsUncrossed has crosses own answer = uncrossed_within has crosses keeps answer own path cells.1 cells.0.ordered u in
      rw here.uncrossed refl
  untested_below count first answer path (Split d x l r) cells u =
      let a = untested_below count first answer (left_of path d x) l cells.1 (left_uncrossed answer path d x l r cells u) in
      let b = untested_below count (first + leaf_count l) answer (right_of path d x) r cells.2 (right_uncrossed answer path d x l r cells u) in
      omega (arith, a, b)

  -- below a cell that isn't crossed no entry is tested
  pub untested : (count : ℕ → ℕ) (first : ℕ) (answer : Bool) (path : Region) (t : IndexTree) → HasCells D path t
      → IsUncrossed has crosses (cell_of path t) answer
      → 0 ≡ tested_entries crosses count first t
  untested count first answer path (Leaf len own) cells u = rw u.uncrossed refl
  untested count first answer path (Split d x l r) cells u = untested_below count first answer path (Split d x l r) cells u

  untouched_below : (path : Region) (t : IndexTree) → HasCells D path t → IsUncrossed has crosses path false → 0 ≡ touched_leaves has crosses t
  untouched_below path (Leaf len own) cells u =
      let here : IsUncrossed has crosses own false = uncrossed_within has crosses keeps false own path cells.1 cells.0.ordered u in
      rw (is_outside-outside has crosses own here) refl
  untouched_below path (Split d x l r) cells u =
      let a = untouched_below (left_of path d x) l cells.1 (left_uncrossed false path d x l r cells u) in
      let b = untouched_below (right_of path d x) r cells.2 (right_uncrossed false path d x l r cells u) in
      omega (arith, a, b)

  -- and where the shape has no point of the cell, no leaf is touched
  pub untouched : (path : Region) (t : IndexTree) → HasCells D path t → IsUncrossed has crosses (cell_of path t) false → 0 ≡ touched_leaves has crosses t
  untouched path (Leaf len own) cells u = rw (is_outside-outside has crosses own u) refl
  untouched path (Split d x l r) cells u = untouched_below path (Split d x l r) cells u

-- ---- for how many cells a walk asks

pub asked_some : (crosses : Region → Bool) (path : Region) (t : IndexTree) → 1 ≤ asked_cells crosses path t
asked_some crosses path (Leaf len own) = omega arith
asked_some crosses path (Split d x l r) = omega arith

pub asked_split : (crosses : Region → Bool) (path : Region) (d : ℕ) (x : ℤ) (l r : IndexTree) → crosses path ≡ true
    → asked_cells crosses path (Split d x l r) ≡ 1 + (asked_cells crosses (left_of path d x) l + asked_cells crosses (right_of path d x) r)
asked_split crosses path d x l r e = rw e refl

pub asked_most : (crosses : Region → Bool) (path : Region) (t : IndexTree) → asked_cells crosses path t + 1 ≤ 2 * leaf_count t
asked_most crosses path (Leaf len own) = omega arith
asked_most crosses path (Split d x l r) =
    by (crosses path) (asked_most crosses (left_of path d x) l) (asked_most crosses (right_of path d x) r)
  where
    by : (b : Bool) → asked_cells crosses (left_of path d x) l + 1 ≤ 2 * leaf_count l → asked_cells crosses (right_of path d x) r + 1 ≤ 2 * leaf_count r
        → (1 + cond b (asked_cells crosses (left_of path d x) l + asked_cells crosses (right_of path d x) r) 0) + 1 ≤ 2 * (leaf_count l + leaf_count r)
    by true p q = omega (arith, p, q)
    by false p q = let a = some_leaf l in let b = some_leaf r in omega (arith, a, b)
