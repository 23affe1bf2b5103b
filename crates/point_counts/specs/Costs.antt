-- Which leaves counts and grids read.
use Rattle.std.specs.Prelude.{ℕ, ◌+◌, ◌≡◌, ◌==◌, Bool, not, ◌&&◌, ◌||◌, if◌then◌else◌, List, [], ◌∷◌, length}
use Rattle.point_codec.specs.Points.{Region, in_box}
use Rattle.point_codec.specs.Cells.{within}
use Rattle.cell_relate.specs.Boxes.{crosses}
use Rattle.inner_pack.specs.Trees.{IndexTree, Leaf, Split}
use Rattle.inner_pack.specs.Bodies.{HasTree}
use Rattle.bkd_reader.specs.Counts.{touched_leaves}
use Rattle.segment_view.specs.LiveSegments.{LiveSegment}
use Rattle.point_counts.specs.Grids.{Plan, column_of, row_of}

-- as many numbers are live as the segment has entries: then each entry is live, and no number has two
-- (`clean_segments_are_live`)
abbrev pub is_clean : LiveSegment → Bool
is_clean p = length p.live.live == p.head.entries

-- how many leaves have an own cell that passes the test
abbrev pub leaves_with : (Region → Bool) → IndexTree → ℕ
leaves_with test (Leaf len own) = if test own then 1 else 0
leaves_with test (Split d x l r) = leaves_with test l + leaves_with test r

-- the cell's ends lie in two buckets
abbrev pub has_two_buckets : Plan → Region → Bool
has_two_buckets plan cell = not (column_of plan cell.lo == column_of plan cell.hi && row_of plan cell.lo == row_of plan
    cell.hi)

-- the box's edge crosses the cell, or the cell lies within the box and has points of two buckets
abbrev pub is_parted : Plan → Region → Bool
is_parted plan cell = crosses plan.bounds cell || (within cell plan.bounds && has_two_buckets plan cell)

-- below a node of a clean segment the leaves whose own cell passes the test, of another segment those whose own cell
-- isn't outside of the box
abbrev pub opened_below : (clean : Bool) (box : Region) (test : Region → Bool) → IndexTree → ℕ
opened_below clean box test t = if clean then leaves_with test t else touched_leaves (in_box box) (crosses box) t

-- below a node of a segment: none where no number of it is live
abbrev pub opened_of : LiveSegment → (box : Region) → (test : Region → Bool) → IndexTree → ℕ
opened_of p box test t = if length p.live.live == 0 then 0 else opened_below (is_clean p) box test t

-- so many leaves of the segments together
abbrev pub OpensLeaves : (D : ℕ) (box : Region) (test : Region → Bool) → List LiveSegment → ℕ → Type 0
OpensLeaves D box test [] n = n ≡ 0
OpensLeaves D box test (p ∷ ps) n =
    (m : ℕ) × (rest : ℕ) × ((root : Region) (t : IndexTree) → HasTree D p.head.index root t
    → m ≡ opened_of p box test t) × OpensLeaves D box test ps rest × (n ≡ m + rest)
