-- How a cell lies to a shape (Apache Lucene's points: PointValues.Relation). A shape is the test of which points it
-- has, beside the test of which cells it crosses.
use Rattle.std.specs.Prelude.{◌≡◌, ℕ, Bool, true, false, not, ◌&&◌, List, ℤ, pos, int_le, slice_index_or}
use Rattle.point_codec.specs.Points.{Region, all_le, in_box}
use Rattle.point_codec.specs.Cells.{within}
use Rattle.cell_relate.specs.declared.shape.Relation.{Relation}
use Rattle.cell_relate.specs.declared.shape.Relation.TheVariants.{Inside, Outside, Crosses}

-- the test gives this answer at every point of the cell
abbrev pub AllAnswer : (List ℤ → Bool) → Bool → Region → Type 0
AllAnswer has answer cell = (p : List ℤ) → in_box cell p ≡ true → has p ≡ answer

-- the shape does not cross the cell, and has all its points or none; the least corner is one of them
pub record IsUncrossed (has : List ℤ → Bool) (crosses : Region → Bool) (cell : Region) (answer : Bool) : Type 0 where
  pub uncrossed : crosses cell ≡ false
  pub all : AllAnswer has answer cell
  pub corner : has cell.lo ≡ answer

-- the answer on a cell: exactly a crossed cell is told as that
abbrev pub RelatesTo : (List ℤ → Bool) → (Region → Bool) → Region → Relation → Type 0
RelatesTo has crosses cell Inside = IsUncrossed has crosses cell true
RelatesTo has crosses cell Outside = IsUncrossed has crosses cell false
RelatesTo has crosses cell Crosses = crosses cell ≡ true

-- the cell is not crossed and has no point of the shape: as it has all its points in the shape or none, the least
-- corner tells which
abbrev pub is_outside : (List ℤ → Bool) → (Region → Bool) → Region → Bool
is_outside has crosses cell = not (crosses cell) && not (has cell.lo)

-- a cell within one that is not crossed isn't crossed either
abbrev pub KeepsUncrossed : (Region → Bool) → Type 0
KeepsUncrossed crosses = (outer inner : Region) → within inner outer ≡ true → all_le inner.lo inner.hi ≡ true
    → crosses outer ≡ false → crosses inner ≡ false

-- a point that the shape has lies from low to high in dimension d
abbrev pub IsReach : (List ℤ → Bool) → ℕ → (low high : ℤ) → Type 0
IsReach has d low high = (p : List ℤ) → has p ≡ true
    → (int_le low (slice_index_or p d (pos 0)) ≡ true) × (int_le (slice_index_or p d (pos 0)) high ≡ true)

-- a shape that a call asked has the same points as before, and crosses the same cells
pub record KeepsShape (has new_has : List ℤ → Bool) (crosses new_crosses : Region → Bool) : Type 0 where
  pub points : new_has ≡ has
  pub cells : new_crosses ≡ crosses
