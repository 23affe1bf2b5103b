-- Tables of counts: at which place the points of a box are counted, and what a table says.
use Rattle.std.specs.Prelude.{ℕ, ◌+◌, ◌-◌, ◌*◌, ◌^◌, ◌<◌, ◌≡◌, ◌==◌, min, Bool, true, false, ◌&&◌, List, length}
use Rattle.std.specs.Prelude.{if◌then◌else◌, int_le, slice_index, ℤ}
use Rattle.std.specs.List.{count_by}
use Rattle.point_codec.specs.Points.{Item, Region, in_box}
use Rattle.leaf_codec.specs.Ascending.{coordinate}
use Rattle.live_bits.specs.LiveSet.{LiveSet, is_live}
use Rattle.cell_relate.specs.Boxes.{crosses}
use Rattle.cell_relate.specs.Relations.{IsUncrossed, is_outside}
use Rattle.point_counts.specs.Grids.{Plan, column_of, row_of}
use Rattle.point_counts.specs.declared.sorting.Lie.{Lie}
use Rattle.point_counts.specs.declared.sorting.Lie.TheVariants.{Outside, At, Parted}

-- what is answered of a cell: only a parted one can have points of two places, or some that the box has and some that
-- it hasn't
abbrev pub LiesAs : (box : Region) (place : List ℤ → ℕ) (parts : Region → Bool) → Region → Lie → Type 0
LiesAs box place parts cell Outside = IsUncrossed (in_box box) (crosses box) cell false
LiesAs box place parts cell (At k) = IsUncrossed (in_box box) (crosses box) cell true
    × ((p : List ℤ) → in_box cell p ≡ true → place p ≡ k)
LiesAs box place parts cell Parted = (parts cell ≡ true) × (is_outside (in_box box) (crosses box) cell ≡ false)

-- in a table of a grid's buckets, column by column: the place of a point
abbrev pub place_in : Plan → List ℤ → ℕ
place_in plan at = column_of plan at * (row_of plan plan.bounds.hi + 1) + row_of plan at

-- ---- how many entries there are at each place

-- the box has the point, and it is counted at this place
abbrev pub is_at : Region → (List ℤ → ℕ) → (k : ℕ) → List ℤ → Bool
is_at box place k at = in_box box at && place at == k

-- how many entries have their point at each place
abbrev pub all_at : Region → (List ℤ → ℕ) → List Item → ℕ → ℕ
all_at box place entries k = count_by (λ e. is_at box place k e.at) entries

-- how many entries with live numbers have their point at each place
abbrev pub live_at : Region → (List ℤ → ℕ) → LiveSet → List Item → ℕ → ℕ
live_at box place live entries k = count_by (λ e. is_live live e.doc && is_at box place k e.at) entries

-- ---- what a table says

-- the table has these counts, as far as it has places; a count stands still at the greatest number of 64 bits
pub record HasCounts (n : ℕ → ℕ) (table : List ℕ) : Type 0 where
  pub each : (k : ℕ) → k < length table → slice_index table k ≡ min (n k) (2 ^ 64 - 1)

-- the counts of the table rose by these
pub record AddsCounts (more : ℕ → ℕ) (old new : List ℕ) : Type 0 where
  pub counts : (n : ℕ → ℕ) → HasCounts n old → HasCounts (λ k. n k + more k) new

-- the counts of the table rose from these to those
pub record RaisesCounts (before after : ℕ → ℕ) (old new : List ℕ) : Type 0 where
  pub counts : (n : ℕ → ℕ) → HasCounts (λ k. n k + before k) old → HasCounts (λ k. n k + after k) new

-- the points of a cell that lies so are counted at one place, or none is counted
abbrev pub is_settled : Lie → Bool
is_settled Outside = true
is_settled (At k) = true
is_settled Parted = false

-- at each place so many points, where all are counted at that of the cell
abbrev pub settled_at : Lie → (many : ℕ) → ℕ → ℕ
settled_at Outside many k = 0
settled_at (At place) many k = if place == k then many else 0
settled_at Parted many k = 0

-- the entry's coordinate in dimension d is at most this one
abbrev pub is_up_to : (d : ℕ) (cut : ℤ) → Item → Bool
is_up_to d cut x = int_le (coordinate d x) cut
