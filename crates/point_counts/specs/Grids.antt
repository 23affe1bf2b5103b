-- What a count and a grid are, over a plain list of entries.
use Rattle.std.specs.Prelude.{ℕ, ◌+◌, ◌*◌, ◌/◌, ◌<◌, ◌≤◌, ◌≡◌, ◌≢◌, ◌==◌, Bool, true, ◌&&◌, if◌then◌else◌, List, All}
use Rattle.std.specs.Prelude.{AllPairs, Contains, Result, Ok, Err, ℤ, pos, ◌-ℤ◌, unsigned_abs, slice_index_or}
use Rattle.std.specs.List.{count_by}
use Rattle.point_codec.specs.Points.{Item, Region, all_le, in_box}
use Rattle.point_counts.specs.declared.plan.Bucket.{Bucket}
use Rattle.point_counts.specs.declared.plan.GridFault.{GridFault}
use Rattle.point_counts.specs.declared.plan.GridFault.TheVariants.{BadGrid, TooMany}

-- how many of the entries have their point in the box
abbrev pub number_in : Region → List Item → ℕ
number_in box entries = count_by (λ e. in_box box e.at) entries

-- ---- grids

-- a box, and two dimensions of it with the length of a bucket in each
pub record Plan : Type 0 where
  pub bounds : Region
  pub x : ℕ
  pub step_x : ℕ
  pub y : ℕ
  pub step_y : ℕ

abbrev pub plan_of : (lo hi : List ℤ) (x step_x y step_y : ℕ) → Plan
plan_of lo hi x step_x y step_y = record {
  bounds = record { lo = lo; hi = hi };
  x = x;
  step_x = step_x;
  y = y;
  step_y =
      step_y;
}

-- how many whole steps a coordinate is above the other, which is no greater
abbrev pub steps_between : (step : ℕ) (low high : ℤ) → ℕ
steps_between step low high = unsigned_abs (high -ℤ low) / step

-- a point's coordinate in a dimension
abbrev pub coordinate : List ℤ → ℕ → ℤ
coordinate at d = slice_index_or at d (pos 0)

-- the bucket of a point of the box: by whole division of the difference from the box's lower corner, rounded down
abbrev pub column_of : Plan → List ℤ → ℕ
column_of plan at = steps_between plan.step_x (coordinate plan.bounds.lo plan.x) (coordinate at plan.x)

abbrev pub row_of : Plan → List ℤ → ℕ
row_of plan at = steps_between plan.step_y (coordinate plan.bounds.lo plan.y) (coordinate at plan.y)

-- the point is one of the box, and of this bucket
abbrev pub is_in_bucket : Plan → (column row : ℕ) → List ℤ → Bool
is_in_bucket plan column row at = in_box plan.bounds at && column_of plan at == column && row_of plan at == row

-- how many of the entries have their point in the bucket
abbrev pub number_of : Plan → (column row : ℕ) → List Item → ℕ
number_of plan column row entries = count_by (λ e. is_in_bucket plan column row e.at) entries

-- how many buckets the box has, filled or not; none where it has no point
abbrev pub bucket_count : Plan → ℕ
bucket_count plan = if all_le plan.bounds.lo plan.bounds.hi then
    (column_of plan plan.bounds.hi + 1) * (row_of plan plan.bounds.hi + 1) else 0

-- ---- which plans there are

-- two dimensions of D, and steps that lead on
pub record IsMadeFor (D : ℕ) (plan : Plan) : Type 0 where
  pub column_dim : plan.x < D
  pub row_dim : plan.y < D
  pub differ : plan.x ≢ plan.y
  pub column_step : 1 ≤ plan.step_x
  pub row_step : 1 ≤ plan.step_y

-- and no more than 65,536 buckets
abbrev pub IsPlan : ℕ → Plan → Type 0
IsPlan D plan = IsMadeFor D plan × (bucket_count plan ≤ 65536)

-- what is answered to one who asks for a plan: it, or why it is none
abbrev pub Judges : ℕ → (wanted : Plan) → Result Plan GridFault → Type 0
Judges D wanted (Ok plan) = (plan ≡ wanted) × IsPlan D wanted
Judges D wanted (Err BadGrid) = IsMadeFor D wanted → ⊥
Judges D wanted (Err (TooMany buckets)) = IsMadeFor D wanted × (buckets ≡ bucket_count wanted) × (65536 < buckets)

-- ---- what a grid tells

-- further to the left, or there further below
pub record BucketComesBefore (a b : Bucket) : Type 0 where
  pub column : a.x ≤ b.x
  pub tie : b.x ≤ a.x → a.y < b.y

-- the bucket in which a point lies is among these
abbrev pub HasBucketOf : Plan → List Bucket → List ℤ → Type 0
HasBucketOf plan buckets at = (b : Bucket) × Contains buckets b × (b.x ≡ column_of plan at) × (b.y ≡ row_of plan at)

-- Each bucket with at least one of the entries' points that the box has, with their number: ascending by x, then y. No
-- other list is so.
pub record IsGrid (plan : Plan) (entries : List Item) (buckets : List Bucket) : Type 0 where
  pub rises : AllPairs BucketComesBefore buckets
  pub filled : All (λ b. 1 ≤ b.n) buckets
  pub counted : All (λ b. b.n ≡ number_of plan b.x b.y entries) buckets
  pub each : (e : Item) → Contains entries e → in_box plan.bounds e.at ≡ true → HasBucketOf plan buckets e.at
