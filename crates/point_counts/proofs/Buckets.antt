-- Buckets of a plan: those of a cell's points lie between those of its ends, and each has its own place.
use Rattle.std.proofs.Common.{◌≡◌, ℕ, zero, suc, ◌+◌, ◌*◌, ◌/◌, ◌<◌, ◌≤◌, Bool, true, false, ◌&&◌, not, List, [], ◌∷◌}
use Rattle.std.proofs.Common.{get_or, ℤ, pos, ◌-ℤ◌, ◌≤ℤ◌, int_le, refl, sym, ap, ◌∙◌, arith}
use Rattle.std.proofs.lemmas.Int.{ints}
use Rattle.std.proofs.lemmas.Bool.{ne_eqb}
use Rattle.std.proofs.lemmas.Nat.{le-div}
use Rattle.std.proofs.Math.Nat.{div-mul-le_self, mul-le-mul_right, add-mul}
use Rattle.std.specs.Prelude.{unsigned_abs, ◌==◌}
use Rattle.point_codec.specs.Points.{Region, all_le, in_box}
use Rattle.point_codec.specs.Cells.{within}
use Rattle.cell_relate.specs.Boxes.{crosses}
use Rattle.cell_relate.specs.Relations.{IsUncrossed, is_outside}
use Rattle.cell_relate.proofs.RelationLemmas.{in_box-lo, is_outside-inside}
use Rattle.point_counts.specs.Grids.{Plan, IsPlan, steps_between, coordinate, column_of, row_of, bucket_count}
use Rattle.point_counts.specs.Costs.{has_two_buckets, is_parted}
use Rattle.point_counts.specs.Tables.{place_in}
use Rattle.point_codec.proofs.Corners.{both_true, all_le-refl, all_le-trans}

-- ---- between the ends of a cell of the box

pub div_rises : (step m n : ℕ) → 1 ≤ step → m ≤ n → m / step ≤ n / step
div_rises step m n some le = le-div (m / step) n step (omega (arith, some)) (omega (arith, div-mul-le_self m step, le))

apart_rises : (low a b : ℤ) → low ≤ℤ a → a ≤ℤ b → unsigned_abs (a -ℤ low) ≤ unsigned_abs (b -ℤ low)
apart_rises low a b above le = grind (arith, ints)

steps_rise : (step : ℕ) (low a b : ℤ) → 1 ≤ step → low ≤ℤ a → a ≤ℤ b
    → steps_between step low a ≤ steps_between step low b
steps_rise step low a b some above le = div_rises step (unsigned_abs (a -ℤ low)) (unsigned_abs (b -ℤ low)) some
    (apart_rises low a b above le)

coordinate_rises : (a b : List ℤ) (d : ℕ) → all_le a b ≡ true → get_or a d (pos 0) ≤ℤ get_or b d (pos 0)
coordinate_rises [] [] d h = grind (arith, ints)
coordinate_rises [] (y ∷ ys) d h = cc
coordinate_rises (x ∷ xs) [] d h = cc
coordinate_rises (x ∷ xs) (y ∷ ys) zero h = let first : int_le x y ≡ true =
    (both_true (int_le x y) (all_le xs ys) h).0 in grind (arith, ints)
coordinate_rises (x ∷ xs) (y ∷ ys) (suc d) h = coordinate_rises xs ys d (both_true (int_le x y) (all_le xs ys) h).1

module _ (D : ℕ) (plan : Plan) (is : IsPlan D plan) (a b : List ℤ) (above : all_le plan.bounds.lo a ≡ true)
    (le : all_le a b ≡ true) where
  pub column_rises : column_of plan a ≤ column_of plan b
  column_rises =
      steps_rise plan.step_x (coordinate plan.bounds.lo plan.x) (coordinate a plan.x) (coordinate b plan.x)
      is.0.column_step
      (coordinate_rises plan.bounds.lo a plan.x above) (coordinate_rises a b plan.x le)

  pub row_rises : row_of plan a ≤ row_of plan b
  row_rises =
      steps_rise plan.step_y (coordinate plan.bounds.lo plan.y) (coordinate a plan.y) (coordinate b plan.y)
      is.0.row_step
      (coordinate_rises plan.bounds.lo a plan.y above) (coordinate_rises a b plan.y le)

-- ---- places

below_product : (c r columns rows : ℕ) → c ≤ columns → r ≤ rows → c * (rows + 1) + r < (columns + 1) * (rows + 1)
below_product c r columns rows few low =
    let most = mul-le-mul_right (rows + 1) few in
    let whole = add-mul columns 1 (rows + 1) in
    omega (arith, most, whole, low)

-- each point of the box has a place in the table
pub place_below : (D : ℕ) (plan : Plan) (at : List ℤ) → IsPlan D plan → in_box plan.bounds at ≡ true
    → place_in plan at < bucket_count plan
place_below D plan at is inside =
    let ends = both_true (all_le plan.bounds.lo at) (all_le at plan.bounds.hi) inside in
    let some : all_le plan.bounds.lo plan.bounds.hi ≡ true =
    all_le-trans plan.bounds.lo at plan.bounds.hi ends.0 ends.1 in
    rw some
    (below_product (column_of plan at) (row_of plan at) (column_of plan plan.bounds.hi) (row_of plan plan.bounds.hi)
    (column_rises D plan is at plan.bounds.hi ends.0 ends.1) (row_rises D plan is at plan.bounds.hi ends.0 ends.1))

-- which the numbers of its bucket tell, and which fits 32 bits
pub place_fits : (D : ℕ) (plan : Plan) (at : List ℤ) (column row rows : ℕ) → IsPlan D plan
    → in_box plan.bounds at ≡ true → column ≡ column_of plan at → row ≡ row_of plan at
    → rows ≡ row_of plan plan.bounds.hi + 1 → column * rows + row < 65536
place_fits D plan at column row rows is inside columns below long =
    rw (columns, below, long)
    (let most = place_below D plan at is inside in let few = is.1 in omega (arith, most, few))

pub place_is : (plan : Plan) (at : List ℤ) (column row rows k : ℕ) → k ≡ column * rows + row
    → column ≡ column_of plan at → row ≡ row_of plan at → rows ≡ row_of plan plan.bounds.hi + 1 → k ≡ place_in plan at
place_is plan at column row rows k is columns below long = is ∙ (rw (columns, below, long) refl)

-- and rows are fewer than the table has beside each other
pub row_below : (D : ℕ) (plan : Plan) (at : List ℤ) → IsPlan D plan → in_box plan.bounds at ≡ true
    → row_of plan at < row_of plan plan.bounds.hi + 1
row_below D plan at is inside =
    let ends = both_true (all_le plan.bounds.lo at) (all_le at plan.bounds.hi) inside in
    let most = row_rises D plan is at plan.bounds.hi ends.0 ends.1 in
    omega (arith, most)

-- ---- a cell of which the box has all points

module _ (D : ℕ) (plan : Plan) (is : IsPlan D plan) (cell : Region) (ordered : all_le cell.lo cell.hi ≡ true)
    (inside : IsUncrossed (in_box plan.bounds) (crosses plan.bounds) cell true) where
  low_end : in_box plan.bounds cell.lo ≡ true
  low_end = inside.all cell.lo (in_box-lo cell ordered)

  high_end : in_box plan.bounds cell.hi ≡ true
  high_end = inside.all cell.hi (rw (all_le-refl cell.hi, ordered) refl)

  pub place_low : (column row rows : ℕ) → column ≡ column_of plan cell.lo → row ≡ row_of plan cell.lo
      → rows ≡ row_of plan plan.bounds.hi + 1 → column * rows + row < 65536
  place_low column row rows = place_fits D plan cell.lo column row rows is low_end

  -- where its ends are in one bucket all its points are
  pub one_place : column_of plan cell.lo ≡ column_of plan cell.hi → row_of plan cell.lo ≡ row_of plan cell.hi
      → (p : List ℤ) → in_box cell p ≡ true → place_in plan p ≡ place_in plan cell.lo
  one_place columns rows p there =
      let corner = (both_true (all_le plan.bounds.lo cell.lo) (all_le cell.lo plan.bounds.hi) low_end).0 in
      let ends = both_true (all_le cell.lo p) (all_le p cell.hi) there in
      let above = all_le-trans plan.bounds.lo cell.lo p corner ends.0 in
      let column : column_of plan p ≡ column_of plan cell.lo =
      omega (
        arith,
        column_rises D plan is cell.lo p corner ends.0,
        column_rises D plan is p cell.hi above ends.1,
        columns,
      ) in
      let row : row_of plan p ≡ row_of plan cell.lo =
      omega (arith, row_rises D plan is cell.lo p corner ends.0, row_rises D plan is p cell.hi above ends.1, rows) in
      ap (λ (n : ℕ). n * (row_of plan plan.bounds.hi + 1) + row_of plan p) column
      ∙ ap (λ (n : ℕ). column_of plan cell.lo * (row_of plan plan.bounds.hi + 1) + n) row

  inside_whole : within cell plan.bounds ≡ true
  inside_whole =
      rw (
        (both_true (all_le plan.bounds.lo cell.lo) (all_le cell.lo plan.bounds.hi) low_end).0,
        (both_true (all_le plan.bounds.lo cell.hi) (all_le cell.hi plan.bounds.hi) high_end).1,
      ) refl

  pub two_columns : (m n : ℕ) → m ≡ column_of plan cell.lo → n ≡ column_of plan cell.hi → (m ≡ n → ⊥)
      → has_two_buckets plan cell ≡ true
  two_columns m n low high differ = rw (ne_eqb (column_of plan cell.lo) (column_of plan cell.hi)
      (λ e. differ (low ∙ e ∙ sym high))) refl

  pub two_rows : (m n : ℕ) → m ≡ row_of plan cell.lo → n ≡ row_of plan cell.hi → (m ≡ n → ⊥)
      → has_two_buckets plan cell ≡ true
  two_rows m n low high differ = rw (ne_eqb (row_of plan cell.lo) (row_of plan cell.hi)
      (λ e. differ (low ∙ e ∙ sym high))) (either (column_of plan cell.lo == column_of plan cell.hi))
    where
      either : (b : Bool) → not (b && false) ≡ true
      either true = refl
      either false = refl

  pub two_places : has_two_buckets plan cell ≡ true → (is_parted plan cell ≡ true)
      × (is_outside (in_box plan.bounds) (crosses plan.bounds) cell ≡ false)
  two_places two = (
    rw (inside.uncrossed, inside_whole, two) refl,
    is_outside-inside (in_box plan.bounds) (crosses plan.bounds) cell inside,
  )
