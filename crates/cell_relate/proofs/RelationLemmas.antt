-- Cells within cells, and their least corners: for walks over trees of cells.
use Rattle.std.proofs.Common.{◌≡◌, ◌↔◌, Bool, true, false, List, ℤ, refl, sym, ◌∙◌, arith}
use Rattle.std.proofs.lemmas.Bool.{true≢false}
use Rattle.point_codec.specs.Points.{Region, all_le, in_box}
use Rattle.point_codec.specs.Cells.{within}
use Rattle.cell_relate.specs.declared.shape.Relation.{Relation}
use Rattle.cell_relate.specs.declared.shape.Relation.TheVariants.{Inside, Outside, Crosses}
use Rattle.cell_relate.specs.Relations.{AllAnswer, IsUncrossed, KeepsUncrossed, RelatesTo, is_outside}
use Rattle.point_codec.proofs.Corners.{both_true, all_le-refl, all_le-trans}

-- the least corner is a point of its cell
pub in_box-lo : (cell : Region) → all_le cell.lo cell.hi ≡ true → in_box cell cell.lo ≡ true
in_box-lo cell ordered = rw (all_le-refl cell.lo, ordered) refl

-- a point of a cell within another is a point of both
pub in_box-within : (inner outer : Region) (p : List ℤ) → within inner outer ≡ true → in_box inner p ≡ true → in_box outer p ≡ true
in_box-within inner outer p h k =
    let corners = both_true (all_le outer.lo inner.lo) (all_le inner.hi outer.hi) h in
    let at = both_true (all_le inner.lo p) (all_le p inner.hi) k in
    rw (all_le-trans outer.lo inner.lo p corners.0 at.0, all_le-trans p inner.hi outer.hi at.1 corners.1) refl

-- what holds of all points of a cell holds of those of each cell within it
pub AllAnswer-within : (has : List ℤ → Bool) (answer : Bool) (inner outer : Region) → within inner outer ≡ true → AllAnswer has answer outer
    → AllAnswer has answer inner
AllAnswer-within has answer inner outer h all p k = all p (in_box-within inner outer p h k)

-- a cell within an uncrossed one is so with the same answer
pub uncrossed_within : (has : List ℤ → Bool) (crosses : Region → Bool) → KeepsUncrossed crosses → (answer : Bool) (inner outer : Region)
    → within inner outer ≡ true → all_le inner.lo inner.hi ≡ true → IsUncrossed has crosses outer answer → IsUncrossed has crosses inner answer
uncrossed_within has crosses keeps answer inner outer lies ordered u =
    let all = AllAnswer-within has answer inner outer lies u.all in
    record { uncrossed = keeps outer inner lies ordered u.uncrossed; all = all; corner = all inner.lo (in_box-lo inner ordered) }

-- a cell of which the shape has all points is not outside, crossed or not
pub is_outside-all : (has : List ℤ → Bool) (crosses : Region → Bool) (cell : Region) → all_le cell.lo cell.hi ≡ true → AllAnswer has true cell
    → is_outside has crosses cell ≡ false
is_outside-all has crosses cell ordered all = rw (all cell.lo (in_box-lo cell ordered)) (grind arith)

-- ---- what the least corner tells, by a right answer on the cell

module _ (has : List ℤ → Bool) (crosses : Region → Bool) (cell : Region) where
  pub is_outside-inside : RelatesTo has crosses cell Inside → is_outside has crosses cell ≡ false
  is_outside-inside u = rw (u.uncrossed, u.corner) refl

  pub is_outside-outside : RelatesTo has crosses cell Outside → is_outside has crosses cell ≡ true
  is_outside-outside u = rw (u.uncrossed, u.corner) refl

  pub is_outside-crosses : RelatesTo has crosses cell Crosses → is_outside has crosses cell ≡ false
  is_outside-crosses crossed = rw crossed refl

  pub corner_tells : (answer : Relation) → RelatesTo has crosses cell answer → (is_outside has crosses cell ≡ true) ↔ (answer ≡ Outside)
  corner_tells Inside u = (λ e. absurd (true≢false (sym e ∙ is_outside-inside u)), λ e. cc)
  corner_tells Outside u = (λ e. refl, λ e. is_outside-outside u)
  corner_tells Crosses u = (λ e. absurd (true≢false (sym e ∙ is_outside-crosses u)), λ e. cc)
