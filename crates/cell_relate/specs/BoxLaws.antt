-- A cell within one that a box doesn't cross isn't crossed.
use Rattle.std.proofs.Common.{◌≡◌, Bool, true, false, not, ◌&&◌, refl, sym, ap, ◌∙◌}
use Rattle.point_codec.specs.Points.{Region, all_le}
use Rattle.point_codec.specs.Cells.{within}
use Rattle.point_codec.proofs.Corners.{both_true, all_le-trans}
use Rattle.cell_relate.specs.Boxes.{meets, crosses}
use Rattle.cell_relate.specs.Relations.{KeepsUncrossed}

-- a box that meets a cell meets each cell round it
meets_wider : (box outer inner : Region) → within inner outer ≡ true → meets box inner ≡ true → meets box outer ≡ true
meets_wider box outer inner lies met =
    let corners = both_true (all_le outer.lo inner.lo) (all_le inner.hi outer.hi) lies in
    let both = both_true (all_le box.lo inner.hi && all_le inner.lo box.hi) (all_le box.lo box.hi) met in
    let ends = both_true (all_le box.lo inner.hi) (all_le inner.lo box.hi) both.0 in
    rw (
      all_le-trans box.lo inner.hi outer.hi ends.0 corners.1,
      all_le-trans outer.lo inner.lo box.hi corners.0 ends.1,
      both.1,
    ) refl

within_wider : (box outer inner : Region) → within inner outer ≡ true → within outer box ≡ true
    → within inner box ≡ true
within_wider box outer inner lies whole =
    let corners = both_true (all_le outer.lo inner.lo) (all_le inner.hi outer.hi) lies in
    let ends = both_true (all_le box.lo outer.lo) (all_le outer.hi box.hi) whole in
    rw (
      all_le-trans box.lo outer.lo inner.lo ends.0 corners.0,
      all_le-trans inner.hi outer.hi box.hi corners.1 ends.1,
    ) refl

not_false : (b : Bool) → not b ≡ false → b ≡ true
not_false true h = refl
not_false false h = sym h

pub box_keeps : (box : Region) → KeepsUncrossed (crosses box)
box_keeps box outer inner lies ordered none = by (meets box inner) refl
  where
    by : (b : Bool) → meets box inner ≡ b → (b && not (within inner box)) ≡ false
    by false is = refl
    by true is =
        let whole : not (within outer box) ≡ false =
        ap (λ (b : Bool). b && not (within outer box)) (sym (meets_wider box outer inner lies is)) ∙ none in
        ap not (within_wider box outer inner lies (not_false (within outer box) whole))
