-- What the comparisons of corners say of a cell's points.
use Rattle.std.proofs.Common.{◌≡◌, Bool, true, false, List, ℤ, refl, arith}
use Rattle.point_codec.specs.Points.{Region, all_le, in_box}
use Rattle.point_codec.specs.Cells.{within}
use Rattle.cell_relate.specs.declared.shape.Relation.TheVariants.{Inside, Outside}
use Rattle.cell_relate.specs.Relations.{AllAnswer, IsUncrossed, RelatesTo}
use Rattle.cell_relate.specs.Boxes.{meets, crosses}
use Rattle.cell_relate.proofs.RelationLemmas.{in_box-lo, in_box-within}
use Rattle.point_codec.proofs.Corners.{both_true, all_le-trans}

-- a point of both is between their corners
common : (box cell : Region) (p : List ℤ) → in_box box p ≡ true → in_box cell p ≡ true → meets box cell ≡ true
common box cell p h k =
    let in_first = both_true (all_le box.lo p) (all_le p box.hi) h in
    let in_cell = both_true (all_le cell.lo p) (all_le p cell.hi) k in
    rw (
      all_le-trans box.lo p cell.hi in_first.0 in_cell.1,
      all_le-trans cell.lo p box.hi in_cell.0 in_first.1,
      all_le-trans box.lo p box.hi in_first.0 in_first.1,
    ) refl

-- all points of a cell answer alike, so its least corner too
uncrossed : (box cell : Region) (answer : Bool) → all_le cell.lo cell.hi ≡ true → crosses box cell ≡ false → AllAnswer (in_box box) answer cell
    → IsUncrossed (in_box box) (crosses box) cell answer
uncrossed box cell answer ordered h all = record { uncrossed = h; all = all; corner = all cell.lo (in_box-lo cell ordered) }

none_of : (box cell : Region) → meets box cell ≡ false → AllAnswer (in_box box) false cell
none_of box cell h p k =
    elim (in_box box p) as (λ v. in_box box p ≡ v → v ≡ false) [
      | true ↦ λ i. let m : meets box cell ≡ true = common box cell p i k in cc
      | false ↦ λ i. refl
    ] refl

-- a cell that the box doesn't meet
pub box_outside : (box cell : Region) → all_le cell.lo cell.hi ≡ true → meets box cell ≡ false → RelatesTo (in_box box) (crosses box) cell Outside
box_outside box cell ordered h = uncrossed box cell false ordered (grind arith) (none_of box cell h)

-- a cell that lies within the box
pub box_inside : (box cell : Region) → all_le cell.lo cell.hi ≡ true → within cell box ≡ true → RelatesTo (in_box box) (crosses box) cell Inside
box_inside box cell ordered h =
    uncrossed box cell true ordered (grind arith) (λ p k. in_box-within cell box p h k)
