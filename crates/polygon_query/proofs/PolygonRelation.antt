-- What one point tells of a cell that no edge meets.
use Rattle.std.proofs.Common.{◌≡◌, ◌∙◌, Bool, true, false, List, ℤ}
use Rattle.point_codec.specs.Points.{Region, all_le, in_box}
use Rattle.ring_parity.specs.Edges.{EdgeEnds}
use Rattle.ring_parity.specs.Rings.{any_meets, is_within}
use Rattle.cell_relate.specs.Relations.{IsUncrossed}
use Rattle.cell_relate.proofs.RelationLemmas.{in_box-lo}
use Rattle.polygon_query.specs.Shape.{has, crosses}

-- as all points have one answer, that of the least corner
pub one_point : (edges : List EdgeEnds) (cell : Region) (answer : Bool) → all_le cell.lo cell.hi ≡ true → any_meets edges cell ≡ false
    → ((p q : List ℤ) → in_box cell p ≡ true → in_box cell q ≡ true → is_within edges p ≡ is_within edges q) → is_within edges cell.lo ≡ answer
    → IsUncrossed (has 2 edges) (crosses 2 edges) cell answer
one_point edges cell answer ordered none same corner = record {
  uncrossed = none;
  all = λ p k. same p cell.lo k (in_box-lo cell ordered) ∙ corner;
  corner = corner;
}
