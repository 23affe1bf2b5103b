-- A cell within one that a polygon doesn't cross isn't crossed.
use Rattle.std.proofs.Common.{◌≡◌, ℕ, Bool, true, false, ◌&&◌, List, refl}
use Rattle.std.specs.Prelude.{◌==◌}
use Rattle.ring_parity.specs.Edges.{EdgeEnds}
use Rattle.ring_parity.specs.Rings.{any_meets}
use Rattle.ring_parity.proofs.Narrower.{none_meets_within}
use Rattle.cell_relate.specs.Relations.{KeepsUncrossed}
use Rattle.polygon_query.specs.Shape.{crosses}

pub polygon_keeps : (dims : ℕ) (edges : List EdgeEnds) → KeepsUncrossed (crosses dims edges)
polygon_keeps dims edges outer inner lies ordered none = by (dims == 2) none
  where
    by : (b : Bool) → (b && any_meets edges outer) ≡ false → (b && any_meets edges inner) ≡ false
    by true met = none_meets_within edges outer inner lies ordered met
    by false met = refl
