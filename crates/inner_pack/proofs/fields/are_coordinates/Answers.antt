use Rattle.std.proofs.Common.{ℤ, get_or, pos, FitsSigned, w32, below_more, subst, arith, ap, length}
use Rattle.std.proofs.lemmas.List.Elements.{All-from_get_or}
use Rattle.inner_pack.proofs.CellLemmas.{Fit}
use Rattle.inner_pack.proofs.fields.are_coordinates.Goals as goal

pub loop-d-preserved : goal.loop-d-preserved
loop-d-preserved g c = below_more (λ k. FitsSigned w32 (get_or c.coordinates-c.result.now k (pos 0))) c.loop-d.d c.loop-d.invariant c.is_coordinate.ensures

pub returns-clause-fit : goal.returns-clause-fit
returns-clause-fit g c =
    subst Fit c.coordinates-c.ensures.value
    (All-from_get_or (λ (x : ℤ). FitsSigned w32 x) c.coordinates-c.result.now (pos 0)
    (λ k lt. c.loop-d.invariant k (omega (arith, lt, ap length c.coordinates-c.ensures.value, c.coordinates-c.ensures.long, c.loop-d-test.false))))
