use Rattle.std.proofs.Common.{sym, ap, ◌∙◌, not, ◌≡◌, false}
use Rattle.std.proofs.lemmas.List.{take_all}
use Rattle.point_codec.specs.Seen.{region_of}
use Rattle.ring_parity.specs.Edges.{misses}
use Rattle.ring_parity.specs.Rings.{edges_of, any_meets, rings_cross}
use Rattle.ring_parity.proofs.Steps.{some_in}
use Rattle.ring_parity.proofs.OneAnswer.{polygon_answer}
use Rattle.ring_parity.proofs.rings.any_meets.Goals as goal

pub returns-then-meets_ring-clause-told : goal.returns-then-meets_ring-clause-told
returns-then-meets_ring-clause-told c =
    sym (some_in (λ e. not (misses e (region_of c.args.c.now))) c.as_slice-ring-items.result.now c.loop-ring.ring-index c.ring-item.result c.loop-ring-test.true
    c.ring-item.is (ap (λ ring. any_meets (edges_of ring) (region_of c.args.c.now)) (sym c.as_slice.ensures) ∙ sym c.meets_ring.ensures ∙ c.if-meets_ring.true))
    ∙ ap (λ rings. rings_cross rings (region_of c.args.c.now)) c.as_slice-ring-items.ensures.value

pub returns-clause-one_answer : goal.returns-clause-one_answer
returns-clause-one_answer c =
    let none : rings_cross c.args.r.now (region_of c.args.c.now) ≡ false =
    ap (λ rings. rings_cross rings (region_of c.args.c.now))
    (sym (take_all c.loop-ring.ring-index c.as_slice-ring-items.result.now c.loop-ring-test.false ∙ c.as_slice-ring-items.ensures.value))
    ∙ c.loop-ring.invariant in
    λ _. polygon_answer c.args.r.now (region_of c.args.c.now) c.as_slice-ring-items.ensures.polygon none
