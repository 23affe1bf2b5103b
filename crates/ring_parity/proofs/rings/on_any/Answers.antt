use Rattle.std.proofs.Common.{sym, ap, ◌∙◌}
use Rattle.ring_parity.specs.Edges.{on}
use Rattle.ring_parity.specs.Rings.{edges_of, all_edges, is_on_any}
use Rattle.ring_parity.proofs.Steps.{some_in}
use Rattle.ring_parity.proofs.rings.on_any.Goals as goal

pub returns-then-is_on_ring : goal.returns-then-is_on_ring
returns-then-is_on_ring c =
    sym (some_in (λ e. on e c.args.p.now.c) c.as_slice-ring-items.result.now c.loop-ring.ring-index c.ring-item.result c.loop-ring-test.true c.ring-item.is
    (ap (λ ring. is_on_any (edges_of ring) c.args.p.now.c) (sym c.as_slice.ensures) ∙ sym c.is_on_ring.ensures ∙ c.if-is_on_ring.true))
    ∙ ap (λ rings. is_on_any (all_edges rings) c.args.p.now.c) c.as_slice-ring-items.ensures.value
