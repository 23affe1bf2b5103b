use Rattle.std.proofs.Common.{sym, ◌∙◌}
use Rattle.ring_parity.specs.Edges.{on}
use Rattle.ring_parity.proofs.Steps.{none_more, some_at}
use Rattle.ring_parity.proofs.rings.is_on_ring.Goals as goal

pub returns-then-on_edge : goal.returns-then-on_edge
returns-then-on_edge c =
    sym (some_at (λ e. on e c.args.p.now.c) c.args.at.now c.loop-i.i c.index-at-i.result c.index-at-i-in-loop-i.result c.loop-i.auto.i c.loop-i-test.true
    c.index-at-i.is c.index-at-i-in-loop-i.is (sym c.on_edge.ensures ∙ c.if-on_edge.true))

pub loop-i-preserved : goal.loop-i-preserved
loop-i-preserved c =
    none_more (λ e. on e c.args.p.now.c) c.args.at.now c.loop-i.i c.index-at-i.result c.index-at-i-in-loop-i.result c.loop-i.auto.i c.loop-i-test.true
    c.index-at-i.is c.index-at-i-in-loop-i.is c.loop-i.invariant (sym c.on_edge.ensures ∙ c.if-on_edge.false)
