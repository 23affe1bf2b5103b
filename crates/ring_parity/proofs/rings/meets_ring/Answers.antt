use Rattle.std.proofs.Common.{sym, ap, ◌∙◌, not}
use Rattle.point_codec.specs.Seen.{region_of}
use Rattle.ring_parity.specs.Edges.{misses}
use Rattle.ring_parity.proofs.Steps.{none_more, some_at}
use Rattle.ring_parity.proofs.rings.meets_ring.Goals as goal

pub returns-then-not-misses : goal.returns-then-not-misses
returns-then-not-misses c =
    sym (some_at (λ e. not (misses e (region_of c.args.c.now))) c.args.at.now c.loop-i.i c.index-at-i.result c.index-at-i-in-loop-i.result c.loop-i.auto.i
    c.loop-i-test.true c.index-at-i.is c.index-at-i-in-loop-i.is (ap not (sym c.misses.ensures ∙ c.if-not-misses.true)))

pub loop-i-preserved : goal.loop-i-preserved
loop-i-preserved c =
    none_more (λ e. not (misses e (region_of c.args.c.now))) c.args.at.now c.loop-i.i c.index-at-i.result c.index-at-i-in-loop-i.result c.loop-i.auto.i
    c.loop-i-test.true c.index-at-i.is c.index-at-i-in-loop-i.is c.loop-i.invariant (ap not (sym c.misses.ensures ∙ c.if-not-misses.false))
