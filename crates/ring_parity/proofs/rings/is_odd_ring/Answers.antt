use Rattle.ring_parity.proofs.Steps.{odd_more}
use Rattle.ring_parity.proofs.rings.is_odd_ring.Goals as goal

pub loop-i-preserved : goal.loop-i-preserved
loop-i-preserved c =
    odd_more c.args.p.now.c c.args.at.now c.loop-i.i c.index-at-i.result c.index-at-i-in-loop-i.result c.loop-i.auto.i c.loop-i-test.true
    c.index-at-i.is c.index-at-i-in-loop-i.is c.loop-i.odd c.counts-odd.result c.loop-i.invariant c.counts-odd.ensures
