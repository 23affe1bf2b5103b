use Rattle.ring_parity.proofs.Steps.{linear_more, positions_more}
use Rattle.ring_parity.proofs.rings.first_fault.Goals as goal

pub loop-index-preserved : goal.loop-index-preserved
loop-index-preserved c = record {
  before = linear_more c.args.list.now c.loop-index.index c.as_slice-at.result.now c.index-list-index.result c.loop-index-test.true c.index-list-index.is
      c.as_slice-at.ensures c.if-at-lt4.false (c.is_closed.ensures.0 c.if-not-is_closed.false) c.loop-index.invariant.before;
  many = positions_more c.args.list.now c.loop-index.index c.as_slice-at.result.now c.index-list-index.result c.loop-index-test.true c.index-list-index.is
      c.as_slice-at.ensures c.if-at-lt4.false c.loop-index.invariant.many;
}
