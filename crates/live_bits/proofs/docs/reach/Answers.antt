use Rattle.std.proofs.Common.{arith}
use Rattle.live_bits.proofs.Reach.{reached_more, reached_all}
use Rattle.live_bits.proofs.docs.reach.Goals as goal

pub loop-doc-preserved : goal.loop-doc-preserved
loop-doc-preserved c =
    rw (c.min-least.ensures, c.max-greatest.ensures)
    (reached_more c.args.docs.now c.loop-doc.doc-index c.loop-doc.least c.loop-doc.greatest c.loop-doc.invariant c.loop-doc-test.true)

pub returns : goal.returns
returns c = reached_all c.args.docs.now c.loop-doc.doc-index c.loop-doc.least c.loop-doc.greatest c.loop-doc.invariant (omega arith)
