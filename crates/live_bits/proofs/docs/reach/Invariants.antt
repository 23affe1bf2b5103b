use Rattle.live_bits.proofs.Reach.{IsReached}
use Rattle.live_bits.proofs.docs.reach.Given as goal

abbrev pub invariant-loop-doc : goal.invariant-loop-doc
invariant-loop-doc l = IsReached l.docs l.doc-index l.least l.greatest
