use Rattle.script_lang.proofs.Said.{said_more}
use Rattle.script_lang.proofs.replies.append.Goals as goal

pub loop-piece-preserved : goal.loop-piece-preserved
loop-piece-preserved c =
    (said_more (λ p. p.now) _ _ _ _ _ _ c.loop-piece-test.true c.loop-piece.invariant.0 c.in_default.ensures.items, c.loop-piece.invariant.1)
