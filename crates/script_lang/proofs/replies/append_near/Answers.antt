use Rattle.std.proofs.Common.{◌∙◌}
use Rattle.script_lang.proofs.Said.{near_said}
use Rattle.script_lang.proofs.replies.append_near.Goals as goal

pub loop-found-preserved : goal.loop-found-preserved
loop-found-preserved c =
    near_said c.args.near.now c.loop-found.found-index _ _ _ _ _ _ c.loop-found-test.true c.loop-found.invariant
    (c.as_bytes-in-loop-found.ensures.value ∙ c.format-in-loop-found.ensures.text)
    (c.as_bytes-in-loop-found-2.ensures.value ∙ c.format-in-loop-found-2.ensures.text) c.in_ok-append-2.ensures.ok
