use Rattle.std.proofs.Common.{◌∙◌}
use Rattle.script_lang.proofs.Said.{told, not_whole}
use Rattle.script_lang.proofs.replies.put_polygon_fault.Goals as goal

pub returns-in-NotWhole-clause-ok : goal.returns-in-NotWhole-clause-ok
returns-in-NotWhole-clause-ok c =
    told _ _ _ _ _ _
    (not_whole _ _ _ _ _ c.in-NotWhole.is (c.as_bytes-ring.ensures.value ∙ c.format.ensures.text)
    (c.as_bytes-position.ensures.value ∙ c.format-in-NotWhole.ensures.text))
    c.refuse-in-NotWhole.ensures.ok
