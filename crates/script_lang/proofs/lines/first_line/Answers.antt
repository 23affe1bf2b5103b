use Rattle.script_lang.proofs.LinesOf.{line_taken, last_taken}
use Rattle.script_lang.proofs.lines.first_line.Goals as goal

pub returns-in-empty-clause-line : goal.returns-in-empty-clause-line
returns-in-empty-clause-line c =
    last_taken _ _ _ _ c.requires c.line_len.ensures.value c.split_at.ensures.front c.split_at.ensures.back c.in-empty.len_below

pub returns-in-len1-up-clause-line : goal.returns-in-len1-up-clause-line
returns-in-len1-up-clause-line c =
    line_taken _ _ _ _ c.line_len.ensures.value c.split_at.ensures.front c.split_at.ensures.back c.in-len1-up.len_at_least
