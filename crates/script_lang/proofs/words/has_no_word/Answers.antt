use Rattle.std.proofs.Common.{◌∙◌}
use Rattle.script_lang.proofs.Boundaries.{boundary_behind}
use Rattle.script_lang.proofs.WordsOf.{empty_from}
use Rattle.script_lang.proofs.words.has_no_word.Goals as goal

pub split_at-requires : goal.split_at-requires
split_at-requires c = boundary_behind c.args.text.now c.blanks.result c.utf8.text c.blanks.ensures.value

pub returns : goal.returns
returns c = c.is_empty.ensures ∙ empty_from _ _ _ c.blanks.ensures.value c.split_at.ensures.back
