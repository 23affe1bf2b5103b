use Rattle.std.proofs.Common.{◌∙◌}
use Rattle.script_lang.proofs.FirstWord.{view_from}
use Rattle.script_lang.proofs.words.Words.names_view.Goals as goal

pub returns : goal.returns
returns c = c.begins_with_at.ensures ∙ view_from c.args.self.now.text.now
