use Rattle.document_checks.proofs.Marking.{marks_joined, marks_met}
use Rattle.document_checks.proofs.marks.mark_word.Goals as goal

pub returns-clause-were : goal.returns-clause-were
returns-clause-were c k lt = marks_met c.args.words.now c.args.at c.args.word k lt

pub returns-clause-after : goal.returns-clause-after
returns-clause-after c n = marks_joined c.args.words.now c.args.at c.args.word n c.requires
