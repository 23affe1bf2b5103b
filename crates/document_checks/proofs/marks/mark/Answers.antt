use Rattle.document_checks.proofs.Marking.{mark_is}
use Rattle.document_checks.proofs.marks.mark.Goals as goal

pub returns-clause-after : goal.returns-clause-after
returns-clause-after c n = mark_is c.args.words.now c.args.number n c.requires
