use Rattle.std.proofs.Common.{refl}
use Rattle.document_checks.proofs.doubles.numbers_again.Goals as goal

pub returns-then-not-mark_all-clause-none : goal.returns-then-not-mark_all-clause-none
returns-then-not-mark_all-clause-none g c = c.if-not-mark_all.ensures.none refl
