use Rattle.document_checks.proofs.Once.{once_from, pairs_from}
use Rattle.document_checks.proofs.laws.none_twice.Goals as goal

pub returns : goal.returns
returns c xs = (pairs_from xs, once_from xs)
