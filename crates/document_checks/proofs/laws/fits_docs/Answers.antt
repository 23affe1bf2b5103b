use Rattle.document_checks.proofs.Once.{never_crowded, pairs_from}
use Rattle.document_checks.proofs.laws.fits_docs.Goals as goal

pub returns-clause-fit : goal.returns-clause-fit
returns-clause-fit c next xs once few below = record { below = below; few = few; once = pairs_from xs once }

pub returns-clause-crowded : goal.returns-clause-crowded
returns-clause-crowded c next n xs crowded make = never_crowded next n xs crowded make
