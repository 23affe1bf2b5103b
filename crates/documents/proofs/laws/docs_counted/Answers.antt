use Rattle.documents.proofs.Kept.{counted, few}
use Rattle.documents.proofs.laws.docs_counted.Goals as goal

pub returns-clause-entries : goal.returns-clause-entries
returns-clause-entries c n xs docs are = counted n xs docs are

pub returns-clause-docs : goal.returns-clause-docs
returns-clause-docs c n xs docs are = few n xs docs are
