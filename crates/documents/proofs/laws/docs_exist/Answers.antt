use Rattle.documents.proofs.Making.{docs_from, docs_make}
use Rattle.documents.proofs.laws.docs_exist.Goals as goal

pub returns : goal.returns
returns c n xs = (docs_from n xs, λ (docs, are). docs_make n xs docs are)
