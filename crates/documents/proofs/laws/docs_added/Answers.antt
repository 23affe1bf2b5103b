use Rattle.documents.proofs.Kept.{added}
use Rattle.documents.proofs.laws.docs_added.Goals as goal

pub returns : goal.returns
returns c n xs docs points are ok = added n xs docs points are ok
