use Rattle.documents.proofs.Kept.{live}
use Rattle.documents.proofs.laws.docs_live.Goals as goal

pub returns : goal.returns
returns c n xs docs number are = live n xs docs number are
