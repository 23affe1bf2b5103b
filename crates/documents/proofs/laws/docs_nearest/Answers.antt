use Rattle.documents.proofs.NearestDocs.{nearest_are}
use Rattle.documents.proofs.laws.docs_nearest.Goals as goal

pub returns : goal.returns
returns c n k xs docs at found are is = nearest_are n k xs docs at found are is
