use Rattle.documents.proofs.HitNumbers.{hits_are}
use Rattle.documents.proofs.laws.docs_hits.Goals as goal

pub returns : goal.returns
returns c n xs docs test found are up same = hits_are n xs docs test found are up same
