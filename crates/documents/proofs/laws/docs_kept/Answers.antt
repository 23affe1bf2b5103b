use Rattle.documents.proofs.Kept.{kept, but_one, but_hits}
use Rattle.documents.proofs.laws.docs_kept.Goals as goal

pub returns-clause-kept : goal.returns-clause-kept
returns-clause-kept c n xs docs keeps are = kept n xs docs keeps are

pub returns-clause-deleted : goal.returns-clause-deleted
returns-clause-deleted c n xs docs number are = but_one n xs docs number are

pub returns-clause-without : goal.returns-clause-without
returns-clause-without c n xs docs test are = but_hits n xs docs test are
