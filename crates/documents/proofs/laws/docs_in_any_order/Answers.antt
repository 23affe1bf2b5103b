use Rattle.documents.proofs.Kept.{reordered, later, no_docs}
use Rattle.documents.proofs.laws.docs_in_any_order.Goals as goal

pub returns-clause-order : goal.returns-clause-order
returns-clause-order c n xs ys docs are moved = reordered n xs ys docs are moved

pub returns-clause-later : goal.returns-clause-later
returns-clause-later c m n xs docs are le = later m n xs docs are le

pub returns-clause-none : goal.returns-clause-none
returns-clause-none c n = no_docs n
