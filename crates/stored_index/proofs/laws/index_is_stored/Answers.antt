use Rattle.stored_index.proofs.Whole.{stored_from, none_stored}
use Rattle.stored_index.proofs.laws.index_is_stored.Goals as goal

pub returns-clause-none : goal.returns-clause-none
returns-clause-none c = none_stored

pub returns-clause-held : goal.returns-clause-held
returns-clause-held c = stored_from
