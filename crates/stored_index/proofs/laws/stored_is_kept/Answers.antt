use Rattle.stored_index.proofs.KeptFiles.{held_still, stored_still, undefined_still}
use Rattle.stored_index.proofs.Pages.{opening_still}
use Rattle.stored_index.proofs.laws.stored_is_kept.Goals as goal

pub returns-clause-stored : goal.returns-clause-stored
returns-clause-stored c = stored_still

pub returns-clause-undefined : goal.returns-clause-undefined
returns-clause-undefined c = undefined_still

pub returns-clause-held : goal.returns-clause-held
returns-clause-held c = held_still

pub returns-clause-opening : goal.returns-clause-opening
returns-clause-opening c = opening_still
