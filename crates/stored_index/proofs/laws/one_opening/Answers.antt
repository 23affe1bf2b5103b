use Rattle.stored_index.proofs.Pages.{opening_once, opening_of, opening_there, pages_grow}
use Rattle.stored_index.proofs.laws.one_opening.Goals as goal

pub returns-clause-one : goal.returns-clause-one
returns-clause-one c = opening_once

pub returns-clause-held : goal.returns-clause-held
returns-clause-held c = opening_of

pub returns-clause-grows : goal.returns-clause-grows
returns-clause-grows c = pages_grow

pub returns-clause-stored : goal.returns-clause-stored
returns-clause-stored c = opening_there
