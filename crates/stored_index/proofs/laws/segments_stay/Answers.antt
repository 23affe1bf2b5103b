use Rattle.stored_index.proofs.Parts.{stays, all_stay}
use Rattle.stored_index.proofs.laws.segments_stay.Goals as goal

pub returns-clause-one : goal.returns-clause-one
returns-clause-one c = stays

pub returns-clause-all : goal.returns-clause-all
returns-clause-all c = all_stay
