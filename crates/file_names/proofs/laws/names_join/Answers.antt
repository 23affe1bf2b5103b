use Rattle.file_names.proofs.Listed.{joins, stays, others_stay}
use Rattle.file_names.proofs.laws.names_join.Goals as goal

pub returns-clause-joins : goal.returns-clause-joins
returns-clause-joins c = joins

pub returns-clause-stays : goal.returns-clause-stays
returns-clause-stays c = stays

pub returns-clause-others : goal.returns-clause-others
returns-clause-others c = others_stay
