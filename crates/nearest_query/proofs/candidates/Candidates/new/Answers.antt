use Rattle.nearest_query.proofs.Either.{none_yet}
use Rattle.nearest_query.proofs.candidates.Candidates.new.Goals as goal

pub returns-clause-best : goal.returns-clause-best
returns-clause-best c = none_yet _ c.new.ensures.items c.new-2.ensures.empty c.new-2.ensures.best
