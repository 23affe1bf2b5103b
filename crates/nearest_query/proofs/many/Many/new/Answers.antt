use Rattle.nearest_query.proofs.Kept.{none_best}
use Rattle.nearest_query.proofs.many.Many.new.Goals as goal

pub returns-clause-best : goal.returns-clause-best
returns-clause-best c = none_best _ c.requires c.new.ensures.empty c.new-2.ensures.empty
