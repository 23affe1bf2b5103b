use Rattle.nearest_query.proofs.Unique.{nearest_unique}
use Rattle.nearest_query.proofs.laws.one_nearest.Goals as goal

pub returns : goal.returns
returns c = λ k entries f g isf isg. nearest_unique k entries f g isf isg
