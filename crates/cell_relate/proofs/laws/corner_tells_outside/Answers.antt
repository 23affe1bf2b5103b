use Rattle.cell_relate.proofs.RelationLemmas.{corner_tells}
use Rattle.cell_relate.proofs.laws.corner_tells_outside.Goals as goal

pub returns : goal.returns
returns c = corner_tells
