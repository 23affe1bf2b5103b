use Rattle.drawn_points.proofs.Making.{made_is}
use Rattle.drawn_points.proofs.laws.index_made.Goals as goal

pub returns : goal.returns
returns c = made_is
