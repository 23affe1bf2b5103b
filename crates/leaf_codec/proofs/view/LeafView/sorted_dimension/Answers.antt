use Rattle.leaf_codec.proofs.ViewLemmas.{said_points}
use Rattle.leaf_codec.proofs.view.LeafView.sorted_dimension.Goals as goal

pub returns-clause-points : goal.returns-clause-points
returns-clause-points g c = let v = c.self.inside in said_points g.row.D v.numbers v.parts c.args.self.now c.self.view_is
