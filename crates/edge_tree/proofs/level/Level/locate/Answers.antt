use Rattle.edge_tree.proofs.Levels.{located}
use Rattle.edge_tree.proofs.level.Level.locate.Goals as goal

pub returns : goal.returns
returns c = λ edges closed level inside.
    located edges c.args.listed.now c.args.self.now c.args.p.now.c c.turned-beside.result.on c.turned-beside.result.odd closed level inside
    c.turned-beside.ensures
