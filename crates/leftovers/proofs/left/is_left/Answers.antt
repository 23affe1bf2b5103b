use Rattle.leftovers.proofs.Taken.{bare_left}
use Rattle.leftovers.proofs.left.is_left.Goals as goal

pub returns-in-None : goal.returns-in-None
returns-in-None c = bare_left c.args.commit.now c.args.name.now c.is.result c.in-None.is c.is.ensures
