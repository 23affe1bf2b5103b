use Rattle.ring_parity.proofs.Steps.{closed_by}
use Rattle.ring_parity.proofs.rings.is_closed.Goals as goal

pub returns : goal.returns
returns c = closed_by c.args.at.now c.index-at-0.result c.index-at-at.result c.requires c.index-at-0.is c.index-at-at.is c.eq.result c.eq.ensures
