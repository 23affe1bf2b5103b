use Rattle.live_bits.proofs.Bodies.{one_set, one_body}
use Rattle.live_bits.proofs.laws.bodies_are_unique.Goals as goal

pub returns-clause-set : goal.returns-clause-set
returns-clause-set c = one_set

pub returns-clause-body : goal.returns-clause-body
returns-clause-body c = one_body
