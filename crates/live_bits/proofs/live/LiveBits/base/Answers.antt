use Rattle.std.proofs.Common.{subst}
use Rattle.live_bits.specs.LiveSet.{IsLiveSet}
use Rattle.live_bits.proofs.LiveNumbers.{live_set_is}
use Rattle.live_bits.proofs.live.LiveBits.base.Goals as goal

pub returns-clause-set : goal.returns-clause-set
returns-clause-set c =
    subst IsLiveSet c.self.view_is (live_set_is c.self.inside.base c.self.inside.span c.self.inside.bits.items c.self.invariant.are_bits.limit)
