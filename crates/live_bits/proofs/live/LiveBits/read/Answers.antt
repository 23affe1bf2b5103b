use Rattle.std.proofs.Common.{subst, refl}
use Rattle.live_bits.specs.LiveBody.{HasNoSet}
use Rattle.live_bits.proofs.live.LiveBits.read.Goals as goal

pub returns-in_default-clause-err : goal.returns-in_default-clause-err
returns-in_default-clause-err c = (refl, subst (HasNoSet c.args.segment c.args.generation) c.as_slice.ensures c.in_default.ensures.none)
