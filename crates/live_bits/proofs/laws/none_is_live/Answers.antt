use Rattle.live_bits.proofs.LiveNumbers.{none_live}
use Rattle.live_bits.proofs.laws.none_is_live.Goals as goal

pub returns : goal.returns
returns c = none_live
