use Rattle.live_bits.proofs.SingleBits.{set_bit_is}
use Rattle.live_bits.proofs.bits.set_bit.Goals as goal

pub returns : goal.returns
returns c = λ j. set_bit_is c.args.bits.now c.args.i j c.requires
