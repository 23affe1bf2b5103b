use Rattle.live_bits.proofs.SingleBits.{clear_bit_is}
use Rattle.live_bits.proofs.bits.clear_bit.Goals as goal

pub returns : goal.returns
returns c = λ j. clear_bit_is c.args.bits.now c.args.i j c.requires
