use Rattle.live_bits.proofs.WordBits.{bit-after}
use Rattle.live_bits.proofs.words.word_after.Goals as goal

pub returns : goal.returns
returns c k lt = bit-after c.word_from.result c.args.gap k c.args.bits.now lt c.word_from.ensures
