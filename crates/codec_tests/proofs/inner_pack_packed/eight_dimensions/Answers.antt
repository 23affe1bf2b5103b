use Rattle.std.proofs.Common.{rules, refl}
use Rattle.codec_tests.proofs.SmallTrees.{two_parts}
use Rattle.codec_tests.proofs.inner_pack_packed.eight_dimensions.Goals as goal

pub pack-requires : goal.pack-requires
pack-requires g c = (search rules, (search rules, two_parts _ refl))
