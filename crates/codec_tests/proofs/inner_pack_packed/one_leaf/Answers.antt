use Rattle.std.proofs.Common.{rules, refl}
use Rattle.codec_tests.proofs.SmallTrees.{one_part}
use Rattle.codec_tests.proofs.inner_pack_packed.one_leaf.Goals as goal

pub pack-requires : goal.pack-requires
pack-requires g c = (search rules, (search rules, one_part _ refl))
