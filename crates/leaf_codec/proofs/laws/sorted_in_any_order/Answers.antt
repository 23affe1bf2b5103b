use Rattle.leaf_codec.proofs.Permuted.{sorted_dimension-IsPermutation}
use Rattle.leaf_codec.proofs.laws.sorted_in_any_order.Goals as goal

pub returns : goal.returns
returns c D xs ys p = sorted_dimension-IsPermutation D xs ys p
