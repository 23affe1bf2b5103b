use Rattle.bkd_build.proofs.OneTree.{one_canon}
use Rattle.bkd_build.proofs.laws.one_canonical_tree.Goals as goal

pub returns : goal.returns
returns c D leaf_size xs ys r s t u p h k = one_canon D leaf_size xs ys r s t u p h k
