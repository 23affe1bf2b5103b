use Rattle.inner_pack.proofs.OneTree.{one_index}
use Rattle.inner_pack.proofs.laws.one_tree.Goals as goal

pub returns : goal.returns
returns c D form n b r s t u h k = one_index D form n b r s t u h k
