use Rattle.std.proofs.Common.{sym, ◌∙◌}
use Rattle.leaf_codec.proofs.ReadLeaf.{one_leaf}
use Rattle.leaf_codec.proofs.laws.one_leaf.Goals as goal

pub returns-clause-items : goal.returns-clause-items
returns-clause-items c D bytes xs ys hx hy = one_leaf D bytes xs ys hx hy

pub returns-clause-bytes : goal.returns-clause-bytes
returns-clause-bytes c D a b xs ha hb = ha.is ∙ sym hb.is
