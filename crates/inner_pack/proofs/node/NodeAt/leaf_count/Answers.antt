use Rattle.std.proofs.Common.{sym}
use Rattle.inner_pack.proofs.PlaceLemmas.{count_shaped}
use Rattle.inner_pack.proofs.node.NodeAt.leaf_count.Goals as goal

pub returns-clause-count : goal.returns-clause-count
returns-clause-count g c first s path t h = sym (count_shaped c.args.self.now.leaves t h.is.shaped)
