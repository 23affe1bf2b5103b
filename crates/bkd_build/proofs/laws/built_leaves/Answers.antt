use Rattle.bkd_build.proofs.Leaves.{are_leaves, all_there}
use Rattle.bkd_build.proofs.laws.built_leaves.Goals as goal

pub returns-clause-leaves : goal.returns-clause-leaves
returns-clause-leaves c D leaf_size items b some h = are_leaves D leaf_size items b some h

pub returns-clause-same : goal.returns-clause-same
returns-clause-same c D leaf_size items b h = all_there D leaf_size items b h
