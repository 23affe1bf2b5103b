use Rattle.inner_pack.proofs.check.+check_node.Given as goal

abbrev pub decreases-check_node : goal.decreases-check_node
decreases-check_node g l = l.leaves
