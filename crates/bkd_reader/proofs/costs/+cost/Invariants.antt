use Rattle.bkd_reader.proofs.costs.+cost.Given as goal

abbrev pub decreases-cost : goal.decreases-cost
decreases-cost g l = l.node.now.leaves
