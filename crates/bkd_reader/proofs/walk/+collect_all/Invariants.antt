use Rattle.bkd_reader.proofs.walk.+collect_all.Given as goal

abbrev pub decreases-collect_all : goal.decreases-collect_all
decreases-collect_all g l = l.node.now.leaves
