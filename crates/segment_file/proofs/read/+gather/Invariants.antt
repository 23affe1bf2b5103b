use Rattle.segment_file.proofs.read.+gather.Given as goal

abbrev pub decreases-gather : goal.decreases-gather
decreases-gather g l = l.node.now.leaves
