use Rattle.nearest_query.proofs.survey.+near_below.Given as goal

abbrev pub decreases-near_below : goal.decreases-near_below
decreases-near_below g l = l.node.now.leaves
