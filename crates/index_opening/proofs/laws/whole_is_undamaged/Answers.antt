use Rattle.index_opening.proofs.Whole.{leaf_whole, page_whole}
use Rattle.index_opening.proofs.laws.whole_is_undamaged.Goals as goal

pub returns-clause-page : goal.returns-clause-page
returns-clause-page c = page_whole

pub returns-clause-leaf : goal.returns-clause-leaf
returns-clause-leaf c = leaf_whole
