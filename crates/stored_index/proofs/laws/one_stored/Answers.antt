use Rattle.stored_index.proofs.Parts.{all_once}
use Rattle.stored_index.proofs.Whole.{docs_once, state_once}
use Rattle.stored_index.proofs.laws.one_stored.Goals as goal

pub returns-clause-state : goal.returns-clause-state
returns-clause-state c = state_once c.one_segment.ensures.items

pub returns-clause-docs : goal.returns-clause-docs
returns-clause-docs c = docs_once c.one_segment.ensures.items

pub returns-clause-segments : goal.returns-clause-segments
returns-clause-segments c = all_once c.one_segment.ensures.items
