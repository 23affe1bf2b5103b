use Rattle.stored_index.proofs.Parts.{held_once, held_head, held_live}
use Rattle.stored_index.proofs.laws.one_holding.Goals as goal

pub returns-clause-segment : goal.returns-clause-segment
returns-clause-segment c = held_once c.one_segment.ensures.items

pub returns-clause-head : goal.returns-clause-head
returns-clause-head c = held_head

pub returns-clause-live : goal.returns-clause-live
returns-clause-live c = held_live
