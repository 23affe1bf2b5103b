use Rattle.std.proofs.Common.{ap, ◌∙◌}
use Rattle.file_names.specs.Names.{NameList}
use Rattle.file_names.proofs.Listed.{below_push, joins_as, stays_as}
use Rattle.file_names.proofs.names.FileNames.name_segment.Goals as goal

pub invariant_of-self-2 : goal.invariant_of-self-2
invariant_of-self-2 c =
    rw (c.push_reserved.ensures.items, c.in_ok-reserve.ensures.items)
    (below_push _ _ _ _ c.self.invariant c.next_id-id.ensures.later c.next_id-id.ensures.below)

pub returns-clause-joins : goal.returns-clause-joins
returns-clause-joins c = joins_as _ _ _ c.push_reserved.ensures.items

pub returns-clause-stays : goal.returns-clause-stays
returns-clause-stays c = stays_as _ _ _ _ (c.in_ok-reserve.ensures.items ∙ ap (λ (n : NameList). n.names) c.self.view_is) c.push_reserved.ensures.items
