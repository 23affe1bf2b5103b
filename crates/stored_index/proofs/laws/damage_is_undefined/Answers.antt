use Rattle.stored_index.proofs.Damaged.{no_commit, no_entry, no_segment, no_head, no_live, not_given, in_two, no_documents}
use Rattle.stored_index.proofs.laws.damage_is_undefined.Goals as goal

pub returns-clause-commit : goal.returns-clause-commit
returns-clause-commit c = no_commit

pub returns-clause-head : goal.returns-clause-head
returns-clause-head c = no_head

pub returns-clause-live : goal.returns-clause-live
returns-clause-live c = no_live

pub returns-clause-beyond : goal.returns-clause-beyond
returns-clause-beyond c = not_given

pub returns-clause-doubled : goal.returns-clause-doubled
returns-clause-doubled c = in_two

pub returns-clause-segment : goal.returns-clause-segment
returns-clause-segment c = no_segment

pub returns-clause-entries : goal.returns-clause-entries
returns-clause-entries c = no_documents c.one_segment.ensures.items

pub returns-clause-unfound : goal.returns-clause-unfound
returns-clause-unfound c = no_entry c.one_segment.ensures.items
