use Rattle.file_names.proofs.Listed.{is_named-none, is_named-first, is_named-append, named_contains, is_named-apart, next_free}
use Rattle.file_names.proofs.laws.names_of_lists.Goals as goal

pub returns-clause-none : goal.returns-clause-none
returns-clause-none c = is_named-none

pub returns-clause-first : goal.returns-clause-first
returns-clause-first c = is_named-first

pub returns-clause-joined : goal.returns-clause-joined
returns-clause-joined c = is_named-append

pub returns-clause-stands : goal.returns-clause-stands
returns-clause-stands c = named_contains

pub returns-clause-apart : goal.returns-clause-apart
returns-clause-apart c = is_named-apart

pub returns-clause-next : goal.returns-clause-next
returns-clause-next c = next_free
