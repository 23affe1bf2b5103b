use Rattle.std.proofs.Common.{◌≡◌, ◌-◌, take, filter}
use Rattle.document_checks.specs.Marks.{is_marked}
use Rattle.document_checks.proofs.doubles.entries_again.Given as goal

abbrev pub invariant-loop-entry : goal.invariant-loop-entry
invariant-loop-entry g l = l.list.items ≡ filter (λ e. is_marked l.again (e.doc - l.base)) (take l.entry-index l.entries)
