use Rattle.std.proofs.Common.{take}
use Rattle.point_codec.specs.declared.entries.Entry.{Entry}
use Rattle.document_checks.proofs.Again.{IsSeen}
use Rattle.document_checks.proofs.doubles.mark_all.Given as goal

abbrev pub invariant-loop-entry : goal.invariant-loop-entry
invariant-loop-entry g l = IsSeen (λ (e : Entry g.row.D). e.doc) l.base (take l.entry-index l.entries) l.some l.seen l.again
