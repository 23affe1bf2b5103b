-- The numbers that are left are those without an entry among the ones passed, and while each one passed was left no two
-- of them have one number.
use Rattle.std.proofs.Common.{◌≡◌, take}
use Rattle.document_checks.proofs.WithEntries.{bare}
use Rattle.document_checks.proofs.Alone.{AreAlone}
use Rattle.document_checks.proofs.found.live_with_entries.Given as goal

abbrev pub invariant-loop-entry : goal.invariant-loop-entry
invariant-loop-entry g l = record {
  left : l.left.live ≡ bare (take l.entry-index l.entries) l.live.live;
  alone : AreAlone l.alone (take l.entry-index l.entries);
}
