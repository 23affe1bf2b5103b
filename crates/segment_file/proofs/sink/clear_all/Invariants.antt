use Rattle.std.proofs.Common.{◌≡◌, take}
use Rattle.segment_file.specs.Sinks.{set_without_entries}
use Rattle.segment_file.proofs.sink.clear_all.Given as goal

abbrev pub invariant-loop-i : goal.invariant-loop-i
invariant-loop-i g l = l.left ≡ set_without_entries (take l.i l.view) l.initial.left
