use Rattle.std.proofs.Common.{◌≤◌}
use Rattle.leaf_codec.specs.Views.{AreBounds, raw_numbers_of}
use Rattle.leaf_codec.proofs.read_numbers.Numbers.ends.Given as goal

abbrev pub invariant-loop-i : goal.invariant-loop-i
invariant-loop-i l = record {
  some : 1 ≤ l.i;
  ends : AreBounds l.i (raw_numbers_of l.self) l.least l.greatest;
}
