use Rattle.std.proofs.Common.{◌≡◌, ◌≤◌, get_or}
use Rattle.leaf_codec.proofs.NewValues.{values_of}
use Rattle.leaf_codec.proofs.view.count_rising.Given as goal

abbrev pub invariant-loop-i : goal.invariant-loop-i
invariant-loop-i l = record {
  some : 1 ≤ l.i;
  few : l.count ≤ l.i;
  counted : l.count ≡ values_of (λ k. get_or l.bytes k 0) l.i;
}
