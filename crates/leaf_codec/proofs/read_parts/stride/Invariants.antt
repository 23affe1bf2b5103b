use Rattle.std.proofs.Common.{◌≡◌, ◌≤◌, ◌*◌}
use Rattle.leaf_codec.specs.Raw.{place_of}
use Rattle.leaf_codec.proofs.read_parts.stride.Given as goal

abbrev pub invariant-loop-d : goal.invariant-loop-d
invariant-loop-d l = record {
  value : l.stride ≡ place_of l.lengths l.sorted l.d;
  few : l.stride ≤ 4 * l.d;
}
