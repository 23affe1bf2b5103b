use Rattle.std.proofs.Common.{◌≡◌, ◌≤◌, ◌<◌, ◌*◌, ℕ, get_or}
use Rattle.leaf_codec.specs.Raw.{start_of}
use Rattle.leaf_codec.proofs.read_parts.total.Given as goal

abbrev pub invariant-loop-d : goal.invariant-loop-d
invariant-loop-d l = record {
  value : l.total ≡ start_of l.lengths l.d;
  few : l.total ≤ 4 * l.d;
  short : (k e : ℕ) → k < l.d → get_or l.lengths k e ≤ 4;
}
