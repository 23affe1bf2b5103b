use Rattle.std.proofs.Common.{◌≡◌, ◌<◌, ℕ, get_or}
use Rattle.leaf_codec.proofs.read_parts.are_whole.Given as goal

abbrev pub invariant-loop-d : goal.invariant-loop-d
invariant-loop-d l = (k e : ℕ) → k < l.d → get_or l.lengths k e ≡ 4
