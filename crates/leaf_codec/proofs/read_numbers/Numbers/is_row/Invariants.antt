use Rattle.std.proofs.Common.{◌≡◌, ◌<◌, ℕ}
use Rattle.leaf_codec.specs.Raw.{offset_at}
use Rattle.leaf_codec.specs.Views.{raw_numbers_of}
use Rattle.leaf_codec.proofs.read_numbers.Numbers.is_row.Given as goal

abbrev pub invariant-loop-i : goal.invariant-loop-i
invariant-loop-i l = (k : ℕ) → k < l.i → offset_at (raw_numbers_of l.self) k ≡ k
