use Rattle.std.proofs.Common.{◌<◌, ◌≤◌, ◌+◌, ◌*◌, ℕ, take, drop}
use Rattle.std.specs.Prelude.{bit_and}
use Rattle.leaf_codec.specs.Words.{number_of}
use Rattle.leaf_codec.proofs.in_order.words_between.Given as goal

abbrev pub invariant-loop-i : goal.invariant-loop-i
invariant-loop-i l = (k : ℕ) → k < l.i
    → (l.low ≤ bit_and (number_of (take 4 (drop (l.start + k * l.stride) l.bytes))) l.mask)
    × (bit_and (number_of (take 4 (drop (l.start + k * l.stride) l.bytes))) l.mask ≤ l.high)
