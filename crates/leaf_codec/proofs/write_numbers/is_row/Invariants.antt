use Rattle.std.proofs.Common.{◌≡◌, ◌+◌, ◌<◌, ℕ, get_or}
use Rattle.leaf_codec.specs.Entries.{docs_of}
use Rattle.leaf_codec.proofs.write_numbers.is_row.Given as goal

abbrev pub invariant-loop-i : goal.invariant-loop-i
invariant-loop-i g l = (k : ℕ) → k < l.i → get_or (docs_of l.entries) k 0 ≡ l.first + k
