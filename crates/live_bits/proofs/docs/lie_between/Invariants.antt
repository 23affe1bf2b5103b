use Rattle.std.proofs.Common.{◌≤◌, ◌<◌, All, take}
use Rattle.live_bits.proofs.docs.lie_between.Given as goal

abbrev pub invariant-loop-number : goal.invariant-loop-number
invariant-loop-number l = All (λ n. (l.low ≤ n) × (n < l.end)) (take l.number-index l.numbers)
