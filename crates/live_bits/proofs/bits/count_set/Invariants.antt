use Rattle.std.proofs.Common.{◌≡◌, ◌≤◌, ◌*◌, sum_by, count_ones, take}
use Rattle.live_bits.proofs.bits.count_set.Given as goal

abbrev pub invariant-loop-b : goal.invariant-loop-b
invariant-loop-b l = (l.count ≡ sum_by count_ones (take l.b-index l.bits)) × (l.count ≤ 8 * l.b-index)
