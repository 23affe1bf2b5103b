use Rattle.std.proofs.Common.{◌≡◌, ◌-◌, ◌^◌, take, length}
use Rattle.std.specs.Prelude.{min, sum_by}
use Rattle.ring_parity.proofs.rings.count_positions.Given as goal

abbrev pub invariant-loop-ring : goal.invariant-loop-ring
invariant-loop-ring l = l.positions ≡ min (sum_by length (take l.ring-index l.list)) (2 ^ 64 - 1)
