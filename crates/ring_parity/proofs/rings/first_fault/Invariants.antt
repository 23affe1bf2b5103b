use Rattle.std.proofs.Common.{◌≤◌, ◌*◌, take, length}
use Rattle.std.specs.Prelude.{All, sum_by}
use Rattle.ring_parity.specs.Rings.{IsLinearRing}
use Rattle.ring_parity.proofs.rings.first_fault.Given as goal

-- each ring that was passed is linear, so that it has four positions of those in all
abbrev pub invariant-loop-index : goal.invariant-loop-index
invariant-loop-index l = record { before : All IsLinearRing (take l.index l.list); many : 4 * l.index ≤ sum_by length (take l.index l.list) }
