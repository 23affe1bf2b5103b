use Rattle.std.proofs.Common.{◌≡◌, false, take}
use Rattle.ring_parity.specs.Rings.{all_edges, is_on_any}
use Rattle.ring_parity.proofs.rings.on_any.Given as goal

abbrev pub invariant-loop-ring : goal.invariant-loop-ring
invariant-loop-ring l = is_on_any (all_edges (take l.ring-index l.ring-items)) l.p.c ≡ false
