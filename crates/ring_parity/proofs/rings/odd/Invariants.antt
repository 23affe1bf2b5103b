use Rattle.std.proofs.Common.{◌≡◌, take}
use Rattle.ring_parity.specs.Rings.{all_edges, is_odd}
use Rattle.ring_parity.proofs.rings.odd.Given as goal

abbrev pub invariant-loop-ring : goal.invariant-loop-ring
invariant-loop-ring l = l.odd ≡ is_odd (all_edges (take l.ring-index l.ring-items)) l.p.c
