use Rattle.std.proofs.Common.{◌≡◌, take}
use Rattle.point_codec.specs.Seen.{coordinates_of}
use Rattle.ring_parity.specs.Rings.{edges_of, is_odd}
use Rattle.ring_parity.proofs.rings.is_odd_ring.Given as goal

abbrev pub invariant-loop-i : goal.invariant-loop-i
invariant-loop-i l = l.odd ≡ is_odd (edges_of (coordinates_of (take l.i l.at))) l.p.c
