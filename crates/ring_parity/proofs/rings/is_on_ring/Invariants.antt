use Rattle.std.proofs.Common.{◌≡◌, false, take}
use Rattle.point_codec.specs.Seen.{coordinates_of}
use Rattle.ring_parity.specs.Rings.{edges_of, is_on_any}
use Rattle.ring_parity.proofs.rings.is_on_ring.Given as goal

abbrev pub invariant-loop-i : goal.invariant-loop-i
invariant-loop-i l = is_on_any (edges_of (coordinates_of (take l.i l.at))) l.p.c ≡ false
