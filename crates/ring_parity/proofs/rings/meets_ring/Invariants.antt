use Rattle.std.proofs.Common.{◌≡◌, false, take}
use Rattle.point_codec.specs.Seen.{coordinates_of, region_of}
use Rattle.ring_parity.specs.Rings.{edges_of, any_meets}
use Rattle.ring_parity.proofs.rings.meets_ring.Given as goal

abbrev pub invariant-loop-i : goal.invariant-loop-i
invariant-loop-i l = any_meets (edges_of (coordinates_of (take l.i l.at))) (region_of l.c) ≡ false
