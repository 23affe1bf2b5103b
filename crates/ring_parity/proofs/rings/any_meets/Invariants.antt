use Rattle.std.proofs.Common.{◌≡◌, false, take}
use Rattle.point_codec.specs.Seen.{region_of}
use Rattle.ring_parity.specs.Rings.{all_edges, any_meets}
use Rattle.ring_parity.proofs.rings.any_meets.Given as goal

abbrev pub invariant-loop-ring : goal.invariant-loop-ring
invariant-loop-ring l = any_meets (all_edges (take l.ring-index l.ring-items)) (region_of l.c) ≡ false
