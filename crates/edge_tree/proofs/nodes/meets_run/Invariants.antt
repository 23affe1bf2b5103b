use Rattle.std.proofs.Common.{◌≡◌, false, map, take}
use Rattle.point_codec.specs.Seen.{region_of}
use Rattle.ring_parity.specs.Rings.{any_meets}
use Rattle.ring_parity.specs.Seen.{ends_of}
use Rattle.edge_tree.proofs.nodes.meets_run.Given as goal

abbrev pub invariant-loop-edge : goal.invariant-loop-edge
invariant-loop-edge l = any_meets (map ends_of (take l.edge-index l.edges)) (region_of l.c) ≡ false
