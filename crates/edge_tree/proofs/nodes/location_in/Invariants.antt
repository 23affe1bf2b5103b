use Rattle.std.proofs.Common.{map, take}
use Rattle.ring_parity.specs.Seen.{ends_of}
use Rattle.edge_tree.specs.Outlines.{IsLocation}
use Rattle.edge_tree.proofs.nodes.location_in.Given as goal

abbrev pub invariant-loop-edge : goal.invariant-loop-edge
invariant-loop-edge l = IsLocation (map ends_of (take l.edge-index l.edges)) l.p.c l.on l.odd
