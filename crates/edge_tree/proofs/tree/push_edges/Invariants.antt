use Rattle.std.proofs.Common.{◌≡◌, ◌++◌, map, take}
use Rattle.point_codec.specs.Seen.{coordinates_of}
use Rattle.ring_parity.specs.Rings.{edges_of}
use Rattle.ring_parity.specs.Seen.{ends_of}
use Rattle.edge_tree.proofs.tree.push_edges.Given as goal

abbrev pub invariant-loop-i : goal.invariant-loop-i
invariant-loop-i l = map ends_of l.edges.items ≡ map ends_of l.initial.edges.items ++ edges_of (coordinates_of (take l.i l.at))
