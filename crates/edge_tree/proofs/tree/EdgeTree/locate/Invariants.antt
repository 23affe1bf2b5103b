use Rattle.std.proofs.Common.{◌≤◌, drop, map, length}
use Rattle.ring_parity.specs.Seen.{ends_of}
use Rattle.edge_tree.specs.Outlines.{IsLocation}
use Rattle.edge_tree.specs.Nodes.{all_held_edges}
use Rattle.edge_tree.proofs.tree.EdgeTree.locate.Given as goal

-- the place beside the edges that the last nodes hold
abbrev pub invariant-loop-at : goal.invariant-loop-at
invariant-loop-at l = record {
  within : l.at ≤ length l.self-inside.nodes.items;
  placed : IsLocation (all_held_edges (map ends_of l.self-inside.edges.items) (drop l.at l.self-inside.nodes.items)) l.p.c l.place.on l.place.odd;
}

abbrev pub decreases-loop-at : goal.decreases-loop-at
decreases-loop-at l = l.at
