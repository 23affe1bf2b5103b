use Rattle.std.proofs.Common.{◌≡◌, ◌≤◌, false, drop, map, length}
use Rattle.point_codec.specs.Seen.{region_of}
use Rattle.ring_parity.specs.Rings.{any_meets}
use Rattle.ring_parity.specs.Seen.{ends_of}
use Rattle.edge_tree.specs.Nodes.{all_held_edges}
use Rattle.edge_tree.proofs.tree.EdgeTree.any_meets.Given as goal

-- no edge that the last nodes hold meets the cell
abbrev pub invariant-loop-at : goal.invariant-loop-at
invariant-loop-at l = record {
  within : l.at ≤ length l.self-inside.nodes.items;
  missed : any_meets (all_held_edges (map ends_of l.self-inside.edges.items) (drop l.at l.self-inside.nodes.items)) (region_of l.c) ≡ false;
}

abbrev pub decreases-loop-at : goal.decreases-loop-at
decreases-loop-at l = l.at
