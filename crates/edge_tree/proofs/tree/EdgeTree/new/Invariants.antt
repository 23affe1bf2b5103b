use Rattle.std.proofs.Common.{◌≡◌, map, take}
use Rattle.ring_parity.specs.Rings.{all_edges}
use Rattle.ring_parity.specs.Seen.{ends_of}
use Rattle.edge_tree.proofs.tree.EdgeTree.new.Given as goal

abbrev pub invariant-loop-ring : goal.invariant-loop-ring
invariant-loop-ring l = map ends_of l.edges.items ≡ all_edges (take l.ring-index l.ring-items)
