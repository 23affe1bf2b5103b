-- What a tree of edges keeps.
use Rattle.std.specs.Prelude.{List}
use Rattle.ring_parity.specs.Edges.{EdgeEnds}
use Rattle.ring_parity.specs.Rings.{AreClosed}
use Rattle.edge_tree.specs.declared.nodes.Node.{Node}
use Rattle.edge_tree.specs.Nodes.{HaveSame, all_held_edges, AreNodes}

-- the edges close up, and the nodes hold each of them once
pub record IsEdgeTree (edges : List EdgeEnds) (nodes : List Node) : Type 0 where
  pub closed : AreClosed edges
  pub each : AreNodes edges nodes
  pub whole : HaveSame (all_held_edges edges nodes) edges
