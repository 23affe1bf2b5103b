-- What the nodes of a tree tell of a list of edges.
use Rattle.std.specs.Prelude.{◌≡◌, ℕ, suc, ◌<◌, ◌≤◌, Bool, List, length, take, drop, slice_index_or, slice_range}
use Rattle.std.specs.Prelude.{flat_map, count_by}
use Rattle.ring_parity.specs.Edges.{EdgeEnds}
use Rattle.edge_tree.specs.declared.runs.Run.{Run}
use Rattle.edge_tree.specs.declared.nodes.Node.{Node}
use Rattle.edge_tree.specs.Outlines.{Outlines}

-- each edge stands equally often in both lists
unfoldable pub HaveSame : List EdgeEnds → List EdgeEnds → Type 0
HaveSame xs ys = (test : EdgeEnds → Bool) → count_by test xs ≡ count_by test ys

-- some of the edges, one after the other
pub record IsRun (edges : List EdgeEnds) (r : Run) : Type 0 where
  pub some : r.first < r.end
  pub there : r.end ≤ length edges

abbrev pub run_in : List EdgeEnds → Run → List EdgeEnds
run_in edges r = slice_range edges r.first r.end

-- the edges of these runs
abbrev pub all_in : List EdgeEnds → List Run → List EdgeEnds
all_in edges runs = flat_map (run_in edges) runs

-- the edges that a node holds itself, and those that these nodes hold
abbrev pub held_edges : List EdgeEnds → Node → List EdgeEnds
held_edges edges n = slice_range edges n.first n.end

abbrev pub all_held_edges : List EdgeEnds → List Node → List EdgeEnds
all_held_edges edges nodes = flat_map (held_edges edges) nodes

-- the node of a leaf, which holds these edges and outlines them
pub record HoldsRun (edges run : List EdgeEnds) (n : Node) : Type 0 where
  pub ordered : n.first ≤ n.end
  pub there : n.end ≤ length edges
  pub held : held_edges edges n ≡ run
  pub outlined : Outlines run n.outline

-- a node and its place among the nodes: it outlines what its subtree holds, which ends with it and begins after the
-- first nodes
pub record IsEdgeNode (edges : List EdgeEnds) (nodes : List Node) (place : ℕ) (n : Node) : Type 0 where
  pub ordered : n.first ≤ n.end
  pub there : n.end ≤ length edges
  pub after : n.before ≤ place
  pub outlined : Outlines (all_held_edges edges (drop n.before (take (suc place) nodes))) n.outline

abbrev pub AreNodes : List EdgeEnds → List Node → Type 0
AreNodes edges nodes = (place : ℕ) (d : Node) → place < length nodes
    → IsEdgeNode edges nodes place (slice_index_or nodes place d)
