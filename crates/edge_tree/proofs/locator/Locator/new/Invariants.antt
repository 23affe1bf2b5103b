use Rattle.std.proofs.Common.{◌≡◌, take, vec_capacity}
use Rattle.edge_tree.proofs.locator.Locator.new.Given as goal

abbrev pub invariant-loop-edge : goal.invariant-loop-edge
invariant-loop-edge l = record {
  all : l.listed.items ≡ take l.edge-index l.edges;
  room : vec_capacity l.listed ≡ vec_capacity l.initial.listed;
}
