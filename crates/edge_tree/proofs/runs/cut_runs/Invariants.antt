use Rattle.std.proofs.Common.{◌≡◌, ◌-◌, ◌≤◌, map, take, length}
use Rattle.std.specs.Prelude.{All}
use Rattle.ring_parity.specs.Seen.{ends_of}
use Rattle.edge_tree.specs.Nodes.{IsRun, all_in}
use Rattle.edge_tree.proofs.runs.cut_runs.Given as goal

abbrev pub invariant-loop-first : goal.invariant-loop-first
invariant-loop-first l = record {
  within : l.first ≤ length l.edges;
  each : All (IsRun (map ends_of l.edges)) l.runs.items;
  whole : all_in (map ends_of l.edges) l.runs.items ≡ take l.first (map ends_of l.edges);
}

abbrev pub decreases-loop-first : goal.decreases-loop-first
decreases-loop-first l = length l.edges - l.first
