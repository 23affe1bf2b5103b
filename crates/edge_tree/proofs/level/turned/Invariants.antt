use Rattle.std.proofs.Common.{map, take}
use Rattle.ring_parity.specs.Seen.{ends_of}
use Rattle.edge_tree.specs.Levels.{IsTurned}
use Rattle.edge_tree.proofs.level.turned.Given as goal

abbrev pub invariant-loop-edge : goal.invariant-loop-edge
invariant-loop-edge l = IsTurned (map ends_of (take l.edge-index l.edges)) l.from.c l.q.c l.on l.odd
