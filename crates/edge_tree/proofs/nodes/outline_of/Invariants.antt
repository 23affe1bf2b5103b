use Rattle.std.proofs.Common.{map, take}
use Rattle.ring_parity.specs.Seen.{ends_of}
use Rattle.edge_tree.specs.Outlines.{Outlines}
use Rattle.edge_tree.proofs.nodes.outline_of.Given as goal

abbrev pub invariant-loop-i : goal.invariant-loop-i
invariant-loop-i l = Outlines (map ends_of (take l.i l.edges)) l.outline
