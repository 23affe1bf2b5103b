use Rattle.std.proofs.Common.{map, take, ◌∷◌, []}
use Rattle.ring_parity.specs.Seen.{ends_of}
use Rattle.edge_tree.proofs.Parts.{outlines_more}
use Rattle.edge_tree.proofs.nodes.outline_of.Goals as goal

pub loop-i-preserved : goal.loop-i-preserved
loop-i-preserved c =
    outlines_more c.args.edges.now c.loop-i.i c.index-edges-i.result c.join-outline.result c.loop-i-test.true c.index-edges-i.is
    (c.join-outline.ensures (map ends_of (take c.loop-i.i c.args.edges.now)) (ends_of c.index-edges-i.result ∷ []) c.loop-i.invariant c.of.ensures)
