use Rattle.std.proofs.Common.{sym, ◌∙◌}
use Rattle.point_codec.specs.Seen.{region_of}
use Rattle.edge_tree.proofs.Parts.{met}
use Rattle.edge_tree.proofs.nodes.meets_run.Goals as goal

pub returns-then-not-misses : goal.returns-then-not-misses
returns-then-not-misses c =
    sym (met c.args.edges.now c.loop-edge.edge-index c.edge-item.result (region_of c.args.c.now) c.loop-edge-test.true c.edge-item.is
    (sym c.misses.ensures ∙ c.if-not-misses.true))
