use Rattle.std.proofs.Common.{◌++◌, ◌∷◌, [], List, map, take, sym, ap, ◌∙◌}
use Rattle.std.proofs.lemmas.List.{map_push, append_assoc}
use Rattle.point_codec.specs.Seen.{coordinates_of}
use Rattle.ring_parity.specs.Edges.{EdgeEnds}
use Rattle.ring_parity.specs.Rings.{edges_of}
use Rattle.ring_parity.specs.Seen.{ends_of}
use Rattle.ring_parity.proofs.Steps.{edges_more}
use Rattle.edge_tree.proofs.tree.push_edges.Goals as goal

pub loop-i-preserved : goal.loop-i-preserved
loop-i-preserved c =
    ap (map ends_of) c.in_ok-push.ensures.items ∙ map_push ends_of c.loop-i.edges.items (record { a = c.index-at-i.result; b = c.index-at-i-in-loop-i.result })
    ∙ ap (λ (es : List EdgeEnds). es ++ (c.index-at-i.result.c, c.index-at-i-in-loop-i.result.c) ∷ []) c.loop-i.invariant
    ∙ append_assoc (map ends_of c.args.edges.now.items) (edges_of (coordinates_of (take c.loop-i.i c.args.at.now)))
    ((c.index-at-i.result.c, c.index-at-i-in-loop-i.result.c) ∷ [])
    ∙ ap (λ (es : List EdgeEnds). map ends_of c.args.edges.now.items ++ es)
    (sym (edges_more c.args.at.now c.loop-i.i c.index-at-i.result c.index-at-i-in-loop-i.result c.loop-i.auto.i c.loop-i-test.true c.index-at-i.is
    c.index-at-i-in-loop-i.is))
