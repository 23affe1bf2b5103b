use Rattle.std.proofs.Common.{◌≡◌, List, length, map, ap, ◌∙◌, arith}
use Rattle.ring_parity.specs.Edges.{EdgeEnds}
use Rattle.ring_parity.specs.Rings.{is_within}
use Rattle.ring_parity.specs.Seen.{ends_of}
use Rattle.edge_tree.specs.Nodes.{all_held_edges}
use Rattle.edge_tree.proofs.Whole.{holds_within, outlines_all}
use Rattle.edge_tree.proofs.tree.EdgeTree.bounds.Goals as goal

pub returns : goal.returns
returns c p has =
    let edges : List EdgeEnds = map ends_of c.self.inside.edges.items in
    let nodes = c.self.inside.nodes.items in
    let last = c.index-last.result.now in
    let long : c.len-at.result ≡ length nodes = c.len-at.ensures ∙ c.self.inside.nodes.ok.0 in
    let boxed = outlines_all edges nodes c.len-at.result last c.self.invariant.each (omega (arith, c.if-at-eq0.false)) long c.index-last.ensures
    (omega (arith, c.if-last-gt0.false)) in
    holds_within last.outline.bounds (all_held_edges edges nodes) edges p boxed c.self.invariant.whole c.self.invariant.closed
    (ap (λ (es : List EdgeEnds). is_within es p) c.self.view_is ∙ has)
