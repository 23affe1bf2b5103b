use Rattle.std.proofs.Common.{◌≡◌, List, map, sym, ap, ◌∙◌, subst}
use Rattle.std.proofs.lemmas.List.{take_all}
use Rattle.std.proofs.lemmas.List.Elements.{All-weaker}
use Rattle.ring_parity.specs.Edges.{EdgeEnds}
use Rattle.ring_parity.specs.Rings.{all_edges, AreClosed, IsClosed, IsLinearRing}
use Rattle.ring_parity.specs.Seen.{ends_of}
use Rattle.ring_parity.specs.declared.edges.Edge.{Edge}
use Rattle.ring_parity.proofs.Parity.{AreClosed-all_edges}
use Rattle.edge_tree.specs.Nodes.{HaveSame, all_in, all_held_edges, AreNodes}
use Rattle.edge_tree.proofs.tree.EdgeTree.new.Goals as goal

pub invariant_of-result : goal.invariant_of-result
invariant_of-result c =
    let edges_are : map ends_of c.loop-ring.edges.items ≡ all_edges c.args.r.now =
    c.loop-ring.invariant
    ∙ ap all_edges (take_all c.loop-ring.ring-index c.as_slice-ring-items.result.now c.loop-ring-test.false ∙ c.as_slice-ring-items.ensures.value) in
    let held_are : all_held_edges (map ends_of c.loop-ring.edges.items) c.in_ok-nodes.nodes.items
    ≡ all_in (map ends_of c.loop-ring.edges.items) c.in_ok-runs.runs.items =
    subst (λ (edges : List Edge). all_held_edges (map ends_of edges) c.in_ok-nodes.nodes.items ≡ all_in (map ends_of edges) c.as_slice-4.result.now)
    c.as_slice-3.ensures.value
    c.in_ok-nodes.ensures.whole
    ∙ ap (all_in (map ends_of c.loop-ring.edges.items)) c.as_slice-4.ensures.value in
    let runs_have : HaveSame (all_in (map ends_of c.loop-ring.edges.items) c.in_ok-runs.runs.items) (map ends_of c.loop-ring.edges.items) =
    subst (λ (edges : List Edge). HaveSame (all_in (map ends_of edges) c.in_ok-runs.runs.items) (map ends_of edges)) c.as_slice-2.ensures.value
    c.in_ok-runs.ensures.whole in
    record {
      closed = subst AreClosed (sym edges_are)
          (AreClosed-all_edges c.args.r.now (All-weaker IsLinearRing IsClosed (λ ring h. h.closed) c.args.r.now c.as_slice-ring-items.ensures.polygon.linear));
      each = subst (λ (edges : List Edge). AreNodes (map ends_of edges) c.in_ok-nodes.nodes.items) c.as_slice-3.ensures.value c.in_ok-nodes.ensures.each;
      whole = subst (λ (es : List EdgeEnds). HaveSame es (map ends_of c.loop-ring.edges.items)) (sym held_are) runs_have;
    }
