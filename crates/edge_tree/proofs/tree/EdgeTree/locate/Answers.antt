use Rattle.std.proofs.Common.{◌≡◌, ◌-◌, ℕ, List, map, take, drop, sym, ap, ◌∙◌, subst, arith}
use Rattle.ring_parity.specs.Edges.{EdgeEnds}
use Rattle.ring_parity.specs.Seen.{ends_of}
use Rattle.ring_parity.specs.declared.edges.Edge.{Edge}
use Rattle.edge_tree.specs.Outlines.{IsLocation}
use Rattle.edge_tree.specs.Nodes.{held_edges, all_held_edges}
use Rattle.edge_tree.proofs.Parts.{run_seen}
use Rattle.edge_tree.proofs.Same.{same_on, same_odd}
use Rattle.edge_tree.proofs.Walk.{below, outlined_at, taken, entered, before_within}
use Rattle.edge_tree.proofs.tree.EdgeTree.locate.Goals as goal

pub loop-at-preserved-in-Some : goal.loop-at-preserved-in-Some
loop-at-preserved-in-Some c = record {
  within = omega (
    arith,
    c.loop-at.invariant.within,
    before_within (map ends_of c.self.inside.edges.items) c.self.inside.nodes.items c.loop-at.at c.index-node.result.now c.self.invariant.each
        c.loop-at-test.true c.loop-at.invariant.within c.index-node.ensures,
  );
  placed = subst (λ (es : List EdgeEnds). IsLocation es c.args.p.now.c c.join-place.result.on c.join-place.result.odd)
      (sym (taken (map ends_of c.self.inside.edges.items) c.self.inside.nodes.items c.loop-at.at c.index-node.result.now c.self.invariant.each
      c.loop-at-test.true c.loop-at.invariant.within c.index-node.ensures))
      (c.join-place.ensures (below (map ends_of c.self.inside.edges.items) c.self.inside.nodes.items c.loop-at.at c.index-node.result.now)
      (all_held_edges (map ends_of c.self.inside.edges.items) (drop c.loop-at.at c.self.inside.nodes.items)) c.args.p.now.c
      (c.in-Some.ensures (below (map ends_of c.self.inside.edges.items) c.self.inside.nodes.items c.loop-at.at c.index-node.result.now)
      (outlined_at (map ends_of c.self.inside.edges.items) c.self.inside.nodes.items c.loop-at.at c.index-node.result.now c.self.invariant.each
      c.loop-at-test.true c.loop-at.invariant.within c.index-node.ensures))
      c.loop-at.invariant.placed);
}

pub loop-at-preserved : goal.loop-at-preserved
loop-at-preserved c = record {
  within = omega (arith, c.loop-at.invariant.within);
  placed =
      let seen : held_edges (map ends_of c.self.inside.edges.items) c.index-node.result.now
      ≡ map ends_of (take (c.index-node.result.now.end - c.index-node.result.now.first) (drop c.index-node.result.now.first c.deref.result.now)) =
      run_seen c.self.inside.edges.items c.index-node.result.now.first c.index-node.result.now.end
      ∙ ap (λ (edges : List Edge). map ends_of (take (c.index-node.result.now.end - c.index-node.result.now.first) (drop c.index-node.result.now.first edges)))
      (sym c.deref.ensures.value) in
      subst (λ (es : List EdgeEnds). IsLocation es c.args.p.now.c c.join-place-in-None.result.on c.join-place-in-None.result.odd)
      (sym (entered (map ends_of c.self.inside.edges.items) c.self.inside.nodes.items c.loop-at.at c.index-node.result.now c.loop-at-test.true
      c.loop-at.invariant.within c.index-node.ensures))
      (c.join-place-in-None.ensures (held_edges (map ends_of c.self.inside.edges.items) c.index-node.result.now)
      (all_held_edges (map ends_of c.self.inside.edges.items) (drop c.loop-at.at c.self.inside.nodes.items)) c.args.p.now.c
      (subst (λ (es : List EdgeEnds). IsLocation es c.args.p.now.c c.location_in.result.on c.location_in.result.odd) (sym seen) c.location_in.ensures)
      c.loop-at.invariant.placed);
}

pub returns : goal.returns
returns c =
    let first : c.loop-at.at ≡ 0 = omega arith in
    let placed : IsLocation (all_held_edges (map ends_of c.self.inside.edges.items) c.self.inside.nodes.items) c.args.p.now.c c.loop-at.place.on
    c.loop-at.place.odd =
    subst (λ (k : ℕ).
    IsLocation (all_held_edges (map ends_of c.self.inside.edges.items) (drop k c.self.inside.nodes.items)) c.args.p.now.c c.loop-at.place.on
    c.loop-at.place.odd)
    first c.loop-at.invariant.placed in
    subst (λ (es : List EdgeEnds). IsLocation es c.args.p.now.c c.loop-at.place.on c.loop-at.place.odd) c.self.view_is (record {
      on_is =
          sym (same_on (all_held_edges (map ends_of c.self.inside.edges.items) c.self.inside.nodes.items) (map ends_of c.self.inside.edges.items) c.args.p.now.c
          c.self.invariant.whole) ∙ placed.on_is;
      odd_is = sym (same_odd (all_held_edges (map ends_of c.self.inside.edges.items) c.self.inside.nodes.items) (map ends_of c.self.inside.edges.items)
          c.args.p.now.c
          c.self.invariant.whole) ∙ placed.odd_is;
    })
