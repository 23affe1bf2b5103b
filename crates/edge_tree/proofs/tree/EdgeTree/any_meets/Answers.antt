use Rattle.std.proofs.Common.{◌≡◌, ◌-◌, false, true, ℕ, ℤ, List, map, take, drop, sym, ap, ◌∙◌, subst, arith}
use Rattle.point_codec.specs.Points.{in_box}
use Rattle.point_codec.specs.Seen.{region_of}
use Rattle.ring_parity.specs.Edges.{EdgeEnds}
use Rattle.ring_parity.specs.Rings.{any_meets, is_within}
use Rattle.ring_parity.specs.Seen.{ends_of}
use Rattle.ring_parity.specs.declared.edges.Edge.{Edge}
use Rattle.ring_parity.proofs.OneAnswer.{one_answer}
use Rattle.edge_tree.specs.Nodes.{held_edges, all_held_edges}
use Rattle.edge_tree.proofs.Boxes.{missed_apart}
use Rattle.edge_tree.proofs.Parts.{run_seen}
use Rattle.edge_tree.proofs.Same.{same_meets}
use Rattle.edge_tree.proofs.Walk.{below, outlined_at, taken, entered, before_within, missed_more, met_in}
use Rattle.edge_tree.proofs.tree.EdgeTree.any_meets.Goals as goal

pub loop-at-preserved-then-is_apart : goal.loop-at-preserved-then-is_apart
loop-at-preserved-then-is_apart c = record {
  within = omega (
    arith,
    c.loop-at.invariant.within,
    before_within (map ends_of c.self.inside.edges.items) c.self.inside.nodes.items c.loop-at.at c.index-node.result.now c.self.invariant.each
        c.loop-at-test.true c.loop-at.invariant.within c.index-node.ensures,
  );
  missed =
      missed_more (below (map ends_of c.self.inside.edges.items) c.self.inside.nodes.items c.loop-at.at c.index-node.result.now)
      (all_held_edges (map ends_of c.self.inside.edges.items) (drop c.loop-at.at c.self.inside.nodes.items))
      (all_held_edges (map ends_of c.self.inside.edges.items) (drop c.index-node.result.now.before c.self.inside.nodes.items)) (region_of c.args.c.now)
      (taken (map ends_of c.self.inside.edges.items) c.self.inside.nodes.items c.loop-at.at c.index-node.result.now c.self.invariant.each c.loop-at-test.true
      c.loop-at.invariant.within c.index-node.ensures)
      (missed_apart c.index-node.result.now.outline.bounds
      (below (map ends_of c.self.inside.edges.items) c.self.inside.nodes.items c.loop-at.at c.index-node.result.now) (region_of c.args.c.now)
      (outlined_at (map ends_of c.self.inside.edges.items) c.self.inside.nodes.items c.loop-at.at c.index-node.result.now c.self.invariant.each
      c.loop-at-test.true c.loop-at.invariant.within c.index-node.ensures).boxed (sym c.is_apart.ensures ∙ c.if-is_apart.true))
      c.loop-at.invariant.missed;
}

pub returns-then-meets_run-clause-told : goal.returns-then-meets_run-clause-told
returns-then-meets_run-clause-told c =
    let seen : held_edges (map ends_of c.self.inside.edges.items) c.index-node.result.now
    ≡ map ends_of (take (c.index-node.result.now.end - c.index-node.result.now.first) (drop c.index-node.result.now.first c.deref.result.now)) =
    run_seen c.self.inside.edges.items c.index-node.result.now.first c.index-node.result.now.end
    ∙ ap (λ (edges : List Edge). map ends_of (take (c.index-node.result.now.end - c.index-node.result.now.first) (drop c.index-node.result.now.first edges)))
    (sym c.deref.ensures.value) in
    sym (met_in (map ends_of c.self.inside.edges.items) c.self.inside.nodes.items c.loop-at.at c.index-node.result.now (region_of c.args.c.now)
    c.loop-at-test.true c.loop-at.invariant.within c.index-node.ensures
    (ap (λ run. any_meets run (region_of c.args.c.now)) seen ∙ sym c.meets_run.ensures ∙ c.if-meets_run.true))
    ∙ same_meets (all_held_edges (map ends_of c.self.inside.edges.items) c.self.inside.nodes.items) (map ends_of c.self.inside.edges.items)
    (region_of c.args.c.now)
    c.self.invariant.whole
    ∙ ap (λ edges. any_meets edges (region_of c.args.c.now)) c.self.view_is

pub loop-at-preserved : goal.loop-at-preserved
loop-at-preserved c = record {
  within = omega (arith, c.loop-at.invariant.within);
  missed =
      let seen : held_edges (map ends_of c.self.inside.edges.items) c.index-node.result.now
      ≡ map ends_of (take (c.index-node.result.now.end - c.index-node.result.now.first) (drop c.index-node.result.now.first c.deref.result.now)) =
      run_seen c.self.inside.edges.items c.index-node.result.now.first c.index-node.result.now.end
      ∙ ap (λ (edges : List Edge). map ends_of (take (c.index-node.result.now.end - c.index-node.result.now.first) (drop c.index-node.result.now.first edges)))
      (sym c.deref.ensures.value) in
      missed_more (held_edges (map ends_of c.self.inside.edges.items) c.index-node.result.now)
      (all_held_edges (map ends_of c.self.inside.edges.items) (drop c.loop-at.at c.self.inside.nodes.items))
      (all_held_edges (map ends_of c.self.inside.edges.items) (drop (c.loop-at.at - 1) c.self.inside.nodes.items)) (region_of c.args.c.now)
      (entered (map ends_of c.self.inside.edges.items) c.self.inside.nodes.items c.loop-at.at c.index-node.result.now c.loop-at-test.true
      c.loop-at.invariant.within c.index-node.ensures)
      (ap (λ run. any_meets run (region_of c.args.c.now)) seen ∙ sym c.meets_run.ensures ∙ c.if-meets_run.false)
      c.loop-at.invariant.missed;
}

pub returns-clause-told : goal.returns-clause-told
returns-clause-told c =
    let first : c.loop-at.at ≡ 0 = omega arith in
    let none : any_meets (all_held_edges (map ends_of c.self.inside.edges.items) c.self.inside.nodes.items) (region_of c.args.c.now) ≡ false =
    ap (λ (k : ℕ). any_meets (all_held_edges (map ends_of c.self.inside.edges.items) (drop k c.self.inside.nodes.items)) (region_of c.args.c.now)) (sym first)
    ∙ c.loop-at.invariant.missed in
    sym none ∙ same_meets (all_held_edges (map ends_of c.self.inside.edges.items) c.self.inside.nodes.items) (map ends_of c.self.inside.edges.items)
    (region_of c.args.c.now) c.self.invariant.whole ∙ ap (λ edges. any_meets edges (region_of c.args.c.now)) c.self.view_is

pub returns-clause-one_answer : goal.returns-clause-one_answer
returns-clause-one_answer c =
    let first : c.loop-at.at ≡ 0 = omega arith in
    let none : any_meets (map ends_of c.self.inside.edges.items) (region_of c.args.c.now) ≡ false =
    sym (same_meets (all_held_edges (map ends_of c.self.inside.edges.items) c.self.inside.nodes.items) (map ends_of c.self.inside.edges.items)
    (region_of c.args.c.now) c.self.invariant.whole)
    ∙ ap (λ (k : ℕ). any_meets (all_held_edges (map ends_of c.self.inside.edges.items) (drop k c.self.inside.nodes.items)) (region_of c.args.c.now)) (sym first)
    ∙ c.loop-at.invariant.missed in
    λ _. subst
    (λ (edges : List EdgeEnds).
    (p q : List ℤ) → in_box (region_of c.args.c.now) p ≡ true → in_box (region_of c.args.c.now) q ≡ true → is_within edges p ≡ is_within edges q)
    c.self.view_is (one_answer (map ends_of c.self.inside.edges.items) (region_of c.args.c.now) c.self.invariant.closed none)
