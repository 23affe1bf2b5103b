use Rattle.std.proofs.Common.{◌≡◌, ◌<◌, [], length, get_or, ap, subst, sym, ◌∙◌, arith}
use Rattle.std.specs.Prelude.{sum_by}
use Rattle.std.proofs.lemmas.List.{nil_from_length}
use Rattle.live_bits.specs.LiveSet.{LiveSet}
use Rattle.inner_pack.specs.Places.{front}
use Rattle.inner_pack.specs.Bodies.{HasTree}
use Rattle.nearest_query.specs.Segments.{no_head}
use Rattle.nearest_query.specs.Fronts.{sum_below}
use Rattle.nearest_query.specs.Search.{live_at, no_live}
use Rattle.nearest_query.proofs.WaitingNodes.{read_any}
use Rattle.nearest_query.proofs.Touched.{counted_dead, counted_live, front_put, live_more, live_passed}
use Rattle.nearest_query.proofs.Roots.{root_adds, root_nodes, root_totals, root_most, passed_totals, passed_most}
use Rattle.nearest_query.proofs.Parts.{parts_put}
use Rattle.nearest_query.proofs.query.push_roots.Goals as goal

pub loop-i-preserved-then-live_count-eq0 : goal.loop-i-preserved-then-live_count-eq0
loop-i-preserved-then-live_count-eq0 g c = record {
  inside = c.loop-i.invariant.inside;
  parts = c.loop-i.invariant.parts;
  nodes = c.loop-i.invariant.nodes;
  totals = λ w roots heads_are lives_are h none.
      let here : (live_at w c.loop-i.i).live ≡ [] =
      ap (λ ls. (get_or ls c.loop-i.i no_live).live) lives_are
      ∙ ap (λ (s : LiveSet). s.live) (read_any c.args.lives.now c.loop-i.i c.index-lives-i.result no_live
      (subst (λ n. c.loop-i.i < n) (sym c.requires.lives) c.loop-i-test.true) c.index-lives-i.is)
      ∙ nil_from_length _ (sym c.live_count.ensures.value ∙ c.if-live_count-eq0.true) in
      passed_totals w c.loop-i.i c.loop-i.frontier.waiting h (λ n. none c.loop-i.i n here) (c.loop-i.invariant.totals w roots heads_are lives_are h none);
  live = λ w roots heads_are lives_are h.
      live_passed w h c.loop-i.i (sum_by (sum_below h) c.loop-i.frontier.waiting)
      (counted_dead w c.loop-i.i c.index-lives-i.result c.live_count.result
      (ap (λ ls. get_or ls c.loop-i.i no_live) lives_are
      ∙ read_any c.args.lives.now c.loop-i.i c.index-lives-i.result no_live
      (subst (λ n. c.loop-i.i < n) (sym c.requires.lives) c.loop-i-test.true) c.index-lives-i.is)
      c.live_count.ensures.value c.if-live_count-eq0.true)
      (c.loop-i.invariant.live w roots heads_are lives_are h);
  most = λ w roots heads_are h. passed_most w c.loop-i.i c.loop-i.frontier.waiting h (c.loop-i.invariant.most w roots heads_are h);
}

pub loop-i-preserved : goal.loop-i-preserved
loop-i-preserved g c = record {
  inside = front_put (length c.args.heads.now) c.args.at.now.c c.loop-i.i c.walk.result 0 c.loop-i.frontier c.push.new.self c.loop-i-test.true
      c.in_ok-push.ensures.put c.loop-i.invariant.inside;
  parts = λ trees have.
      let t = have c.loop-i.i c.loop-i-test.true in
      parts_put c.args.heads.now trees c.args.at.now.c c.loop-i.i c.walk.result c.loop-i.frontier c.push.new.self 0 front t.0 (trees c.loop-i.i)
      c.in_ok-push.ensures.put c.loop-i-test.true
      (c.walk.ensures t.0 (trees c.loop-i.i) (subst (λ h. HasTree g.row.D h t.0 (trees c.loop-i.i)) (sym c.index.ensures.value)
      (subst (λ h. HasTree g.row.D h.index t.0 (trees c.loop-i.i))
      (read_any c.args.heads.now c.loop-i.i c.index-heads-i.result no_head c.loop-i-test.true c.index-heads-i.is) t.1)))
      (λ number at len own h. h)
      (c.loop-i.invariant.parts trees have);
  nodes = λ w roots heads_are at_is.
      root_nodes w c.args.at.now.c c.loop-i.i c.walk.result c.loop-i.frontier c.push.new.self roots at_is
      (subst (λ hs. c.loop-i.i < length hs) (sym heads_are) c.loop-i-test.true)
      (λ root t has. c.walk.ensures root t (subst (λ h. HasTree g.row.D h root t) (sym c.index.ensures.value)
      (subst (λ h. HasTree g.row.D h.index root t)
      (ap (λ hs. get_or hs c.loop-i.i no_head) heads_are
      ∙ read_any c.args.heads.now c.loop-i.i c.index-heads-i.result no_head c.loop-i-test.true c.index-heads-i.is) has)))
      c.in_ok-push.ensures.put (c.loop-i.invariant.nodes w roots heads_are at_is);
  totals = λ w roots heads_are lives_are h none.
      root_totals w c.args.at.now.c c.loop-i.i c.walk.result c.loop-i.frontier c.push.new.self roots
      (subst (λ hs. c.loop-i.i < length hs) (sym heads_are) c.loop-i-test.true)
      (λ root t has. c.walk.ensures root t (subst (λ h. HasTree g.row.D h root t) (sym c.index.ensures.value)
      (subst (λ h. HasTree g.row.D h.index root t)
      (ap (λ hs. get_or hs c.loop-i.i no_head) heads_are
      ∙ read_any c.args.heads.now c.loop-i.i c.index-heads-i.result no_head c.loop-i-test.true c.index-heads-i.is) has)))
      c.in_ok-push.ensures.put h (c.loop-i.invariant.totals w roots heads_are lives_are h none);
  live = λ w roots heads_are lives_are h.
      live_more w h c.loop-i.i (sum_by (sum_below h) c.loop-i.frontier.waiting) (sum_by (sum_below h) c.push.new.self.waiting)
      (counted_live w c.loop-i.i c.index-lives-i.result c.live_count.result
      (ap (λ ls. get_or ls c.loop-i.i no_live) lives_are
      ∙ read_any c.args.lives.now c.loop-i.i c.index-lives-i.result no_live
      (subst (λ n. c.loop-i.i < n) (sym c.requires.lives) c.loop-i-test.true) c.index-lives-i.is)
      c.live_count.ensures.value (omega (arith, c.if-live_count-eq0.false)))
      (c.loop-i.invariant.live w roots heads_are lives_are h)
      (root_adds w c.args.at.now.c c.loop-i.i c.walk.result c.loop-i.frontier c.push.new.self roots
      (subst (λ hs. c.loop-i.i < length hs) (sym heads_are) c.loop-i-test.true)
      (λ root t has. c.walk.ensures root t (subst (λ h. HasTree g.row.D h root t) (sym c.index.ensures.value)
      (subst (λ h. HasTree g.row.D h.index root t)
      (ap (λ hs. get_or hs c.loop-i.i no_head) heads_are
      ∙ read_any c.args.heads.now c.loop-i.i c.index-heads-i.result no_head c.loop-i-test.true c.index-heads-i.is) has)))
      c.in_ok-push.ensures.put h);
  most = λ w roots heads_are h.
      root_most w c.args.at.now.c c.loop-i.i c.walk.result c.loop-i.frontier c.push.new.self roots
      (subst (λ hs. c.loop-i.i < length hs) (sym heads_are) c.loop-i-test.true)
      (λ root t has. c.walk.ensures root t (subst (λ h. HasTree g.row.D h root t) (sym c.index.ensures.value)
      (subst (λ h. HasTree g.row.D h.index root t)
      (ap (λ hs. get_or hs c.loop-i.i no_head) heads_are
      ∙ read_any c.args.heads.now c.loop-i.i c.index-heads-i.result no_head c.loop-i-test.true c.index-heads-i.is) has)))
      c.in_ok-push.ensures.put h (c.loop-i.invariant.most w roots heads_are h);
}
