use Rattle.std.proofs.Common.{◌+◌, ◌<◌, get_or, length, ap, subst, sym, ◌∙◌, arith}
use Rattle.inner_pack.specs.Bodies.{HasTree}
use Rattle.nearest_query.specs.Segments.{near_leaves, no_head}
use Rattle.nearest_query.specs.Search.{no_live, one_within}
use Rattle.nearest_query.proofs.Touched.{dead_more, dead_passed, counted_dead, counted_live, root_near}
use Rattle.nearest_query.proofs.WaitingNodes.{read_any}
use Rattle.nearest_query.proofs.survey.survey_dead.Goals as goal

pub loop-i-preserved-then-live_count-gt0 : goal.loop-i-preserved-then-live_count-gt0
loop-i-preserved-then-live_count-gt0 g c = λ w roots heads_are lives_are at_is.
    let live = counted_live w c.loop-i.i c.index-lives-i.result c.live_count.result
    (ap (λ ls. get_or ls c.loop-i.i no_live) lives_are
    ∙ read_any c.args.lives.now c.loop-i.i c.index-lives-i.result no_live (subst (λ n. c.loop-i.i < n) (sym c.requires) c.loop-i-test.true) c.index-lives-i.is)
    c.live_count.ensures.value (omega (arith, c.if-live_count-gt0.true)) in
    dead_passed w (one_within w c.args.bound) c.loop-i.i c.args.taken c.loop-i.near live (c.loop-i.invariant w roots heads_are lives_are at_is)

pub loop-i-preserved : goal.loop-i-preserved
loop-i-preserved g c = λ w roots heads_are lives_are at_is.
    let dead = counted_dead w c.loop-i.i c.index-lives-i.result c.live_count.result
    (ap (λ ls. get_or ls c.loop-i.i no_live) lives_are
    ∙ read_any c.args.lives.now c.loop-i.i c.index-lives-i.result no_live (subst (λ n. c.loop-i.i < n) (sym c.requires) c.loop-i-test.true) c.index-lives-i.is)
    c.live_count.ensures.value (omega (arith, c.if-live_count-gt0.false)) in
    let r = roots c.loop-i.i (subst (λ hs. c.loop-i.i < length hs) (sym heads_are) c.loop-i-test.true) in
    let here = c.survey_near.ensures r.root r.tree
    (subst (λ h. HasTree g.row.D h.index r.root r.tree)
    (ap (λ hs. get_or hs c.loop-i.i no_head) heads_are
    ∙ read_any c.args.heads.now c.loop-i.i c.index-heads-i.result no_head c.loop-i-test.true c.index-heads-i.is) r.has) in
    let near = root_near g.row.D w c.args.bound c.loop-i.i r in
    let same = ap (λ a. near_leaves a c.args.bound r.tree) at_is in
    dead_more w (one_within w c.args.bound) c.loop-i.i c.args.taken c.loop-i.near c.in-Some.more dead
    (c.loop-i.invariant w roots heads_are lives_are at_is) (c.in-Some.ensures.1 ∙ ap (λ k. c.loop-i.near + k) (here ∙ sym same ∙ sym near))
