use Rattle.std.proofs.Common.{◌≡◌, ◌+◌, ◌∙◌, ◌++◌, List, [], ◌∷◌, ap, sym, subst, take, arith}
use Rattle.std.proofs.lemmas.List.{take_more}
use Rattle.segment_file.specs.Heads.{Head}
use Rattle.nearest_query.specs.Segments.{AreNearLeaves}
use Rattle.segment_view.proofs.Counting.{near_push}
use Rattle.segment_view.proofs.surveys.survey_near.Goals as goal

pub loop-head-preserved : goal.loop-head-preserved
loop-head-preserved g c =
    let heads = c.heads-head-items.result.now in
    let i = c.loop-head.head-index in
    let head = c.head-item.result in
    let more : take (i + 1) heads ≡ take i heads ++ head ∷ [] =
    take_more heads i head c.loop-head-test.true ∙ ap (λ h. take i heads ++ h ∷ []) (sym c.head-item.is) in
    record {
      near = subst (λ (hs : List Head). AreNearLeaves g.row.D c.args.at.now.c c.args.bound hs (c.loop-head.near + c.near_one-near.result)) (sym more)
          (near_push g.row.D c.args.at.now.c c.args.bound (take i heads) head c.loop-head.near c.near_one-near.result c.loop-head.invariant.near
          c.near_one-near.ensures.value);
      few = let a = c.loop-head.invariant.few in let b = c.near_one-near.ensures.few in omega (arith, a, b);
    }
