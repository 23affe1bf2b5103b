use Rattle.std.proofs.Common.{◌+◌, ◌∙◌, List, [], ◌∷◌, sym, subst, take, ℕ, arith}
use Rattle.inner_pack.specs.Trees.{IndexTree}
use Rattle.segment_file.specs.Heads.{Head, count_of}
use Rattle.bkd_reader.specs.Counts.{tested_entries, touched_leaves}
use Rattle.segment_view.specs.LiveSegments.{live_segment, heads_of}
use Rattle.segment_view.specs.Costs.{AreCounted, AreTested, AreTouched}
use Rattle.segment_view.proofs.Counting.{counted_push}
use Rattle.segment_view.proofs.Stepwise.{heads_more, leaves_more}
use Rattle.segment_view.proofs.surveys.survey.Goals as goal

pub loop-i-preserved : goal.loop-i-preserved
loop-i-preserved g c =
    let was = c.loop-i.invariant in
    let one = c.survey_one-one.ensures in
    let parts = c.args.segments.now in
    let p = live_segment c.part.result.0.now c.part.result.1.now in
    let is = c.part.ensures in
    let has = g.S.Shape.has c.args.shape.now in
    let crosses = g.S.Shape.crosses c.args.shape.now in
    let of_tested : Head → IndexTree → ℕ = λ h t. tested_entries crosses (count_of h) 0 t in
    let of_touched : Head → IndexTree → ℕ = λ h t. touched_leaves has crosses t in
    let leaves = leaves_more parts c.loop-i.i p is in
    record {
      tested = subst (λ (hs : List Head). AreCounted g.row.D of_tested hs (c.loop-i.all.tested + c.survey_one-one.result.tested))
          (sym (heads_more parts c.loop-i.i p is))
          (counted_push g.row.D of_tested (heads_of (take c.loop-i.i parts)) p.head c.loop-i.all.tested c.survey_one-one.result.tested was.tested
          (subst (λ f. AreTested g.row.D f (p.head ∷ []) c.survey_one-one.result.tested) was.crosses one.tested));
      touched = subst (λ (hs : List Head). AreCounted g.row.D of_touched hs (c.loop-i.all.touched + c.survey_one-one.result.touched))
          (sym (heads_more parts c.loop-i.i p is))
          (counted_push g.row.D of_touched (heads_of (take c.loop-i.i parts)) p.head c.loop-i.all.touched c.survey_one-one.result.touched was.touched
          (subst (λ f. AreTouched g.row.D has f (p.head ∷ []) c.survey_one-one.result.touched) was.crosses
          (subst (λ k. AreTouched g.row.D k (g.S.Shape.crosses c.loop-i.shape) (p.head ∷ []) c.survey_one-one.result.touched) was.has one.touched)));
      leaves = let a = was.leaves in let b = one.leaves in omega (arith, a, b, leaves);
      few_tested = let a = was.few_tested in let b = one.few_tested in omega (arith, a, b);
      few_touched = let a = was.few_touched in let b = one.few_touched in omega (arith, a, b);
      few_leaves = let a = was.few_leaves in let b = one.few_leaves in omega (arith, a, b);
      tests = one.tests ∙ was.tests;
      compares = let a = was.compares in let b = one.compares in omega (arith, a, b, leaves);
      has = one.has ∙ was.has;
      crosses = one.crosses ∙ was.crosses;
    }
