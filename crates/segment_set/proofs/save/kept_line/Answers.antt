-- The first line of the last commit that is the segment's still.
use Rattle.std.proofs.Common.{subst}
use Rattle.std.specs.List.{All}
use Rattle.std.proofs.lemmas.Bool.{both_ways}
use Rattle.std.proofs.lemmas.List.{take_all}
use Rattle.std.proofs.lemmas.List.Elements.{All-contains, All-contains_itself, All-more}
use Rattle.commit_list.specs.declared.listed.Listed.{Listed}
use Rattle.segment_view.specs.LiveSegments.{live_segment}
use Rattle.segment_set.specs.Saved.{IsLineOf}
use Rattle.segment_set.proofs.save.kept_line.Goals as goal

pub returns-then-is_line_of-clause-some : goal.returns-then-is_line_of-clause-some
returns-then-is_line_of-clause-some g c =
    (All-contains_itself c.args.last.now c.loop-line.line-index _ c.loop-line-test.true, c.is_line_of.ensures.0 c.if-is_line_of.true)

pub loop-line-preserved : goal.loop-line-preserved
loop-line-preserved g c =
    All-more (λ (m : Listed). IsLineOf c.args.names.now m (live_segment c.args.head.now c.args.live.now) → ⊥) c.args.last.now c.loop-line.line-index _
    c.loop-line-test.true c.loop-line.invariant
    (λ is. both_ways c.is_line_of.result c.if-is_line_of.false (c.is_line_of.ensures.1 is))

pub returns-clause-none : goal.returns-clause-none
returns-clause-none g c = λ l inside is.
    All-contains (λ (m : Listed). IsLineOf c.args.names.now m (live_segment c.args.head.now c.args.live.now) → ⊥) c.args.last.now l
    (subst (All (λ (m : Listed). IsLineOf c.args.names.now m (live_segment c.args.head.now c.args.live.now) → ⊥))
    (take_all c.loop-line.line-index c.args.last.now c.loop-line-test.false) c.loop-line.invariant)
    inside is
