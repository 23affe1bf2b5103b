-- What is surveyed are the segments of the view.
use Rattle.std.proofs.Common.{◌≡◌, ◌+◌, ◌*◌, ◌≤◌, List, ap, subst, ◌∙◌}
use Rattle.script_lang.specs.Seen.{view_name}
use Rattle.segment_view.specs.LiveSegments.{LiveSegment, heads_of}
use Rattle.segment_view.specs.Costs.{AreTested, AreTouched, leaves_in}
use Rattle.segment_set.specs.Sets.{parts_at, viewed_parts}
use Rattle.segment_set.proofs.Viewed.{looked_parts}
use Rattle.segment_set.proofs.set.SegmentSet.survey.Given as given
use Rattle.segment_set.proofs.set.SegmentSet.survey.Goals as goal

parts_are : (g : given.Over) (c : goal.After-survey g) → c.segments_of-segments.result.now ≡ viewed_parts (view_name c.args.view.now) c.args.self.now
parts_are g c =
    looked_parts _ _ (view_name c.args.view.now) _ c.self.view_is
    (c.segments_of-segments.ensures ∙ ap (parts_at (view_name c.args.view.now) c.self.inside.segments) c.as_slice.ensures.value)

pub returns-clause-tested : goal.returns-clause-tested
returns-clause-tested g c =
    subst (λ (ps : List LiveSegment). AreTested g.row.D (g.S.Shape.crosses c.args.shape.now) (heads_of ps) c.survey.result.tested) (parts_are g c)
    c.survey.ensures.tested

pub returns-clause-touched : goal.returns-clause-touched
returns-clause-touched g c =
    subst (λ (ps : List LiveSegment).
    AreTouched g.row.D (g.S.Shape.has c.args.shape.now) (g.S.Shape.crosses c.args.shape.now) (heads_of ps) c.survey.result.touched)
    (parts_are g c) c.survey.ensures.touched

pub returns-clause-leaves : goal.returns-clause-leaves
returns-clause-leaves g c = c.survey.ensures.leaves ∙ ap (λ (ps : List LiveSegment). leaves_in (heads_of ps)) (parts_are g c)

pub returns-clause-compares : goal.returns-clause-compares
returns-clause-compares g c =
    subst (λ (ps : List LiveSegment). g.S.Shape.compares c.survey.new.shape ≤ g.S.Shape.compares c.args.shape.now + 2 * leaves_in (heads_of ps)) (parts_are g c)
    c.survey.ensures.compares
