-- What is surveyed are the segments of the view.
use Rattle.std.proofs.Common.{◌≡◌, List, ap, subst, ◌∙◌}
use Rattle.nearest_query.specs.Segments.{AreNearLeaves}
use Rattle.script_lang.specs.Seen.{view_name}
use Rattle.segment_view.specs.LiveSegments.{LiveSegment, heads_of}
use Rattle.segment_set.specs.Sets.{parts_at, viewed_parts}
use Rattle.segment_set.proofs.Viewed.{looked_parts}
use Rattle.segment_set.proofs.set.SegmentSet.survey_near.Given as given
use Rattle.segment_set.proofs.set.SegmentSet.survey_near.Goals as goal

parts_are : (g : given.Over) (c : goal.After-survey_near g) → c.segments_of-segments.result.now ≡ viewed_parts (view_name c.args.view.now) c.args.self.now
parts_are g c =
    looked_parts _ _ (view_name c.args.view.now) _ c.self.view_is
    (c.segments_of-segments.ensures ∙ ap (parts_at (view_name c.args.view.now) c.self.inside.segments) c.as_slice.ensures.value)

pub returns : goal.returns
returns g c =
    subst (λ (ps : List LiveSegment). AreNearLeaves g.row.D c.args.at.now.c c.args.bound (heads_of ps) c.survey_near.result) (parts_are g c)
    c.survey_near.ensures
