use Rattle.std.proofs.Common.{ap, sym, ◌∙◌}
use Rattle.segment_view.specs.LiveSegments.{lives_of}
use Rattle.segment_view.proofs.Beside.{lives_parts}
use Rattle.segment_view.proofs.segments.Segments.lives.Goals as goal

pub returns : goal.returns
returns g c =
    c.as_slice.ensures.value ∙ sym (lives_parts c.self.inside.heads.items c.self.inside.lives.items c.self.invariant.same) ∙ ap lives_of c.self.view_is
