use Rattle.std.proofs.Common.{List, ap, ◌∙◌}
use Rattle.std.specs.List.{list_any}
use Rattle.live_bits.specs.LiveSet.{LiveSet, is_live}
use Rattle.segment_view.specs.LiveSegments.{has_live}
use Rattle.segment_view.proofs.Beside.{live_parts}
use Rattle.segment_view.proofs.segments.Segments.is_live.Goals as goal

pub returns : goal.returns
returns g c =
    c.is_live_in.ensures
    ∙ ap (λ (ls : List LiveSet). list_any (λ (s : LiveSet). is_live s c.args.doc) ls) c.as_slice.ensures.value
    ∙ live_parts c.args.doc c.self.inside.heads.items c.self.inside.lives.items c.self.invariant.same
    ∙ ap (has_live c.args.doc) c.self.view_is
