use Rattle.std.proofs.Common.{ap, sym, length, ◌∙◌}
use Rattle.segment_view.proofs.Beside.{length_parts}
use Rattle.segment_view.proofs.segments.Segments.len.Goals as goal

pub returns-clause-value : goal.returns-clause-value
returns-clause-value g c =
    c.len.ensures ∙ c.self.inside.heads.ok.0 ∙ sym (length_parts c.self.inside.heads.items c.self.inside.lives.items c.self.invariant.same)
    ∙ ap length c.self.view_is
