use Rattle.std.proofs.Common.{List, ap, sym, subst, ◌∙◌}
use Rattle.std.specs.List.Sorted.{IsStrictlyIncreasing}
use Rattle.segment_view.specs.LiveSegments.{LiveSegment, heads_of, ids_of}
use Rattle.segment_view.proofs.Beside.{heads_parts, ids_in_step}
use Rattle.segment_view.proofs.segments.Segments.heads.Goals as goal

pub returns-clause-value : goal.returns-clause-value
returns-clause-value g c =
    c.as_slice.ensures.value ∙ sym (heads_parts c.self.inside.heads.items c.self.inside.lives.items c.self.invariant.same) ∙ ap heads_of c.self.view_is

pub returns-clause-ascend : goal.returns-clause-ascend
returns-clause-ascend g c =
    subst (λ (ps : List LiveSegment). IsStrictlyIncreasing (ids_of ps)) c.self.view_is
    (ids_in_step g.row.D c.self.inside.heads.items c.self.inside.lives.items c.self.invariant)
