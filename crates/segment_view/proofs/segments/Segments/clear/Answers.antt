use Rattle.std.proofs.Common.{ap, ◌∙◌}
use Rattle.segment_view.specs.LiveSegments.{parts_of, has_live, cleared_parts}
use Rattle.segment_view.proofs.Beside.{live_parts, parts-without}
use Rattle.segment_view.proofs.segments.Segments.clear.Goals as goal

pub returns-clause-answer : goal.returns-clause-answer
returns-clause-answer g c =
    c.clear_in.ensures.answer ∙ live_parts c.args.doc c.self.inside.heads.items c.self.inside.lives.items c.self.invariant.same
    ∙ ap (has_live c.args.doc) c.self.view_is

pub returns-clause-after : goal.returns-clause-after
returns-clause-after g c =
    ap (parts_of c.self.inside.heads.items) c.clear_in.ensures.after ∙ parts-without c.args.doc c.self.inside.heads.items c.self.inside.lives.items
    ∙ ap (cleared_parts c.args.doc) c.self.view_is
