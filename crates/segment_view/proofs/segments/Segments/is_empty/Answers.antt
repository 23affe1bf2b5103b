use Rattle.std.proofs.Common.{◌≡◌, List, [], ap, eqb, subst, ◌∙◌}
use Rattle.std.specs.Prelude.{IsTrue, ◌↔◌}
use Rattle.segment_view.specs.LiveSegments.{LiveSegment}
use Rattle.segment_view.proofs.Beside.{empty_iff}
use Rattle.segment_view.proofs.segments.Segments.is_empty.Goals as goal

pub returns : goal.returns
returns g c =
    subst (λ (ps : List LiveSegment). IsTrue c.is_empty.result ↔ (ps ≡ [])) c.self.view_is
    (empty_iff c.self.inside.heads.items c.self.inside.lives.items c.self.invariant.same c.is_empty.result
    (c.is_empty.ensures ∙ ap (λ n. eqb n 0) c.self.inside.heads.ok.0))
