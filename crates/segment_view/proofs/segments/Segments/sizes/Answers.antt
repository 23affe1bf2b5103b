use Rattle.std.proofs.Common.{◌≡◌, ℕ, List, ap, map, subst, ◌∙◌}
use Rattle.std.specs.Prelude.{IfOk}
use Rattle.segment_file.specs.Heads.{Head}
use Rattle.segment_view.specs.LiveSegments.{LiveSegment}
use Rattle.segment_view.proofs.Beside.{entries_parts}
use Rattle.segment_view.proofs.segments.Segments.sizes.Goals as goal

pub returns : goal.returns
returns g c =
    let same = ap (λ (hs : List Head). map (λ (h : Head). h.entries) hs) c.as_slice.ensures.value
    ∙ entries_parts c.self.inside.heads.items c.self.inside.lives.items c.self.invariant.same
    ∙ ap (λ (ps : List LiveSegment). map (λ (p : LiveSegment). p.head.entries) ps) c.self.view_is in
    subst (λ (ns : List ℕ). IfOk c.sizes_of.result (λ v. v.items ≡ ns)) same c.sizes_of.ensures
