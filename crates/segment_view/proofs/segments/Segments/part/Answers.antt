use Rattle.std.proofs.Common.{◌≡◌, ◌<◌, length, ap, sym, subst, ◌∙◌, arith, Some, List}
use Rattle.std.specs.List.{slice_get}
use Rattle.segment_view.specs.LiveSegments.{LiveSegment, live_segment}
use Rattle.segment_view.proofs.Beside.{length_parts, parts-get}
use Rattle.segment_view.proofs.segments.Segments.part.Goals as goal

pub index-requires : goal.index-requires
index-requires g c =
    let long = sym (length_parts c.self.inside.heads.items c.self.inside.lives.items c.self.invariant.same) ∙ ap length c.self.view_is in
    omega (arith, long, c.requires, c.self.inside.heads.ok.0)

pub index-requires-2 : goal.index-requires-2
index-requires-2 g c =
    let long = sym (length_parts c.self.inside.heads.items c.self.inside.lives.items c.self.invariant.same) ∙ ap length c.self.view_is in
    omega (arith, long, c.requires, c.self.invariant.same, c.self.inside.lives.ok.0)

pub returns : goal.returns
returns g c =
    let heads = c.self.inside.heads.items in
    let long = sym (length_parts heads c.self.inside.lives.items c.self.invariant.same) ∙ ap length c.self.view_is in
    let within : c.args.i < length heads = omega (arith, long, c.requires) in
    subst (λ (ps : List LiveSegment). slice_get ps c.args.i ≡ Some (live_segment c.index.result.now c.index-2.result.now)) c.self.view_is
    (parts-get heads c.self.inside.lives.items c.args.i c.index.result.now c.index-2.result.now c.self.invariant.same within c.index.ensures c.index-2.ensures)
