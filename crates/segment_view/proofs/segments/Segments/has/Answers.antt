use Rattle.std.proofs.Common.{List, ap, sym, map, ◌∙◌, ℕ}
use Rattle.segment_file.specs.Heads.{Head}
use Rattle.documents.specs.Entries.{is_among}
use Rattle.segment_view.specs.LiveSegments.{ids_of}
use Rattle.segment_view.proofs.Beside.{ids_parts}
use Rattle.segment_view.proofs.segments.Segments.has.Goals as goal

pub returns : goal.returns
returns g c =
    c.has_id.ensures
    ∙ ap (λ (hs : List Head). is_among (map (λ h. h.id) hs) c.args.id) c.as_slice.ensures.value
    ∙ ap (λ (ns : List ℕ). is_among ns c.args.id)
    (sym (ids_parts c.self.inside.heads.items c.self.inside.lives.items c.self.invariant.same) ∙ ap ids_of c.self.view_is)
