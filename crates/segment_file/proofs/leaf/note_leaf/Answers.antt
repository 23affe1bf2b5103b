use Rattle.std.proofs.Common.{◌≡◌, ℕ, List, ap, sym, subst, ◌∙◌, take, drop}
use Rattle.std.proofs.lemmas.Grind.{merely}
use Rattle.point_codec.specs.Seen.{region_of}
use Rattle.leaf_codec.specs.Leaves.{SpellsSomeIn}
use Rattle.segment_file.specs.Segments.{part_of}
use Rattle.segment_file.proofs.Options.{some_of}
use Rattle.segment_file.proofs.leaf.note_leaf.Goals as goal

pub note-requires : goal.note-requires
note-requires g c bytes kept =
    let offset = c.args.place.offset in
    let len = c.args.place.length in
    let view = some_of c.read.result _ (sym c.is_some.ensures ∙ c.if-is_some.true) c.read.ensures.some in
    let part : c.part_of.result.now ≡ part_of offset len bytes =
    c.part_of.ensures ∙ ap (λ (x : List ℕ). take len (drop offset x)) c.payload.ensures.bytes
    ∙ ap (part_of offset len) (sym (c.noted_view-known.ensures.only bytes kept)) in
    (c.of-note.ensures bytes).1 (subst (λ (p : List ℕ). SpellsSomeIn g.row.D p c.count_of-count.result (region_of c.cell-cell.result)) part (merely view))
