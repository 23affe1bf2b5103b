use Rattle.std.proofs.Common.{◌∙◌, ◌<◌, List, length, ap, sym, subst}
use Rattle.std.specs.List.{slice_get}
use Rattle.std.proofs.lemmas.Option.{slice_get-get_or}
use Rattle.outer_io.specs.declared.file_name.FileName.{FileName}
use Rattle.segment_set.specs.Sets.{SetData}
use Rattle.segment_set.proofs.set.SegmentSet.name_at.Goals as goal

pub returns-clause-name : goal.returns-clause-name
returns-clause-name g c =
    let names = c.as_slice.ensures ∙ ap (λ (u : SetData). u.names.names) c.self.view_is in
    ap (λ (ns : List FileName). slice_get ns c.args.place) (sym names)
    ∙ slice_get-get_or c.as_slice.result.now c.args.place _ (subst (λ (ns : List FileName). c.args.place < length ns) (sym names) c.requires)
