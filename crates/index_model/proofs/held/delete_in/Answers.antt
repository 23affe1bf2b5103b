-- What is kept are the documents with no point in the box.
use Rattle.std.proofs.Common.{not, rules}
use Rattle.std.proofs.lemmas.Fn.{filter_same}
use Rattle.point_codec.specs.Points.{in_box}
use Rattle.documents.specs.Documents.{passes}
use Rattle.index_model.proofs.held.delete_in.Goals as goal

pub returns : goal.returns
returns g c =
    filter_same _ (λ d. not (passes (in_box (record { lo = c.args.lo.now.c; hi = c.args.hi.now.c })) d)) _ (λ x b f k. search rules)
    _ _ c.retain.ensures.filtered
