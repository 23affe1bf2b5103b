-- What is kept are the snapshots of other names.
use Rattle.std.proofs.Common.{not, rules}
use Rattle.std.specs.Str.{bytes_eq}
use Rattle.std.proofs.lemmas.Fn.{filter_same}
use Rattle.segment_set.proofs.snapshots.let_go.Goals as goal

pub returns : goal.returns
returns g c = filter_same _ (λ v. not (bytes_eq v.name c.args.name.now)) _ (λ x b f k. search rules) _ _ c.retain.ensures.filtered
