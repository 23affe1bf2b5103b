-- What is kept are the snapshots of other names.
use Rattle.std.proofs.Common.{not, rules}
use Rattle.std.specs.Str.{bytes_eq}
use Rattle.std.proofs.lemmas.Fn.{filter_same}
use Rattle.index_model.proofs.held.release.Goals as goal

pub returns : goal.returns
returns g c = filter_same _ (λ s. not (bytes_eq s.name c.args.name.now)) _ (λ x b f k. search rules) _ _ c.retain.ensures.filtered
