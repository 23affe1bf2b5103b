-- What is kept are the documents of other numbers.
use Rattle.std.proofs.Common.{not, nat_eq, rules}
use Rattle.std.proofs.lemmas.Fn.{filter_same}
use Rattle.index_model.proofs.held.delete.Goals as goal

pub returns : goal.returns
returns g c = filter_same _ (λ d. not (nat_eq d.number c.args.number)) _ (λ x b f k. search rules) _ _ c.retain.ensures.filtered
