use Rattle.std.proofs.Common.{not, rules}
use Rattle.std.proofs.lemmas.Fn.{filter_same}
use Rattle.outer_io.specs.FileMap.{is_named}
use Rattle.outer_io.proofs.file_map.remove_all.Goals as goal

pub returns-clause-items : goal.returns-clause-items
returns-clause-items c =
    filter_same _ (λ entry. not (is_named c.args.n.now entry)) _ (λ x b f' k. search rules) _ _ c.retain.ensures.filtered
