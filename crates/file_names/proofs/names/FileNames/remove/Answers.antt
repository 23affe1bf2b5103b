use Rattle.std.proofs.Common.{not, filter, ap, ◌∙◌, rules}
use Rattle.std.proofs.lemmas.Fn.{filter_same}
use Rattle.outer_io.specs.Names.{same_name}
use Rattle.file_names.specs.Names.{NameList}
use Rattle.file_names.proofs.Listed.{below_filter}
use Rattle.file_names.proofs.names.FileNames.remove.Goals as goal

pub invariant_of-self : goal.invariant_of-self
invariant_of-self c =
    rw (filter_same _ (λ n. not (same_name n c.args.name.now)) _ (λ x b f' k. search rules) _ _ c.retain.ensures.filtered)
    (below_filter _ _ _ c.self.invariant)

pub returns-clause-names : goal.returns-clause-names
returns-clause-names c =
    filter_same _ (λ n. not (same_name n c.args.name.now)) _ (λ x b f' k. search rules) _ _ c.retain.ensures.filtered
    ∙ ap (λ (n : NameList). filter (λ n. not (same_name n c.args.name.now)) n.names) c.self.view_is
