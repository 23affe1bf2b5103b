use Rattle.std.proofs.Common.{ap, ◌∙◌, subst, arith}
use Rattle.outer_io.specs.declared.file_name.FileName.TheVariants.{Live}
use Rattle.file_names.specs.Names.{NameList, is_named, IsNextGeneration}
use Rattle.file_names.proofs.Listed.{below_push, joins_as, stays_as}
use Rattle.file_names.proofs.names.FileNames.name_live.Goals as goal

pub invariant_of-self-2 : goal.invariant_of-self-2
invariant_of-self-2 c =
    rw (c.push_reserved.ensures.items, c.in_ok-reserve.ensures.items) (below_push _ _ _ _ c.self.invariant (omega arith) tt)

pub returns-clause-rule : goal.returns-clause-rule
returns-clause-rule c =
    subst (λ ns. IsNextGeneration (λ n. is_named ns (Live c.args.segment n)) c.next_generation-generation.result)
    (c.as_slice.ensures.value ∙ c.in_ok-reserve.ensures.items ∙ ap (λ (n : NameList). n.names) c.self.view_is)
    c.next_generation-generation.ensures.rule

pub returns-clause-joins : goal.returns-clause-joins
returns-clause-joins c = joins_as _ _ _ c.push_reserved.ensures.items

pub returns-clause-stays : goal.returns-clause-stays
returns-clause-stays c = stays_as _ _ _ _ (c.in_ok-reserve.ensures.items ∙ ap (λ (n : NameList). n.names) c.self.view_is) c.push_reserved.ensures.items
