use Rattle.std.proofs.Common.{ap, sym, subst, arith}
use Rattle.file_names.specs.Names.{NameList, IsBelow}
use Rattle.file_names.proofs.Listed.{below_push, joins_as, stays_as}
use Rattle.file_names.proofs.names.FileNames.add.Goals as goal

pub invariant_of-self-2 : goal.invariant_of-self-2
invariant_of-self-2 c =
    let below : IsBelow c.self.inside.next_segment c.args.name = subst (λ (n : NameList). IsBelow n.next_segment c.args.name) (sym c.self.view_is) c.requires in
    rw c.in_ok-push.ensures.items (below_push _ _ _ _ c.self.invariant (omega arith) below)

pub returns-clause-joins : goal.returns-clause-joins
returns-clause-joins c = joins_as _ _ _ c.in_ok-push.ensures.items

pub returns-clause-stays : goal.returns-clause-stays
returns-clause-stays c = stays_as _ _ _ _ (ap (λ (n : NameList). n.names) c.self.view_is) c.in_ok-push.ensures.items
