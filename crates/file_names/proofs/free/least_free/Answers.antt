use Rattle.std.proofs.Common.{sym, ap, ◌∙◌, arith}
use Rattle.file_names.specs.Names.{is_named}
use Rattle.file_names.proofs.Numbers.{few_taken, one_more}
use Rattle.file_names.proofs.free.least_free.Goals as goal

pub overflow_add-number : goal.overflow_add-number
overflow_add-number c =
    let also = ap (is_named c.args.names.now) (sym c.name.ensures) ∙ sym c.has.ensures ∙ c.taken-test.true in
    omega (arith, one_more c.args.series c.args.names.now c.taken.number c.taken.invariant also, c.requires)

pub taken-smaller : goal.taken-smaller
taken-smaller c =
    let also = ap (is_named c.args.names.now) (sym c.name.ensures) ∙ sym c.has.ensures ∙ c.taken-test.true in
    omega (arith, one_more c.args.series c.args.names.now c.taken.number c.taken.invariant also)

pub returns-clause-below : goal.returns-clause-below
returns-clause-below c = few_taken c.args.series c.args.names.now c.taken.number c.taken.invariant
