use Rattle.std.proofs.Common.{◌≡◌, None, Some, false, sym, subst, arith, ℕ}
use Rattle.outer_io.specs.declared.file_name.FileName.TheVariants.{Live}
use Rattle.file_names.specs.declared.free.Series.TheVariants.{Generations}
use Rattle.file_names.specs.Names.{is_named, IsNextGeneration}
use Rattle.file_names.proofs.Numbers.{greatest_number, next_first, next_later, later_free, next_at_end}
use Rattle.file_names.proofs.free.next_generation.Goals as goal

pub returns-in_default-clause-fresh : goal.returns-in_default-clause-fresh
returns-in_default-clause-fresh c = greatest_number (Generations c.args.segment) c.args.names.now None c.in_default.ensures 1

pub returns-in_default-clause-rule : goal.returns-in_default-clause-rule
returns-in_default-clause-rule c =
    next_first (λ n. is_named c.args.names.now (Live c.args.segment n))
    (greatest_number (Generations c.args.segment) c.args.names.now None c.in_default.ensures)

pub returns-in-Some-checked_add-clause-fresh : goal.returns-in-Some-checked_add-clause-fresh
returns-in-Some-checked_add-clause-fresh c =
    let greatest = greatest_number (Generations c.args.segment) c.args.names.now (Some c.in-Some.greatest) c.in-Some.ensures in
    subst (λ (n : ℕ). is_named c.args.names.now (Live c.args.segment n) ≡ false) (sym c.in-Some-checked_add.ensures.1)
    (later_free (λ n. is_named c.args.names.now (Live c.args.segment n)) c.in-Some.greatest greatest)

pub returns-in-Some-checked_add-clause-rule : goal.returns-in-Some-checked_add-clause-rule
returns-in-Some-checked_add-clause-rule c =
    let greatest = greatest_number (Generations c.args.segment) c.args.names.now (Some c.in-Some.greatest) c.in-Some.ensures in
    subst (IsNextGeneration (λ n. is_named c.args.names.now (Live c.args.segment n))) (sym c.in-Some-checked_add.ensures.1)
    (next_later (λ n. is_named c.args.names.now (Live c.args.segment n)) c.in-Some.greatest greatest c.in-Some-checked_add.ensures.0)

pub returns-in-None-clause-rule : goal.returns-in-None-clause-rule
returns-in-None-clause-rule c =
    let greatest = greatest_number (Generations c.args.segment) c.args.names.now (Some c.in-Some.greatest) c.in-Some.ensures in
    next_at_end (λ n. is_named c.args.names.now (Live c.args.segment n)) c.in-Some.greatest c.least_free.result greatest
    (omega (arith, c.in-None.ensures)) c.least_free.ensures.least
