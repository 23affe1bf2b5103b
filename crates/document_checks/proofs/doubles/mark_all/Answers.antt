use Rattle.std.proofs.Common.{◌≤◌, ℕ, List, nat_eq, count_by, subst, arith}
use Rattle.std.proofs.lemmas.List.{take_all}
use Rattle.point_codec.specs.declared.entries.Entry.{Entry}
use Rattle.document_checks.proofs.Again.{seen_more}
use Rattle.document_checks.proofs.doubles.mark_all.Goals as goal

pub loop-entry-preserved : goal.loop-entry-preserved
loop-entry-preserved g c =
    let told = c.mark_again-some in
    seen_more (λ (e : Entry g.row.D). e.doc) c.args.base c.args.entries.now c.loop-entry.entry-index c.entry-item.result
    c.loop-entry.some told.result c.loop-entry.seen c.loop-entry.again told.new.seen told.new.again
    c.loop-entry-test.true c.entry-item.is c.loop-entry.invariant told.ensures.was told.ensures.seen told.ensures.again

pub returns-clause-none : goal.returns-clause-none
returns-clause-none g c e =
    subst (λ (xs : List (Entry g.row.D)). (n : ℕ) → count_by (λ e. nat_eq e.doc n) xs ≤ 1) (take_all c.loop-entry.entry-index c.args.entries.now (omega arith))
    (c.loop-entry.invariant.none e)
