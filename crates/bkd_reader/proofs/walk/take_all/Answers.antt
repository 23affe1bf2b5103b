use Rattle.std.proofs.lemmas.Result.{err_from_is_err_and}
use Rattle.segment_file.specs.Damages.{IsLeafDamage}
use Rattle.page_cache.proofs.Unread.{reads_failed}
use Rattle.bkd_reader.proofs.Trees.{handed_on}
use Rattle.bkd_reader.proofs.walk.take_all.Goals as goal

pub returns-in_err-collect_all-clause-kept : goal.returns-in_err-collect_all-clause-kept
returns-in_err-collect_all-clause-kept g c = λ first s path t is kept.
    let p = err_from_is_err_and c.from_residual.result c.from_residual.ensures.1 in
    reads_failed _ _ _ _ _ _ p.1 (c.in_err-collect_all.ensures.kept first s path t is kept).reads

pub returns-in_err-collect_all-clause-shown : goal.returns-in_err-collect_all-clause-shown
returns-in_err-collect_all-clause-shown g c = λ first s path t is.
    handed_on c.from_residual.result c.in_err-collect_all.field-0.0 (IsLeafDamage g.row.D c.args.head.now first s t) c.from_residual.ensures.1
    (c.in_err-collect_all.ensures.shown first s path t is)

pub returns-in_err-collect_all-clause-whole : goal.returns-in_err-collect_all-clause-whole
returns-in_err-collect_all-clause-whole g c = λ told agrees first s path t items is holds.
    handed_on c.from_residual.result c.in_err-collect_all.field-0.0 (λ _. ⊥) c.from_residual.ensures.1
    (c.in_err-collect_all.ensures.whole told agrees first s path t items is holds)

pub returns-clause-hits : goal.returns-clause-hits
returns-clause-hits g c = λ told agrees first s path t root has all. c.in_ok-collect_all.ensures.hits told agrees first s path t root has all

pub returns-clause-kept : goal.returns-clause-kept
returns-clause-kept g c = λ first s path t is kept.
    let both = c.in_ok-collect_all.ensures.kept first s path t is kept in
    record { reads = both.reads; kept = both.kept }
