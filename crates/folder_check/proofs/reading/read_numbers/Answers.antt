use Rattle.std.proofs.Common.{Err, arith, refl}
use Rattle.std.proofs.lemmas.Result.{err_from_is_err_and}
use Rattle.segment_view.proofs.Shown.{read_shown}
use Rattle.folder_check.proofs.Found.{fewer_left, numbers_of}
use Rattle.folder_check.proofs.Pages.{leaves_read}
use Rattle.folder_check.proofs.reading.read_numbers.Goals as goal

pub returns-in_err-left-clause-shown : goal.returns-in_err-left-clause-shown
returns-in_err-left-clause-shown g c =
    let e = err_from_is_err_and c.from_residual.result c.from_residual.ensures.1 in
    rw (e.1, e.2)
    (read_shown {T = Unit {0}} g.row.D c.args.head.now c.index.result.now (Err c.in_err-left.field-0.0) c.index.ensures.ranges c.index.ensures.value
    c.is_spelled.ensures c.in_err-left.ensures.shown)

pub returns-in_err-left-clause-reads : goal.returns-in_err-left-clause-reads
returns-in_err-left-clause-reads g c = λ told own.
    leaves_read g.row.D (g.F.Pages.files c.args.folder.now) c.args.head.now _ _ own c.in_err-left.ensures.pages

pub overflow_sub-result : goal.overflow_sub-result
overflow_sub-result g c =
    let (items, is) = c.in_ok-left.ensures.live in
    omega (arith, fewer_left c.args.live.now c.in_ok-left.left items is, c.live_count.ensures.value, c.live_count-2.ensures.value)

pub returns-clause-reads : goal.returns-clause-reads
returns-clause-reads g c = λ told own.
    leaves_read g.row.D (g.F.Pages.files c.args.folder.now) c.args.head.now _ _ own c.in_ok-left.ensures.pages

pub returns-clause-found : goal.returns-clause-found
returns-clause-found g c = λ told agrees own.
    let (items, held, is) = c.in_ok-left.ensures.spelled told agrees own in
    numbers_of g.row.D (g.F.Pages.files c.args.folder.now) c.args.head.now c.args.live.now c.in_ok-left.left items _ c.live_count.ensures.set
    c.requires held is
    (omega (arith, c.live_count.ensures.value, c.live_count-2.ensures.value)) refl (omega (arith, c.entries.ensures, c.from.ensures))
