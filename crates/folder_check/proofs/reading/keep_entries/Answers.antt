use Rattle.std.proofs.Common.{Err, refl, inr, ◌∙◌}
use Rattle.std.specs.List.{filter}
use Rattle.std.proofs.lemmas.Result.{err_from_is_err_and}
use Rattle.point_codec.specs.Points.{Item}
use Rattle.live_bits.specs.LiveSet.{is_live}
use Rattle.segment_view.proofs.Shown.{read_shown}
use Rattle.folder_check.proofs.KeptEntries.{found_behind}
use Rattle.folder_check.proofs.Pages.{leaves_read}
use Rattle.folder_check.proofs.reading.keep_entries.Goals as goal

pub returns-in_err-append_entries-clause-shown : goal.returns-in_err-append_entries-clause-shown
returns-in_err-append_entries-clause-shown g c =
    let e = err_from_is_err_and c.from_residual.result c.from_residual.ensures.1 in
    rw (e.1, e.2)
    (read_shown {T = Unit {0}} g.row.D c.args.head.now c.index.result.now (Err c.in_err-append_entries.field-0.0) c.index.ensures.ranges c.index.ensures.value
    c.is_spelled.ensures c.in_err-append_entries.ensures.shown)

pub returns-in_err-append_entries-clause-reads : goal.returns-in_err-append_entries-clause-reads
returns-in_err-append_entries-clause-reads g c = λ told own.
    leaves_read g.row.D (g.F.Pages.files c.args.folder.now) c.args.head.now _ _ own c.in_err-append_entries.ensures.pages

pub returns-in_err-told-clause-reads : goal.returns-in_err-told-clause-reads
returns-in_err-told-clause-reads g c = λ told own.
    leaves_read g.row.D (g.F.Pages.files c.args.folder.now) c.args.head.now _ _ own c.in_ok-append_entries.ensures.pages

pub returns-clause-reads : goal.returns-clause-reads
returns-clause-reads g c = λ told own.
    leaves_read g.row.D (g.F.Pages.files c.args.folder.now) c.args.head.now _ _ own c.in_ok-append_entries.ensures.pages

pub returns-clause-kept : goal.returns-clause-kept
returns-clause-kept g c = λ told agrees own.
    let read = c.in_ok-append_entries.ensures.spelled told agrees own in
    (filter (λ (x : Item). is_live c.args.live.now x.doc) read.0, read.2, inr (read.0, read.1, refl))

pub returns-clause-found : goal.returns-clause-found
returns-clause-found g c = λ told agrees own.
    let read = c.in_ok-append_entries.ensures.spelled told agrees own in
    found_behind g.row.D (g.F.Pages.files c.args.folder.now) c.args.head.now c.args.live.now read.0 c.args.kept.now.items c.append_entries.new.entries.items
    c.as_slice.result.now c.len-from.result _ read.1 read.2 c.as_slice.ensures.value (c.len-from.ensures ∙ c.args.kept.now.ok.0)
    c.in_ok-told.ensures.found c.in_ok-told.ensures.none c.in_ok-told.ensures.some refl
