use Rattle.std.proofs.Common.{Err, ap, subst, ◌∙◌}
use Rattle.std.specs.Prelude.{IfNone, IfSome}
use Rattle.std.specs.List.{count_by}
use Rattle.std.proofs.lemmas.Result.{err_from_is_err_and}
use Rattle.point_codec.specs.Seen.{items_of}
use Rattle.leaf_codec.specs.LeafOrder.{NoneTwice}
use Rattle.documents.specs.Entries.{has_entry}
use Rattle.document_checks.specs.Crowded.{AreFew, IsLeastCrowded}
use Rattle.segment_view.proofs.Shown.{read_shown}
use Rattle.folder_check.proofs.Found.{found_of}
use Rattle.folder_check.proofs.Pages.{leaves_read}
use Rattle.folder_check.proofs.reading.count_entries.Goals as goal

pub returns-in_err-entries-clause-shown : goal.returns-in_err-entries-clause-shown
returns-in_err-entries-clause-shown g c =
    let e = err_from_is_err_and c.from_residual.result c.from_residual.ensures.1 in
    rw (e.1, e.2)
    (read_shown {T = Unit {0}} g.row.D c.args.head.now c.index.result.now (Err c.in_err-entries.field-0.0) c.index.ensures.ranges c.index.ensures.value
    c.is_spelled.ensures c.in_err-entries.ensures.shown)

pub returns-in_err-entries-clause-reads : goal.returns-in_err-entries-clause-reads
returns-in_err-entries-clause-reads g c = λ told own.
    leaves_read g.row.D (g.F.Pages.files c.args.folder.now) c.args.head.now _ _ own c.in_err-entries.ensures.pages

pub returns-in_err-told-clause-reads : goal.returns-in_err-told-clause-reads
returns-in_err-told-clause-reads g c = λ told own.
    leaves_read g.row.D (g.F.Pages.files c.args.folder.now) c.args.head.now _ _ own c.in_ok-entries.ensures.pages

pub returns-clause-reads : goal.returns-clause-reads
returns-clause-reads g c = λ told own.
    leaves_read g.row.D (g.F.Pages.files c.args.folder.now) c.args.head.now _ _ own c.in_ok-entries.ensures.pages

pub returns-clause-found : goal.returns-clause-found
returns-clause-found g c = λ told agrees own.
    let read = c.in_ok-entries.ensures.spelled told agrees own in
    found_of g.row.D (g.F.Pages.files c.args.folder.now) c.args.head.now c.args.live.now read.0 c.in_ok-entries.entries.items _ read.1 read.2
    (c.in_ok-told.ensures.found ∙ ap (λ es. count_by (λ number. has_entry number (items_of es)) c.args.live.now.live) c.as_slice.ensures.value)
    (subst (λ es. IfNone c.in_ok-told.told.1 (NoneTwice (items_of es) × AreFew (items_of es))) c.as_slice.ensures.value c.in_ok-told.ensures.none)
    (subst (λ es. IfSome c.in_ok-told.told.1 (λ number. IsLeastCrowded number (items_of es))) c.as_slice.ensures.value c.in_ok-told.ensures.some)
    (c.len.ensures ∙ c.in_ok-entries.entries.ok.0)
