-- The copy is loaded and the session attached, and both are of the index that is stored.
use Rattle.std.proofs.Common.{ℕ, lit<, Err, IsTrue, ap, refl, subst, sym, ◌∙◌}
use Rattle.std.proofs.lemmas.Result.{err_from_is_err_and}
use Rattle.outer_io.specs.Files.{Files}
use Rattle.stored_index.specs.Stored.{IsStored}
use Rattle.index_core.proofs.Sizes.{session_fits}
use Rattle.index_core.proofs.Undone.{kept_equal}
use Rattle.index_opening.proofs.Evident.{on_evident_files}
use Rattle.run_status.specs.declared.stop.Stop.{Stop}
use Rattle.batch_run.specs.Copies.{IsCommitIn}
use Rattle.batch_queries.proofs.MergeCalls.{merges_after, stopped}
use Rattle.batch_queries.proofs.Opened.{none_undefined, opened}
use Rattle.batch_queries.proofs.merge_batch.merge_over.Goals as goal
use Rattle.segment_set.proofs.Saving.{cause_after}

pub attach-requires : goal.attach-requires
attach-requires g c = (session_fits g.row.D c.requires.few, c.requires.dims)

pub merge_with-requires-after_bounds : goal.merge_with-requires-after_bounds
merge_with-requires-after_bounds g c κs = λ _.
    (lit< tt, (session_fits g.row.D c.requires.few, (c.requires.some, (c.requires.few, c.requires.lines))))

pub returns-in_err-resident : goal.returns-in_err-resident
returns-in_err-resident g c =
    let p = err_from_is_err_and c.from_residual.result c.from_residual.ensures.1 in
    let old : Files = g.F.Pages.files c.args.folder.now in
    let e = c.in_err-resident.ensures in
    stopped (IsTrue g.F.Pages.told) _ (IsCommitIn old c.args.commit) _ _ _ c.in_err-resident.field-0.0 _ (p.1 ∙ ap (λ (s : Stop). Err s) p.2)
    (λ told says. kept_equal _ _ (e.files told))
    (λ told says state stored. none_undefined {T = ℕ} old (Err c.in_err-resident.field-0.0) state stored (e.undefined told says)) e.cause
    (on_evident_files {X = ℕ} _ _ old _ (Err c.in_err-resident.field-0.0) (λ h. h) (λ h. e.files h.0) e.evident) refl

pub returns-in_err-session : goal.returns-in_err-session
returns-in_err-session g c =
    let p = err_from_is_err_and c.from_residual-in_err-session.result c.from_residual-in_err-session.ensures.1 in
    let old : Files = g.F.Pages.files c.args.folder.now in
    let first = c.in_ok-resident.ensures in
    let e = c.in_err-session.ensures in
    stopped (IsTrue g.F.Pages.told) _ (IsCommitIn old c.args.commit) _ _ _ c.in_err-session.field-0.0 _ (p.1 ∙ ap (λ (s : Stop). Err s) p.2)
    (λ told says. kept_equal _ _ (e.files told ∙ first.files told))
    (λ told says state stored. e.damaged.whole told (subst (λ (f : Files). IsCommitIn f c.args.commit) (sym (first.files told)) says) state
    (subst (λ (f : Files). IsStored f state) (sym (first.files told)) stored))
    (cause_after _ _ _ (Err c.in_err-session.field-0.0) first.cause.on_ok e.cause)
    (on_evident_files {X = ℕ} _ _ _ _ (Err c.in_err-session.field-0.0)
    (λ h. (h.0, subst (λ (f : Files). IsCommitIn f c.args.commit) (sym (first.files h.0)) h.1)) (λ h. e.files h.0) e.damaged.evident) refl

pub returns : goal.returns
returns g c =
    let first = c.in_ok-resident.ensures in
    let then = c.in_ok-session.ensures in
    merges_after (IsTrue g.F.Pages.told) _ _ _ _ _ _ _ c.in_ok-session.session _ (λ told. then.files told ∙ first.files told) refl refl
    (cause_after _ _ _ _ first.cause.on_ok then.cause)
    (λ told says. opened g.row.D _ _ _ c.args.commit _ _ (first.files told) (then.files told) says (first.copy told)
    (then.attaches.seen told) (then.attaches.guards told) (then.attaches.faithful told) (then.attaches.traced told) (then.attaches.own told)
    then.attaches.unchanged)
    c.merge_with.ensures
