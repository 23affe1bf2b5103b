-- What the folder's commit says decides how lines are told.
use Rattle.std.proofs.Common.{ℕ, Err, IsTrue, ap, refl, subst, sym, ◌∙◌}
use Rattle.std.proofs.lemmas.Result.{err_from_is_err_and}
use Rattle.outer_io.specs.declared.file_name.FileName.TheVariants.{Commit}
use Rattle.outer_io.specs.Files.{Files}
use Rattle.index_core.proofs.Undone.{kept_equal}
use Rattle.index_opening.proofs.Evident.{on_commit_evident, on_evident_files}
use Rattle.run_status.specs.declared.stop.Stop.{Stop}
use Rattle.batch_run.specs.Copies.{IsCommitIn}
use Rattle.batch_queries.proofs.MergeCalls.{merges_after, stopped}
use Rattle.batch_queries.proofs.merge_batch.merge_stored.Goals as goal
use Rattle.stored_index.proofs.Whole.{not_damaged}
use Rattle.commands.proofs.Opening.{reads_none, reads_some}

pub returns-in_err-read_commit-clause-merges : goal.returns-in_err-read_commit-clause-merges
returns-in_err-read_commit-clause-merges g c =
    let p = err_from_is_err_and c.from_residual.result c.from_residual.ensures.1 in
    let old : Files = g.F.Pages.files c.args.folder.now in
    let new : Files = g.F.Pages.files c.read_commit.new.folder in
    let e = c.in_err-read_commit.ensures in
    stopped (IsTrue g.F.Pages.told) _ _ _ _ _ c.in_err-read_commit.field-0.0 _ (p.1 ∙ ap (λ (s : Stop). Err s) p.2)
    (λ told h. kept_equal old new (e.files told)) (λ told h state stored. not_damaged old state stored (e.absent told) (e.whole told)) e.cause
    (on_evident_files {X = ℕ} (IsTrue g.F.Pages.told) (IsTrue g.F.Pages.told × Unit {0}) old new (Err c.in_err-read_commit.field-0.0) (λ h. h.0)
    (λ h. e.files h.0)
    (on_commit_evident {X = ℕ} (IsTrue g.F.Pages.told) old (Err c.in_err-read_commit.field-0.0) e.damage e.shown)) refl

pub returns-in-None-clause-merges : goal.returns-in-None-clause-merges
returns-in-None-clause-merges g c =
    merges_after (IsTrue g.F.Pages.told) _ (Unit {0}) _ _ _ _ _ _ _ c.in_ok-read_commit.ensures.files refl refl c.in_ok-read_commit.ensures.cause
    (λ told h. ap (λ (f : Files). f Commit) (c.in_ok-read_commit.ensures.files told) ∙ rw c.in-None.is at (c.in_ok-read_commit.ensures.found told))
    (c.tell_none.ensures g.F.Pages.told (g.F.Pages.files c.read_commit.new.folder) (g.F.Pages.faults c.read_commit.new.folder))

pub returns-in-Some-clause-merges : goal.returns-in-Some-clause-merges
returns-in-Some-clause-merges g c =
    merges_after (IsTrue g.F.Pages.told) _ (Unit {0}) _ _ _ _ _ _ _ c.in_ok-read_commit.ensures.files refl refl c.in_ok-read_commit.ensures.cause
    (λ told h. subst (λ (f : Files). IsCommitIn f c.in-Some.commit) (sym (c.in_ok-read_commit.ensures.files told))
    (rw c.in-Some.is at (c.in_ok-read_commit.ensures.found told)))
    c.merge_listed.ensures

pub returns-in_err-read_commit-clause-stays : goal.returns-in_err-read_commit-clause-stays
returns-in_err-read_commit-clause-stays g c = λ told bad. c.in_err-read_commit.ensures.files told

pub returns-in-None-clause-stays : goal.returns-in-None-clause-stays
returns-in-None-clause-stays g c = λ told. reads_none (g.F.Pages.files c.args.folder.now) (rw c.in-None.is at (c.in_ok-read_commit.ensures.found told))

pub returns-in-Some-clause-stays : goal.returns-in-Some-clause-stays
returns-in-Some-clause-stays g c = λ told.
    reads_some (g.F.Pages.files c.args.folder.now) c.in-Some.commit (rw c.in-Some.is at (c.in_ok-read_commit.ensures.found told))
