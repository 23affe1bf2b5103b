-- The lines are told over what the folder stores: no index, or the one whose commit was read.
use Rattle.std.proofs.Common.{◌≤◌, ◌+◌, [], IsTrue, subst, sum_by, sym}
use Rattle.std.proofs.lemmas.Result.{err_from_is_err_and, on_ok_weaker}
use Rattle.script_lang.specs.Lines.{lines_of}
use Rattle.index_model.specs.State.{State}
use Rattle.run_status.specs.Told.{TellsAll}
use Rattle.batch_queries.specs.Batched.{TellsBatch}
use Rattle.outer_io.specs.Files.{Files}
use Rattle.index_opening.proofs.Evident.{on_evident_files}
use Rattle.batch_run.specs.Copies.{IsCommitIn, copied_pages}
use Rattle.batch_queries.proofs.Tells.{reads_once}
use Rattle.batch_queries.proofs.run.answer.Goals as goal
use Rattle.stored_index.proofs.Whole.{not_damaged, no_index}

pub returns-in_err-read_commit-clause-whole : goal.returns-in_err-read_commit-clause-whole
returns-in_err-read_commit-clause-whole g c = λ told state stored.
    let e = err_from_is_err_and c.from_residual.result c.from_residual.ensures.1 in
    rw (e.1, e.2)
    (not_damaged (g.F.Pages.files c.args.folder.now) state stored (c.in_err-read_commit.ensures.absent told) (c.in_err-read_commit.ensures.whole told))

pub returns-in_ok-tell_bare-in-None-clause-text : goal.returns-in_ok-tell_bare-in-None-clause-text
returns-in_ok-tell_bare-in-None-clause-text g c = λ told state stored.
    subst (λ (s : State). TellsAll (Unit {0}) (TellsBatch s) 1 (lines_of c.args.lines.now) [] c.in_ok-tell_bare-in-None.field-0.bytes.items
    c.in_ok-tell_bare-in-None.field-0.refused)
    (sym (no_index (g.F.Pages.files c.args.folder.now) state (rw c.in-None.is at (c.in_ok-read_commit.ensures.found told)) stored))
    c.in_ok-tell_bare-in-None.ensures

pub returns-in-Some-clause-reads : goal.returns-in-Some-clause-reads
returns-in-Some-clause-reads g c = λ told.
    let files : Files = g.F.Pages.files c.args.folder.now in
    let says = rw c.in-Some.is at (c.in_ok-read_commit.ensures.found told) in
    on_ok_weaker c.answer_stored.result
    (λ h.
    reads_once files c.in-Some.commit (g.F.Pages.reads c.args.folder.now) (g.F.Pages.reads c.read_commit.new.folder)
    (g.F.Pages.reads c.answer_stored.new.folder) says (c.in_ok-read_commit.ensures.most told)
    (subst (λ (f : Files). g.F.Pages.reads c.answer_stored.new.folder
    ≤ g.F.Pages.reads c.read_commit.new.folder + sum_by (copied_pages f) c.in-Some.commit.listed) (c.in_ok-read_commit.ensures.files told) h))
    (c.answer_stored.ensures.reads told)

pub returns-in-Some-clause-evident : goal.returns-in-Some-clause-evident
returns-in-Some-clause-evident g c =
    let commit = c.in-Some.commit in
    let read = g.F.Pages.files c.read_commit.new.folder in
    on_evident_files (IsTrue g.F.Pages.told × IsCommitIn read commit) (IsTrue g.F.Pages.told) read (g.F.Pages.files c.args.folder.now) c.answer_stored.result
    (λ told. (
      told,
      subst (λ (f : Files). IsCommitIn f commit) (sym (c.in_ok-read_commit.ensures.files told)) (rw c.in-Some.is at (c.in_ok-read_commit.ensures.found told)),
    ))
    (λ told. sym (c.in_ok-read_commit.ensures.files told)) c.answer_stored.ensures.evident
