-- What was checked is cleaned, or a fault came before.
use Rattle.std.proofs.Common.{◌∙◌, Err, IsTrue, inl, inr, refl, sym, ap, subst}
use Rattle.std.proofs.lemmas.Result.{err_from_is_err_and}
use Rattle.outer_io.specs.Files.{Files, bytes_of}
use Rattle.outer_io.specs.declared.file_name.FileName.TheVariants.{Commit}
use Rattle.commit_list.specs.CommitFiles.{IsCommitFile}
use Rattle.index_opening.proofs.Evident.{on_evident_files}
use Rattle.index_opening.proofs.Listed.{undefined_fault}
use Rattle.folder_check.proofs.Whole.{commit_undefined}
use Rattle.clean_folder.specs.Cleaned.{CountsRemoved}
use Rattle.clean_folder.proofs.Ending.{cleans_none, holds_read}
use Rattle.clean_folder.proofs.Removal.{spares_read}
use Rattle.clean_folder.proofs.run.cleaned.Goals as goal

pub returns-in_err-check-clause-evident : goal.returns-in_err-check-clause-evident
returns-in_err-check-clause-evident g c =
    let e = err_from_is_err_and c.from_residual.result c.from_residual.ensures.1 in
    rw (e.1, e.2)
    (on_evident_files {X = Unit {0}} (IsTrue g.F.Pages.told) (IsTrue g.F.Pages.told) (g.F.Pages.files c.args.folder.now)
    (g.F.Pages.files c.check.new.folder) (Err c.in_err-check.field-0.0) (λ told. told) c.in_err-check.ensures.files c.in_err-check.ensures.evident)

pub returns-in_err-commit-clause-undefined : goal.returns-in_err-commit-clause-undefined
returns-in_err-commit-clause-undefined g c = λ told.
    let checked = g.F.Pages.files c.check.new.folder in
    let fault = c.in_err-commit.field-0.0 in
    let e = err_from_is_err_and c.from_residual-in_err-commit.result c.from_residual-in_err-commit.ensures.1 in
    rw (e.1, e.2, sym (c.in_ok-check.ensures.files told))
    (undefined_fault checked fault (commit_undefined checked fault (c.in_err-commit.ensures.absent told) (c.in_err-commit.ensures.whole told)))

pub returns-in_default-clause-cleaned : goal.returns-in_default-clause-cleaned
returns-in_default-clause-cleaned g c = λ told.
    let old = g.F.Pages.files c.args.folder.now in
    let same = c.in_ok-check.ensures.files told in
    let none = rw c.in_default.is at (c.in_ok-commit.ensures.found told) in
    inl (cleans_none old (g.F.Pages.files c.read_commit.new.folder) c.new-text.result.items c.check.new.text.items c.new-text.ensures.items
    (sym (ap (λ (f : Files). f Commit) same) ∙ none) (c.in_ok-commit.ensures.files told ∙ same) (c.in_ok-check.ensures.tells told))

pub returns-in_err-removed-clause-spares : goal.returns-in_err-removed-clause-spares
returns-in_err-removed-clause-spares g c = λ told.
    spares_read (g.F.Pages.files c.args.folder.now) (g.F.Pages.files c.check.new.folder) (g.F.Pages.files c.read_commit.new.folder)
    (g.F.Pages.files c.take_unlisted.new.folder) c.in-Some.commit c.check.new.text.items c.new-text.result.items (c.in_ok-check.ensures.tells told)
    (c.in_ok-check.ensures.files told) (c.in_ok-commit.ensures.files told)
    (rw c.in-Some.is at (c.in_ok-commit.ensures.found told)) (c.in_err-removed.ensures.takes told)

pub returns-in_err-removed_line-clause-spares : goal.returns-in_err-removed_line-clause-spares
returns-in_err-removed_line-clause-spares g c = λ told.
    spares_read (g.F.Pages.files c.args.folder.now) (g.F.Pages.files c.check.new.folder) (g.F.Pages.files c.read_commit.new.folder)
    (g.F.Pages.files c.take_unlisted.new.folder) c.in-Some.commit c.check.new.text.items c.new-text.result.items (c.in_ok-check.ensures.tells told)
    (c.in_ok-check.ensures.files told) (c.in_ok-commit.ensures.files told)
    (rw c.in-Some.is at (c.in_ok-commit.ensures.found told)) (c.in_ok-removed.ensures.takes told)

pub returns-clause-spares : goal.returns-clause-spares
returns-clause-spares g c = λ told.
    spares_read (g.F.Pages.files c.args.folder.now) (g.F.Pages.files c.check.new.folder) (g.F.Pages.files c.read_commit.new.folder)
    (g.F.Pages.files c.take_unlisted.new.folder) c.in-Some.commit c.check.new.text.items c.new-text.result.items (c.in_ok-check.ensures.tells told)
    (c.in_ok-check.ensures.files told) (c.in_ok-commit.ensures.files told)
    (rw c.in-Some.is at (c.in_ok-commit.ensures.found told)) (c.in_ok-removed.ensures.takes told)

pub returns-clause-cleaned : goal.returns-clause-cleaned
returns-clause-cleaned g c = λ told.
    let old = g.F.Pages.files c.args.folder.now in
    let new = g.F.Pages.files c.take_unlisted.new.folder in
    let commit = c.in-Some.commit in
    let names = c.args.names.now in
    let same = c.in_ok-check.ensures.files told in
    let says = subst (λ (f : Files). IsCommitFile (bytes_of (f Commit)) commit) same (rw c.in-Some.is at (c.in_ok-commit.ensures.found told)) in
    let held = holds_read old commit c.check.new.text.items c.new-text.result.items says (c.in_ok-check.ensures.tells told) in
    let removed = c.in_ok-removed.removed in
    inr (record {
      commit = commit;
      docs = held.0;
      holds = held.1;
      gone = c.in_ok-removed.ensures.gone told;
      files = removed.files;
      bytes = removed.bytes;
      counts = λ apart. subst (λ (f : Files). CountsRemoved names f new removed.files removed.bytes) (c.in_ok-commit.ensures.files told ∙ same)
          (c.in_ok-removed.ensures.counts told apart);
      told = c.in_ok-removed_line.ensures;
      none = refl;
    })
