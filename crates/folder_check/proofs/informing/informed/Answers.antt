use Rattle.std.proofs.Common.{◌∙◌, List, Err, ap, refl, sym, subst, inr}
use Rattle.std.specs.List.{sum_by}
use Rattle.std.proofs.lemmas.Result.{err_from_is_err_and}
use Rattle.outer_io.specs.declared.file_name.FileName.TheVariants.{Commit}
use Rattle.outer_io.specs.Files.{Files, bytes_of}
use Rattle.commit_list.specs.declared.listed.Listed.{Listed}
use Rattle.commit_list.specs.CommitFiles.{IsCommitFile}
use Rattle.index_opening.proofs.Evident.{on_evident_files}
use Rattle.index_opening.proofs.Listed.{undefined_fault}
use Rattle.index_opening.proofs.Named.{commit_found}
use Rattle.folder_check.specs.Informed.{HasParts, info_text, stored_bytes}
use Rattle.folder_check.proofs.Counted.{documents_counted}
use Rattle.folder_check.proofs.OpenedParts.{all_informed, none_informed}
use Rattle.folder_check.proofs.Whole.{commit_undefined, live_fits}
use Rattle.std.specs.Prelude.{IsTrue}
use Rattle.folder_check.proofs.informing.informed.Goals as goal

pub returns-in_err-commit-clause-reads : goal.returns-in_err-commit-clause-reads
returns-in_err-commit-clause-reads g c = λ told pages informing.
    none_informed (g.F.Pages.files c.args.folder.now) pages (g.F.Pages.reads c.args.folder.now) (g.F.Pages.reads c.read_commit.new.folder)
    (g.F.Pages.reads c.read_commit.new.folder) (c.in_err-commit.ensures.unread told) (c.in_err-commit.ensures.most told) refl informing

pub returns-in_err-commit-clause-undefined : goal.returns-in_err-commit-clause-undefined
returns-in_err-commit-clause-undefined g c = λ told.
    let files = g.F.Pages.files c.args.folder.now in
    let e = err_from_is_err_and c.from_residual.result c.from_residual.ensures.1 in
    rw (e.1, e.2)
    (undefined_fault files c.in_err-commit.field-0.0
    (commit_undefined files c.in_err-commit.field-0.0 (c.in_err-commit.ensures.absent told) (c.in_err-commit.ensures.whole told)))

pub returns-in_err-commit-clause-named : goal.returns-in_err-commit-clause-named
returns-in_err-commit-clause-named g c = λ told.
    let e = err_from_is_err_and c.from_residual.result c.from_residual.ensures.1 in
    let files = g.F.Pages.files c.args.folder.now in
    rw (e.1, e.2) (commit_found files c.in_err-commit.field-0.0 c.in_err-commit.ensures.shown (c.in_err-commit.ensures.damage told))

pub returns-in_err-bytes-clause-reads : goal.returns-in_err-bytes-clause-reads
returns-in_err-bytes-clause-reads g c = λ told pages informing.
    all_informed (g.F.Pages.files c.args.folder.now) (g.F.Pages.files c.read_commit.new.folder) c.in-Some.commit pages (g.F.Pages.reads c.args.folder.now)
    (g.F.Pages.reads c.read_commit.new.folder) (g.F.Pages.reads c.commit_bytes.new.folder) (c.in_ok-commit.ensures.files told)
    (rw c.in-Some.is at (c.in_ok-commit.ensures.found told)) (c.in_ok-commit.ensures.most told) (c.in_err-bytes.ensures.reads told) informing

pub returns-in_err-info_line-clause-reads : goal.returns-in_err-info_line-clause-reads
returns-in_err-info_line-clause-reads g c = λ told pages informing.
    all_informed (g.F.Pages.files c.args.folder.now) (g.F.Pages.files c.read_commit.new.folder) c.in-Some.commit pages (g.F.Pages.reads c.args.folder.now)
    (g.F.Pages.reads c.read_commit.new.folder) (g.F.Pages.reads c.commit_bytes.new.folder) (c.in_ok-commit.ensures.files told)
    (rw c.in-Some.is at (c.in_ok-commit.ensures.found told)) (c.in_ok-commit.ensures.most told) (c.in_ok-bytes.ensures.reads told) informing

pub returns-clause-reads : goal.returns-clause-reads
returns-clause-reads g c = λ told pages informing.
    all_informed (g.F.Pages.files c.args.folder.now) (g.F.Pages.files c.read_commit.new.folder) c.in-Some.commit pages (g.F.Pages.reads c.args.folder.now)
    (g.F.Pages.reads c.read_commit.new.folder) (g.F.Pages.reads c.commit_bytes.new.folder) (c.in_ok-commit.ensures.files told)
    (rw c.in-Some.is at (c.in_ok-commit.ensures.found told)) (c.in_ok-commit.ensures.most told) (c.in_ok-bytes.ensures.reads told) informing

pub live_documents-requires : goal.live_documents-requires
live_documents-requires g c = live_fits c.in-Some.commit c.listed.result.now c.listed.ensures.commit c.listed.ensures.value

pub returns-clause-tells : goal.returns-clause-tells
returns-clause-tells g c = λ told.
    let files = g.F.Pages.files c.args.folder.now in
    let commit = c.in-Some.commit in
    let same = c.in_ok-commit.ensures.files told in
    let count = c.live_documents.ensures ∙ ap (λ (ss : List Listed). sum_by (λ (s : Listed). s.live) ss) c.listed.ensures.value in
    inr (record {
      commit = commit;
      says = rw c.in-Some.is at (c.in_ok-commit.ensures.found told);
      parts = subst (λ (f : Files). HasParts f commit) same (c.in_ok-bytes.ensures.parts told);
      live = c.live_documents.result;
      counts = λ docs holds. count ∙ sym (documents_counted files commit docs holds);
      by_commit = count;
      told = c.in_ok-info_line.ensures
          ∙ ap (info_text commit c.live_documents.result) (c.in_ok-bytes.ensures.bytes told ∙ ap (λ (f : Files). stored_bytes f commit) same);
    })

pub returns-in_err-bytes-clause-evident : goal.returns-in_err-bytes-clause-evident
returns-in_err-bytes-clause-evident g c =
    let commit = c.in-Some.commit in
    let read = g.F.Pages.files c.read_commit.new.folder in
    let e = err_from_is_err_and c.from_residual-in_err-bytes.result c.from_residual-in_err-bytes.ensures.1 in
    rw (e.1, e.2)
    (on_evident_files {X = Unit {0}} (IsTrue g.F.Pages.told × IsCommitFile (bytes_of (read Commit)) commit) (IsTrue g.F.Pages.told) read
    (g.F.Pages.files c.args.folder.now) (Err c.in_err-bytes.field-0.0)
    (λ told. (
      told,
      subst (λ (f : Files). IsCommitFile (bytes_of (f Commit)) commit) (sym (c.in_ok-commit.ensures.files told))
          (rw c.in-Some.is at (c.in_ok-commit.ensures.found told)),
    ))
    (λ told. sym (c.in_ok-commit.ensures.files told)) c.in_err-bytes.ensures.evident)
