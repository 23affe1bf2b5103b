use Rattle.std.proofs.Common.{arith, sym, subst}
use Rattle.std.proofs.lemmas.Result.{err_from_is_err_and}
use Rattle.outer_io.specs.Files.{Files, bytes_of}
use Rattle.outer_io.specs.declared.file_name.FileName.TheVariants.{Commit}
use Rattle.page_cache.specs.FirstPages.{IsFirstPage}
use Rattle.commit_list.specs.CommitFiles.{IsCommitFile}
use Rattle.commit_list.proofs.CommitDamages.{found_fault_of}
use Rattle.commit_list.proofs.CommitPages.{file_long, first_of_file, first_of, first_there}
use Rattle.commit_list.proofs.files.read_commit.Goals as goal

pub returns-in_err-first-clause-damage : goal.returns-in_err-first-clause-damage
returns-in_err-first-clause-damage g c = λ told.
    let files = g.F.Pages.files c.args.folder.now in
    let e = err_from_is_err_and c.from_residual.result c.from_residual.ensures.1 in
    rw (e.1, e.2)
    (found_fault_of files c.in_err-first.field-0.0 (c.in_err-first.ensures.absent told) c.in_err-first.ensures.shown c.in_err-first.ensures.needed
    (c.in_err-first.ensures.damage told))

pub returns-in_err-first-clause-whole : goal.returns-in_err-first-clause-whole
returns-in_err-first-clause-whole g c = λ told d h.
    let p = err_from_is_err_and c.from_residual.result c.from_residual.ensures.1 in
    rw (p.1, p.2) (c.in_err-first.ensures.whole told (first_of_file _ d h))

pub returns-in_err-commit-clause-absent : goal.returns-in_err-commit-clause-absent
returns-in_err-commit-clause-absent g c = λ told none.
    let name = rw c.in-Some.is at c.in_ok-first.ensures.name in
    let first = rw c.in-Some.is at (c.in_ok-first.ensures.first told) in
    absurd (first_there (g.F.Pages.files c.args.folder.now Commit) (first_of (g.F.Pages.files c.args.folder.now) c.in-Some.first name first).page none)

pub returns-in_err-commit-clause-whole : goal.returns-in_err-commit-clause-whole
returns-in_err-commit-clause-whole g c = λ told d h.
    let p = err_from_is_err_and c.from_residual-in_err-commit.result c.from_residual-in_err-commit.ensures.1 in
    let same = sym (c.find.ensures.reading.files told) in
    rw (p.1, p.2)
    (c.in_err-commit.ensures.whole told (subst (λ (f : Files). IsFirstPage f c.in-Some.first) same (rw c.in-Some.is at (c.in_ok-first.ensures.first told))) d
    (subst (λ (f : Files). IsCommitFile (bytes_of (f Commit)) d) same h))

-- ---- how much is read

pub returns-in_err-first-clause-most : goal.returns-in_err-first-clause-most
returns-in_err-first-clause-most g c = λ told d h. omega (arith, file_long (bytes_of (g.F.Pages.files c.args.folder.now Commit)) d h, c.find.ensures.reads)

pub returns-in_err-commit-clause-most : goal.returns-in_err-commit-clause-most
returns-in_err-commit-clause-most g c = λ told d h.
    let same = sym (c.find.ensures.reading.files told) in
    let most = c.in_err-commit.ensures.most told
    (subst (λ (f : Files). IsFirstPage f c.in-Some.first) same (rw c.in-Some.is at (c.in_ok-first.ensures.first told))) d
    (subst (λ (f : Files). IsCommitFile (bytes_of (f Commit)) d) same h) in
    omega (arith, rw (c.find.ensures.reading.files told) at most, c.find.ensures.reads)

pub returns-in_err-commit-clause-unread : goal.returns-in_err-commit-clause-unread
returns-in_err-commit-clause-unread g c = λ told none.
    let name = rw c.in-Some.is at c.in_ok-first.ensures.name in
    let first = rw c.in-Some.is at (c.in_ok-first.ensures.first told) in
    absurd (first_there (g.F.Pages.files c.args.folder.now Commit) (first_of (g.F.Pages.files c.args.folder.now) c.in-Some.first name first).page none)

pub returns-clause-unread : goal.returns-clause-unread
returns-clause-unread g c = λ told none.
    let name = rw c.in-Some.is at c.in_ok-first.ensures.name in
    let first = rw c.in-Some.is at (c.in_ok-first.ensures.first told) in
    absurd (first_there (g.F.Pages.files c.args.folder.now Commit) (first_of (g.F.Pages.files c.args.folder.now) c.in-Some.first name first).page none)
