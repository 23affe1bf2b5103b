-- What the folder holds its copy holds, and a damage of the copy is one of the folder.
use Rattle.std.proofs.Common.{Err, IsTrue, subst, sym}
use Rattle.std.proofs.lemmas.Result.{err_from_is_err_and}
use Rattle.outer_io.specs.Files.{Files}
use Rattle.outer_io.specs.MemFolder.{folder_files}
use Rattle.stored_index.specs.Stored.{HoldsIndex}
use Rattle.index_opening.proofs.Evident.{on_evident_files}
use Rattle.batch_run.specs.Copies.{IsCommitIn}
use Rattle.batch_run.proofs.CopiedFiles.{copied_back, copy_holds}
use Rattle.batch_run.proofs.resident.Resident.load.Goals as goal

pub returns-in-Ok-clause-copy : goal.returns-in-Ok-clause-copy
returns-in-Ok-clause-copy g c = λ told.
    let files : Files = g.F.Pages.files c.args.folder.now in
    let copy : Files = folder_files c.in_ok-copy.copy in
    let copied = c.in_ok-copy.ensures.copied told in
    record {
      stored = λ says.
          let there = c.in-Ok.ensures.copy.stored c.in_ok-copy.ensures.commit in
          (there.0, copy_holds copy files c.args.c.now there.0 says (copied_back files copy c.args.c.now.listed copied) there.1);
      held = λ docs h. c.in-Ok.ensures.copy.held docs (copy_holds files copy c.args.c.now docs c.in_ok-copy.ensures.commit copied h);
    }

pub returns-in_ok-check_index-in-Err-Damaged-clause-undefined : goal.returns-in_ok-check_index-in-Err-Damaged-clause-undefined
returns-in_ok-check_index-in-Err-Damaged-clause-undefined g c = λ told says state stored.
    let same = c.in_ok-copy.ensures.files told in
    let held = c.in_ok-check_index-in-Err-Damaged.ensures.holds told (subst (λ (f : Files). IsCommitIn f c.args.c.now) (sym same) says) in
    rw c.in-Err-Damaged.field-0-is at
    (c.in-Err-Damaged.ensures.whole held.0
    (copy_holds (g.F.Pages.files c.args.folder.now) (folder_files c.in_ok-copy.copy) c.args.c.now held.0 c.in_ok-copy.ensures.commit
    (c.in_ok-copy.ensures.copied told)
    (subst (λ (f : Files). HoldsIndex f c.args.c.now held.0) same held.1)))

pub returns-in_ok-check_index-in-Err-Damaged-clause-evident : goal.returns-in_ok-check_index-in-Err-Damaged-clause-evident
returns-in_ok-check_index-in-Err-Damaged-clause-evident g c = record {
  shows = rw c.in-Err-Damaged.field-0-is at c.in-Err-Damaged.ensures.shown;
  of_files = λ t.
      let same = c.in_ok-copy.ensures.files t.0 in
      let held = c.in_ok-check_index-in-Err-Damaged.ensures.holds t.0 (subst (λ (f : Files). IsCommitIn f c.args.c.now) (sym same) t.1) in
      absurd
      (rw c.in-Err-Damaged.field-0-is at
      (c.in-Err-Damaged.ensures.whole held.0
      (copy_holds (g.F.Pages.files c.args.folder.now) (folder_files c.in_ok-copy.copy) c.args.c.now held.0 c.in_ok-copy.ensures.commit
      (c.in_ok-copy.ensures.copied t.0)
      (subst (λ (f : Files). HoldsIndex f c.args.c.now held.0) same held.1))));
}

pub returns-in_err-check_index-in-Err-Damaged-clause-evident : goal.returns-in_err-check_index-in-Err-Damaged-clause-evident
returns-in_err-check_index-in-Err-Damaged-clause-evident g c =
    let files = g.F.Pages.files c.args.folder.now in
    let read = g.F.Pages.files c.copy_index.new.folder in
    let e = err_from_is_err_and c.from_residual-in_err-check_index-in-Err-Damaged.result c.from_residual-in_err-check_index-in-Err-Damaged.ensures.1 in
    rw (e.1, e.2)
    (on_evident_files {X = Unit {0}} (IsTrue g.F.Pages.told × IsCommitIn read c.args.c.now) (IsTrue g.F.Pages.told × IsCommitIn files c.args.c.now) read files
    (Err c.in_err-check_index-in-Err-Damaged.field-0.0)
    (λ t. (t.0, subst (λ (f : Files). IsCommitIn f c.args.c.now) (sym (c.in_ok-copy.ensures.files t.0)) t.1))
    (λ t. sym (c.in_ok-copy.ensures.files t.0)) c.in_err-check_index-in-Err-Damaged.ensures.evident)
