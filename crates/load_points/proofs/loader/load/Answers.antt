-- What the folder's commit says decides where the file goes.
use Rattle.std.proofs.Common.{Err, IsTrue, inl, refl, sym, ap, subst, ◌∙◌}
use Rattle.std.proofs.lemmas.Bool.{false≢true}
use Rattle.outer_io.specs.declared.file_name.FileName.TheVariants.{Commit}
use Rattle.outer_io.specs.Files.{Files, bytes_of}
use Rattle.commit_list.specs.CommitFiles.{IsCommitFile}
use Rattle.stored_index.specs.Stored.{IsStored}
use Rattle.index_opening.proofs.Evident.{says_after}
use Rattle.commands.specs.Opens.{Opens}
use Rattle.commands.proofs.Opening.{reads_none, reads_some}
use Rattle.load_points.specs.Loaded.{load_answer}
use Rattle.load_points.proofs.Loading.{loads_after}
use Rattle.load_points.proofs.Opening.{none_stored, some_stored}
use Rattle.load_points.proofs.LoadAnswers.{evident_all, stored_still_there, unread_commit}
use Rattle.load_points.proofs.loader.load.Goals as goal
use Rattle.stored_index.proofs.Whole.{not_damaged}

-- the clauses are those of one record
pub returns-in-Ok-Some : goal.returns-in-Ok-Some
returns-in-Ok-Some g c =
    let whole = loads_after _ (Unit {0}) _ (IsStored (g.F.Pages.files c.args.folder.now)) _ (λ stored. load_answer stored c.args.input.now c.args.columns.now)
    _ _ _ _ c.load_stored.result c.in-Ok-Some.ensures.files refl c.in-Ok-Some.ensures.cause
    (λ told h. subst (λ (f : Files). IsCommitFile (bytes_of (f Commit)) c.in-Ok-Some.commit) (sym (c.in-Ok-Some.ensures.files told))
    (rw c.in-Ok-Some.field-0-is at (c.in-Ok-Some.ensures.found told)))
    (λ told stored h. some_stored (g.F.Pages.files c.read_commit.new.folder) c.in-Ok-Some.commit stored
    (subst (λ (f : Files). IsCommitFile (bytes_of (f Commit)) c.in-Ok-Some.commit) (sym (c.in-Ok-Some.ensures.files told))
    (rw c.in-Ok-Some.field-0-is at (c.in-Ok-Some.ensures.found told)))
    (stored_still_there _ _ stored (c.in-Ok-Some.ensures.files told) h)) c.load_stored.ensures.loads in
    record {
      loads = whole.does;
      unchanged = whole.unchanged;
      canon = whole.canon;
      levels = whole.levels;
      undone = λ told. whole.undone told tt;
      lasting = λ told. whole.lasting told tt;
      lasts = λ told. whole.lasts told tt;
      opened = λ told.
          let found = rw c.in-Ok-Some.field-0-is at (c.in-Ok-Some.ensures.found told) in
          record {
            opens = λ ok. subst Opens (c.in-Ok-Some.ensures.files told)
                (c.load_stored.ensures.opened told (says_after _ _ c.in-Ok-Some.commit (c.in-Ok-Some.ensures.files told) found) ok);
            stays = reads_some (g.F.Pages.files c.args.folder.now) c.in-Ok-Some.commit found;
          };
      cause = whole.cause;
      evident = evident_all (IsTrue g.F.Pages.told) (g.F.Pages.files c.load_stored.new.folder) c.load_stored.result whole.evident;
    }

pub returns-in-Ok-None : goal.returns-in-Ok-None
returns-in-Ok-None g c =
    let whole = loads_after _ (Unit {0}) _ (IsStored (g.F.Pages.files c.args.folder.now)) _ (λ stored. load_answer stored c.args.input.now c.args.columns.now)
    _ _ _ _ c.load_first.result c.in-Ok-None.ensures.files refl c.in-Ok-None.ensures.cause
    (λ told h. ap (λ (f : Files). f Commit) (c.in-Ok-None.ensures.files told) ∙ rw c.in-Ok-None.field-0-is at (c.in-Ok-None.ensures.found told))
    (λ told stored h. none_stored (g.F.Pages.files c.read_commit.new.folder) stored
    (ap (λ (f : Files). f Commit) (c.in-Ok-None.ensures.files told) ∙ rw c.in-Ok-None.field-0-is at (c.in-Ok-None.ensures.found told))
    (stored_still_there _ _ stored (c.in-Ok-None.ensures.files told) h)) c.load_first.ensures in
    record {
      loads = whole.does;
      unchanged = whole.unchanged;
      canon = whole.canon;
      levels = whole.levels;
      undone = λ told. whole.undone told tt;
      lasting = λ told. whole.lasting told tt;
      lasts = λ told. whole.lasts told tt;
      opened = λ told.
          let none = rw c.in-Ok-None.field-0-is at (c.in-Ok-None.ensures.found told) in
          record { opens = λ ok. inl none; stays = reads_none (g.F.Pages.files c.args.folder.now) none };
      cause = whole.cause;
      evident = evident_all (IsTrue g.F.Pages.told) (g.F.Pages.files c.load_first.new.folder) c.load_first.result whole.evident;
    }

pub returns-in-Err : goal.returns-in-Err
returns-in-Err g c =
    let whole = unread_commit _ (λ stored. load_answer stored c.args.input.now c.args.columns.now)
    (record { files = g.F.Pages.files c.args.folder.now; faults = g.F.Pages.faults c.args.folder.now; text = c.args.text.now.items })
    (record { files = g.F.Pages.files c.read_commit.new.folder; faults = g.F.Pages.faults c.read_commit.new.folder; text = c.args.text.now.items })
    c.in-Err.fault _ refl c.in-Err.ensures.files
    (λ told stored h. not_damaged (g.F.Pages.files c.args.folder.now) stored h (c.in-Err.ensures.absent told) (c.in-Err.ensures.whole told))
    c.in-Err.ensures.cause c.in-Err.ensures.damage c.in-Err.ensures.shown in
    record {
      loads = whole.does;
      unchanged = whole.unchanged;
      canon = whole.canon;
      levels = whole.levels;
      undone = λ told. whole.undone told tt;
      lasting = λ told. whole.lasting told tt;
      lasts = λ told. whole.lasts told tt;
      opened = λ told. record { opens = λ ok. absurd (false≢true ok); stays = λ bad. c.in-Err.ensures.files told };
      cause = whole.cause;
      evident = evident_all (IsTrue g.F.Pages.told) (g.F.Pages.files c.read_commit.new.folder) (Err c.in-Err.fault) whole.evident;
    }
