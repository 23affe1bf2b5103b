-- What the folder's commit says decides whether an index is made.
use Rattle.std.proofs.Common.{◌≡◌, Bool, true, None, Err, IsTrue, OnOk, refl, sym, ap, subst, ◌∙◌, inl, inr}
use Rattle.std.proofs.lemmas.Bool.{false≢true}
use Rattle.commands.proofs.Opening.{reads_none}
use Rattle.std.proofs.lemmas.Result.{err_from_is_err_and}
use Rattle.outer_io.specs.declared.file_name.FileName.TheVariants.{Commit}
use Rattle.outer_io.specs.Files.{Files}
use Rattle.page_cache.specs.declared.faults.PageFault.{PageFault}
use Rattle.index_opening.proofs.Evident.{on_evident_less}
use Rattle.index_core.specs.Light.{KeepsLevels}
use Rattle.index_core.specs.Steps.{KeepsUndone}
use Rattle.index_core.specs.Whole.{DoesWhole, HasNewCanonical}
use Rattle.index_core.proofs.Brought.{commit_equal, commit_then}
use Rattle.index_core.proofs.Lasting.{NoneGoes}
use Rattle.index_core.proofs.LosingNone.{keeps_none, keeps_same}
use Rattle.index_core.proofs.Undone.{fault_kept, kept_equal, undone_kept}
use Rattle.index_core.proofs.FaultCauses.{done_cause, fault_to, memory_cause}
use Rattle.index_model.specs.State.{State}
use Rattle.stored_index.specs.Stored.{IsStored}
use Rattle.drawn_points.specs.Generated.{generate_answer}
use Rattle.generate_index.proofs.Ended.{commit_there, ends_there, ends_unread, ends_untold, memory_evident, none_anew, none_there, unread_evident}
use Rattle.generate_index.proofs.generator.generate.Goals as goal
use Rattle.stored_index.proofs.Whole.{not_damaged}
use Rattle.segment_set.proofs.Saving.{cause_after}

pub returns-in-Ok-Some-clause-generates : goal.returns-in-Ok-Some-clause-generates
returns-in-Ok-Some-clause-generates g c = λ told state h.
    let same = c.in-Ok-Some.ensures.files told in
    ends_there (g.F.Pages.files c.read_commit.new.folder) state c.args.docs c.args.seed
    _ _ (λ none. commit_there (g.F.Pages.files c.args.folder.now) _ (rw c.in-Ok-Some.field-0-is at (c.in-Ok-Some.ensures.found told))
    (ap (λ (f : Files). f Commit) (sym same) ∙ none))
    (subst (λ (f : Files). IsStored f state) (sym same) h) c.in_ok-put_exists-in-Ok-Some.ensures

pub returns-in-Ok-None-clause-generates : goal.returns-in-Ok-None-clause-generates
returns-in-Ok-None-clause-generates g c = λ told state h.
    let same = c.in-Ok-None.ensures.files told in
    let none = rw c.in-Ok-None.field-0-is at (c.in-Ok-None.ensures.found told) in
    subst (λ (s : State). DoesWhole (g.F.Pages.files c.generate_first.new.folder) s (generate_answer s c.args.docs c.args.seed) c.args.text.now.items
    c.generate_first.new.text.items c.generate_first.result) (sym (none_there (g.F.Pages.files c.args.folder.now) state none h))
    (c.generate_first.ensures.generates told (ap (λ (f : Files). f Commit) same ∙ none))

pub returns-in-Ok-None-clause-canon : goal.returns-in-Ok-None-clause-canon
returns-in-Ok-None-clause-canon g c = λ told state h.
    let same = c.in-Ok-None.ensures.files told in
    subst (λ (f : Files). OnOk c.generate_first.result (HasNewCanonical f (g.F.Pages.files c.generate_first.new.folder))) same
    (c.generate_first.ensures.canon told (ap (λ (f : Files). f Commit) same ∙ rw c.in-Ok-None.field-0-is at (c.in-Ok-None.ensures.found told)))

pub returns-clause-generates : goal.returns-clause-generates
returns-clause-generates g c = λ told state h.
    ends_unread Bool (g.F.Pages.files c.args.folder.now) (g.F.Pages.files c.read_commit.new.folder) state (generate_answer state c.args.docs c.args.seed)
    c.args.text.now.items c.args.text.now.items c.in-Err.fault _ refl
    (not_damaged (g.F.Pages.files c.args.folder.now) state h (c.in-Err.ensures.absent told) (c.in-Err.ensures.whole told)) (c.in-Err.ensures.files told) h

pub returns-clause-evident : goal.returns-clause-evident
returns-clause-evident g c =
    unread_evident (IsTrue g.F.Pages.told) (g.F.Pages.files c.args.folder.now) (g.F.Pages.files c.read_commit.new.folder) c.in-Err.fault c.in-Err.ensures.files
    c.in-Err.ensures.damage c.in-Err.ensures.shown

pub returns-in-Ok-None-clause-evident : goal.returns-in-Ok-None-clause-evident
returns-in-Ok-None-clause-evident g c =
    on_evident_less (IsTrue g.F.Pages.told × (g.F.Pages.files c.read_commit.new.folder Commit ≡ None)) (IsTrue g.F.Pages.told)
    (g.F.Pages.files c.generate_first.new.folder) c.generate_first.result
    (λ told. (told, ap (λ (f : Files). f Commit) (c.in-Ok-None.ensures.files told) ∙ rw c.in-Ok-None.field-0-is at (c.in-Ok-None.ensures.found told)))
    c.generate_first.ensures.evident

pub returns-in_err-put_exists-in-Ok-Some-clause-evident : goal.returns-in_err-put_exists-in-Ok-Some-clause-evident
returns-in_err-put_exists-in-Ok-Some-clause-evident g c =
    let p = err_from_is_err_and c.from_residual.result c.from_residual.ensures.1 in
    memory_evident (IsTrue g.F.Pages.told) (g.F.Pages.files c.read_commit.new.folder) _ (p.1 ∙ ap (λ (e : PageFault). Err e) p.2)

pub returns-in-Ok-Some-clause-canon : goal.returns-in-Ok-Some-clause-canon
returns-in-Ok-Some-clause-canon g c = λ told state h. none_anew _ _ (c.in-Ok-Some.ensures.files told)

pub returns-in-Ok-Some-clause-cause : goal.returns-in-Ok-Some-clause-cause
returns-in-Ok-Some-clause-cause g c = done_cause _ _ _ true c.in-Ok-Some.ensures.cause

pub returns-in-Ok-None-clause-cause : goal.returns-in-Ok-None-clause-cause
returns-in-Ok-None-clause-cause g c = cause_after _ _ _ _ c.in-Ok-None.ensures.cause.on_ok c.generate_first.ensures.cause

pub returns-clause-cause : goal.returns-clause-cause
returns-clause-cause g c = fault_to _ _ c.in-Err.fault c.in-Err.ensures.cause

pub returns-in_err-put_exists-in-Ok-Some-clause-cause : goal.returns-in_err-put_exists-in-Ok-Some-clause-cause
returns-in_err-put_exists-in-Ok-Some-clause-cause g c =
    let p = err_from_is_err_and c.from_residual.result c.from_residual.ensures.1 in
    rw (p.1 ∙ ap (λ (e : PageFault). Err e) p.2) (memory_cause _ _ c.in-Ok-Some.ensures.cause.later)

pub returns-in_err-put_exists-in-Ok-Some-clause-generates : goal.returns-in_err-put_exists-in-Ok-Some-clause-generates
returns-in_err-put_exists-in-Ok-Some-clause-generates g c = λ told state h.
    let p = err_from_is_err_and c.from_residual.result c.from_residual.ensures.1 in
    ends_untold (g.F.Pages.files c.read_commit.new.folder) state (generate_answer state c.args.docs c.args.seed) c.args.text.now.items
    c.put_exists.new.text.items
    _ (p.1 ∙ ap (λ (e : PageFault). Err e) p.2)
    (subst (λ (f : Files). IsStored f state) (sym (c.in-Ok-Some.ensures.files told)) h)

pub returns-in-Ok-Some-clause-levels : goal.returns-in-Ok-Some-clause-levels
returns-in-Ok-Some-clause-levels g c = λ told state h. inl (ap (λ (f : Files). f Commit) (c.in-Ok-Some.ensures.files told))

pub returns-in-Ok-None-clause-levels : goal.returns-in-Ok-None-clause-levels
returns-in-Ok-None-clause-levels g c = λ told state h.
    let same = c.in-Ok-None.ensures.files told in
    subst (λ (f : Files). OnOk c.generate_first.result (KeepsLevels f (g.F.Pages.files c.generate_first.new.folder))) same
    (c.generate_first.ensures.levels told (ap (λ (f : Files). f Commit) same ∙ rw c.in-Ok-None.field-0-is at (c.in-Ok-None.ensures.found told)))

pub returns-in-Ok-None-clause-undone : goal.returns-in-Ok-None-clause-undone
returns-in-Ok-None-clause-undone g c = λ told.
    let same = c.in-Ok-None.ensures.files told in
    subst (λ (f : Files). KeepsUndone f (g.F.Pages.files c.generate_first.new.folder) c.generate_first.result) same
    (c.generate_first.ensures.undone told (ap (λ (f : Files). f Commit) same ∙ rw c.in-Ok-None.field-0-is at (c.in-Ok-None.ensures.found told)))

pub returns-clause-undone : goal.returns-clause-undone
returns-clause-undone g c = λ told.
    fault_kept (g.F.Pages.files c.args.folder.now) (g.F.Pages.files c.read_commit.new.folder) (kept_equal _ _ (c.in-Err.ensures.files told)) c.in-Err.fault

pub returns-in_err-put_exists-in-Ok-Some-clause-undone : goal.returns-in_err-put_exists-in-Ok-Some-clause-undone
returns-in_err-put_exists-in-Ok-Some-clause-undone g c = λ told.
    let p = err_from_is_err_and c.from_residual.result c.from_residual.ensures.1 in
    undone_kept (g.F.Pages.files c.args.folder.now) (g.F.Pages.files c.read_commit.new.folder) _ _ (p.1 ∙ ap (λ (e : PageFault). Err e) p.2)
    (kept_equal _ _ (c.in-Ok-Some.ensures.files told))

pub returns-in-Ok-None-clause-lasting : goal.returns-in-Ok-None-clause-lasting
returns-in-Ok-None-clause-lasting g c = λ told.
    let same = c.in-Ok-None.ensures.files told in
    commit_then (g.F.Pages.files c.args.folder.now) (g.F.Pages.files c.read_commit.new.folder) (g.F.Pages.files c.generate_first.new.folder)
    (commit_equal _ _ same)
    (c.generate_first.ensures.lasting told (ap (λ (f : Files). f Commit) same ∙ rw c.in-Ok-None.field-0-is at (c.in-Ok-None.ensures.found told)))

pub returns-clause-lasting : goal.returns-clause-lasting
returns-clause-lasting g c = λ told. commit_equal _ _ (c.in-Err.ensures.files told)

pub returns-in-Ok-Some-clause-lasting : goal.returns-in-Ok-Some-clause-lasting
returns-in-Ok-Some-clause-lasting g c = λ told. commit_equal _ _ (c.in-Ok-Some.ensures.files told)

pub returns-in_err-put_exists-in-Ok-Some-clause-lasting : goal.returns-in_err-put_exists-in-Ok-Some-clause-lasting
returns-in_err-put_exists-in-Ok-Some-clause-lasting g c = λ told. commit_equal _ _ (c.in-Ok-Some.ensures.files told)

-- what is kept stays live, since no file changes where anything is kept
pub returns-in-Ok-None-clause-lasts : goal.returns-in-Ok-None-clause-lasts
returns-in-Ok-None-clause-lasts g c = λ told.
    keeps_none NoneGoes (g.F.Pages.files c.args.folder.now) (g.F.Pages.files c.generate_first.new.folder)
    (rw c.in-Ok-None.field-0-is at (c.in-Ok-None.ensures.found told))

pub returns-clause-lasts : goal.returns-clause-lasts
returns-clause-lasts g c = λ told.
    keeps_same NoneGoes (g.F.Pages.files c.args.folder.now) (g.F.Pages.files c.read_commit.new.folder) (kept_equal _ _ (c.in-Err.ensures.files told))

pub returns-in-Ok-Some-clause-lasts : goal.returns-in-Ok-Some-clause-lasts
returns-in-Ok-Some-clause-lasts g c = λ told.
    keeps_same NoneGoes (g.F.Pages.files c.args.folder.now) (g.F.Pages.files c.read_commit.new.folder) (kept_equal _ _ (c.in-Ok-Some.ensures.files told))

pub returns-in_err-put_exists-in-Ok-Some-clause-lasts : goal.returns-in_err-put_exists-in-Ok-Some-clause-lasts
returns-in_err-put_exists-in-Ok-Some-clause-lasts g c = λ told.
    keeps_same NoneGoes (g.F.Pages.files c.args.folder.now) (g.F.Pages.files c.read_commit.new.folder) (kept_equal _ _ (c.in-Ok-Some.ensures.files told))

-- it is answered only where the Commit file can be read
pub returns-in-Ok-Some-clause-opened : goal.returns-in-Ok-Some-clause-opened
returns-in-Ok-Some-clause-opened g c = λ told.
    let found = rw c.in-Ok-Some.field-0-is at (c.in-Ok-Some.ensures.found told) in
    record { reads = λ ok. inr (_, found); stays = λ bad. c.in-Ok-Some.ensures.files told }

pub returns-in_err-put_exists-in-Ok-Some-clause-opened : goal.returns-in_err-put_exists-in-Ok-Some-clause-opened
returns-in_err-put_exists-in-Ok-Some-clause-opened g c = λ told.
    let found = rw c.in-Ok-Some.field-0-is at (c.in-Ok-Some.ensures.found told) in
    record { reads = λ ok. inr (_, found); stays = λ bad. c.in-Ok-Some.ensures.files told }

pub returns-in-Ok-None-clause-opened : goal.returns-in-Ok-None-clause-opened
returns-in-Ok-None-clause-opened g c = λ told.
    let none = rw c.in-Ok-None.field-0-is at (c.in-Ok-None.ensures.found told) in
    record { reads = λ ok. inl none; stays = reads_none (g.F.Pages.files c.args.folder.now) none }

pub returns-clause-opened : goal.returns-clause-opened
returns-clause-opened g c = λ told. record { reads = λ ok. absurd (false≢true ok); stays = λ bad. c.in-Err.ensures.files told }
