-- The lines are done on what the folder stores: no index, or the one whose commit was read.
use Rattle.std.proofs.Common.{ℕ, IsTrue, refl, arith, Option, Result, Err, inl, ap, subst, ◌∙◌}
use Rattle.std.proofs.lemmas.Bool.{false≢true}
use Rattle.std.specs.Prelude.{IsOk}
use Rattle.commands.specs.Opens.{Opens}
use Rattle.commands.proofs.Opening.{reads_none, reads_some}
use Rattle.index_core.proofs.Brought.{commit_equal, commit_then}
use Rattle.index_core.proofs.LosingNone.{keeps_none, keeps_same}
use Rattle.index_core.proofs.Undone.{fault_kept, kept_equal}
use Rattle.outer_io.specs.declared.file_name.FileName.TheVariants.{Commit}
use Rattle.outer_io.specs.Files.{Files}
use Rattle.commit_list.specs.Commits.{CommitData}
use Rattle.index_opening.proofs.Evident.{on_commit_evident, says_after}
use Rattle.script_run.specs.Halted.{halt_result}
use Rattle.script_run.specs.declared.halt.Halt.{Halt}
use Rattle.script_run.specs.Kept.{HaltKeeps}
use Rattle.script_run.specs.Progress.{start}
use Rattle.script_run.specs.Taking.{IsTakenOutOf}
use Rattle.script_run.proofs.Calling.{fault_stops}
use Rattle.script_run.proofs.Halting.{halt_cause_from, halt_since, halted_no_source, no_source, halted_cause, halted_ends, halted_keeps, halted_shows}
use Rattle.script_run.proofs.Lined.{unopened, from_none, from_some}
use Rattle.script_run.proofs.Reading.{of_any, of_same}
use Rattle.script_run.proofs.Shown.{fault_at, fault_wider}
use Rattle.script_run.proofs.StartStored.{leads_first, leads_some, leads_unread}
use Rattle.script_run.proofs.Taken.{commit_keeps}
use Rattle.script_run.proofs.lines.run_read.Goals as goal
use Rattle.script_run.specs.Languages.{meaning}
use Rattle.run_status.proofs.Ending.{fault_shows, fault_cause}
use Rattle.stored_index.proofs.Whole.{not_damaged}

pub returns-in-Ok-None-clause-does : goal.returns-in-Ok-None-clause-does
returns-in-Ok-None-clause-does g c = λ told.
    let none = rw c.in-Ok-None.field-0-is at (c.in-Ok-None.ensures.found told) in
    of_same _ c.args.reader.now (g.S.Source.left c.args.input.now) _ _ (λ lines does state h. (
      from_none c.args.work.now.language (IsTrue g.K.Sink.told) _ _ _ _ state (c.in-Ok-None.ensures.files told) none h lines _ c.run_first.result
          (λ still. (does still).0),
      leads_first c.args.work.now.language state lines _ _ _ _ _ _ c.run_first.result (c.in-Ok-None.ensures.files told) h none
          (c.in-Ok-None.ensures.unread told none) (λ still. (does still).1),
    )) (c.run_first.ensures.does told)

pub returns-in-Ok-None-clause-cause : goal.returns-in-Ok-None-clause-cause
returns-in-Ok-None-clause-cause g c = halt_cause_from _ _ _ _ _ _ c.run_first.result c.in-Ok-None.ensures.cause.later (omega arith) c.run_first.ensures.cause

pub returns-in-Ok-Some-clause-does : goal.returns-in-Ok-Some-clause-does
returns-in-Ok-Some-clause-does g c = λ told.
    let says = rw c.in-Ok-Some.field-0-is at (c.in-Ok-Some.ensures.found told) in
    of_same _ c.args.reader.now (g.S.Source.left c.args.input.now) _ _ (λ lines does state h. (
      from_some c.args.work.now.language (IsTrue g.K.Sink.told) _ _ _ _ c.in-Ok-Some.commit state (c.in-Ok-Some.ensures.files told) says h lines
          _ c.run_from.result (λ i stored from. (does i stored from).0),
      leads_some c.args.work.now.language state lines _ _ _ _ _ _ c.run_from.result (c.in-Ok-Some.ensures.files told) h c.in-Ok-Some.commit says
          (c.in-Ok-Some.ensures.most told c.in-Ok-Some.commit says) (λ i stored from. (does i stored from).1),
    )) (c.run_from.ensures.does told)

pub returns-in-Ok-Some-clause-cause : goal.returns-in-Ok-Some-clause-cause
returns-in-Ok-Some-clause-cause g c = halt_cause_from _ _ _ _ _ _ c.run_from.result c.in-Ok-Some.ensures.cause.later (omega arith) c.run_from.ensures.cause

pub returns-in-Err-clause-does : goal.returns-in-Err-clause-does
returns-in-Err-clause-does g c = λ told. of_any _ c.args.reader.now (g.S.Source.left c.args.input.now) _ (λ lines state h. (
  halted_ends (meaning c.args.work.now.language) (IsTrue g.K.Sink.told) (start state lines (g.K.Sink.written c.args.out.now)) _ _ c.stopped.result
      c.halt_result.result c.halt_result.ensures
      (unopened c.args.work.now.language (IsTrue g.K.Sink.told) (start state lines (g.K.Sink.written c.args.out.now)) _ _ _ c.in-Err.fault
      (not_damaged (g.F.Pages.files c.args.folder.now) state h (c.in-Err.ensures.absent told) (c.in-Err.ensures.whole told)) (c.in-Err.ensures.files told) h
      c.stopped.result c.stopped.ensures refl),
  leads_unread c.args.work.now.language state lines _ _ _ _ c.halt_result.result _ (c.in-Err.ensures.files told) (c.in-Err.ensures.unread told)
      (c.in-Err.ensures.most told) (c.halt_result.ensures ∙ ap halt_result c.stopped.ensures),
))

pub returns-in-Err-clause-cause : goal.returns-in-Err-clause-cause
returns-in-Err-clause-cause g c =
    halted_cause _ _ _ _ c.stopped.result c.halt_result.result c.halt_result.ensures
    (fault_cause _ _ _ c.in-Err.fault c.in-Err.ensures.cause c.stopped.result c.stopped.ensures)

pub returns-in-Err-clause-source : goal.returns-in-Err-clause-source
returns-in-Err-clause-source g c =
    no_source _ _ c.halt_result.result (omega arith) (halted_no_source c.stopped.result c.halt_result.result c.halt_result.ensures)

pub returns-in-Err-clause-read : goal.returns-in-Err-clause-read
returns-in-Err-clause-read g c = λ source knows. rw (c.halt_result.ensures, c.stopped.ensures) tt

pub returns-in-Ok-None-clause-evident : goal.returns-in-Ok-None-clause-evident
returns-in-Ok-None-clause-evident g c =
    halt_since _ _ _ _ _ c.run_first.result
    (λ told. (told, ap (λ (f : Files). f Commit) (c.in-Ok-None.ensures.files told) ∙ rw c.in-Ok-None.field-0-is at (c.in-Ok-None.ensures.found told)))
    c.in-Ok-None.ensures.files c.run_first.ensures.evident

pub returns-in-Ok-Some-clause-evident : goal.returns-in-Ok-Some-clause-evident
returns-in-Ok-Some-clause-evident g c =
    halt_since _ _ _ _ _ c.run_from.result
    (λ told. (told, says_after _ _ c.in-Ok-Some.commit (c.in-Ok-Some.ensures.files told) (rw c.in-Ok-Some.field-0-is at (c.in-Ok-Some.ensures.found told))))
    c.in-Ok-Some.ensures.files c.run_from.ensures.evident

pub returns-in-Err-clause-evident : goal.returns-in-Err-clause-evident
returns-in-Err-clause-evident g c =
    halted_shows _ c.stopped.result c.halt_result.result c.halt_result.ensures
    (fault_shows _ c.in-Err.fault
    (fault_wider _ _ _ _ c.in-Err.fault (λ told. told) (fault_at _ _ _ _ c.in-Err.fault (λ told. told) c.in-Err.ensures.files
    (on_commit_evident {X = Option CommitData} (IsTrue g.F.Pages.told) (g.F.Pages.files c.args.folder.now) (Err c.in-Err.fault) c.in-Err.ensures.damage
    c.in-Err.ensures.shown)))
    c.stopped.result c.stopped.ensures)

pub returns-in-Ok-None-clause-keeps : goal.returns-in-Ok-None-clause-keeps
returns-in-Ok-None-clause-keeps g c = λ told.
    let none = rw c.in-Ok-None.field-0-is at (c.in-Ok-None.ensures.found told) in
    of_any _ c.args.reader.now (g.S.Source.left c.args.input.now) _ (λ lines. record {
      undone = λ quiet. absurd (quiet.there none);
      lasts = keeps_none (IsTakenOutOf c.args.work.now.language (g.F.Pages.files c.args.folder.now) lines) _ _ none;
    })

pub returns-in-Ok-Some-clause-keeps : goal.returns-in-Ok-Some-clause-keeps
returns-in-Ok-Some-clause-keeps g c = λ told.
    let found = rw c.in-Ok-Some.field-0-is at (c.in-Ok-Some.ensures.found told) in
    of_same _ c.args.reader.now (g.S.Source.left c.args.input.now) _ _ (λ lines keeps.
    let done = keeps (says_after _ _ c.in-Ok-Some.commit (c.in-Ok-Some.ensures.files told) found) in
    record {
      undone = λ quiet.
          subst (λ (f : Files). HaltKeeps f (g.F.Pages.files c.run_from.new.folder) c.run_from.result) (c.in-Ok-Some.ensures.files told)
          (done.undone (quiet.none c.in-Ok-Some.commit found));
      lasts = commit_keeps c.args.work.now.language c.in-Ok-Some.commit lines (g.F.Pages.files c.args.folder.now) (g.F.Pages.files c.read_commit.new.folder)
          (g.F.Pages.files c.run_from.new.folder) found (c.in-Ok-Some.ensures.files told) done.lasts;
    })
    (c.run_from.ensures.keeps told)

pub returns-in-Err-clause-keeps : goal.returns-in-Err-clause-keeps
returns-in-Err-clause-keeps g c = λ told.
    of_any _ c.args.reader.now (g.S.Source.left c.args.input.now) _ (λ lines. record {
      undone = λ quiet.
          halted_keeps (g.F.Pages.files c.args.folder.now) (g.F.Pages.files c.read_commit.new.folder) c.stopped.result c.halt_result.result
          c.halt_result.ensures
          (rw c.stopped.ensures
          (fault_stops ℕ (g.F.Pages.files c.args.folder.now) (g.F.Pages.files c.read_commit.new.folder) c.in-Err.fault
          (fault_kept _ _ (kept_equal _ _ (c.in-Err.ensures.files told)) c.in-Err.fault)));
      lasts = keeps_same (IsTakenOutOf c.args.work.now.language (g.F.Pages.files c.args.folder.now) lines) _ _ (kept_equal _ _ (c.in-Err.ensures.files told));
    })

pub returns-in-Ok-None-clause-lasting : goal.returns-in-Ok-None-clause-lasting
returns-in-Ok-None-clause-lasting g c = λ told.
    commit_then (g.F.Pages.files c.args.folder.now) (g.F.Pages.files c.read_commit.new.folder) (g.F.Pages.files c.run_first.new.folder)
    (commit_equal _ _ (c.in-Ok-None.ensures.files told))
    (c.run_first.ensures.lasting told
    (ap (λ (f : Files). f Commit) (c.in-Ok-None.ensures.files told) ∙ rw c.in-Ok-None.field-0-is at (c.in-Ok-None.ensures.found told)))

pub returns-in-Ok-Some-clause-lasting : goal.returns-in-Ok-Some-clause-lasting
returns-in-Ok-Some-clause-lasting g c = λ told.
    commit_then (g.F.Pages.files c.args.folder.now) (g.F.Pages.files c.read_commit.new.folder) (g.F.Pages.files c.run_from.new.folder)
    (commit_equal _ _ (c.in-Ok-Some.ensures.files told))
    (c.run_from.ensures.lasting told
    (says_after _ _ c.in-Ok-Some.commit (c.in-Ok-Some.ensures.files told) (rw c.in-Ok-Some.field-0-is at (c.in-Ok-Some.ensures.found told))))

pub returns-in-Err-clause-lasting : goal.returns-in-Err-clause-lasting
returns-in-Err-clause-lasting g c = λ told. commit_equal _ _ (c.in-Err.ensures.files told)

pub returns-in-Ok-None-clause-opened : goal.returns-in-Ok-None-clause-opened
returns-in-Ok-None-clause-opened g c = λ told.
    let none = rw c.in-Ok-None.field-0-is at (c.in-Ok-None.ensures.found told) in
    record { opens = λ ok. inl none; stays = reads_none (g.F.Pages.files c.args.folder.now) none }

pub returns-in-Ok-Some-clause-opened : goal.returns-in-Ok-Some-clause-opened
returns-in-Ok-Some-clause-opened g c = λ told.
    let found = rw c.in-Ok-Some.field-0-is at (c.in-Ok-Some.ensures.found told) in
    record {
      opens = λ ok. subst Opens (c.in-Ok-Some.ensures.files told)
          (c.run_from.ensures.opened told (says_after _ _ c.in-Ok-Some.commit (c.in-Ok-Some.ensures.files told) found) ok);
      stays = reads_some (g.F.Pages.files c.args.folder.now) c.in-Ok-Some.commit found;
    }

pub returns-in-Err-clause-opened : goal.returns-in-Err-clause-opened
returns-in-Err-clause-opened g c = λ told. record {
  opens = λ ok. absurd (false≢true (subst (λ (r : Result ℕ Halt). IsOk r) (c.halt_result.ensures ∙ ap halt_result c.stopped.ensures) ok));
  stays = λ bad. c.in-Err.ensures.files told;
}
