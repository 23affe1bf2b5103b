-- The lines are done in a session on the index, or none is opened.
use Rattle.std.proofs.Common.{ℕ, IsTrue, Result, arith, inr, refl, subst, ap, ◌∙◌}
use Rattle.std.proofs.lemmas.Bool.{false≢true}
use Rattle.std.specs.Prelude.{IsOk}
use Rattle.std.proofs.lemmas.Grind.{merely}
use Rattle.outer_io.specs.Files.{Files}
use Rattle.commands.specs.Opens.{Opens}
use Rattle.index_opening.specs.Evidence.{IsOfListed}
use Rattle.index_core.specs.Carried.{AreOfListed, IsFileOf}
use Rattle.index_core.proofs.Carrying.{listed_file}
use Rattle.index_core.proofs.Brought.{commit_equal, commit_then}
use Rattle.index_core.proofs.LosingNone.{keeps_same}
use Rattle.index_core.proofs.Sizes.{session_fits}
use Rattle.index_core.proofs.Undone.{fault_kept, kept_equal}
use Rattle.script_run.specs.Costs.{NoneCommits}
use Rattle.script_run.specs.Halted.{halt_result}
use Rattle.script_run.specs.declared.halt.Halt.{Halt}
use Rattle.script_run.specs.Kept.{HaltKeeps}
use Rattle.script_run.specs.Origins.{dims_of}
use Rattle.script_run.specs.Taking.{IsTakenOut}
use Rattle.script_run.proofs.Calling.{fault_stops}
use Rattle.script_run.proofs.Shown.{fault_wider}
use Rattle.script_run.proofs.Halting.{halt_cause_from, halt_named, halted_no_source, no_source, halted_cause, halted_ends, halted_keeps, halted_shows}
use Rattle.script_run.proofs.Lined.{unopened, origin_keeps}
use Rattle.script_run.proofs.SoFar.{place_on}
use Rattle.script_run.proofs.Reading.{of_any, of_same}
use Rattle.script_run.proofs.Starting.{open_fails, open_leads}
use Rattle.script_run.proofs.Taken.{opened_keeps}
use Rattle.script_run.proofs.indexed.run_over.Goals as goal
use Rattle.script_run.specs.Languages.{meaning}
use Rattle.run_status.proofs.Ending.{fault_shows, fault_cause}

pub open-requires : goal.open-requires
open-requires g c = (session_fits g.row.D c.requires.few, (c.requires.some, (c.requires.few, (c.requires.dims, c.requires.made))))

pub run_made-requires-after_bounds : goal.run_made-requires-after_bounds
run_made-requires-after_bounds g c κs = λ _. (session_fits g.row.D c.requires.few, (c.requires.some, (c.requires.few, c.requires.refused)))

pub returns-in-Ok-clause-does : goal.returns-in-Ok-clause-does
returns-in-Ok-clause-does g c = λ told.
    of_same _ c.args.reader.now (g.S.Source.left c.args.input.now) _ _ (λ lines does i stored h. (
      (does i stored (c.in-Ok.ensures.stands told i stored h)).0,
      open_leads c.args.work.now.language c.args.origin i stored c.args.tally.line lines _ _ _ _ (c.in-Ok.ensures.files told) _ _ c.run_made.result
          (c.in-Ok.ensures.opens told i stored h)
          (does i stored (c.in-Ok.ensures.stands told i stored h)).1,
    )) (c.run_made.ensures.does told)

pub returns-in-Ok-clause-cause : goal.returns-in-Ok-clause-cause
returns-in-Ok-clause-cause g c = halt_cause_from _ _ _ _ _ _ c.run_made.result c.in-Ok.ensures.cause.later (omega arith) c.run_made.ensures.cause

pub returns-in-Err-clause-does : goal.returns-in-Err-clause-does
returns-in-Err-clause-does g c = λ told. of_any _ c.args.reader.now (g.S.Source.left c.args.input.now) _ (λ lines i stored h. (
  halted_ends (meaning c.args.work.now.language) (IsTrue g.K.Sink.told)
      (place_on c.args.tally.line c.args.tally.refused i stored lines (g.K.Sink.written c.args.out.now)) _ _ c.stopped.result c.halt_result.result
      c.halt_result.ensures
      (unopened c.args.work.now.language (IsTrue g.K.Sink.told)
      (place_on c.args.tally.line c.args.tally.refused i stored lines (g.K.Sink.written c.args.out.now)) _ _ _ c.in-Err.fault
      (c.in-Err.ensures.whole told i stored h) (c.in-Err.ensures.files told) (origin_keeps (g.F.Pages.files c.args.folder.now) c.args.origin i stored h)
      c.stopped.result c.stopped.ensures refl),
  open_fails c.args.work.now.language c.args.origin i stored c.args.tally.line lines _ _ _ _ (c.in-Err.ensures.files told) c.in-Err.fault
      (c.in-Err.ensures.opens told i stored h) c.halt_result.result _ (c.halt_result.ensures ∙ ap halt_result c.stopped.ensures),
))

pub returns-in-Err-clause-cause : goal.returns-in-Err-clause-cause
returns-in-Err-clause-cause g c =
    halted_cause _ _ _ _ c.stopped.result c.halt_result.result c.halt_result.ensures
    (fault_cause _ _ _ c.in-Err.fault c.in-Err.ensures.cause c.stopped.result c.stopped.ensures)

pub returns-in-Err-clause-source : goal.returns-in-Err-clause-source
returns-in-Err-clause-source g c =
    no_source _ _ c.halt_result.result (omega arith) (halted_no_source c.stopped.result c.halt_result.result c.halt_result.ensures)

pub returns-in-Err-clause-read : goal.returns-in-Err-clause-read
returns-in-Err-clause-read g c = λ source knows. rw (c.halt_result.ensures, c.stopped.ensures) tt

pub returns-in-Ok-clause-evident : goal.returns-in-Ok-clause-evident
returns-in-Ok-clause-evident g c =
    let old = g.F.Pages.files c.args.folder.now in
    halt_named (IsFileOf (g.F.Pages.files c.open.new.folder) (g.F.Pages.files c.run_made.new.folder) c.in-Ok.session.set) (IsOfListed old) _ _ _
    c.run_made.result (λ p. (p.0, (c.in-Ok.ensures.knows p.0 p.1).trusts))
    (λ p file o. merely (inr (inr (listed_file old (g.F.Pages.files c.run_made.new.folder) c.in-Ok.session.set
    (subst (λ (f : Files). AreOfListed f c.in-Ok.session.set) (c.in-Ok.ensures.files p.0) (c.in-Ok.ensures.knows p.0 p.1).own) file
    (subst (λ (f : Files). IsFileOf f (g.F.Pages.files c.run_made.new.folder) c.in-Ok.session.set file) (c.in-Ok.ensures.files p.0) o)))))
    c.run_made.ensures.evident

pub returns-in-Err-clause-evident : goal.returns-in-Err-clause-evident
returns-in-Err-clause-evident g c =
    halted_shows _ c.stopped.result c.halt_result.result c.halt_result.ensures
    (fault_shows _ c.in-Err.fault (fault_wider _ _ _ _ c.in-Err.fault (λ p. p) c.in-Err.ensures.evident) c.stopped.result c.stopped.ensures)

pub returns-in-Ok-clause-keeps : goal.returns-in-Ok-clause-keeps
returns-in-Ok-clause-keeps g c = λ told.
    of_same _ c.args.reader.now (g.S.Source.left c.args.input.now) _ _ (λ lines keeps there.
    let made = keeps (c.in-Ok.ensures.knows told there).trusts in
    record {
      undone = λ quiet.
          subst (λ (f : Files). HaltKeeps f (g.F.Pages.files c.run_made.new.folder) c.run_made.result) (c.in-Ok.ensures.files told)
          (made.0 (subst (λ (n : ℕ). NoneCommits c.args.work.now.language n lines) c.requires.dims quiet));
      lasts = opened_keeps c.args.work.now.language g.row.D (dims_of c.args.origin) lines (g.F.Pages.files c.args.folder.now)
          (g.F.Pages.files c.open.new.folder) (g.F.Pages.files c.run_made.new.folder) c.in-Ok.session.set c.requires.dims (c.in-Ok.ensures.files told)
          (c.in-Ok.ensures.knows told there).finds made.1;
    })
    (c.run_made.ensures.keeps told)

pub returns-in-Err-clause-keeps : goal.returns-in-Err-clause-keeps
returns-in-Err-clause-keeps g c = λ told. of_any _ c.args.reader.now (g.S.Source.left c.args.input.now) _ (λ lines there. record {
  undone = λ quiet.
      halted_keeps (g.F.Pages.files c.args.folder.now) (g.F.Pages.files c.open.new.folder) c.stopped.result c.halt_result.result c.halt_result.ensures
      (rw c.stopped.ensures
      (fault_stops ℕ (g.F.Pages.files c.args.folder.now) (g.F.Pages.files c.open.new.folder) c.in-Err.fault
      (fault_kept _ _ (kept_equal _ _ (c.in-Err.ensures.files told)) c.in-Err.fault)));
  lasts = keeps_same (IsTakenOut c.args.work.now.language (dims_of c.args.origin) lines) _ _ (kept_equal _ _ (c.in-Err.ensures.files told));
})

pub returns-in-Ok-clause-lasting : goal.returns-in-Ok-clause-lasting
returns-in-Ok-clause-lasting g c = λ told there.
    commit_then (g.F.Pages.files c.args.folder.now) (g.F.Pages.files c.open.new.folder) (g.F.Pages.files c.run_made.new.folder)
    (commit_equal _ _ (c.in-Ok.ensures.files told)) (c.run_made.ensures.lasting told (c.in-Ok.ensures.knows told there).trusts)

pub returns-in-Err-clause-lasting : goal.returns-in-Err-clause-lasting
returns-in-Err-clause-lasting g c = λ told there. commit_equal _ _ (c.in-Err.ensures.files told)

pub returns-in-Ok-clause-opened : goal.returns-in-Ok-clause-opened
returns-in-Ok-clause-opened g c = λ told there ok. subst Opens (c.in-Ok.ensures.files told) (c.in-Ok.ensures.knows told there).opens

pub returns-in-Err-clause-opened : goal.returns-in-Err-clause-opened
returns-in-Err-clause-opened g c = λ told there ok.
    absurd (false≢true (subst (λ (r : Result ℕ Halt). IsOk r) (c.halt_result.ensures ∙ ap halt_result c.stopped.ensures) ok))
