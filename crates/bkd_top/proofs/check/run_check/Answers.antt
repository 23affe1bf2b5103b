-- What there is to tell was sent, or cut, or a fault came before.
use Rattle.std.proofs.Common.{Bool, true, Err, IsTrue, refl, sym, ap, subst, ◌∙◌}
use Rattle.page_cache.specs.Evidence.{FaultShows}
use Rattle.folder_check.specs.Checked.{IsChecked}
use Rattle.folder_check.specs.First.{IsFirst}
use Rattle.index_opening.specs.Evidence.{IsEvident, IsEvidentSince, IsFound}
use Rattle.index_opening.proofs.Evident.{on_evident_files}
use Rattle.run_status.specs.Ends.{DoesNothing, IsDamaged}
use Rattle.run_status.specs.Stops.{status_of, stop_of}
use Rattle.script_run.proofs.Shown.{fault_status, status_since}
use Rattle.bkd_top.proofs.Finished.{fault_no_sink, fault_rose, sent_no_folder, sent_undamaged}
use Rattle.bkd_top.proofs.Verdict.{fault_check, fault_whole, sent_check, told_text}
use Rattle.bkd_top.proofs.check.run_check.Goals as goal
use Rattle.run_status.proofs.Ending.{does_lines, folder_stopped, sink_stopped, sink_shows, status_shows}

pub returns-in-Ok-clause-done : goal.returns-in-Ok-clause-done
returns-in-Ok-clause-done g c = λ d. does_lines c.send.result (subst DoesNothing c.status_of.ensures d)

pub returns-clause-done : goal.returns-clause-done
returns-clause-done g c = λ d. does_lines c.stopped.result (subst DoesNothing c.status_of-in-Err.ensures d)

pub returns-in-Ok-clause-checks : goal.returns-in-Ok-clause-checks
returns-in-Ok-clause-checks g c = λ told. record {
  ends = rw c.status_of.ensures
      (sent_check (IsChecked (g.F.Pages.files c.args.folder.now)) (IsTrue g.K.Sink.told) (g.F.Pages.files c.args.folder.now) (g.K.Sink.written c.args.out.now)
      (g.K.Sink.written c.send.new.out)
      c.as_slice.result.now c.send.result (told_text _ _ _ _ c.new-text.ensures.items c.as_slice.ensures.value (rw c.in-Ok.is at (c.check.ensures.tells told)))
      c.send.ensures.text c.send.ensures.known c.send.ensures.cause);
  files = c.check.ensures.files told;
  reads = c.check.ensures.reads told;
  named = let P = IsFound (g.F.Pages.files c.args.folder.now) in
      rw c.status_of.ensures (status_shows P c.send.result (sink_shows P c.send.result c.send.ensures.cause));
  first = let P = IsFirst (IsTrue true) (g.F.Pages.files c.args.folder.now) in
      rw c.status_of.ensures (status_shows P c.send.result (sink_shows P c.send.result c.send.ensures.cause));
}

pub returns-clause-checks : goal.returns-clause-checks
returns-clause-checks g c = λ told. record {
  ends = rw c.status_of-in-Err.ensures
      (rw c.stopped.ensures
      (fault_check (IsChecked (g.F.Pages.files c.args.folder.now)) (IsTrue g.K.Sink.told) (g.F.Pages.files c.args.folder.now) (g.K.Sink.written c.args.out.now)
      (g.K.Sink.written c.args.out.now) c.in-Err.fault (rw c.in-Err.is at (c.check.ensures.undefined told)) (λ sink. refl)));
  files = c.check.ensures.files told;
  reads = c.check.ensures.reads told;
  named = rw c.status_of-in-Err.ensures (rw c.stopped.ensures (fault_status (IsFound (g.F.Pages.files c.args.folder.now)) c.in-Err.fault
      (rw c.in-Err.is at (c.check.ensures.named told))));
  first = rw c.status_of-in-Err.ensures (rw c.stopped.ensures (fault_status (IsFirst (IsTrue true) (g.F.Pages.files c.args.folder.now)) c.in-Err.fault
      (subst (λ (b : Bool). FaultShows (IsFirst (IsTrue b) (g.F.Pages.files c.args.folder.now)) c.in-Err.fault) told
      (rw c.in-Err.is at (c.check.ensures.first told)))));
}

pub returns-in-Ok-clause-damage : goal.returns-in-Ok-clause-damage
returns-in-Ok-clause-damage g c = record {
  never = λ told state h d. sent_undamaged c.send.result c.send.ensures.cause (subst IsDamaged c.status_of.ensures d);
  evident = let P = IsEvidentSince (g.F.Pages.files c.args.folder.now) (IsTrue g.F.Pages.told) (g.F.Pages.files c.check.new.folder) in
      rw c.status_of.ensures (status_shows P c.send.result (sink_shows P c.send.result c.send.ensures.cause));
}

pub returns-clause-damage : goal.returns-clause-damage
returns-clause-damage g c = record {
  never = λ told state h d. fault_whole (g.F.Pages.files c.args.folder.now) state c.in-Err.fault h (rw c.in-Err.is at (c.check.ensures.undefined told))
      (subst IsDamaged (c.status_of-in-Err.ensures ∙ ap status_of c.stopped.ensures) d);
  evident =
      rw c.status_of-in-Err.ensures (rw c.stopped.ensures (status_since _ _ _ (status_of (Err (stop_of c.in-Err.fault)))
      (fault_status (IsEvident (IsTrue g.F.Pages.told) (g.F.Pages.files c.check.new.folder)) c.in-Err.fault
      (rw c.in-Err.is at (on_evident_files (IsTrue g.F.Pages.told) (IsTrue g.F.Pages.told) (g.F.Pages.files c.args.folder.now)
      (g.F.Pages.files c.check.new.folder)
      c.check.result (λ told. told) c.check.ensures.files c.check.ensures.evident)))));
}

pub returns-in-Ok-clause-folder_fault : goal.returns-in-Ok-clause-folder_fault
returns-in-Ok-clause-folder_fault g c = λ e. sent_no_folder c.send.result c.send.ensures.cause (folder_stopped c.send.result (sym c.status_of.ensures ∙ e))

pub returns-clause-folder_fault : goal.returns-clause-folder_fault
returns-clause-folder_fault g c = λ e.
    fault_rose _ _ c.in-Err.fault (rw c.in-Err.is at c.check.ensures.cause) (sym (c.status_of-in-Err.ensures ∙ ap status_of c.stopped.ensures) ∙ e)

pub returns-in-Ok-clause-sink_fault : goal.returns-in-Ok-clause-sink_fault
returns-in-Ok-clause-sink_fault g c = λ e. c.send.ensures.sink (sink_stopped c.send.result (sym c.status_of.ensures ∙ e))

pub returns-clause-sink_fault : goal.returns-clause-sink_fault
returns-clause-sink_fault g c = λ e. fault_no_sink c.in-Err.fault (sym (c.status_of-in-Err.ensures ∙ ap status_of c.stopped.ensures) ∙ e)
