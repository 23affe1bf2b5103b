-- The text of a command that is done is sent, and a fault says what was left.
use Rattle.std.proofs.Common.{Bool, IsTrue, Ok, sym, ap, subst, ◌∙◌}
use Rattle.index_opening.specs.Evidence.{IsEvident}
use Rattle.run_status.specs.Ends.{IsAnswer}
use Rattle.run_status.specs.Ends.{DoesNothing, IsDamaged}
use Rattle.run_status.specs.Stops.{status_of}
use Rattle.script_run.proofs.Calling.{fault_keeps, sent_keeps}
use Rattle.bkd_top.proofs.Finished.{count_sent, fault_ends, fault_no_answer, fault_no_sink, fault_rose, fault_undamaged, sent_ends, sent_no_folder}
use Rattle.bkd_top.proofs.Finished.{sent_refused, sent_undamaged}
use Rattle.script_run.proofs.Shown.{fault_status}
use Rattle.bkd_top.proofs.loads.tell.Goals as goal
use Rattle.run_status.proofs.Ending.{does_lines, folder_stopped, sink_stopped, sink_shows, status_shows}

pub returns-in-Ok-clause-done : goal.returns-in-Ok-clause-done
returns-in-Ok-clause-done g c = λ d. does_lines c.send.result (subst DoesNothing c.status_of.ensures d)

pub returns-in-Ok-clause-ends : goal.returns-in-Ok-clause-ends
returns-in-Ok-clause-ends g c = λ b a files does same.
    rw c.status_of.ensures
    (sent_ends (IsTrue g.K.Sink.told) b a files c.args.text.now _ c.in-Ok.refused c.send.result (rw c.in-Ok.is at does) (rw (sym same) at c.send.ensures.text)
    (count_sent c.in-Ok.refused _ c.send.result c.from.ensures c.send.ensures.known) c.send.ensures.cause)

pub returns-in-Ok-clause-folder_fault : goal.returns-in-Ok-clause-folder_fault
returns-in-Ok-clause-folder_fault g c = λ old new cause e.
    sent_no_folder c.send.result c.send.ensures.cause (folder_stopped c.send.result (sym c.status_of.ensures ∙ e))

pub returns-in-Ok-clause-damaged : goal.returns-in-Ok-clause-damaged
returns-in-Ok-clause-damaged g c = λ whole d. sent_undamaged c.send.result c.send.ensures.cause (subst IsDamaged c.status_of.ensures d)

pub returns-in-Ok-clause-sink_fault : goal.returns-in-Ok-clause-sink_fault
returns-in-Ok-clause-sink_fault g c = λ e. c.send.ensures.sink (sink_stopped c.send.result (sym c.status_of.ensures ∙ e))

pub returns-in-Err-clause-done : goal.returns-in-Err-clause-done
returns-in-Err-clause-done g c = λ d. does_lines c.stopped.result (subst DoesNothing c.status_of-in-Err.ensures d)

pub returns-in-Err-clause-ends : goal.returns-in-Err-clause-ends
returns-in-Err-clause-ends g c = λ b a files does same.
    rw c.status_of-in-Err.ensures
    (rw c.stopped.ensures (fault_ends (IsTrue g.K.Sink.told) b a files c.args.text.now _ c.in-Err.fault (rw c.in-Err.is at does) (λ sink. sym same)))

pub returns-in-Err-clause-answer : goal.returns-in-Err-clause-answer
returns-in-Err-clause-answer g c = λ a. fault_no_answer c.in-Err.fault (subst IsAnswer (c.status_of-in-Err.ensures ∙ ap status_of c.stopped.ensures) a)

pub returns-in-Err-clause-folder_fault : goal.returns-in-Err-clause-folder_fault
returns-in-Err-clause-folder_fault g c = λ old new cause e.
    fault_rose old new c.in-Err.fault (rw c.in-Err.is at cause) (sym (c.status_of-in-Err.ensures ∙ ap status_of c.stopped.ensures) ∙ e)

pub returns-in-Err-clause-damaged : goal.returns-in-Err-clause-damaged
returns-in-Err-clause-damaged g c = λ whole d.
    fault_undamaged c.in-Err.fault (rw c.in-Err.is at whole) (subst IsDamaged (c.status_of-in-Err.ensures ∙ ap status_of c.stopped.ensures) d)

pub returns-in-Err-clause-sink_fault : goal.returns-in-Err-clause-sink_fault
returns-in-Err-clause-sink_fault g c = λ e. fault_no_sink c.in-Err.fault (sym (c.status_of-in-Err.ensures ∙ ap status_of c.stopped.ensures) ∙ e)

pub returns-in-Ok-clause-evident : goal.returns-in-Ok-clause-evident
returns-in-Ok-clause-evident g c = λ told files h.
    let P = IsEvident (IsTrue told) files in
    rw c.status_of.ensures (status_shows P c.send.result (sink_shows P c.send.result c.send.ensures.cause))

pub returns-in-Err-clause-evident : goal.returns-in-Err-clause-evident
returns-in-Err-clause-evident g c = λ told files h.
    rw c.status_of-in-Err.ensures (rw c.stopped.ensures (fault_status (IsEvident (IsTrue told) files) c.in-Err.fault (rw c.in-Err.is at h)))

pub returns-in-Ok-clause-undone : goal.returns-in-Ok-clause-undone
returns-in-Ok-clause-undone g c = λ old new h. rw c.status_of.ensures (sent_keeps old new c.send.result c.send.ensures.cause)

pub returns-in-Err-clause-undone : goal.returns-in-Err-clause-undone
returns-in-Err-clause-undone g c = λ old new h. rw c.status_of-in-Err.ensures (rw c.stopped.ensures (fault_keeps old new c.in-Err.fault (rw c.in-Err.is at h)))

pub returns-in-Ok-clause-refused : goal.returns-in-Ok-clause-refused
returns-in-Ok-clause-refused g c = λ count e.
    c.in-Ok.is
    ∙ ap (λ (b : Bool). Ok b) (sent_refused c.in-Ok.refused c.send.result (count_sent c.in-Ok.refused _ c.send.result c.from.ensures c.send.ensures.known) count
    (sym c.status_of.ensures ∙ e))

pub returns-in-Err-clause-refused : goal.returns-in-Err-clause-refused
returns-in-Err-clause-refused g c = λ count e.
    fault_no_answer c.in-Err.fault (subst IsAnswer (sym e ∙ c.status_of-in-Err.ensures ∙ ap status_of c.stopped.ensures) tt)
