-- What the lines left is committed and the session closed, or the run stops.
use Rattle.std.proofs.Common.{ℕ, IsTrue, refl}
use Rattle.index_core.proofs.LosingNone.{own_keeps}
use Rattle.script_run.proofs.Calling.{fault_stops}
use Rattle.script_run.proofs.Lined.{ok_cause}
use Rattle.script_run.proofs.SoFar.{stops_end}
use Rattle.script_run.proofs.Leading.{closes_by, closes_fails}
use Rattle.script_run.proofs.Shown.{fault_at}
use Rattle.script_run.proofs.indexed.finish.Goals as goal
use Rattle.run_status.proofs.Ending.{fault_shows, fault_cause}

pub returns-in-Ok-clause-ends : goal.returns-in-Ok-clause-ends
returns-in-Ok-clause-ends g c = λ told i stored h. (refl, (c.in-Ok.ensures.durable.stored told i h.seen h.guards).0)

pub returns-in-Ok-clause-cause : goal.returns-in-Ok-clause-cause
returns-in-Ok-clause-cause g c = λ sink. ok_cause _ _ sink _ c.args.refused c.in-Ok.ensures.faults.cause

pub returns-in-Err-clause-ends : goal.returns-in-Err-clause-ends
returns-in-Err-clause-ends g c = λ told i stored h.
    stops_end _ _ i stored c.args.refused c.in-Err.fault (c.in-Err.ensures.faults.whole told i h.seen) h.keeps
    (c.in-Err.ensures.durable.stored told i h.seen h.guards)
    c.stopped.result c.stopped.ensures

pub returns-in-Err-clause-cause : goal.returns-in-Err-clause-cause
returns-in-Err-clause-cause g c = λ sink. fault_cause _ _ sink c.in-Err.fault c.in-Err.ensures.faults.cause c.stopped.result c.stopped.ensures

pub returns-in-Ok-clause-closes : goal.returns-in-Ok-clause-closes
returns-in-Ok-clause-closes g c = λ told i stored h.
    closes_by g.row.D i _ _ _ h.seen (record {
      is_told = told;
      closed = c.in-Ok.ensures.closed;
      guards = h.guards;
      canon = c.in-Ok.ensures.canon told;
      idle = c.in-Ok.ensures.idle told;
      reads = c.in-Ok.ensures.reads;
      few = c.in-Ok.ensures.few told h.guards;
    })

pub returns-in-Err-clause-closes : goal.returns-in-Err-clause-closes
returns-in-Err-clause-closes g c = λ told i stored h.
    closes_fails g.row.D i _ _ c.stopped.result _ c.stopped.ensures h.seen (record {
      is_told = told;
      closed = tt;
      guards = h.guards;
      canon = c.in-Err.ensures.canon told;
      idle = c.in-Err.ensures.idle told;
      reads = c.in-Err.ensures.reads;
      few = λ none. tt;
    })

pub returns-in-Err-clause-evident : goal.returns-in-Err-clause-evident
returns-in-Err-clause-evident g c =
    fault_shows _ c.in-Err.fault (fault_at _ _ _ _ c.in-Err.fault (λ p. p) (λ p. refl) c.in-Err.ensures.faults.evident) c.stopped.result c.stopped.ensures

pub returns-in-Ok-clause-undone : goal.returns-in-Ok-clause-undone
returns-in-Ok-clause-undone g c = λ told h. tt

pub returns-in-Err-clause-undone : goal.returns-in-Err-clause-undone
returns-in-Err-clause-undone g c = λ told h. rw c.stopped.ensures
    (fault_stops ℕ (g.F.Pages.files c.args.folder.now) (g.F.Pages.files c.close.new.folder) c.in-Err.fault (c.in-Err.ensures.durable.undone told h.guards))

pub returns-in-Ok-clause-lasting : goal.returns-in-Ok-clause-lasting
returns-in-Ok-clause-lasting g c = c.in-Ok.ensures.durable.lasting

pub returns-in-Err-clause-lasting : goal.returns-in-Err-clause-lasting
returns-in-Err-clause-lasting g c = c.in-Err.ensures.durable.lasting

pub returns-in-Ok-clause-lasts : goal.returns-in-Ok-clause-lasts
returns-in-Ok-clause-lasts g c = λ told h.
    own_keeps g.row.D (IsTrue g.F.Pages.told) _ _ _ h.faithful (c.in-Ok.ensures.durable.own told h.guards)

pub returns-in-Err-clause-lasts : goal.returns-in-Err-clause-lasts
returns-in-Err-clause-lasts g c = λ told h.
    own_keeps g.row.D (IsTrue g.F.Pages.told) _ _ _ h.faithful (c.in-Err.ensures.durable.own told h.guards)
