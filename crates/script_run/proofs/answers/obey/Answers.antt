-- The session does what the command asks, and the answer says so.
use Rattle.std.proofs.Common.{IsTrue, Err, Ok, false, refl}
use Rattle.script_lang.specs.Seen.{request_of}
use Rattle.script_run.proofs.Calling.{kept_quiet}
use Rattle.script_run.proofs.Answered.{done_replies, refused_replies, fault_replies}
use Rattle.script_run.proofs.Lined.{page_then, page_same}
use Rattle.index_model.specs.declared.session.Applied.{Applied}
use Rattle.script_run.proofs.Passing.{passes_applied, passes_to}
use Rattle.script_run.proofs.Shown.{memory_shows}
use Rattle.script_run.proofs.Taken.{applied_loses}
use Rattle.script_run.proofs.answers.obey.Goals as goal
use Rattle.index_core.proofs.FaultCauses.{done_cause}

pub returns-in-Ok-Done-clause-replies : goal.returns-in-Ok-Done-clause-replies
returns-in-Ok-Done-clause-replies g c = λ told i stored h bytes reads.
    done_replies c.args.work.now.language g.row.D _ _ _ _ i stored c.args.number bytes (request_of c.args.command.now) _ h reads
    _ (rw c.in-Ok-Done.field-0-is at (c.in-Ok-Done.ensures.applies.does told i h.seen (λ e. h.guards)))
    (c.in-Ok-Done.ensures.applies.stays.guards told h.guards) (rw c.in-Ok-Done.field-0-is at (c.in-Ok-Done.ensures.applies.keeps.kept told h.guards))
    (c.in-Ok-Done.ensures.applies.keeps.stored told i h.seen h.guards)

pub returns-in-Ok-Done-clause-cause : goal.returns-in-Ok-Done-clause-cause
returns-in-Ok-Done-clause-cause g c = done_cause _ _ c.in-Ok-Done.field-0 false c.in-Ok-Done.ensures.applies.faults.cause

pub returns-in-Ok-Refused-clause-replies : goal.returns-in-Ok-Refused-clause-replies
returns-in-Ok-Refused-clause-replies g c = λ told i stored h bytes reads.
    refused_replies c.args.work.now.language g.row.D _ _ _ _ i stored c.args.number bytes (request_of c.args.command.now) _ h reads _ _ c.in-Ok-Refused.why
    (rw c.in-Ok-Refused.field-0-is at (c.in-Ok-Refused.ensures.applies.does told i h.seen (λ e. h.guards)))
    (c.in-Ok-Refused.ensures.applies.stays.guards told h.guards) (rw c.in-Ok-Refused.field-0-is at (c.in-Ok-Refused.ensures.applies.keeps.kept told h.guards))
    (c.in-Ok-Refused.ensures.applies.keeps.stored told i h.seen h.guards)
    c.refuse.result c.refuse.ensures.refused c.refuse.ensures.memory

pub returns-in-Ok-Refused-clause-cause : goal.returns-in-Ok-Refused-clause-cause
returns-in-Ok-Refused-clause-cause g c =
    page_then _ _ c.in-Ok-Refused.field-0 c.refuse.result c.in-Ok-Refused.ensures.applies.faults.cause c.refuse.ensures.memory

pub returns-in-Err-clause-replies : goal.returns-in-Err-clause-replies
returns-in-Err-clause-replies g c = λ told i stored h bytes reads.
    fault_replies c.args.work.now.language g.row.D _ _ _ _ i stored c.args.number bytes (request_of c.args.command.now) c.args.reply.now.items h reads
    c.args.reply.now.items c.in-Err.fault (c.in-Err.ensures.applies.faults.whole told i h.seen (λ e. h.guards))
    (c.in-Err.ensures.applies.keeps.kept told h.guards) (c.in-Err.ensures.applies.keeps.stored told i h.seen h.guards)

pub returns-in-Err-clause-cause : goal.returns-in-Err-clause-cause
returns-in-Err-clause-cause g c = page_same _ _ c.in-Err.fault c.in-Err.ensures.applies.faults.cause

pub returns-in-Ok-Done-clause-passes : goal.returns-in-Ok-Done-clause-passes
returns-in-Ok-Done-clause-passes g c = λ told i stored h bytes reads.
    passes_to c.args.work.now.language g.row.D _ i bytes _ _ (Ok c.in-Ok-Done.field-0) _ (λ e. refl)
    (passes_applied c.args.work.now.language g.row.D (IsTrue g.F.Pages.told) told c.args.number i bytes (request_of c.args.command.now)
    _ _ _ _ (Ok c.in-Ok-Done.field-0) h.seen reads (record {
      does = c.in-Ok-Done.ensures.applies.does told i h.seen (λ e. h.guards);
      canon = c.in-Ok-Done.ensures.applies.canon told i h.seen h.guards;
      kept = c.in-Ok-Done.ensures.applies.keeps.kept told h.guards;
      idle = λ e. (c.in-Ok-Done.ensures.applies.commits e).idle told;
      levels = λ e. (c.in-Ok-Done.ensures.applies.commits e).levels;
      reads = c.in-Ok-Done.ensures.spares.reads;
      still = c.in-Ok-Done.ensures.spares.still;
      light = c.in-Ok-Done.ensures.spares.light;
      unread = c.in-Ok-Done.ensures.spares.unread;
      barred = c.in-Ok-Done.ensures.spares.barred;
    }))

pub returns-in-Ok-Refused-clause-passes : goal.returns-in-Ok-Refused-clause-passes
returns-in-Ok-Refused-clause-passes g c = λ told i stored h bytes reads.
    passes_to c.args.work.now.language g.row.D _ i bytes _ _ (Ok c.in-Ok-Refused.field-0) c.refuse.result (λ e. refl)
    (passes_applied c.args.work.now.language g.row.D (IsTrue g.F.Pages.told) told c.args.number i bytes (request_of c.args.command.now)
    _ _ _ _ (Ok c.in-Ok-Refused.field-0) h.seen reads (record {
      does = c.in-Ok-Refused.ensures.applies.does told i h.seen (λ e. h.guards);
      canon = c.in-Ok-Refused.ensures.applies.canon told i h.seen h.guards;
      kept = c.in-Ok-Refused.ensures.applies.keeps.kept told h.guards;
      idle = λ e. (c.in-Ok-Refused.ensures.applies.commits e).idle told;
      levels = λ e. (c.in-Ok-Refused.ensures.applies.commits e).levels;
      reads = c.in-Ok-Refused.ensures.spares.reads;
      still = c.in-Ok-Refused.ensures.spares.still;
      light = c.in-Ok-Refused.ensures.spares.light;
      unread = c.in-Ok-Refused.ensures.spares.unread;
      barred = c.in-Ok-Refused.ensures.spares.barred;
    }))

pub returns-in-Err-clause-passes : goal.returns-in-Err-clause-passes
returns-in-Err-clause-passes g c = λ told i stored h bytes reads.
    passes_to {S = Applied} c.args.work.now.language g.row.D _ i bytes _ _ (Err c.in-Err.fault) _ (λ e. e)
    (passes_applied c.args.work.now.language g.row.D (IsTrue g.F.Pages.told) told c.args.number i bytes (request_of c.args.command.now)
    _ _ _ _ (Err c.in-Err.fault) h.seen reads (record {
      does = c.in-Err.ensures.applies.does told i h.seen (λ e. h.guards);
      canon = c.in-Err.ensures.applies.canon told i h.seen h.guards;
      kept = c.in-Err.ensures.applies.keeps.kept told h.guards;
      idle = λ e. (c.in-Err.ensures.applies.commits e).idle told;
      levels = λ e. (c.in-Err.ensures.applies.commits e).levels;
      reads = c.in-Err.ensures.spares.reads;
      still = c.in-Err.ensures.spares.still;
      light = c.in-Err.ensures.spares.light;
      unread = c.in-Err.ensures.spares.unread;
      barred = c.in-Err.ensures.spares.barred;
    }))

pub returns-in-Ok-Done-clause-trusts : goal.returns-in-Ok-Done-clause-trusts
returns-in-Ok-Done-clause-trusts g c = λ told h. record {
  guards = c.in-Ok-Done.ensures.applies.stays.guards told h.guards;
  faithful = c.in-Ok-Done.ensures.applies.stays.faithful told h.faithful;
  traced = c.in-Ok-Done.ensures.applies.stays.traced told h;
}

pub returns-in-Ok-Refused-clause-trusts : goal.returns-in-Ok-Refused-clause-trusts
returns-in-Ok-Refused-clause-trusts g c = λ told h. record {
  guards = c.in-Ok-Refused.ensures.applies.stays.guards told h.guards;
  faithful = c.in-Ok-Refused.ensures.applies.stays.faithful told h.faithful;
  traced = c.in-Ok-Refused.ensures.applies.stays.traced told h;
}

pub returns-in-Ok-Done-clause-carries : goal.returns-in-Ok-Done-clause-carries
returns-in-Ok-Done-clause-carries g c = c.in-Ok-Done.ensures.applies.stays.carries

pub returns-in-Ok-Refused-clause-carries : goal.returns-in-Ok-Refused-clause-carries
returns-in-Ok-Refused-clause-carries g c = c.in-Ok-Refused.ensures.applies.stays.carries

pub returns-in-Err-clause-carries : goal.returns-in-Err-clause-carries
returns-in-Err-clause-carries g c = c.in-Err.ensures.applies.stays.carries

pub returns-in-Ok-Refused-clause-evident : goal.returns-in-Ok-Refused-clause-evident
returns-in-Ok-Refused-clause-evident g c = memory_shows _ c.refuse.result c.refuse.ensures.memory

pub returns-in-Err-clause-trusts : goal.returns-in-Err-clause-trusts
returns-in-Err-clause-trusts g c = λ told h.
    record {
      guards = c.in-Err.ensures.applies.stays.guards told h.guards;
      faithful = c.in-Err.ensures.applies.stays.faithful told h.faithful;
      traced = c.in-Err.ensures.applies.stays.traced told h;
    }

pub returns-in-Err-clause-evident : goal.returns-in-Err-clause-evident
returns-in-Err-clause-evident g c = c.in-Err.ensures.applies.faults.evident

pub returns-in-Ok-Done-clause-kept : goal.returns-in-Ok-Done-clause-kept
returns-in-Ok-Done-clause-kept g c = λ told h quiet. kept_quiet _ _ _ _ (Ok c.in-Ok-Done.field-0) quiet (c.in-Ok-Done.ensures.applies.keeps.kept told h.guards)

pub returns-in-Ok-Refused-clause-kept : goal.returns-in-Ok-Refused-clause-kept
returns-in-Ok-Refused-clause-kept g c = λ told h quiet.
    kept_quiet _ _ _ _ (Ok c.in-Ok-Refused.field-0) quiet (c.in-Ok-Refused.ensures.applies.keeps.kept told h.guards)

pub returns-in-Err-clause-kept : goal.returns-in-Err-clause-kept
returns-in-Err-clause-kept g c = λ told h quiet. kept_quiet {T = Applied} _ _ _ _ (Err c.in-Err.fault) quiet (c.in-Err.ensures.applies.keeps.kept told h.guards)

pub returns-in-Ok-Done-clause-lasting : goal.returns-in-Ok-Done-clause-lasting
returns-in-Ok-Done-clause-lasting g c = c.in-Ok-Done.ensures.applies.keeps.lasting

pub returns-in-Ok-Refused-clause-lasting : goal.returns-in-Ok-Refused-clause-lasting
returns-in-Ok-Refused-clause-lasting g c = c.in-Ok-Refused.ensures.applies.keeps.lasting

pub returns-in-Err-clause-lasting : goal.returns-in-Err-clause-lasting
returns-in-Err-clause-lasting g c = c.in-Err.ensures.applies.keeps.lasting

pub returns-in-Ok-Done-clause-lasts : goal.returns-in-Ok-Done-clause-lasts
returns-in-Ok-Done-clause-lasts g c = λ told h.
    applied_loses g.row.D (IsTrue g.F.Pages.told) (request_of c.args.command.now) _ _ c.args.session.now _ h
    (c.in-Ok-Done.ensures.applies.keeps.own told h.guards)
    (c.in-Ok-Done.ensures.spares.lasts told h.faithful (λ e. h.guards))

pub returns-in-Ok-Refused-clause-lasts : goal.returns-in-Ok-Refused-clause-lasts
returns-in-Ok-Refused-clause-lasts g c = λ told h.
    applied_loses g.row.D (IsTrue g.F.Pages.told) (request_of c.args.command.now) _ _ c.args.session.now _ h
    (c.in-Ok-Refused.ensures.applies.keeps.own told h.guards)
    (c.in-Ok-Refused.ensures.spares.lasts told h.faithful (λ e. h.guards))

pub returns-in-Err-clause-lasts : goal.returns-in-Err-clause-lasts
returns-in-Err-clause-lasts g c = λ told h.
    applied_loses g.row.D (IsTrue g.F.Pages.told) (request_of c.args.command.now) _ _ c.args.session.now _ h
    (c.in-Err.ensures.applies.keeps.own told h.guards)
    (c.in-Err.ensures.spares.lasts told h.faithful (λ e. h.guards))
