-- The answer is sent, or the line is left.
use Rattle.std.proofs.Common.{Bool, Err, IsTrue, Ok, ap, refl, sym, ◌∙◌}
use Rattle.std.specs.Prelude.{is_ok}
use Rattle.index_core.proofs.Sizes.{session_fits}
use Rattle.script_run.proofs.Lined.{sent_answers, left_answers}
use Rattle.script_run.proofs.SoFar.{line_at}
use Rattle.script_run.proofs.Passing.{passes_to}
use Rattle.script_run.proofs.answers.answer_line.Goals as goal
use Rattle.run_status.proofs.Ending.{sink_shows, fault_shows, fault_cause, send_cause, sent_as}

pub reply_to-requires-after_bounds : goal.reply_to-requires-after_bounds
reply_to-requires-after_bounds g c κs = λ _. (session_fits g.row.D c.requires.few, (c.requires.some, c.requires.few))

pub returns-in-Ok-clause-answers : goal.returns-in-Ok-clause-answers
returns-in-Ok-clause-answers g c = λ told i stored h bytes same.
    sent_answers {told = IsTrue g.K.Sink.told} c.args.work.now.language g.row.D (line_at c.args.number i stored bytes) _ _ _ _ _ _ c.in-Ok.refused
    c.clear.ensures.items (c.in-Ok.ensures.replies told i stored h bytes same)
    c.send.result c.send.ensures.known c.send.ensures.cause (λ sink. sent_as _ _ _ _ c.send.result c.as_slice.ensures.value (c.send.ensures.text sink))

pub returns-in-Ok-clause-cause : goal.returns-in-Ok-clause-cause
returns-in-Ok-clause-cause g c =
    send_cause _ _ _ _ c.in-Ok.refused c.in-Ok.ensures.cause c.send.result c.send.ensures.cause c.send.ensures.later c.send.ensures.sink

pub returns-in-Err-clause-answers : goal.returns-in-Err-clause-answers
returns-in-Err-clause-answers g c = λ told i stored h bytes same.
    left_answers c.args.work.now.language (IsTrue g.K.Sink.told) g.row.D (line_at c.args.number i stored bytes) _ _ c.args.reply.now.items
    c.args.reply.now.items _ _ c.in-Err.fault (c.in-Err.ensures.replies told i stored h bytes same) c.stopped.result c.stopped.ensures refl

pub returns-in-Err-clause-cause : goal.returns-in-Err-clause-cause
returns-in-Err-clause-cause g c = fault_cause _ _ _ c.in-Err.fault c.in-Err.ensures.cause c.stopped.result c.stopped.ensures

pub returns-in-Ok-clause-passes : goal.returns-in-Ok-clause-passes
returns-in-Ok-clause-passes g c = λ told i stored h bytes same.
    passes_to c.args.work.now.language g.row.D c.args.number i bytes _ _ (Ok c.in-Ok.refused) c.send.result (λ e. refl)
    (c.in-Ok.ensures.passes told i stored h bytes same)

pub returns-in-Err-clause-passes : goal.returns-in-Err-clause-passes
returns-in-Err-clause-passes g c = λ told i stored h bytes same.
    passes_to {S = Bool} c.args.work.now.language g.row.D c.args.number i bytes _ _ (Err c.in-Err.fault) c.stopped.result
    (λ e. sym (ap is_ok c.stopped.ensures) ∙ e) (c.in-Err.ensures.passes told i stored h bytes same)

pub returns-in-Ok-clause-trusts : goal.returns-in-Ok-clause-trusts
returns-in-Ok-clause-trusts g c = c.in-Ok.ensures.trusts

pub returns-in-Ok-clause-carries : goal.returns-in-Ok-clause-carries
returns-in-Ok-clause-carries g c = c.in-Ok.ensures.carries

pub returns-in-Err-clause-carries : goal.returns-in-Err-clause-carries
returns-in-Err-clause-carries g c = c.in-Err.ensures.carries

pub returns-in-Ok-clause-evident : goal.returns-in-Ok-clause-evident
returns-in-Ok-clause-evident g c = sink_shows _ c.send.result c.send.ensures.cause

pub returns-in-Err-clause-trusts : goal.returns-in-Err-clause-trusts
returns-in-Err-clause-trusts g c = c.in-Err.ensures.trusts

pub returns-in-Err-clause-evident : goal.returns-in-Err-clause-evident
returns-in-Err-clause-evident g c = fault_shows _ c.in-Err.fault c.in-Err.ensures.evident c.stopped.result c.stopped.ensures

pub returns-in-Ok-clause-kept : goal.returns-in-Ok-clause-kept
returns-in-Ok-clause-kept g c = c.in-Ok.ensures.kept

pub returns-in-Err-clause-kept : goal.returns-in-Err-clause-kept
returns-in-Err-clause-kept g c = c.in-Err.ensures.kept

pub returns-in-Ok-clause-lasting : goal.returns-in-Ok-clause-lasting
returns-in-Ok-clause-lasting g c = c.in-Ok.ensures.lasting

pub returns-in-Err-clause-lasting : goal.returns-in-Err-clause-lasting
returns-in-Err-clause-lasting g c = c.in-Err.ensures.lasting

pub returns-in-Ok-clause-lasts : goal.returns-in-Ok-clause-lasts
returns-in-Ok-clause-lasts g c = c.in-Ok.ensures.lasts

pub returns-in-Err-clause-lasts : goal.returns-in-Err-clause-lasts
returns-in-Err-clause-lasts g c = c.in-Err.ensures.lasts
