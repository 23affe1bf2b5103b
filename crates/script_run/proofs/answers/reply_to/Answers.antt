-- A line is done where it can be read, and refused where not.
use Rattle.std.proofs.Common.{◌≢◌, ◌∙◌, Some, ap, sym, inl, rules}
use Rattle.index_core.proofs.Sizes.{session_fits}
use Rattle.script_lang.specs.Seen.{request_of}
use Rattle.range_docs.specs.declared.faults.RangeFault.TheVariants as range
use Rattle.stored_index.proofs.KeptFiles.{kept_itself}
use Rattle.index_core.proofs.Brought.{commit_itself}
use Rattle.index_core.proofs.LosingNone.{loses_itself}
use Rattle.script_run.specs.Costs.{asks_commit}
use Rattle.script_run.specs.Languages.{line_request}
use Rattle.script_run.specs.Taking.{TakesOutBy}
use Rattle.script_run.proofs.Answered.{unread_replies, fault_read}
use Rattle.script_run.proofs.Lined.{page_still}
use Rattle.script_run.proofs.Passing.{passes_none, passes_unread}
use Rattle.script_run.proofs.Shown.{memory_shows}
use Rattle.script_run.proofs.Taken.{read_loses}
use Rattle.index_core.proofs.Carrying.{carries_itself}
use Rattle.script_run.proofs.answers.reply_to.Goals as goal
use Rattle.index_model.proofs.Sizes.{command_fits}
use Rattle.run_status.proofs.Ending.{page_memory}

pub obey-requires-after_bounds : goal.obey-requires-after_bounds
obey-requires-after_bounds g c κs = λ _. (session_fits g.row.D c.requires.few, (command_fits g.row.D c.requires.few, c.in-Ok.ensures.limits))

pub returns-in-Ok-clause-replies : goal.returns-in-Ok-clause-replies
returns-in-Ok-clause-replies g c = λ told i stored h bytes same. c.obey.ensures.replies told i stored h bytes (same ∙ c.in-Ok.ensures.reads)

pub returns-in-Err-Memory-clause-replies : goal.returns-in-Err-Memory-clause-replies
returns-in-Err-Memory-clause-replies g c = λ told i stored h bytes same. inl h.keeps

pub returns-in-Err-Memory-clause-cause : goal.returns-in-Err-Memory-clause-cause
returns-in-Err-Memory-clause-cause g c = page_memory _

pub returns-in-Err-clause-replies : goal.returns-in-Err-clause-replies
returns-in-Err-clause-replies g c = λ told i stored h bytes same.
    let other : c.in-Err.fault ≢ range.Memory = search rules in
    unread_replies c.args.work.now.language g.row.D _ _ i stored c.args.number bytes _ _ c.in-Err.fault h
    (same ∙ fault_read (request_of {D = g.row.D}) c.in-Err.fault _ other c.in-Err.ensures.reads)
    c.refuse_line.result c.refuse_line.ensures.refused c.refuse_line.ensures.memory

pub returns-in-Err-clause-cause : goal.returns-in-Err-clause-cause
returns-in-Err-clause-cause g c = page_still _ c.refuse_line.result c.refuse_line.ensures.memory

pub returns-in-Ok-clause-passes : goal.returns-in-Ok-clause-passes
returns-in-Ok-clause-passes g c = λ told i stored h bytes same. c.obey.ensures.passes told i stored h bytes (same ∙ c.in-Ok.ensures.reads)

pub returns-in-Err-Memory-clause-passes : goal.returns-in-Err-Memory-clause-passes
returns-in-Err-Memory-clause-passes g c = λ told i stored h bytes same. passes_none c.args.work.now.language g.row.D c.args.number i bytes _ _

pub returns-in-Err-clause-passes : goal.returns-in-Err-clause-passes
returns-in-Err-clause-passes g c = λ told i stored h bytes same.
    let other : c.in-Err.fault ≢ range.Memory = search rules in
    passes_unread c.args.work.now.language g.row.D c.args.number i bytes c.in-Err.fault _ c.refuse_line.result h.seen.dims
    (same ∙ fault_read (request_of {D = g.row.D}) c.in-Err.fault _ other c.in-Err.ensures.reads)

pub returns-in-Ok-clause-trusts : goal.returns-in-Ok-clause-trusts
returns-in-Ok-clause-trusts g c = c.obey.ensures.trusts

pub returns-in-Ok-clause-carries : goal.returns-in-Ok-clause-carries
returns-in-Ok-clause-carries g c = c.obey.ensures.carries

pub returns-in-Err-Memory-clause-carries : goal.returns-in-Err-Memory-clause-carries
returns-in-Err-Memory-clause-carries g c told = carries_itself _ _

pub returns-in-Err-clause-carries : goal.returns-in-Err-clause-carries
returns-in-Err-clause-carries g c told = carries_itself _ _

pub returns-in-Ok-clause-evident : goal.returns-in-Ok-clause-evident
returns-in-Ok-clause-evident g c = c.obey.ensures.evident

pub returns-in-Err-Memory-clause-trusts : goal.returns-in-Err-Memory-clause-trusts
returns-in-Err-Memory-clause-trusts g c = λ told h. h

pub returns-in-Err-clause-trusts : goal.returns-in-Err-clause-trusts
returns-in-Err-clause-trusts g c = λ told h. h

pub returns-in-Err-clause-evident : goal.returns-in-Err-clause-evident
returns-in-Err-clause-evident g c = memory_shows _ c.refuse_line.result c.refuse_line.ensures.memory

pub returns-in-Ok-clause-kept : goal.returns-in-Ok-clause-kept
returns-in-Ok-clause-kept g c = λ told h quiet. c.obey.ensures.kept told h (ap asks_commit (sym c.in-Ok.ensures.reads) ∙ quiet)

pub returns-in-Err-Memory-clause-kept : goal.returns-in-Err-Memory-clause-kept
returns-in-Err-Memory-clause-kept g c = λ told h quiet. kept_itself _

pub returns-in-Err-clause-kept : goal.returns-in-Err-clause-kept
returns-in-Err-clause-kept g c = λ told h quiet. kept_itself _

pub returns-in-Ok-clause-lasting : goal.returns-in-Ok-clause-lasting
returns-in-Ok-clause-lasting g c = c.obey.ensures.lasting

pub returns-in-Err-Memory-clause-lasting : goal.returns-in-Err-Memory-clause-lasting
returns-in-Err-Memory-clause-lasting g c = λ told h. commit_itself _

pub returns-in-Err-clause-lasting : goal.returns-in-Err-clause-lasting
returns-in-Err-clause-lasting g c = λ told h. commit_itself _

pub returns-in-Ok-clause-lasts : goal.returns-in-Ok-clause-lasts
returns-in-Ok-clause-lasts g c = λ told h.
    read_loses g.row.D (line_request c.args.work.now.language (Some g.row.D) c.args.line.now) _ c.in-Ok.ensures.reads _ _ _ _
    (c.obey.ensures.lasts told h)

pub returns-in-Err-Memory-clause-lasts : goal.returns-in-Err-Memory-clause-lasts
returns-in-Err-Memory-clause-lasts g c = λ told h.
    loses_itself g.row.D (TakesOutBy (line_request c.args.work.now.language (Some g.row.D) c.args.line.now)) _ _

pub returns-in-Err-clause-lasts : goal.returns-in-Err-clause-lasts
returns-in-Err-clause-lasts g c = λ told h.
    loses_itself g.row.D (TakesOutBy (line_request c.args.work.now.language (Some g.row.D) c.args.line.now)) _ _
