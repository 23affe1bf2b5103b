-- Where no index is there, each line but a blank one is refused.
use Rattle.std.proofs.Common.{◌≡◌, ◌≢◌, None, false, true, refl, sym, rules}
use Rattle.std.proofs.lemmas.List.{append-nil}
use Rattle.script_lang.specs.Reading.{Fails, Says, read}
use Rattle.script_lang.specs.Replies.{line_fault_text, refused_text}
use Rattle.script_lang.specs.Requests as asks
use Rattle.script_lang.specs.Seen.{first_request_of}
use Rattle.script_lang.specs.declared.faults.LineFault.TheVariants as fault
use Rattle.script_lang.specs.declared.faults.Refusal.TheVariants as why
use Rattle.run_status.specs.Told.{refusal, silence}
use Rattle.explain_queries.proofs.Asking.{first_told}
use Rattle.explain_queries.proofs.Explaining.{fault_read}
use Rattle.explain_queries.proofs.explain.explain_first.Goals as goal

pub returns-in-Ok-Blank : goal.returns-in-Ok-Blank
returns-in-Ok-Blank c =
    let reads : read None c.args.line.now ≡ Says asks.Blank = rw c.in-Ok-Blank.field-0-is at c.in-Ok-Blank.ensures.reads in
    first_told c.args.number c.args.line.now (Says asks.Blank) _ _ silence false reads refl (sym (append-nil c.args.reply.now.items)) refl

pub returns-in_ok-put_refusal-in-Ok-Create : goal.returns-in_ok-put_refusal-in-Ok-Create
returns-in_ok-put_refusal-in-Ok-Create c =
    let reads : read None c.args.line.now ≡ Says (asks.Create c.in-Ok-Create.field-0-0 c.in-Ok-Create.field-0-1) =
    rw c.in-Ok-Create.field-0-is at c.in-Ok-Create.ensures.reads in
    first_told c.args.number c.args.line.now (Says (asks.Create c.in-Ok-Create.field-0-0 c.in-Ok-Create.field-0-1))
    _ _ (refusal (refused_text c.args.number why.NotQuery)) true reads refl
    c.in_ok-put_refusal-in-Ok-Create.ensures.ok refl

pub returns-in_ok-put_line_fault-in-Err : goal.returns-in_ok-put_line_fault-in-Err
returns-in_ok-put_line_fault-in-Err c =
    let other : c.in-Err.fault ≢ fault.Memory = search rules in
    first_told c.args.number c.args.line.now (Fails c.in-Err.fault) _ _ (refusal (line_fault_text c.args.number c.in-Err.fault)) true
    (fault_read first_request_of c.in-Err.fault _ other c.in-Err.ensures.reads) refl c.in_ok-put_line_fault-in-Err.ensures.ok refl
