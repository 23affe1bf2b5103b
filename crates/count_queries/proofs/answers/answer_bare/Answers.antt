-- Without an index each line but one that asks nothing is refused.
use Rattle.std.proofs.Common.{false, true, refl, sym}
use Rattle.std.proofs.lemmas.List.{append-nil}
use Rattle.script_lang.specs.Replies.{line_fault_text}
use Rattle.run_status.specs.Told.{refusal, silence}
use Rattle.count_queries.specs.Asks.{Blank, Fails, Says}
use Rattle.count_queries.proofs.Answering.{bare_told}
use Rattle.count_queries.proofs.answers.answer_bare.Goals as goal

pub returns-in-Ok : goal.returns-in-Ok
returns-in-Ok c =
    bare_told c.args.number c.args.line.now (Says Blank) _ _ silence false (sym c.in-Ok.ensures) refl (sym (append-nil c.args.reply.now.items)) refl

pub returns-in_ok-put_line_fault-in-Err : goal.returns-in_ok-put_line_fault-in-Err
returns-in_ok-put_line_fault-in-Err c =
    bare_told c.args.number c.args.line.now (Fails c.in-Err.fault) _ _ (refusal (line_fault_text c.args.number c.in-Err.fault)) true (sym c.in-Err.ensures) refl
    c.in_ok-put_line_fault-in-Err.ensures.ok refl
