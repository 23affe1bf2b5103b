-- The answer is what the script says of the line.
use Rattle.std.proofs.Common.{◌≢◌, Ok, Err, sym, refl, rules, append-nil}
use Rattle.script_lang.specs.Seen.{first_request_of}
use Rattle.range_docs.specs.declared.faults.RangeFault.TheVariants as range
use Rattle.script_lang.specs.declared.commands.First.TheVariants as first
use Rattle.script_run.proofs.Answered.{first_is, fault_read}
use Rattle.script_run.proofs.answers.first_reply_to.Goals as goal

pub returns-in-Ok-Blank-clause-opening : goal.returns-in-Ok-Blank-clause-opening
returns-in-Ok-Blank-clause-opening c =
    let is = first_is c.args.language c.args.number c.args.line.now (Ok (first_request_of first.Blank))
    (rw c.in-Ok-Blank.field-0-is at c.in-Ok-Blank.ensures.reads) in
    rw is (record { state = refl; refused = refl })

pub returns-in-Ok-Blank-clause-text : goal.returns-in-Ok-Blank-clause-text
returns-in-Ok-Blank-clause-text c =
    let is = first_is c.args.language c.args.number c.args.line.now (Ok (first_request_of first.Blank))
    (rw c.in-Ok-Blank.field-0-is at c.in-Ok-Blank.ensures.reads) in
    rw is (sym (append-nil c.args.reply.now.items))

pub returns-in_ok-put_ok-in-Ok-Create-clause-opening :
    goal.returns-in_ok-put_ok-in-Ok-Create-clause-opening
returns-in_ok-put_ok-in-Ok-Create-clause-opening c =
    let is = first_is c.args.language c.args.number c.args.line.now (Ok (first_request_of (first.Create c.in-Ok-Create.dims c.in-Ok-Create.leaf_size)))
    (rw c.in-Ok-Create.field-0-is at c.in-Ok-Create.ensures.reads) in
    rw is (refl, refl)

pub returns-in_ok-put_ok-in-Ok-Create-clause-text :
    goal.returns-in_ok-put_ok-in-Ok-Create-clause-text
returns-in_ok-put_ok-in-Ok-Create-clause-text c =
    let is = first_is c.args.language c.args.number c.args.line.now (Ok (first_request_of (first.Create c.in-Ok-Create.dims c.in-Ok-Create.leaf_size)))
    (rw c.in-Ok-Create.field-0-is at c.in-Ok-Create.ensures.reads) in
    rw is c.in_ok-put_ok-in-Ok-Create.ensures.ok

pub returns-in_ok-put_range_fault-in-Err : goal.returns-in_ok-put_range_fault-in-Err
returns-in_ok-put_range_fault-in-Err c =
    let other : c.in-Err.fault ≢ range.Memory = search rules in
    let is = first_is c.args.language c.args.number c.args.line.now (Err c.in-Err.fault)
    (fault_read first_request_of c.in-Err.fault _ other c.in-Err.ensures.reads) in
    rw is (record { opening = record { state = refl; refused = refl }; limits = tt; text = c.in_ok-put_range_fault-in-Err.ensures.ok })

pub returns-in_ok-put_ok-in-Ok-Create-clause-limits :
    goal.returns-in_ok-put_ok-in-Ok-Create-clause-limits
returns-in_ok-put_ok-in-Ok-Create-clause-limits c = rw c.in-Ok-Create.field-0-is at c.in-Ok-Create.ensures.limits
