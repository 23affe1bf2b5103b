-- A line is explained where it can be read, and refused where not.
use Rattle.std.proofs.Common.{◌≢◌, refl, rules}
use Rattle.segment_set.proofs.Sizes.{set_fits}
use Rattle.script_lang.specs.Seen.{request_of}
use Rattle.script_lang.specs.declared.faults.LineFault.TheVariants as fault
use Rattle.index_model.proofs.Sizes.{command_fits}
use Rattle.explain_queries.proofs.Explaining.{explains_as, explains_no_memory, explains_refused, fault_read, line_from, line_to, line_unread}
use Rattle.explain_queries.proofs.explain.explain_line.Goals as goal

pub explain-requires : goal.explain-requires
explain-requires g c = (set_fits g.row.D c.requires.few, (command_fits g.row.D c.requires.few, c.in-Ok.ensures.limits))

pub returns-in-Ok : goal.returns-in-Ok
returns-in-Ok g c =
    explains_as _ _ _ _ _ _ c.explain.result
    (λ s t e. line_to g.row.D _ _ s c.args.number c.args.line.now (request_of c.in-Ok.command) t e c.in-Ok.ensures.reads)
    (λ s t e. line_from g.row.D _ _ s c.args.number c.args.line.now (request_of c.in-Ok.command) t e c.in-Ok.ensures.reads)
    c.explain.ensures

pub returns-in-Err-Memory : goal.returns-in-Err-Memory
returns-in-Err-Memory g c = explains_no_memory _ _ _ _ _ _ refl refl refl refl refl

pub returns-in-Err : goal.returns-in-Err
returns-in-Err g c =
    let other : c.in-Err.fault ≢ fault.Memory = search rules in
    explains_refused _ _ _ _ _ _ c.refuse_line.result refl refl refl refl c.refuse_line.ensures.refused c.refuse_line.ensures.memory
    (λ s e. line_unread g.row.D _ _ s c.args.number c.args.line.now c.in-Err.fault e
    (fault_read (request_of {D = g.row.D}) c.in-Err.fault _ other c.in-Err.ensures.reads))
