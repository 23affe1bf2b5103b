-- What a line asks, by its definition, is never want of memory.
use Rattle.std.proofs.Common.{Some, refl, sym}
use Rattle.script_lang.specs.declared.faults.LineFault.TheVariants as fault
use Rattle.count_queries.proofs.Asking.{no_memory}
use Rattle.count_queries.proofs.lines.read_count_line.Goals as goal

pub returns-in-Err-Memory : goal.returns-in-Err-Memory
returns-in-Err-Memory g c = no_memory (Some g.row.D) c.args.b.now fault.Memory (sym (rw c.in-Err-Memory.field-0-is at c.in-Err-Memory.ensures)) refl
