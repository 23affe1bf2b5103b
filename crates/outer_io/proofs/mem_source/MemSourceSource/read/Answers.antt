use Rattle.outer_io.proofs.Copies.{taken_next}
use Rattle.outer_io.proofs.mem_source.MemSourceSource.read.Goals as goal

-- what was copied to the buffer and what is left then is what was left
pub returns-clause-bytes : goal.returns-clause-bytes
returns-clause-bytes c _ =
    rw (c.copy_front-count.ensures.filled, ← c.deref.ensures.value)
    (taken_next c.deref.result.now _ c.args.self.now.at c.copy_front-count.result _ c.copy_front-count.ensures.count)
