use Rattle.outer_io.proofs.Parts.{taken_twice}
use Rattle.outer_io.proofs.source.read_all.Goals as goal

-- what was kept before and the piece that is too much were taken
pub returns-then-count-limit-clause-taken : goal.returns-then-count-limit-clause-taken
returns-then-count-limit-clause-taken g c t =
    taken_twice _ _ _ _ _ (c.pieces.invariant.told t) (c.in_ok-count.ensures.bytes t)
