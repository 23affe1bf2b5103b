use Rattle.byte_cursor.specs.Cursor.{cursor_rest}
use Rattle.byte_cursor.proofs.Partway.{IsPartway}
use Rattle.byte_cursor.proofs.cursor.vint_at.Given as goal

abbrev pub invariant-loop-at : goal.invariant-loop-at
invariant-loop-at l = IsPartway l.bytes (cursor_rest l.ahead) l.at l.value l.weight
