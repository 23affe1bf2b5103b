use Rattle.byte_cursor.specs.Cursor.{cursor_rest}
use Rattle.commit_list.proofs.Lists.{Reads}
use Rattle.commit_list.proofs.reading.read_list.Given as goal

abbrev pub invariant-loop-i : goal.invariant-loop-i
invariant-loop-i l = Reads l.bytes (cursor_rest l.cursor) l._i l.listed.items
