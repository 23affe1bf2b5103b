-- What contracts see of a cursor.
use Rattle.std.specs.Prelude.{ℕ, List}
use Rattle.byte_cursor.specs.declared.cursor.Cursor.{Cursor}

-- the bytes that are left
abbrev pub cursor_rest : Cursor → List ℕ
cursor_rest c = c.bytes.now
