-- When two names of files are the same, as a test, and how they are written.
use Rattle.std.specs.Prelude.{ℕ, ◌-◌, ◌^◌, Bool, true, false, ◌==◌, ◌&&◌, List, [], ◌++◌, codes}
use Rattle.std.specs.Fmt.{padded_integral, format_spec, digits}
use Rattle.outer_io.specs.declared.file_name.FileName.{FileName}
use Rattle.outer_io.specs.declared.file_name.FileName.TheVariants.{Commit, CommitNew, Segment, Live}

-- the two names are the same
unfoldable pub same_name : FileName → FileName → Bool
same_name Commit Commit = true
same_name CommitNew CommitNew = true
same_name (Segment a) (Segment b) = a == b
same_name (Live a m) (Live b n) = (a == b) && (m == n)
same_name _ _ = false

-- a number in 16 lower-case hexadecimal digits, as `{:016x}` prints it (32 is the fill, a space, and 4 asks for
-- zeros)
abbrev pub hex_16 : ℕ → List ℕ
hex_16 n = padded_integral (format_spec 32 0 4 16 (2 ^ 64 - 1)) false [] (digits 16 false n)

-- the name of a file in a directory (this project's layout)
abbrev pub name_text : FileName → List ℕ
name_text Commit = codes "commit.bkd"
name_text CommitNew = codes "commit.new"
name_text (Segment id) = codes "seg-" ++ hex_16 id ++ codes ".bkd"
name_text (Live segment generation) = codes "live-" ++ hex_16 segment ++ codes "-" ++ hex_16 generation ++ codes ".bkd"
