-- What a table of open files stands for.
use Rattle.std.specs.Prelude.{Bool, List, Option, find}
use Rattle.std.specs.Option.{option_map}
use Rattle.outer_io.specs.declared.file_name.FileName.{FileName}
use Rattle.outer_io.specs.declared.open_files.Opened.{Opened}
use Rattle.outer_io.specs.Names.{same_name}

-- the file is open under this name
abbrev pub is_opened : {F : Type 0} → FileName → Opened F → Bool
is_opened name opened = same_name opened.name name

-- the file that is open under a name
abbrev pub file_under : {F : Type 0} → FileName → List (Opened F) → Option F
file_under name files = option_map (λ opened. opened.file) (find (is_opened name) files)
