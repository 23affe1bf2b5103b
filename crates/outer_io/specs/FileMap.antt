-- What the list of files of a folder in memory stands for.
use Rattle.std.specs.Prelude.{Bool, cond, List, find}
use Rattle.std.specs.Option.{option_map}
use Rattle.outer_io.specs.declared.file_name.FileName.{FileName}
use Rattle.outer_io.specs.declared.file_map.Entry.{Entry}
use Rattle.outer_io.specs.declared.file_map.FileMap.{FileMap}
use Rattle.outer_io.specs.Names.{same_name}
use Rattle.outer_io.specs.Files.{Files}

-- the entry has this name
abbrev pub is_named : FileName → Entry → Bool
is_named name entry = same_name entry.name name

-- the file of a name is the first entry with this name
abbrev pub files_in : List Entry → Files
files_in entries name = option_map (λ entry. entry.bytes.items) (find (is_named name) entries)

-- the files of the map
abbrev pub files_of : FileMap → Files
files_of m = files_in m.entries.items

-- the name after a file `from` was renamed to `to`
abbrev pub name_after_rename : FileName → FileName → FileName → FileName
name_after_rename from to name = cond (same_name name from) to name

-- the entry after that rename
abbrev pub with_new_name : FileName → FileName → Entry → Entry
with_new_name from to entry = record entry { name = name_after_rename from to entry.name }
