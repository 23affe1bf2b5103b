-- The files of a folder as a map from names to bytes, and what each call does to it.
use Rattle.std.specs.Prelude.{◌≡◌, ◌≢◌, ℕ, min, Option, None, List, [], ◌++◌, length, take, drop, unwrap_or}
use Rattle.std.specs.Option.{option_map}
use Rattle.outer_io.specs.declared.file_name.FileName.{FileName}

-- the bytes under each name, and None where there is no such file
abbrev pub Files : Type 0
Files = FileName → Option (List ℕ)

-- the bytes of a file; one that isn't there has none
abbrev pub bytes_of : Option (List ℕ) → List ℕ
bytes_of file = unwrap_or file []

-- the length of a file, and None where there is none
abbrev pub size_of : Option (List ℕ) → Option ℕ
size_of file = option_map length file

-- all files but the one of this name are as they were
abbrev pub SameBut : FileName → Files → Files → Type 0
SameBut name old new = (other : FileName) → other ≢ name → new other ≡ old other

-- all files but the two of these names are as they were
abbrev pub SameButTwo : FileName → FileName → Files → Files → Type 0
SameButTwo from to old new = (other : FileName) → other ≢ from → other ≢ to → new other ≡ old other

-- the file `from` has become the file `to`; a file renamed to itself stays
pub record IsRenamed (from to : FileName) (old new : Files) : Type 0 where
  pub moved : new to ≡ old from
  pub gone : from ≢ to → new from ≡ None

-- reading at an offset: as many bytes as the buffer holds or as the file has from there, whichever is fewer, stand at
-- the front of the buffer, and the rest of the buffer is as it was
pub record IsReadAt (file : Option (List ℕ)) (at count : ℕ) (old new : List ℕ) : Type 0 where
  pub counted : count ≡ min (length old) (length (drop at (bytes_of file)))
  pub filled : new ≡ take count (drop at (bytes_of file)) ++ drop count old
