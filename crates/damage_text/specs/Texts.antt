-- What is said of a damage.
use Rattle.std.specs.Prelude.{List, ℕ, ◌++◌, codes, decimal}
use Rattle.outer_io.specs.Names.{name_text}
use Rattle.outer_io.specs.declared.file_name.FileName.{FileName}
use Rattle.page_cache.specs.declared.faults.Damage.{Damage}
use Rattle.page_cache.specs.declared.faults.Damage.TheVariants.{Page, Leaf, Body, Missing, Size, Unequal, NotGiven}
use Rattle.page_cache.specs.declared.faults.Damage.TheVariants.{Doubled}

-- how long a file is, and how long it must be
abbrev pub size_text : FileName → (size needed : ℕ) → List ℕ
size_text file size needed =
    name_text file ++ codes " has " ++ decimal size ++ codes " bytes" ++ codes ", needs " ++ decimal needed

-- the file or the document that is damaged, and what is wrong with it (this project's texts)
unfoldable pub damage_text : Damage → List ℕ
damage_text (Page file number bytes) = name_text file ++ codes " page " ++ decimal number
damage_text (Leaf file number offset len bytes) =
    name_text file ++ codes " page " ++ decimal number ++ codes " leaf at " ++ decimal offset
damage_text (Body file bytes) = name_text file ++ codes " body"
damage_text (Missing file) = name_text file ++ codes " missing"
damage_text (Size file size needed) = size_text file size needed
damage_text (Unequal file said found) =
    name_text file ++ codes " says " ++ decimal said ++ codes ", found " ++ decimal found
damage_text (NotGiven doc next) = codes "document " ++ decimal doc ++ codes " beyond " ++ decimal next
damage_text (Doubled doc) = codes "document " ++ decimal doc ++ codes " twice"
