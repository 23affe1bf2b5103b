-- What stands in a table of open files.
use Rattle.std.proofs.Common.{◌≡◌, ℕ, suc, ◌<◌, List, ◌∷◌, length, take, drop, get_or, Some, None, position, All, Contains, remove, sym, ap, ◌∙◌}
use Rattle.std.proofs.lemmas.Option.{slice_get-get_or, slice_get_past}
use Rattle.std.specs.List.{position_or_len}
use Rattle.std.proofs.lemmas.List.Folds.{find_at}
use Rattle.std.proofs.lemmas.List.Elements.{All-cons, All-append, All-take, All-drop, All-contains_itself, Contains-get_or}
use Rattle.outer_io.specs.declared.file_name.FileName.{FileName}
use Rattle.outer_io.specs.declared.open_files.Opened.{Opened}
use Rattle.outer_io.specs.OpenFiles.{is_opened, file_under}
use Rattle.outer_io.proofs.FileLists.{first_at, none_before}

-- the file at the first place of a name is the one that is open under it
pub file_under-at : {F : Type 0} (name : FileName) (files : List (Opened F)) (i : ℕ) (d : Opened F) → position (is_opened name) files ≡ Some i
    → file_under name files ≡ Some (get_or files i d).file
file_under-at name files i d found =
    let at = first_at (is_opened name) files i found in
    rw (find_at (is_opened name) files, ← at.0, slice_get-get_or files i d at.1)

-- so it is the file x, where x stands first after that place was moved to the front
pub file_under-first : {F : Type 0} (name : FileName) (files moved : List (Opened F)) (i : ℕ) (x : Opened F) → x ≡ get_or moved 0 x
    → ((d : Opened F) → get_or moved 0 d ≡ get_or files i d) → position (is_opened name) files ≡ Some i → Some x.file ≡ file_under name files
file_under-first name files moved i x is first found =
    ap (λ opened. Some opened.file) (is ∙ first x) ∙ sym (file_under-at name files i x found)

-- where there is no such place none is open under it
pub file_under-absent : {F : Type 0} (name : FileName) (files : List (Opened F)) → position (is_opened name) files ≡ None → file_under name files ≡ None
file_under-absent name files absent =
    rw (find_at (is_opened name) files, slice_get_past files (position_or_len (is_opened name) files) (none_before (is_opened name) files absent))

-- what stands in a list after one of its elements was moved to the front stood in it before
pub moved_to_front : {X : Type 0} (xs ys : List X) (i : ℕ) (x : X) → i < length xs → x ≡ get_or xs i x → ys ≡ remove xs i → All (Contains xs) (x ∷ ys)
moved_to_front xs ys i x within is rest =
    let itself = All-contains_itself xs in
    All-cons (Contains xs) x ys
    (rw is (Contains-get_or xs i x within))
    (rw rest (All-append (Contains xs) (take i xs) (drop (suc i) xs) (All-take (Contains xs) i xs itself) (All-drop (Contains xs) (suc i) xs itself)))
