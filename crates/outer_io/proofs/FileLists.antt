-- The files of a list of entries after each change of the list.
use Rattle.std.proofs.Common.{◌≡◌, ◌≢◌, Bool, true, false, not, cond, ℕ, ◌<◌, ◌≤◌, List, [], ◌∷◌, ◌++◌, length}
use Rattle.std.proofs.Common.{Option, None, Some, find, filter, map, position, set, get_or, refl, sym, ap, ◌∙◌}
use Rattle.std.specs.Option.{option_map, option_or}
use Rattle.std.specs.List.{position_or_len}
use Rattle.std.proofs.lemmas.Bool.{ltb-true, ltb-false}
use Rattle.std.proofs.lemmas.Option.{none-some, slice_get-get_or, slice_get_past}
use Rattle.std.proofs.lemmas.List.Folds.{find-append, find-set, find_past, find_at}
use Rattle.std.proofs.lemmas.List.Sums.{passes_at_first}
use Rattle.std.proofs.Math.Dec.{ltb}
use Rattle.std.proofs.Math.Path.{fun_ext}
use Rattle.outer_io.specs.declared.file_name.FileName.{FileName}
use Rattle.outer_io.specs.declared.file_map.Entry.{Entry}
use Rattle.outer_io.specs.Names.{same_name}
use Rattle.outer_io.specs.Files.{bytes_of}
use Rattle.outer_io.specs.FileMap.{is_named, files_in, with_new_name}
use Rattle.outer_io.proofs.Names.{same_name-refl, same_name-other, same_name-apart, same_name-true, same_name-false}
use Rattle.outer_io.proofs.Finds.{find-filter_none, find-filter_same}

option_or-none : {X : Type 0} (o : Option X) → option_or o None ≡ o
option_or-none None = refl
option_or-none (Some x) = refl

abbrev bytes_in : Entry → List ℕ
bytes_in e = e.bytes.items

-- the entries that don't have this name
abbrev pub others : FileName → List Entry → List Entry
others name es = filter (λ entry. not (is_named name entry)) es

-- no entry of a name is left among the others
pub find-others : (name : FileName) (es : List Entry) → find (is_named name) (others name es) ≡ None
find-others name es = find-filter_none (is_named name) (λ e. not (is_named name e)) (λ e is. rw is) es

-- so the file isn't there
pub files_in-others : (name : FileName) (es : List Entry) → files_in (others name es) name ≡ None
files_in-others name es = rw (find-others name es)

-- the files of other names stay
pub files_in-others_other : (name other : FileName) (es : List Entry) → other ≢ name → files_in (others name es) other ≡ files_in es other
files_in-others_other name other es h =
    rw (find-filter_same (is_named other) (λ e. not (is_named name e)) (λ e is. rw (same_name-apart e.name other name h is)) es)

-- an entry put behind the others is the file of its name
pub files_in-put : (name : FileName) (es : List Entry) (e : Entry) → e.name ≡ name → files_in (others name es ++ e ∷ []) name ≡ Some e.bytes.items
files_in-put name es e is =
    rw (find-append (is_named name) (others name es) (e ∷ []), find-others name es, is, same_name-refl name)

-- and leaves the files of other names
pub files_in-put_other : (name other : FileName) (es : List Entry) (e : Entry) → e.name ≡ name → other ≢ name
    → files_in (others name es ++ e ∷ []) other ≡ files_in es other
files_in-put_other name other es e is h =
    rw (
      find-append (is_named other) (others name es) (e ∷ []),
      is,
      same_name-other name other (λ same. h (sym same)),
      option_or-none (find (is_named other) (others name es)),
    )
    (files_in-others_other name other es h)

-- a place that was found is the first one of its name
pub first_at : {X : Type 0} (p : X → Bool) (xs : List X) (i : ℕ) → position p xs ≡ Some i → (i ≡ position_or_len p xs) × (i < length xs)
first_at p xs i found =
    elim (ltb (position_or_len p xs) (length xs)) as (λ b.
    ltb (position_or_len p xs) (length xs) ≡ b → cond b (Some (position_or_len p xs)) None ≡ Some i → (i ≡ position_or_len p xs) × (i < length xs)) [
      | true ↦ λ below is. let at : position_or_len p xs ≡ i = cc in (sym at, rw (← at) (ltb-true _ _ below))
      | false ↦ λ _ is. absurd (none-some i is)
    ] refl found

-- the entry at such a place has the name
named_at : (name : FileName) (es : List Entry) (i : ℕ) (d : Entry) → position (is_named name) es ≡ Some i → is_named name (get_or es i d) ≡ true
named_at name es i d found =
    let at = first_at (is_named name) es i found in
    let below : position_or_len (is_named name) es < length es = rw (← at.0) at.1 in
    rw at.0 (passes_at_first (is_named name) es d below)

-- the entry at the position of a name is its file
files_in-at : (name : FileName) (es : List Entry) (i : ℕ) (d : Entry) → position (is_named name) es ≡ Some i
    → files_in es name ≡ Some (get_or es i d).bytes.items
files_in-at name es i d found =
    let at = first_at (is_named name) es i found in
    rw (find_at (is_named name) es, ← at.0, slice_get-get_or es i d at.1)

-- a place that wasn't found is past the end
pub none_before : {X : Type 0} (p : X → Bool) (xs : List X) → position p xs ≡ None → length xs ≤ position_or_len p xs
none_before p xs absent =
    elim (ltb (position_or_len p xs) (length xs)) as (λ b.
    ltb (position_or_len p xs) (length xs) ≡ b → cond b (Some (position_or_len p xs)) None ≡ None → length xs ≤ position_or_len p xs) [
      | true ↦ λ _ is. absurd (none-some (position_or_len p xs) (sym is))
      | false ↦ λ past _. ltb-false _ _ past
    ] refl absent

-- where no place was found the file isn't there
pub files_in-absent : (name : FileName) (es : List Entry) → position (is_named name) es ≡ None → files_in es name ≡ None
files_in-absent name es absent =
    rw (find_at (is_named name) es, slice_get_past es (position_or_len (is_named name) es) (none_before (is_named name) es absent))

-- where an entry e is written over the first one of a name, which is w, and keeps the name
module _ (name : FileName) (es : List Entry) (i : ℕ) (w e : Entry) (found : position (is_named name) es ≡ Some i) (is : w ≡ get_or es i w)
    (same : e.name ≡ w.name) where
  e_named : e.name ≡ name
  e_named =
      let named : is_named name w ≡ true = rw is (named_at name es i w found) in
      same ∙ same_name-true w.name name named

  -- its bytes are the file
  files_in-set : files_in (set es i e) name ≡ Some e.bytes.items
  files_in-set =
      let at = first_at (is_named name) es i found in
      let named : is_named name e ≡ true = rw e_named (same_name-refl name) in
      rw (find-set (is_named name) es i e at.0 at.1 named)

  -- and the files of other names stay
  pub files_in-set_other : (other : FileName) → other ≢ name → files_in (set es i e) other ≡ files_in es other
  files_in-set_other other h =
      let apart : name ≢ other = λ eq. h (sym eq) in
      let before = same_name-apart (get_or es i e).name name other apart (named_at name es i e found) in
      let after : is_named other e ≡ false = rw e_named (same_name-other name other apart) in
      rw (find_past (is_named other) es i e e before after)

  files_in-was : files_in es name ≡ Some w.bytes.items
  files_in-was = files_in-at name es i w found ∙ ap (λ v. Some (bytes_in v)) (sym is)

  -- where it has the same bytes, all files stay
  pub files_in-set_same : e.bytes.items ≡ w.bytes.items → files_in (set es i e) ≡ files_in es
  files_in-set_same bytes =
      fun_ext
      (λ other. elim (same_name other name) as (λ b. same_name other name ≡ b → files_in (set es i e) other ≡ files_in es other) [
        | true ↦ λ eq. rw (same_name-true other name eq) (files_in-set ∙ ap Some bytes ∙ sym files_in-was)
        | false ↦ λ apart. files_in-set_other other (same_name-false other name apart)
      ] refl)

  -- where it has more bytes, the file has them
  pub files_in-set_more : (more : List ℕ) → e.bytes.items ≡ w.bytes.items ++ more → files_in (set es i e) name ≡ Some (bytes_of (files_in es name) ++ more)
  files_in-set_more more bytes = files_in-set ∙ rw (bytes, files_in-was)

-- the list after a rename
abbrev pub after_rename : FileName → FileName → List Entry → List Entry
after_rename from to es = map (with_new_name from to) (others to es)

-- the file of the new name is that of the old one
pub files_in-renamed_to : (from to : FileName) (es : List Entry) → from ≢ to → files_in (after_rename from to es) to ≡ files_in es from
files_in-renamed_to from to [] h = refl
files_in-renamed_to from to (e ∷ es) h =
    elim (same_name e.name to) as (λ b.
    same_name e.name to ≡ b → files_in (map (with_new_name from to) (cond (not b) (e ∷ others to es) (others to es))) to ≡ files_in (e ∷ es) from) [
      | true ↦ λ is. rw (same_name-apart e.name to from (λ same. h (sym same)) is) (files_in-renamed_to from to es h)
      | false ↦ λ not_to. elim (same_name e.name from) as (λ b.
          same_name e.name from ≡ b
          → option_map bytes_in (cond (same_name (cond b to e.name) to) (Some (with_new_name from to e)) (find (is_named to) (after_rename from to es)))
          ≡ option_map bytes_in (cond b (Some e) (find (is_named from) es))) [
            | true ↦ λ _. rw (same_name-refl to)
            | false ↦ λ _. rw not_to (files_in-renamed_to from to es h)
          ] refl
    ] refl

-- no file of the old name is left
pub files_in-renamed_from : (from to : FileName) (es : List Entry) → from ≢ to → files_in (after_rename from to es) from ≡ None
files_in-renamed_from from to [] h = refl
files_in-renamed_from from to (e ∷ es) h =
    elim (same_name e.name to) as (λ b.
    same_name e.name to ≡ b → files_in (map (with_new_name from to) (cond (not b) (e ∷ others to es) (others to es))) from ≡ None) [
      | true ↦ λ _. files_in-renamed_from from to es h
      | false ↦ λ _. elim (same_name e.name from) as (λ b.
          same_name e.name from ≡ b
          → option_map bytes_in (cond (same_name (cond b to e.name) from) (Some (with_new_name from to e)) (find (is_named from) (after_rename from to es)))
          ≡ None) [
            | true ↦ λ _. rw (same_name-other to from (λ same. h (sym same))) (files_in-renamed_from from to es h)
            | false ↦ λ not_from. rw not_from (files_in-renamed_from from to es h)
          ] refl
    ] refl

-- the files of other names stay
pub files_in-renamed_other : (from to other : FileName) (es : List Entry) → other ≢ from → other ≢ to
    → files_in (after_rename from to es) other ≡ files_in es other
files_in-renamed_other from to other [] h k = refl
files_in-renamed_other from to other (e ∷ es) h k =
    elim (same_name e.name to) as (λ b.
    same_name e.name to ≡ b → files_in (map (with_new_name from to) (cond (not b) (e ∷ others to es) (others to es))) other ≡ files_in (e ∷ es) other) [
      | true ↦ λ is. rw (same_name-apart e.name to other (λ same. k (sym same)) is) (files_in-renamed_other from to other es h k)
      | false ↦ λ _. elim (same_name e.name from) as (λ b.
          same_name e.name from ≡ b
          → option_map bytes_in (cond (same_name (cond b to e.name) other) (Some (with_new_name from to e)) (find (is_named other) (after_rename from to es)))
          ≡ files_in (e ∷ es) other) [
            | true ↦ λ is. rw (same_name-other to other (λ same. k (sym same)), same_name-apart e.name from other (λ same. h (sym same)) is)
                (files_in-renamed_other from to other es h k)
            | false ↦ λ _. elim (same_name e.name other) as (λ b.
                option_map bytes_in (cond b (Some (with_new_name from to e)) (find (is_named other) (after_rename from to es)))
                ≡ option_map bytes_in (cond b (Some e) (find (is_named other) es))) [
                  | true ↦ refl
                  | false ↦ files_in-renamed_other from to other es h k
                ]
          ] refl
    ] refl
