-- Entries that are taken one by one: those with live numbers stand behind what was there.
use Rattle.std.proofs.Common.{◌≡◌, ◌<◌, ◌+◌, ℕ, List, [], ◌∷◌, ◌++◌, length, take, get_or, true, sym, ap, subst, ◌∙◌, append_assoc, Some, Bool, All}
use Rattle.std.specs.Prelude.{filter, slice_get, Vec}
use Rattle.std.specs.declared.alloc.Global.{Global}
use Rattle.std.proofs.lemmas.Option.{slice_get-get_or}
use Rattle.std.proofs.lemmas.List.{take_more}
use Rattle.std.proofs.lemmas.List.Elements.{filter-append, filter_passes}
use Rattle.point_codec.specs.Points.{Item}
use Rattle.point_codec.specs.Seen.{items_of}
use Rattle.point_codec.specs.declared.entries.Entry.{Entry}
use Rattle.live_bits.specs.LiveSet.{LiveSet, is_live}

-- the list with one more element
pub one_more : (xs : List Item) (i : ℕ) → i < length xs → (x : Item) × (slice_get xs i ≡ Some x) × (take (i + 1) xs ≡ take i xs ++ x ∷ [])
one_more xs i lt =
    let none : Item = record { doc = 0; at = [] } in
    (get_or xs i none, slice_get-get_or xs i none lt, take_more xs i none lt)

pub filter_more : (p : Item → Bool) (old mid new xs : List Item) (i : ℕ) (x : Item) → take (i + 1) xs ≡ take i xs ++ x ∷ [] → mid ≡ old ++ filter p (take i xs)
    → new ≡ mid ++ filter p (x ∷ [])
    → new ≡ old ++ filter p (take (i + 1) xs)
filter_more p old mid new xs i x more before after =
    after ∙ ap (λ (l : List Item). l ++ filter p (x ∷ [])) before ∙ append_assoc old (filter p (take i xs)) (filter p (x ∷ []))
    ∙ ap (λ (l : List Item). old ++ l) (sym (filter-append p (take i xs) (x ∷ [])) ∙ ap (λ (l : List Item). filter p l) (sym more))

-- what is put behind an empty list
pub appended : {D : ℕ} (live : LiveSet) (old new : List (Entry D)) (items : List Item) → old ≡ []
    → items_of new ≡ items_of old ++ filter (λ x. is_live live x.doc) items
    → items_of new ≡ filter (λ x. is_live live x.doc) items
appended {D} live old new items none is = is ∙ ap (λ (l : List (Entry D)). items_of l ++ filter (λ (x : Item). is_live live x.doc) items) none

pub only_live : (live : LiveSet) (items xs : List Item) → xs ≡ filter (λ x. is_live live x.doc) items → All (λ x. is_live live x.doc ≡ true) xs
only_live live items xs is =
    subst (All (λ x. is_live live x.doc ≡ true)) (sym is) (filter_passes (λ (x : Item). is_live live x.doc) items)

-- what is put behind a list that was taken out
pub taken_then : {D : ℕ} (live : LiveSet) (old taken : Vec (Entry D) Global) (new : List (Entry D)) (items : List Item) → taken ≡ old
    → items_of new ≡ items_of taken.items ++ filter (λ x. is_live live x.doc) items
    → items_of new ≡ items_of old.items ++ filter (λ x. is_live live x.doc) items
taken_then {D} live old taken new items same is =
    is ∙ ap (λ (v : Vec (Entry D) Global). items_of v.items ++ filter (λ (x : Item). is_live live x.doc) items) same
