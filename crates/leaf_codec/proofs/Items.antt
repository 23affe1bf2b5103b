-- Entries as items, one after another.
use Rattle.std.proofs.Common.{◌≡◌, ℕ, ◌+◌, ◌<◌, ◌≤◌, List, [], ◌∷◌, ◌++◌, length, get_or, take, take_all, sym, ap, ◌∙◌, arith}
use Rattle.std.specs.List.{Contains}
use Rattle.std.proofs.lemmas.List.{length-map, take_more, get_or-map}
use Rattle.point_codec.specs.Points.{Item}
use Rattle.point_codec.specs.Seen.{items_of}
use Rattle.point_codec.specs.declared.entries.Entry.{Entry}
use Rattle.leaf_codec.specs.LeafOrder.{item_of}
use Rattle.leaf_codec.specs.Entries.{docs_of}

pub length-items : {D : ℕ} (es : List (Entry D)) → length (items_of es) ≡ length es
length-items {D} es = length-map es (item_of {D = D})

pub get_or-items : {D : ℕ} (es : List (Entry D)) (i : ℕ) (e : Entry D) (x : Item) → i < length es → e ≡ get_or es i e → get_or (items_of es) i x ≡ item_of e
get_or-items {D} es i e x lt is = get_or-map (item_of {D = D}) es i e x lt ∙ ap (item_of {D = D}) (sym is)

pub items_more : {D : ℕ} (es : List (Entry D)) (i : ℕ) (e : Entry D) → i < length es → e ≡ get_or es i e
    → take (i + 1) (items_of es) ≡ take i (items_of es) ++ item_of e ∷ []
items_more es i e lt is =
    take_more (items_of es) i (item_of e) (omega (arith, length-items es))
    ∙ ap (λ (x : Item). take i (items_of es) ++ x ∷ []) (get_or-items es i e (item_of e) lt is)

pub items_all : {D : ℕ} (es : List (Entry D)) (i : ℕ) → length es ≤ i → take i (items_of es) ≡ items_of es
items_all es i le = take_all i (items_of es) (omega (arith, length-items es))

pub Contains-items : {D : ℕ} (es : List (Entry D)) (i : ℕ) (e : Entry D) → i < length es → e ≡ get_or es i e → Contains (items_of es) (item_of e)
Contains-items es i e lt is = (i, omega (arith, length-items es), get_or-items es i e (item_of e) lt is)

-- ---- their numbers

pub length-docs : {D : ℕ} (es : List (Entry D)) → length (docs_of es) ≡ length es
length-docs es = length-map (items_of es) (λ (x : Item). x.doc) ∙ length-items es

pub get_or-docs : {D : ℕ} (es : List (Entry D)) (i : ℕ) (e : Entry D) (n : ℕ) → i < length es → e ≡ get_or es i e → get_or (docs_of es) i n ≡ e.doc
get_or-docs es i e n lt is =
    get_or-map (λ (x : Item). x.doc) (items_of es) i (item_of e) n (omega (arith, length-items es))
    ∙ ap (λ (x : Item). x.doc) (get_or-items es i e (item_of e) lt is)

pub docs_more : {D : ℕ} (es : List (Entry D)) (i : ℕ) (e : Entry D) → i < length es → e ≡ get_or es i e
    → take (i + 1) (docs_of es) ≡ take i (docs_of es) ++ e.doc ∷ []
docs_more es i e lt is =
    take_more (docs_of es) i 0 (omega (arith, length-docs es))
    ∙ ap (λ (n : ℕ). take i (docs_of es) ++ n ∷ []) (get_or-docs es i e 0 lt is)

pub docs_all : {D : ℕ} (es : List (Entry D)) (i : ℕ) → length es ≤ i → take i (docs_of es) ≡ docs_of es
docs_all es i le = take_all i (docs_of es) (omega (arith, length-docs es))
