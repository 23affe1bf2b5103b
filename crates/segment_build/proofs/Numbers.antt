-- The numbers of entries, and those of them that are live.
use Rattle.std.proofs.Common.{◌≡◌, ℕ, zero, suc, ◌+◌, ◌<◌, Bool, true, false, eq-eqb, cond, nat_eq, ◌||◌, List}
use Rattle.std.proofs.Common.{[], ◌∷◌, ◌++◌, length, map, take, get_or, refl, sym, ap, ◌∙◌, subst, arith}
use Rattle.std.specs.List.{All, filter, list_any}
use Rattle.std.proofs.lemmas.List.Elements.{All-map, All-head, All-tail}
use Rattle.std.proofs.Math.Bool.{or-true}
use Rattle.std.specs.List.Sorted.{IsPermutation}
use Rattle.std.proofs.lemmas.List.Sorted.{list_any-IsPermutation}
use Rattle.point_codec.specs.Points.{Item}
use Rattle.point_codec.specs.Seen.{items_of}
use Rattle.point_codec.specs.declared.entries.Entry.{Entry}
use Rattle.leaf_codec.specs.LeafOrder.{item_of}
use Rattle.leaf_codec.specs.Entries.{docs_of}
use Rattle.leaf_codec.proofs.Items.{docs_more}
use Rattle.live_bits.specs.LiveSet.{LiveSet, is_live}
use Rattle.live_bits.proofs.LiveNumbers.{none_live}
use Rattle.documents.specs.Entries.{has_entry}

-- ---- the numbers as a list

-- one more number behind those of the first entries
pub numbers_more : {D : ℕ} (es : List (Entry D)) (i : ℕ) (e : Entry D) (old new : List ℕ) → i < length es → e ≡ get_or es i e → old ≡ take i (docs_of es)
    → new ≡ old ++ e.doc ∷ []
    → new ≡ take (i + 1) (docs_of es)
numbers_more es i e old new lt is before after = after ∙ ap (λ (l : List ℕ). l ++ e.doc ∷ []) before ∙ sym (docs_more es i e lt is)

-- each of them is small
pub numbers_small : {D : ℕ} (es : List (Entry D)) (numbers : List ℕ) → All (λ (e : Entry D). e.doc < 16777216) es → numbers ≡ docs_of es
    → All (λ (d : ℕ). d < 16777216) numbers
numbers_small {D} es numbers small is =
    subst (λ (ds : List ℕ). All (λ (d : ℕ). d < 16777216) ds) (sym is)
    (All-map (λ (d : ℕ). d < 16777216) (λ (x : Item). x.doc) (items_of es)
    (All-map (λ (x : Item). x.doc < 16777216) (item_of {D = D}) es small))

any_number : (number : ℕ) (items : List Item) → list_any (λ d. nat_eq d number) (map (λ (x : Item). x.doc) items) ≡ has_entry number items
any_number number [] = refl
any_number number (x ∷ xs) = ap (λ (b : Bool). nat_eq x.doc number || b) (any_number number xs)

-- the set of these numbers has just those of the entries
pub numbers_live : {D : ℕ} (es : List (Entry D)) (numbers : List ℕ) (live : LiveSet) → numbers ≡ docs_of es
    → is_live live ≡ (λ n. list_any (λ d. nat_eq d n) numbers)
    → is_live live ≡ (λ number. has_entry number (items_of es))
numbers_live es numbers live is made =
    made ∙ ap (λ (ds : List ℕ). (λ (n : ℕ). list_any (λ d. nat_eq d n) ds)) is ∙ (λ i n. any_number n (items_of es) i)

-- in whatever order these stand
pub live_in_order : (live : LiveSet) (xs ys : List Item) → IsPermutation xs ys → is_live live ≡ (λ number. has_entry number xs)
    → is_live live ≡ (λ number. has_entry number ys)
live_in_order live xs ys same made = made ∙ (λ i number. list_any-IsPermutation (λ (x : Item). nat_eq x.doc number) xs ys same i)

-- ---- live entries

none_kept : (items : List Item) → filter (λ (x : Item). false) items ≡ []
none_kept [] = refl
none_kept (x ∷ xs) = none_kept xs

pub none_live_none_kept : (live : LiveSet) (items : List Item) → length live.live ≡ 0 → filter (λ (x : Item). is_live live x.doc) items ≡ []
none_live_none_kept live items none = ap (λ (test : ℕ → Bool). filter (λ (x : Item). test x.doc) items) ((none_live live).0 none) ∙ none_kept items

has_at : (items : List Item) (k : ℕ) (d : Item) → k < length items → has_entry (get_or items k d).doc items ≡ true
has_at [] k d lt = absurd (omega arith)
has_at (x ∷ xs) zero d lt = ap (λ (b : Bool). b || has_entry x.doc xs) (eq-eqb x.doc x.doc refl)
has_at (x ∷ xs) (suc k) d lt =
    ap (λ (b : Bool). nat_eq x.doc (get_or xs k d).doc || b) (has_at xs k d (omega arith)) ∙ or-true (nat_eq x.doc (get_or xs k d).doc)

all_kept : (p : Item → Bool) (items : List Item) → All (λ (x : Item). p x ≡ true) items → filter p items ≡ items
all_kept p [] h = refl
all_kept p (x ∷ xs) h =
    ap (λ (b : Bool). cond b (x ∷ filter p xs) (filter p xs)) (All-head (λ (y : Item). p y ≡ true) x xs h)
    ∙ ap (λ (l : List Item). x ∷ l) (all_kept p xs (All-tail (λ (y : Item). p y ≡ true) x xs h))

pub all_live_all_kept : (live : LiveSet) (items : List Item) → is_live live ≡ (λ number. has_entry number items)
    → filter (λ (x : Item). is_live live x.doc) items ≡ items
all_live_all_kept live items made =
    ap (λ (test : ℕ → Bool). filter (λ (x : Item). test x.doc) items) made ∙ all_kept (λ (x : Item). has_entry x.doc items) items (has_at items)
