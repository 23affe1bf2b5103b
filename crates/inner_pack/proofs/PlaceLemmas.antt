-- Where leaves stand one behind the other.
use Rattle.std.proofs.Common.{◌≡◌, ℕ, ℤ, ◌+◌, ◌-◌, ◌*◌, ◌/◌, ◌≤◌, ◌<◌, List, [], ◌∷◌, ◌++◌, length, All}
use Rattle.std.proofs.Common.{refl, sym, ap, subst, ◌∙◌, arith, leb, inl, inr, le-leb, length-append}
use Rattle.std.specs.List.{flat_map}
use Rattle.std.proofs.lemmas.Bool.{cond-true, cond-false, cases_lt, lt-leb}
use Rattle.std.proofs.lemmas.List.Elements.{All-head, All-tail}
use Rattle.std.proofs.lemmas.List.Concat.{flat_map-append}
use Rattle.inner_pack.specs.Places.{Spot, leaf_begin, leaf_end, LeafSpan, leaf_spans, end_of}
use Rattle.inner_pack.specs.Trees.{IndexTree, Leaf, Split, lengths_of, leaf_count, IsShaped}
use Rattle.inner_pack.specs.Bodies.{first_length, right_begin, place_bytes, places_table}

-- each is the length of a leaf: 1 to 4064 bytes
abbrev pub AreLengths : List ℕ → Type 0
AreLengths ns = All (λ length. (1 ≤ length) × (length ≤ 4064)) ns

pub head_length : (n : ℕ) (ns : List ℕ) → AreLengths (n ∷ ns) → (1 ≤ n) × (n ≤ 4064)
head_length n ns h = All-head (λ (length : ℕ). (1 ≤ length) × (length ≤ 4064)) n ns h

pub tail_lengths : (n : ℕ) (ns : List ℕ) → AreLengths (n ∷ ns) → AreLengths ns
tail_lengths n ns h = All-tail (λ (length : ℕ). (1 ≤ length) × (length ≤ 4064)) n ns h

-- ---- a leaf behind a spot

pub fitted_here : (s : Spot) (n : ℕ) → s.offset + n ≤ 4064 → leaf_begin s n ≡ s
fitted_here s n le = cond-true (leb (s.offset + n) 4064) s (record { page = s.page + 1; offset = 0 }) (le-leb _ _ le)

pub fitted_next : (s : Spot) (n : ℕ) → 4064 < s.offset + n → leaf_begin s n ≡ record { page = s.page + 1; offset = 0 }
fitted_next s n lt = cond-false (leb (s.offset + n) 4064) s (record { page = s.page + 1; offset = 0 }) (lt-leb _ _ lt)

-- what holds of a fitted spot holds in both cases
fitted_cases : (P : Spot → Type 0) (s : Spot) (n : ℕ) → (s.offset + n ≤ 4064 → P s) → P (record { page = s.page + 1; offset = 0 }) → P (leaf_begin s n)
fitted_cases P s n here next = elim (cases_lt 4064 (s.offset + n)) [
  | inl lt ↦ subst P (sym (fitted_next s n lt)) next
  | inr le ↦ subst P (sym (fitted_here s n le)) (here le)
]

pub fitted_fits : (s : Spot) (n : ℕ) → n ≤ 4064 → (leaf_begin s n).offset + n ≤ 4064
fitted_fits s n le = fitted_cases (λ t. t.offset + n ≤ 4064) s n (λ h. h) (omega arith)

pub fitted_from : (s : Spot) (n : ℕ) → s.page ≤ (leaf_begin s n).page
fitted_from s n = fitted_cases (λ t. s.page ≤ t.page) s n (λ h. omega arith) (omega arith)

pub fitted_to : (s : Spot) (n : ℕ) → (leaf_begin s n).page ≤ s.page + 1
fitted_to s n = fitted_cases (λ t. t.page ≤ s.page + 1) s n (λ h. omega arith) (omega arith)

pub fitted_again : (s : Spot) (n : ℕ) → n ≤ 4064 → leaf_begin (leaf_begin s n) n ≡ leaf_begin s n
fitted_again s n le = fitted_here (leaf_begin s n) n (fitted_fits s n le)

-- ---- leaves in a row

pub end_of_append : (e : Spot) (ms ns : List ℕ) → end_of e (ms ++ ns) ≡ end_of (end_of e ms) ns
end_of_append e [] ns = refl
end_of_append e (m ∷ ms) ns = end_of_append (leaf_end (leaf_begin e m) m) ms ns

pub end_of_from : (e : Spot) (ns : List ℕ) → e.page ≤ (end_of e ns).page
end_of_from e [] = omega arith
end_of_from e (n ∷ ns) = omega (arith, fitted_from e n, end_of_from (leaf_end (leaf_begin e n) n) ns)

pub end_of_to : (e : Spot) (ns : List ℕ) → (end_of e ns).page ≤ e.page + length ns
end_of_to e [] = omega arith
end_of_to e (n ∷ ns) = omega (arith, fitted_to e n, end_of_to (leaf_end (leaf_begin e n) n) ns)

pub placed_append : (e : Spot) (ms ns : List ℕ) → leaf_spans e (ms ++ ns) ≡ leaf_spans e ms ++ leaf_spans (end_of e ms) ns
placed_append e [] ns = refl
placed_append e (m ∷ ms) ns = ap (λ (t : List LeafSpan). record { at = leaf_begin e m; length = m } ∷ t) (placed_append (leaf_end (leaf_begin e m) m) ms ns)

-- the first of them may as well begin where it fits
pub end_of_fitted : (e : Spot) (n : ℕ) (ns : List ℕ) → n ≤ 4064 → end_of (leaf_begin e n) (n ∷ ns) ≡ end_of e (n ∷ ns)
end_of_fitted e n ns le = ap (λ (s : Spot). end_of (leaf_end s n) ns) (fitted_again e n le)

pub placed_fitted : (e : Spot) (n : ℕ) (ns : List ℕ) → n ≤ 4064 → leaf_spans (leaf_begin e n) (n ∷ ns) ≡ leaf_spans e (n ∷ ns)
placed_fitted e n ns le = ap (λ (s : Spot). record { at = s; length = n } ∷ leaf_spans (leaf_end s n) ns) (fitted_again e n le)

-- ---- the leaves of a tree

pub rest_lengths : IndexTree → List ℕ
rest_lengths (Leaf n own) = []
rest_lengths (Split d x l r) = rest_lengths l ++ lengths_of r

pub lengths_first : (t : IndexTree) → lengths_of t ≡ first_length t ∷ rest_lengths t
unfolding rest_lengths
lengths_first (Leaf n own) = refl
lengths_first (Split d x l r) = ap (λ (ns : List ℕ). ns ++ lengths_of r) (lengths_first l)

pub length-lengths_of : (t : IndexTree) → length (lengths_of t) ≡ leaf_count t
length-lengths_of (Leaf n own) = refl
length-lengths_of (Split d x l r) = length-append (lengths_of l) (lengths_of r) ∙ (λ i. length-lengths_of l i + length-lengths_of r i)

pub count_shaped : (n : ℕ) (t : IndexTree) → IsShaped n t → leaf_count t ≡ n
count_shaped n (Leaf m own) h = sym h
count_shaped n (Split d x l r) h = (λ i. count_shaped (n - n / 2) l h.1 i + count_shaped (n / 2) r h.2 i) ∙ omega (arith, h.0)

pub first_fits : (t : IndexTree) → AreLengths (lengths_of t) → (1 ≤ first_length t) × (first_length t ≤ 4064)
first_fits t h = head_length (first_length t) (rest_lengths t) (subst AreLengths (lengths_first t) h)

pub end_first : (e : Spot) (t : IndexTree) → AreLengths (lengths_of t) → end_of (leaf_begin e (first_length t)) (lengths_of t) ≡ end_of e (lengths_of t)
end_first e t h =
    ap (end_of (leaf_begin e (first_length t))) (lengths_first t)
    ∙ end_of_fitted e (first_length t) (rest_lengths t) (first_fits t h).1
    ∙ ap (end_of e) (sym (lengths_first t))

pub placed_first : (e : Spot) (t : IndexTree) → AreLengths (lengths_of t)
    → leaf_spans (leaf_begin e (first_length t)) (lengths_of t) ≡ leaf_spans e (lengths_of t)
placed_first e t h =
    ap (leaf_spans (leaf_begin e (first_length t))) (lengths_first t)
    ∙ placed_fitted e (first_length t) (rest_lengths t) (first_fits t h).1
    ∙ ap (leaf_spans e) (sym (lengths_first t))

-- where the right child begins, told from where the left one may begin
pub right_first : (e : Spot) (l r : IndexTree) → AreLengths (lengths_of l)
    → right_begin (leaf_begin e (first_length l)) l r ≡ leaf_begin (end_of e (lengths_of l)) (first_length r)
unfolding right_begin
right_first e l r h = ap (λ (s : Spot). leaf_begin s (first_length r)) (end_first e l h)

pub right_fits : (s : Spot) (l r : IndexTree) → AreLengths (lengths_of r) → (right_begin s l r).offset + first_length r ≤ 4064
unfolding right_begin
right_fits s l r h = fitted_fits (end_of s (lengths_of l)) (first_length r) (first_fits r h).1

pub right_from : (s : Spot) (l r : IndexTree) → s.page ≤ (right_begin s l r).page
unfolding right_begin
right_from s l r = omega (arith, end_of_from s (lengths_of l), fitted_from (end_of s (lengths_of l)) (first_length r))

-- a node that begins where its first leaf fits has its next child no more pages further than it has leaves on the left
pub right_to : (s : Spot) (l r : IndexTree) → AreLengths (lengths_of l) → s.offset + first_length l ≤ 4064 → (right_begin s l r).page ≤ s.page + leaf_count l
unfolding right_begin
right_to s l r h fits =
    let here : end_of s (first_length l ∷ rest_lengths l) ≡ end_of (leaf_end s (first_length l)) (rest_lengths l) =
    ap (λ (e : Spot). end_of (leaf_end e (first_length l)) (rest_lengths l)) (fitted_here s (first_length l) fits) in
    let whole : end_of s (lengths_of l) ≡ end_of (leaf_end s (first_length l)) (rest_lengths l) = ap (end_of s) (lengths_first l) ∙ here in
    let far : (end_of s (lengths_of l)).page ≤ s.page + length (rest_lengths l) =
    subst (λ (e : Spot). e.page ≤ s.page + length (rest_lengths l)) (sym whole) (end_of_to (leaf_end s (first_length l)) (rest_lengths l)) in
    omega (arith, far, fitted_to (end_of s (lengths_of l)) (first_length r), length-lengths_of l, ap length (lengths_first l))

-- the table of places is that of the left child and then that of the right one
pub places_split : (s : Spot) (d : ℕ) (x : ℤ) (l r : IndexTree) → AreLengths (lengths_of r)
    → places_table s (Split d x l r) ≡ places_table s l ++ places_table (right_begin s l r) r
unfolding places_table right_begin
places_split s d x l r h =
    ap (flat_map place_bytes)
    (placed_append s (lengths_of l) (lengths_of r)
    ∙ ap (λ (t : List LeafSpan). leaf_spans s (lengths_of l) ++ t) (sym (placed_first (end_of s (lengths_of l)) r h)))
    ∙ flat_map-append place_bytes (leaf_spans s (lengths_of l)) (leaf_spans (leaf_begin (end_of s (lengths_of l)) (first_length r)) (lengths_of r))

length-placed : (e : Spot) (ns : List ℕ) → length (flat_map place_bytes (leaf_spans e ns)) ≡ 8 * length ns
length-placed e [] = omega arith
length-placed e (n ∷ ns) = omega (arith, length-placed (leaf_end (leaf_begin e n) n) ns)

pub length-places : (s : Spot) (t : IndexTree) → length (places_table s t) ≡ 8 * leaf_count t
unfolding places_table
length-places s t = length-placed s (lengths_of t) ∙ ap (λ n. 8 * n) (length-lengths_of t)

-- the table begins with the place of the first leaf
pub places_first : (s : Spot) (t : IndexTree) → s.offset + first_length t ≤ 4064
    → places_table s t
    ≡ place_bytes (record { at = s; length = first_length t }) ++ flat_map place_bytes (leaf_spans (leaf_end s (first_length t)) (rest_lengths t))
unfolding places_table
places_first s t fits =
    ap (λ (ns : List ℕ). flat_map place_bytes (leaf_spans s ns)) (lengths_first t)
    ∙ ap (λ (e : Spot).
    place_bytes (record { at = e; length = first_length t }) ++ flat_map place_bytes (leaf_spans (leaf_end e (first_length t)) (rest_lengths t)))
    (fitted_here s (first_length t) fits)
