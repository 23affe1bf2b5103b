-- Entries of numbers that are kept are those of documents that are kept.
use Rattle.std.proofs.Common.{◌≡◌, ℕ, ◌+◌, ◌<◌, ◌≤◌, Bool, true, false, not, ◌||◌, eqb, cond, List, []}
use Rattle.std.proofs.Common.{◌∷◌, ◌++◌, length, map, refl, sym, ap, subst, ◌∙◌, inl, inr, ⊎_elim, arith, ℤ}
use Rattle.std.proofs.lemmas.List.{append-nil, length-map}
use Rattle.std.specs.List.{All, Contains, filter, list_any, sum_by}
use Rattle.std.specs.List.Sorted.{IsPermutation}
use Rattle.std.proofs.lemmas.Bool.{cases_Bool, eq-eqb, eqb-true}
use Rattle.std.proofs.lemmas.List.Concat.{flat_map-append, length-flat_map}
use Rattle.std.proofs.lemmas.List.Elements.{All-nil, All-head, All-tail, All-filter, All-push, All-weaker, filter-append}
use Rattle.std.proofs.lemmas.List.Folds.{list_any-append}
use Rattle.std.proofs.lemmas.List.Kept.{AllPairs-filter}
use Rattle.std.proofs.lemmas.List.Quantifiers.{all_pairs_push}
use Rattle.std.proofs.lemmas.List.Sorted.{IsPermutation-refl, IsPermutation-sym, IsPermutation-trans}
use Rattle.std.proofs.lemmas.List.Sorted.{IsPermutation-append_left, length_permutation, list_any-IsPermutation}
use Rattle.point_codec.specs.Points.{Item, ArePoints}
use Rattle.documents.specs.Documents.{Document, Ascend, docs_without, hits, is_live, passes, docs_failing}
use Rattle.documents.specs.Entries.{AreDocs, entries_but, entries_in, entries_of, entry_of, has_entry, is_among}
use Rattle.documents.proofs.Lists.{cons_cases, cons_head, cons_tail, filter_alike}
use Rattle.documents.proofs.Lists.{in_filter, in_map, nil_none, of_filter, of_map, pairs_head, pairs_tail}
use Rattle.documents.proofs.Totals.{permuted_filter}
use Rattle.documents.proofs.Members.{one_number}

abbrev Before : Document → Document → Type 0
Before a b = a.number < b.number

-- ---- the entries in another order, and more numbers given

pub reordered : (n : ℕ) (xs ys : List Item) (docs : List Document) → AreDocs n xs docs → IsPermutation xs ys → AreDocs n ys docs
reordered n xs ys docs are moved = record {
  ascend = are.ascend;
  below = are.below;
  points = are.points;
  same = IsPermutation-trans ys xs (entries_in docs) (IsPermutation-sym xs ys moved) are.same;
}

pub later : (m n : ℕ) (xs : List Item) (docs : List Document) → AreDocs m xs docs → m ≤ n → AreDocs n xs docs
later m n xs docs are le = record {
  ascend = are.ascend;
  below = All-weaker (λ (d : Document). d.number < m) (λ (d : Document). d.number < n) (λ d lt. omega (arith, lt, le)) docs are.below;
  points = are.points;
  same = are.same;
}

pub no_docs : (n : ℕ) → AreDocs n [] []
no_docs n = record {
  ascend = λ i j d h k. absurd (omega arith);
  below = All-nil (λ (d : Document). d.number < n);
  points = All-nil (λ (d : Document). ArePoints d.points);
  same = IsPermutation-refl [];
}

-- ---- one document more

pub added : (n : ℕ) (xs : List Item) (docs : List Document) (points : List (List ℤ)) → AreDocs n xs docs → ArePoints points
    → AreDocs (n + 1) (xs ++ entries_of (record { number = n; points = points })) (docs ++ record { number = n; points = points } ∷ [])
added n xs docs points are ok = record {
  ascend = all_pairs_push Before docs d are.ascend (λ k e lt. are.below k e lt);
  below = All-push (λ (e : Document). e.number < n + 1) docs d (later n (n + 1) xs docs are (omega arith)).below (omega arith);
  points = All-push (λ (e : Document). ArePoints e.points) docs d are.points ok;
  same = subst (λ (ys : List Item). IsPermutation (xs ++ entries_of d) ys) (sym whole) (IsPermutation-append_left (entries_of d) xs (entries_in docs) are.same);
}
  where
    d : Document
    d = record { number = n; points = points }

    whole : entries_in (docs ++ d ∷ []) ≡ entries_in docs ++ entries_of d
    whole = flat_map-append entries_of docs (d ∷ []) ∙ ap (λ ys. entries_in docs ++ ys) (append-nil (entries_of d))

-- ---- fewer documents

one_kept : (keeps : ℕ → Bool) (n : ℕ) (ps : List (List ℤ)) (b : Bool) → keeps n ≡ b
    → filter (λ (x : Item). keeps x.doc) (map (entry_of n) ps) ≡ cond b (map (entry_of n) ps) []
one_kept keeps n [] true e = refl
one_kept keeps n [] false e = refl
one_kept keeps n (p ∷ ps) true e = rw e (ap (λ ys. entry_of n p ∷ ys) (one_kept keeps n ps true e))
one_kept keeps n (p ∷ ps) false e = rw e (one_kept keeps n ps false e)

pub kept_in : (keeps : ℕ → Bool) (docs : List Document)
    → filter (λ (x : Item). keeps x.doc) (entries_in docs) ≡ entries_in (filter (λ (d : Document). keeps d.number) docs)
kept_in keeps [] = refl
kept_in keeps (d ∷ ds) =
    filter-append (λ (x : Item). keeps x.doc) (entries_of d) (entries_in ds)
    ∙ ap (λ ys. ys ++ filter (λ (x : Item). keeps x.doc) (entries_in ds)) (one_kept keeps d.number d.points (keeps d.number) refl)
    ∙ by (keeps d.number) (kept_in keeps ds)
  where
    rest : List Document
    rest = filter (λ (e : Document). keeps e.number) ds

    by : (b : Bool) → filter (λ (x : Item). keeps x.doc) (entries_in ds) ≡ entries_in rest
        → cond b (entries_of d) [] ++ filter (λ (x : Item). keeps x.doc) (entries_in ds) ≡ entries_in (cond b (d ∷ rest) rest)
    by true e = ap (λ ys. entries_of d ++ ys) e
    by false e = e

pub kept : (n : ℕ) (xs : List Item) (docs : List Document) (keeps : ℕ → Bool) → AreDocs n xs docs
    → AreDocs n (filter (λ (x : Item). keeps x.doc) xs) (filter (λ (d : Document). keeps d.number) docs)
kept n xs docs keeps are = record {
  ascend = AllPairs-filter Before (λ d. keeps d.number) docs are.ascend;
  below = All-filter (λ (d : Document). keeps d.number) (λ d. d.number < n) docs are.below;
  points = All-filter (λ (d : Document). keeps d.number) (λ d. ArePoints d.points) docs are.points;
  same = subst (λ (ys : List Item). IsPermutation (filter (λ (x : Item). keeps x.doc) xs) ys) (kept_in keeps docs)
      (permuted_filter (λ x. keeps x.doc) xs (entries_in docs) are.same);
}

pub but_one : (n : ℕ) (xs : List Item) (docs : List Document) (number : ℕ) → AreDocs n xs docs → AreDocs n (entries_but number xs) (docs_without number docs)
but_one n xs docs number are = kept n xs docs (λ m. not (eqb m number)) are

pub among_from : (numbers : List ℕ) (m : ℕ) → Contains numbers m → is_among numbers m ≡ true
among_from [] m h = nil_none m _ h
among_from (k ∷ ks) m h = ⊎_elim
    (λ e. rw (eq-eqb k m e) refl)
    (λ t. rw (among_from ks m t) (or_true (eqb k m)))
    (cons_cases k ks m h)
  where
    or_true : (b : Bool) → (b || true) ≡ true
    or_true true = refl
    or_true false = refl

pub among_to : (numbers : List ℕ) (m : ℕ) → is_among numbers m ≡ true → Contains numbers m
among_to [] m h = cc
among_to (k ∷ ks) m h = elim (cases_Bool (eqb k m)) [
  | inl e ↦ subst (λ z. Contains (k ∷ ks) z) (eqb-true k m e) (cons_head k ks)
  | inr e ↦ cons_tail k ks m (among_to ks m (sym (ap (λ b. b || is_among ks m) e) ∙ h))
]

pub same_tests : (b c : Bool) → (b ≡ true → c ≡ true) → (c ≡ true → b ≡ true) → b ≡ c
same_tests true c f g = sym (f refl)
same_tests false true f g = g refl
same_tests false false f g = refl

-- a document's number is among the hits exactly where the document passes
pub among_hits : (test : List ℤ → Bool) (docs : List Document) → Ascend docs → (d : Document) → Contains docs d
    → is_among (hits test docs) d.number ≡ passes test d
among_hits test docs up d h = same_tests _ _
    (λ a.
    let hit = of_map (λ (e : Document). e.number) (filter (passes test) docs) d.number (among_to (hits test docs) d.number a) in
    let found = of_filter (passes test) docs hit.0 hit.1 in
    ap (passes test) (sym (one_number docs hit.0 d up found.0 h hit.2)) ∙ found.1)
    (λ p. among_from (hits test docs) d.number (in_map (λ (e : Document). e.number) (filter (passes test) docs) d (in_filter (passes test) docs d h p)))

pub but_hits : (n : ℕ) (xs : List Item) (docs : List Document) (test : List ℤ → Bool) → AreDocs n xs docs
    → AreDocs n (filter (λ (x : Item). not (is_among (hits test docs) x.doc)) xs) (docs_failing test docs)
but_hits n xs docs test are =
    subst (λ (ds : List Document). AreDocs n (filter (λ (x : Item). not (is_among (hits test docs) x.doc)) xs) ds)
    (filter_alike (λ (d : Document). not (is_among (hits test docs) d.number)) (λ d. not (passes test d)) docs
    (λ d h. ap not (among_hits test docs are.ascend d h)))
    (kept n xs docs (λ m. not (is_among (hits test docs) m)) are)

-- ---- numbers that are there, and how many

any_of : (number n : ℕ) (ps : List (List ℤ)) → 1 ≤ length ps → list_any (λ (x : Item). eqb x.doc number) (map (entry_of n) ps) ≡ eqb n number
any_of number n [] h = absurd (omega (arith, h))
any_of number n (p ∷ []) h = or_false (eqb n number)
  where
    or_false : (b : Bool) → (b || false) ≡ b
    or_false true = refl
    or_false false = refl
any_of number n (p ∷ q ∷ qs) h = ap (λ b. eqb n number || b) (any_of number n (q ∷ qs) (omega arith)) ∙ or_same (eqb n number)
  where
    or_same : (b : Bool) → (b || b) ≡ b
    or_same true = refl
    or_same false = refl

any_in : (number : ℕ) (docs : List Document) → All (λ (d : Document). ArePoints d.points) docs → is_live number docs ≡ has_entry number (entries_in docs)
any_in number [] h = refl
any_in number (d ∷ ds) h =
    ap (λ b. eqb d.number number || b) (any_in number ds (All-tail (λ (e : Document). ArePoints e.points) d ds h))
    ∙ sym (list_any-append (λ (x : Item). eqb x.doc number) (entries_of d) (entries_in ds)
    ∙ ap (λ b. b || has_entry number (entries_in ds)) (any_of number d.number d.points (All-head (λ (e : Document). ArePoints e.points) d ds h).some))

pub live : (n : ℕ) (xs : List Item) (docs : List Document) (number : ℕ) → AreDocs n xs docs → is_live number docs ≡ has_entry number xs
live n xs docs number are = any_in number docs are.points ∙ sym (list_any-IsPermutation (λ (x : Item). eqb x.doc number) xs (entries_in docs) are.same)

pub counted : (n : ℕ) (xs : List Item) (docs : List Document) → AreDocs n xs docs → length xs ≡ sum_by (λ (d : Document). length d.points) docs
counted n xs docs are =
    sym (length_permutation xs (entries_in docs) are.same)
    ∙ length-flat_map entries_of docs
    ∙ ap (λ (f : Document → ℕ). sum_by f docs) (λ i d. length-map d.points (entry_of d.number) i)

few_from : (m n : ℕ) (docs : List Document) → Ascend docs → All (λ (d : Document). d.number < n) docs → ((d : Document) → Contains docs d → m ≤ d.number)
    → m ≤ n → m + length docs ≤ n
few_from m n [] up below least le = omega (arith, le)
few_from m n (d ∷ ds) up below least le =
    let here = least d (cons_head d ds) in
    let lt = All-head (λ (e : Document). e.number < n) d ds below in
    let rest = few_from (d.number + 1) n ds (pairs_tail Before d ds up) (All-tail (λ (e : Document). e.number < n) d ds below)
    (λ e h. let k = pairs_head Before d ds up e h in omega (arith, k)) (omega (arith, lt)) in
    omega (arith, here, lt, rest)

pub few : (n : ℕ) (xs : List Item) (docs : List Document) → AreDocs n xs docs → length docs ≤ n
few n xs docs are = let all = few_from 0 n docs are.ascend are.below (λ d h. omega arith) (omega arith) in omega (arith, all)
