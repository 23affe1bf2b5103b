-- The index that the requests make.
use Rattle.std.proofs.Common.{◌≡◌, ◌∙◌, ◌+◌, ◌%◌, ◌^◌, ◌<◌, ◌≤◌, ◌&&◌, ◌==◌, ap, sym, refl, subst, zero, suc, ℕ, Bool, true, false}
use Rattle.std.proofs.Common.{not, cond, List, [], ◌∷◌, ◌++◌, map, filter, arith, add-one, nat_lt, nat_le, nat_eq, Some}
use Rattle.std.specs.List.{All, fold, range_with_len, slice_index_or}
use Rattle.std.proofs.lemmas.Bool.{cond-true, eqb-false, eqb-true, le-ltb}
use Rattle.std.proofs.lemmas.Bool.Decides.{nat_tests}
use Rattle.std.proofs.lemmas.List.Elements.{All-contains, filter_agree}
use Rattle.std.proofs.lemmas.List.FromFn.{get_or-map-range_with_len, length-map-range_with_len, map-range_with_len_more}
use Rattle.std.proofs.lemmas.List.Sums.{fold-append}
use Rattle.documents.specs.Documents.{Document, docs_without}
use Rattle.documents.proofs.Lists.{filter_alike, filter_twice}
use Rattle.script_lang.specs.Requests.{Add, Delete}
use Rattle.index_model.specs.State.{Index, State, new_index}
use Rattle.index_model.specs.Step.{step_on}
use Rattle.drawn_points.specs.Draws.{point}
use Rattle.drawn_points.specs.Generated.{adds, after, deletes, document, documents, kept_docs, made_state, stays}

-- ---- documents that are added

abbrev filled : ℕ → ℕ → Index
filled seed n = record (new_index 2 333) { next = n; points_given = n; docs = documents seed n }

pub documents_more : (seed n : ℕ) → documents seed (n + 1) ≡ documents seed n ++ document seed n ∷ []
documents_more seed n = map-range_with_len_more (document seed) 0 n n (omega arith)

one_added : (seed n : ℕ) → n < 2 ^ 24 → after (Some (filled seed n)) (Add (point seed n ∷ [])) ≡ Some (filled seed (n + 1))
unfolding step_on
one_added seed n small =
    let room : nat_lt (2 ^ 24) (n + 1) ≡ false = le-ltb (2 ^ 24) (n + 1) (omega arith) in
    rw room (ap (λ (docs : List Document). Some (record (new_index 2 333) { next = n + 1; points_given = n + 1; docs = docs })) (sym (documents_more seed n)))

all_added : (seed n : ℕ) → n ≤ 2 ^ 24 → fold after (Some (new_index 2 333)) (adds seed n) ≡ Some (filled seed n)
all_added seed zero few = refl
all_added seed (suc n) few =
    let more : adds seed (suc n) ≡ adds seed n ++ Add (point seed n ∷ []) ∷ [] =
    ap (adds seed) (sym (add-one n)) ∙ map-range_with_len_more (λ i. Add (point seed i ∷ [])) 0 n n (omega arith) in
    ap (fold after (Some (new_index 2 333))) more
    ∙ (fold-append after (Some (new_index 2 333)) (adds seed n) (Add (point seed n ∷ []) ∷ [])
    ∙ (ap (λ (s : State). after s (Add (point seed n ∷ []))) (all_added seed n (omega arith))
    ∙ (one_added seed n (omega arith) ∙ ap (λ k. Some (filled seed k)) (add-one n))))

-- ---- documents that go

all_deleted : (i : Index) (numbers : List ℕ)
    → fold after (Some i) (map Delete numbers) ≡ Some (record i { docs = fold (λ docs n. docs_without n docs) i.docs numbers })
unfolding step_on
all_deleted i [] = refl
all_deleted i (n ∷ ns) = all_deleted (record i { docs = docs_without n i.docs }) ns

-- the number is not among the multiples of 10 from a on, n numbers in all
abbrev apart : ℕ → ℕ → Document → Bool
apart a n d = not ((nat_le a d.number && nat_lt d.number (a + n)) && d.number % 10 == 0)

apart_first : (a n x : ℕ) → a % 10 ≡ 0
    → (not (nat_eq x a) && not ((nat_le (a + 1) x && nat_lt x (a + 1 + n)) && x % 10 == 0)) ≡ not ((nat_le a x && nat_lt x (a + suc n)) && x % 10 == 0)
apart_first a n x tenth = grind (arith, nat_tests)

apart_other : (a n x : ℕ) → (a % 10 ≡ 0 → ⊥)
    → not ((nat_le (a + 1) x && nat_lt x (a + 1 + n)) && x % 10 == 0) ≡ not ((nat_le a x && nat_lt x (a + suc n)) && x % 10 == 0)
apart_other a n x other = grind (arith, nat_tests)

apart_none : (a x : ℕ) → not ((nat_le a x && nat_lt x (a + 0)) && x % 10 == 0) ≡ true
apart_none a x = grind (arith, nat_tests)

apart_start : (n x : ℕ) → not ((nat_le 0 x && nat_lt x (0 + n)) && x % 10 == 0) ≡ not (nat_lt x n && x % 10 == 0)
apart_start n x = grind (arith, nat_tests)

filter_all : (p : Document → Bool) → ((d : Document) → p d ≡ true) → (docs : List Document) → filter p docs ≡ docs
filter_all p passes [] = refl
filter_all p passes (d ∷ ds) = cond-true (p d) _ _ (passes d) ∙ ap (λ (rest : List Document). d ∷ rest) (filter_all p passes ds)

tenths_deleted : (a n : ℕ) (docs : List Document)
    → fold (λ docs n. docs_without n docs) docs (filter (λ i. i % 10 == 0) (range_with_len a n)) ≡ filter (apart a n) docs
tenths_deleted a zero docs = sym (filter_all (apart a 0) (λ d. apart_none a d.number) docs)
tenths_deleted a (suc n) docs = go (a % 10 == 0) refl (λ later. tenths_deleted (a + 1) n later)
  where
    go : (b : Bool) → (a % 10 == 0) ≡ b
        → ((later : List Document)
        → fold (λ docs n. docs_without n docs) later (filter (λ i. i % 10 == 0) (range_with_len (a + 1) n)) ≡ filter (apart (a + 1) n) later)
        → fold (λ docs n. docs_without n docs) docs
        (cond b (a ∷ filter (λ i. i % 10 == 0) (range_with_len (a + 1) n)) (filter (λ i. i % 10 == 0) (range_with_len (a + 1) n)))
        ≡ filter (apart a (suc n)) docs
    go true is rest =
        rest (docs_without a docs)
        ∙ (filter_twice (apart (a + 1) n) (λ d. not (nat_eq d.number a)) docs
        ∙ filter_agree _ _ (λ d. apart_first a n d.number (eqb-true _ _ is)) docs)
    go false is rest = rest docs ∙ filter_agree _ _ (λ d. apart_other a n d.number (eqb-false _ _ is)) docs

-- ---- the index

pub made_is : (seed n : ℕ) → n ≤ 2 ^ 24
    → made_state seed n ≡ Some (record (new_index 2 333) { next = n; points_given = n; docs = kept_docs n (documents seed n) })
unfolding made_state
made_is seed n few =
    fold-append after (Some (new_index 2 333)) (adds seed n) (deletes n)
    ∙ (ap (λ (s : State). fold after s (deletes n)) (all_added seed n few)
    ∙ (all_deleted (filled seed n) (filter (λ i. i % 10 == 0) (range_with_len 0 n))
    ∙ ap (λ (docs : List Document). Some (record (new_index 2 333) { next = n; points_given = n; docs = docs }))
    (tenths_deleted 0 n (documents seed n) ∙ filter_agree _ _ (λ d. apart_start n d.number) (documents seed n))))

-- ---- one document after the other goes

stays_none : (x : ℕ) → not (nat_lt x 0 && x % 10 == 0) ≡ true
stays_none x = grind (arith, nat_tests)

stays_more : (bound x : ℕ) → bound % 10 ≡ 0
    → not (nat_lt x (bound + 10) && x % 10 == 0) ≡ (not (nat_lt x bound && x % 10 == 0) && not (nat_eq x bound))
stays_more bound x tenth = grind (arith, nat_tests)

stays_all : (n bound x : ℕ) → n ≤ bound → x < n → not (nat_lt x bound && x % 10 == 0) ≡ not (nat_lt x n && x % 10 == 0)
stays_all n bound x above below = grind (arith, nat_tests)

pub kept_none : (docs : List Document) → kept_docs 0 docs ≡ docs
kept_none docs = filter_all (stays 0) (λ d. stays_none d.number) docs

pub kept_more : (bound : ℕ) (docs : List Document) → bound % 10 ≡ 0 → kept_docs (bound + 10) docs ≡ docs_without bound (kept_docs bound docs)
kept_more bound docs tenth =
    filter_agree _ _ (λ d. stays_more bound d.number tenth) docs
    ∙ sym (filter_twice (λ d. not (nat_eq d.number bound)) (stays bound) docs)

numbers_below : (seed n : ℕ) → All (λ d. d.number < n) (documents seed n)
numbers_below seed n k d lt =
    let below : k < n = omega (arith, length-map-range_with_len (document seed) 0 n) in
    let is : slice_index_or (documents seed n) k d ≡ document seed k = get_or-map-range_with_len (document seed) 0 n k k d below (omega arith) in
    subst (λ (e : Document). e.number < n) (sym is) below

pub kept_all : (seed n bound : ℕ) → n ≤ bound → kept_docs bound (documents seed n) ≡ kept_docs n (documents seed n)
kept_all seed n bound above =
    filter_alike (stays bound) (stays n) (documents seed n)
    (λ d has. stays_all n bound d.number above (All-contains (λ (e : Document). e.number < n) (documents seed n) d (numbers_below seed n) has))
