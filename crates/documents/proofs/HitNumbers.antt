-- The numbers of entries that pass are those of the documents that pass.
use Rattle.std.proofs.Common.{◌≡◌, ℕ, ◌<◌, Bool, true, false, ◌||◌, List, [], ◌∷◌, refl, sym, ap, subst, ◌∙◌, ⊎_elim, inl, inr, arith, ℤ}
use Rattle.std.specs.Prelude.{◌↔◌}
use Rattle.std.specs.List.{Contains, filter, list_any}
use Rattle.std.specs.List.Sorted.{IsStrictlyIncreasing}
use Rattle.std.proofs.lemmas.Bool.{cases_Bool}
use Rattle.std.proofs.lemmas.List.Kept.{AllPairs-filter, AllPairs-from_increasing}
use Rattle.point_codec.specs.Points.{Item}
use Rattle.std.proofs.Common.{◌++◌, map}
use Rattle.std.proofs.lemmas.List.{map-append}
use Rattle.std.proofs.lemmas.List.Elements.{filter-append}
use Rattle.documents.specs.Documents.{Document, hits, passes}
use Rattle.documents.specs.Entries.{AreDocs, entry_of, numbers_found}
use Rattle.documents.proofs.Lists.{cons_cases, cons_head, cons_tail, in_filter, in_map, nil_none, of_filter, of_map, pairs_map, same_members}
use Rattle.documents.proofs.Members.{doc_of, has_entry_in}

any_has : (test : List ℤ → Bool) (ps : List (List ℤ)) (p : List ℤ) → Contains ps p → test p ≡ true → list_any test ps ≡ true
any_has test [] p h t = nil_none p _ h
any_has test (q ∷ qs) p h t = ⊎_elim
    (λ e. ap (λ b. b || list_any test qs) (ap test e ∙ t))
    (λ k. ap (λ b. test q || b) (any_has test qs p k t) ∙ or_true (test q))
    (cons_cases q qs p h)
  where
    or_true : (b : Bool) → (b || true) ≡ true
    or_true true = refl
    or_true false = refl

any_gives : (test : List ℤ → Bool) (ps : List (List ℤ)) → list_any test ps ≡ true → (p : List ℤ) × Contains ps p × (test p ≡ true)
any_gives test [] h = cc
any_gives test (q ∷ qs) h = elim (cases_Bool (test q)) [
  | inl t ↦ (q, cons_head q qs, t)
  | inr t ↦ let r = any_gives test qs (sym (ap (λ b. b || list_any test qs) t) ∙ h) in (r.0, cons_tail q qs r.0 r.1, r.2)
]

pub found_hits : (n : ℕ) (xs : List Item) (docs : List Document) (test : List ℤ → Bool) → AreDocs n xs docs → (m : ℕ) → Contains (numbers_found test xs) m
    → Contains (hits test docs) m
found_hits n xs docs test are m h =
    let number = of_map (λ (x : Item). x.doc) (filter (λ x. test x.at) xs) m h in
    let found = of_filter (λ (x : Item). test x.at) xs number.0 number.1 in
    let doc = doc_of n xs docs are number.0 found.0 in
    subst (λ k. Contains (hits test docs) k) (doc.2 ∙ number.2)
    (in_map (λ (d : Document). d.number) (filter (passes test) docs) doc.0
    (in_filter (passes test) docs doc.0 doc.1 (any_has test doc.0.points number.0.at doc.3 found.1)))

pub hits_found : (n : ℕ) (xs : List Item) (docs : List Document) (test : List ℤ → Bool) → AreDocs n xs docs → (m : ℕ) → Contains (hits test docs) m
    → Contains (numbers_found test xs) m
hits_found n xs docs test are m h =
    let number = of_map (λ (d : Document). d.number) (filter (passes test) docs) m h in
    let doc = of_filter (passes test) docs number.0 number.1 in
    let point = any_gives test number.0.points doc.1 in
    let x : Item = entry_of number.0.number point.0 in
    subst (λ k. Contains (numbers_found test xs) k) number.2
    (in_map (λ (y : Item). y.doc) (filter (λ y. test y.at) xs) x
    (in_filter (λ (y : Item). test y.at) xs x (has_entry_in n xs docs are number.0 point.0 doc.0 point.1) point.2))

pub hits_are : (n : ℕ) (xs : List Item) (docs : List Document) (test : List ℤ → Bool) (found : List ℕ) → AreDocs n xs docs
    → IsStrictlyIncreasing found → ((number : ℕ) → Contains found number ↔ Contains (numbers_found test xs) number) → found ≡ hits test docs
hits_are n xs docs test found are up same =
    same_members (λ (a b : ℕ). a < b) (λ a lt. omega (arith, lt)) (λ a b c h k. omega (arith, h, k)) found (hits test docs)
    (AllPairs-from_increasing found up)
    (pairs_map (λ (a b : ℕ). a < b) (λ (d : Document). d.number) (filter (passes test) docs)
    (AllPairs-filter (λ (a b : Document). a.number < b.number) (passes test) docs are.ascend))
    (λ m h. found_hits n xs docs test are m ((same m).0 h))
    (λ m h. (same m).1 (hits_found n xs docs test are m h))

-- ---- for those who gather the numbers

pub found_append : (test : List ℤ → Bool) (xs ys : List Item) → numbers_found test (xs ++ ys) ≡ numbers_found test xs ++ numbers_found test ys
found_append test xs ys =
    ap (map (λ (x : Item). x.doc)) (filter-append (λ (x : Item). test x.at) xs ys)
    ∙ map-append (λ (x : Item). x.doc) (filter (λ (x : Item). test x.at) xs) (filter (λ (x : Item). test x.at) ys)
