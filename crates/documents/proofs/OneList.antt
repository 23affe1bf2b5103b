-- Entries are those of one list of documents.
use Rattle.std.proofs.Common.{◌≡◌, ℕ, ◌<◌, List, sym, subst, arith, ℤ, Less}
use Rattle.std.specs.List.{Contains}
use Rattle.std.specs.List.Sorted.{IsPermutation}
use Rattle.std.specs.Ordering.{int_cmp}
use Rattle.std.specs.Cmp.{tied_itself}
use Rattle.std.specs.Cmp.Lexicographic.{slice_cmp}
use Rattle.std.proofs.lemmas.List.Elements.{All-contains}
use Rattle.std.proofs.lemmas.Map.Keys.{Less-from_sorted}
use Rattle.std.proofs.lemmas.List.Sorted.{IsPermutation-sym, Contains-permutation}
use Rattle.point_codec.specs.Points.{Item, ArePoints}
use Rattle.point_codec.proofs.Ordered.{points_total}
use Rattle.documents.specs.Documents.{Document}
use Rattle.documents.specs.Entries.{AreDocs, entry_of}
use Rattle.documents.proofs.Lists.{same_members}
use Rattle.documents.proofs.Members.{doc_of, has_entry_in, own_entry, some_point}

abbrev pub Ahead : List ℤ → List ℤ → Type 0
Ahead p q = slice_cmp int_cmp p q ≡ Less

pub never_ahead : (p : List ℤ) → Ahead p p → ⊥
never_ahead p h = let tied = tied_itself points_total p in cc

-- points that ascend and have the same members are one
same_points : (ps qs : List (List ℤ)) → ArePoints ps → ArePoints qs → ((p : List ℤ) → Contains ps p → Contains qs p)
    → ((p : List ℤ) → Contains qs p → Contains ps p) → ps ≡ qs
same_points ps qs are those to from =
    same_members Ahead never_ahead points_total.trans ps qs
    (λ i j d h k. Less-from_sorted (slice_cmp int_cmp) ps i j d are.ascending h k)
    (λ i j d h k. Less-from_sorted (slice_cmp int_cmp) qs i j d those.ascending h k)
    to from

-- a document of the one list is in the other
other_has : (m n : ℕ) (xs ys : List Item) (docs others : List Document) → AreDocs m xs docs → AreDocs n ys others → IsPermutation xs ys → (d : Document)
    → Contains docs d → Contains others d
other_has m n xs ys docs others are those moved d h =
    let some = some_point m xs docs are d h in
    let there = to some.0 some.1 in
    let e = doc_of n ys others those (entry_of d.number some.0) there in
    let points : d.points ≡ e.0.points =
    same_points d.points e.0.points (All-contains (λ (f : Document). ArePoints f.points) docs d are.points h)
    (All-contains (λ (f : Document). ArePoints f.points) others e.0 those.points e.1)
    (λ p k. own_entry n ys others those e.0 (entry_of d.number p) e.1 (to p k) (sym e.2))
    (λ p k. own_entry m xs docs are d (entry_of e.0.number p) h
    (Contains-permutation ys xs (entry_of e.0.number p) (IsPermutation-sym xs ys moved) (has_entry_in n ys others those e.0 p e.1 k)) e.2) in
    let same : e.0 ≡ d = λ i. record { number = e.2 i; points = sym points i } in
    subst (λ (f : Document). Contains others f) same e.1
  where
    to : (p : List ℤ) → Contains d.points p → Contains ys (entry_of d.number p)
    to p k = Contains-permutation xs ys (entry_of d.number p) moved (has_entry_in m xs docs are d p h k)

pub one_list : (m n : ℕ) (xs ys : List Item) (docs others : List Document) → AreDocs m xs docs → AreDocs n ys others → IsPermutation xs ys → docs ≡ others
one_list m n xs ys docs others are those moved =
    same_members (λ (a b : Document). a.number < b.number) (λ d lt. omega (arith, lt)) (λ a b c h k. omega (arith, h, k)) docs others are.ascend those.ascend
    (λ d h. other_has m n xs ys docs others are those moved d h)
    (λ d h. other_has n m ys xs others docs those are (IsPermutation-sym xs ys moved) d h)
