-- Which entries are those of documents.
use Rattle.std.proofs.Common.{◌≡◌, ◌≢◌, ℕ, ◌+◌, ◌<◌, ◌≤◌, zero, suc, Bool, true, false, not, eqb, cond, List, [], ◌∷◌, ◌++◌}
use Rattle.std.proofs.Common.{length, map, get_or, refl, sym, ap, subst, ◌∙◌, arith, ℤ, Ordering, Less, Equal, Greater}
use Rattle.std.specs.List.{All, AllPairs, Contains, filter, sum_by, count_by}
use Rattle.std.specs.List.Sorted.{IsPermutation}
use Rattle.std.specs.Ordering.{int_cmp, ordering_reverse}
use Rattle.std.specs.Cmp.{eq_by_cmp_equiv}
use Rattle.std.specs.Cmp.Lexicographic.{slice_cmp}
use Rattle.std.proofs.lemmas.Bool.{eq-eqb, eqb-true, false_from_ne_true, false≢true}
use Rattle.std.proofs.lemmas.List.{length-map}
use Rattle.std.proofs.lemmas.List.Elements.{All-cons, All-contains, All-contains_itself, All-head, All-tail, All-nil, All-weaker, filter_passes}
use Rattle.std.proofs.lemmas.List.Kept.{AllPairs-cons, AllPairs-filter}
use Rattle.std.proofs.lemmas.List.Sorted.{All-permutation, IsPermutation-refl, IsPermutation-sym, IsPermutation-trans}
use Rattle.std.proofs.lemmas.List.Sorted.{IsPermutation-cons, IsPermutation-middle, IsPermutation-map, IsPermutation-append_comm}
use Rattle.std.proofs.lemmas.List.Sorted.{IsPermutation-append_right, IsPermutation-filter_both, length_permutation}
use Rattle.std.proofs.lemmas.List.Sums.{length-filter, sum_by-cons, sum_by-le-sum_by}
use Rattle.std.proofs.lemmas.Map.Keys.{IsDistinct-from_apart, IsDistinct-IsPermutation, apart_from_distinct, Less-from_sorted, sorted_from_all_adjacent}
use Rattle.std.proofs.lemmas.Map.Views.{tells_apart}
use Rattle.point_codec.specs.Points.{Item, ArePoints}
use Rattle.point_codec.proofs.Ordered.{points_total, points_exact}
use Rattle.documents.specs.Documents.{Document, Ascend}
use Rattle.documents.specs.Entries.{AreDocs, MakeDocs, entries_in, entries_of, entry_of}
use Rattle.documents.proofs.Lists.{cons_head, cons_tail, of_filter, of_map, pairs_after, pairs_append, pairs_head, pairs_map, pairs_none, pairs_tail}
use Rattle.documents.proofs.Totals.{is_item, item_exact, item_total, sum_by-filter}
use Rattle.documents.proofs.Members.{doc_of, of_entry}
use Rattle.documents.proofs.Kept.{added, counted, kept, later, no_docs, reordered}
use Rattle.documents.proofs.OneList.{Ahead, never_ahead}

-- ---- points in order

-- points that ascend and have these
pub record Ascended (ps : List (List ℤ)) : Type 0 where
  pub points : List (List ℤ)
  pub same : IsPermutation ps points
  pub up : AllPairs Ahead points

put : (p : List ℤ) (qs : List (List ℤ)) → AllPairs Ahead qs → ((q : List ℤ) → Contains qs q → p ≢ q) → Ascended (p ∷ qs)
put p [] up other = record { points = p ∷ []; same = IsPermutation-refl (p ∷ []); up = AllPairs-cons Ahead p [] (All-nil (Ahead p)) (pairs_none Ahead) }
put p (q ∷ qs) up other = by (slice_cmp int_cmp p q) refl (put p qs (pairs_tail Ahead q qs up) (λ r h. other r (cons_tail q qs r h)))
  where
    by : (o : Ordering) → slice_cmp int_cmp p q ≡ o → Ascended (p ∷ qs) → Ascended (p ∷ q ∷ qs)
    by Less e rest = record {
      points = p ∷ q ∷ qs;
      same = IsPermutation-refl (p ∷ q ∷ qs);
      up = AllPairs-cons Ahead p (q ∷ qs)
          (All-cons (Ahead p) q qs e (All-weaker (Ahead q) (Ahead p) (λ r h. points_total.trans p q r e h) qs (pairs_after Ahead q qs up))) up;
    }
    by Equal e rest = absurd (other q (cons_head q qs) (points_exact p q e))
    by Greater e rest = record {
      points = q ∷ rest.points;
      same = IsPermutation-trans (p ∷ q ∷ qs) (q ∷ p ∷ qs) (q ∷ rest.points) (IsPermutation-middle (p ∷ []) q qs)
          (IsPermutation-cons q (p ∷ qs) rest.points rest.same);
      up = AllPairs-cons Ahead q rest.points
          (All-permutation (Ahead q) (p ∷ qs) rest.points rest.same
          (All-cons (Ahead q) p qs (points_total.antisymm q p ∙ ap ordering_reverse e) (pairs_after Ahead q qs up)))
          rest.up;
    }

ascended : (ps : List (List ℤ)) → AllPairs (λ p q. p ≢ q) ps → Ascended ps
ascended [] once = record { points = []; same = IsPermutation-refl []; up = pairs_none Ahead }
ascended (p ∷ ps) once =
    let rest = ascended ps (pairs_tail (λ (q r : List ℤ). q ≢ r) p ps once) in
    let whole = put p rest.points rest.up
    (λ q h. All-contains (λ (r : List ℤ). p ≢ r) rest.points q
    (All-permutation (λ (r : List ℤ). p ≢ r) ps rest.points rest.same (pairs_after (λ (r s : List ℤ). r ≢ s) p ps once)) h) in
    record {
      points = whole.points;
      same = IsPermutation-trans (p ∷ ps) (p ∷ rest.points) whole.points (IsPermutation-cons p ps rest.points rest.same) whole.same;
      up = whole.up;
    }

are_points : (ps : List (List ℤ)) (a : Ascended ps) → 1 ≤ length ps → length ps ≤ 16 → ArePoints a.points
are_points ps a some few =
    let long = length_permutation ps a.points a.same in
    record {
      some = omega (arith, long, some);
      few = omega (arith, long, few);
      ascending = sorted_from_all_adjacent points_total a.points [] (λ k h. a.up k (k + 1) [] (omega arith) h);
    }

-- ---- entries of one number

same_again : (n : ℕ) (ms : List Item) → All (λ (x : Item). x.doc ≡ n) ms → map (entry_of n) (map (λ (x : Item). x.at) ms) ≡ ms
same_again n [] h = refl
same_again n (m ∷ ms) h =
    let here = sym (All-head (λ (x : Item). x.doc ≡ n) m ms h) in
    let rest = same_again n ms (All-tail (λ (x : Item). x.doc ≡ n) m ms h) in
    λ i. record { doc = here i; at = m.at } ∷ rest i

points_apart : (n : ℕ) (ms : List Item) → All (λ (x : Item). x.doc ≡ n) ms → AllPairs (λ (x y : Item). x ≢ y) ms
    → AllPairs (λ (p q : List ℤ). p ≢ q) (map (λ (x : Item). x.at) ms)
points_apart n ms all once =
    pairs_map (λ (p q : List ℤ). p ≢ q) (λ (x : Item). x.at) ms (λ i j d h k e.
    let docs : (get_or ms i d).doc ≡ (get_or ms j d).doc = all i d (omega arith) ∙ sym (all j d k) in
    once i j d h k (λ l. record { doc = docs l; at = e l }))

-- ---- documents of entries

some_more : (n : ℕ) (xs ms os : List Item) → All (λ (x : Item). x.doc ≡ n) ms → AllPairs (λ (x y : Item). x ≢ y) ms → length ms ≤ 16
    → IsPermutation xs (ms ++ os)
    → (docs : List Document) × AreDocs n os docs → (docs : List Document) × AreDocs (suc n) xs docs
some_more n xs [] os all once few moved (docs, are) = (docs, later n (suc n) xs docs (reordered n os xs docs are (IsPermutation-sym xs os moved)) (omega arith))
some_more n xs (m ∷ ms) os all once few moved (docs, are) =
    let ps : List (List ℤ) = map (λ (x : Item). x.at) (m ∷ ms) in
    let a = ascended ps (points_apart n (m ∷ ms) all once) in
    let long = length-map (m ∷ ms) (λ (x : Item). x.at) in
    let d : Document = record { number = n; points = a.points } in
    let own : IsPermutation (m ∷ ms) (entries_of d) =
    subst (λ ys. IsPermutation ys (entries_of d)) (same_again n (m ∷ ms) all) (IsPermutation-map (entry_of n) ps a.points a.same) in
    let back : IsPermutation (os ++ entries_of d) xs = IsPermutation-sym xs (os ++ entries_of d)
    (IsPermutation-trans xs ((m ∷ ms) ++ os) (os ++ entries_of d) moved
    (IsPermutation-trans ((m ∷ ms) ++ os) (os ++ (m ∷ ms)) (os ++ entries_of d) (IsPermutation-append_comm (m ∷ ms) os)
    (IsPermutation-append_right os (m ∷ ms) (entries_of d) own))) in (
      docs ++ d ∷ [],
      later (n + 1) (suc n) xs (docs ++ d ∷ [])
          (reordered (n + 1) (os ++ entries_of d) xs (docs ++ d ∷ [])
          (added n os docs a.points are (are_points ps a (omega (arith, long)) (omega (arith, long, few)))) back)
          (omega arith),
    )

fewer : (p q : Item → Bool) (xs : List Item) → count_by p (filter q xs) ≤ count_by p xs
fewer p q xs =
    let e = sum_by-filter (λ x. cond (p x) 1 0) q xs in
    let le = sum_by-le-sum_by (λ x. cond (q x) (cond (p x) 1 0) 0) (λ x. cond (p x) 1 0) xs (λ x. part (q x) (cond (p x) 1 0)) in
    omega (arith, e, le)
  where
    part : (b : Bool) (m : ℕ) → cond b m 0 ≤ m
    part true m = omega arith
    part false m = omega arith

pub docs_from : (n : ℕ) (xs : List Item) → MakeDocs n xs → (docs : List Document) × AreDocs n xs docs
docs_from zero [] make = ([], no_docs zero)
docs_from zero (x ∷ xs) make = let lt = All-head (λ (y : Item). y.doc < zero) x xs make.below in absurd (omega (arith, lt))
docs_from (suc n) xs make =
    some_more n xs ms os own (AllPairs-filter (λ (x y : Item). x ≢ y) is xs make.once) few (IsPermutation-filter_both is other (λ x. refl) xs)
    (docs_from n os rest)
  where
    is : Item → Bool
    is x = eqb x.doc n

    other : Item → Bool
    other x = not (eqb x.doc n)

    ms : List Item
    ms = filter (λ (x : Item). eqb x.doc n) xs

    os : List Item
    os = filter (λ (x : Item). not (eqb x.doc n)) xs

    own : All (λ (x : Item). x.doc ≡ n) ms
    own = All-weaker (λ (x : Item). eqb x.doc n ≡ true) (λ x. x.doc ≡ n) (λ x e. eqb-true x.doc n e) ms (filter_passes (λ (x : Item). eqb x.doc n) xs)

    few : length ms ≤ 16
    few = let long = length-filter (λ (x : Item). eqb x.doc n) xs in let most = make.few n in omega (arith, long, most)

    under : (x : Item) → Contains os x → x.doc < n
    under x h =
        let found = of_filter (λ (y : Item). not (eqb y.doc n)) xs x h in
        let lt = All-contains (λ (y : Item). y.doc < suc n) xs x make.below found.0 in
        let ne : x.doc ≢ n = λ e. false≢true (sym (ap not (eq-eqb x.doc n e)) ∙ found.1) in
        omega (arith, lt, ne)

    rest : MakeDocs n os
    rest = record {
      below = All-weaker (λ (x : Item). Contains os x) (λ x. x.doc < n) under os (All-contains_itself os);
      few = λ number. let le = fewer (λ (x : Item). eqb x.doc number) (λ x. not (eqb x.doc n)) xs in let most = make.few number in omega (arith, le, most);
      once = AllPairs-filter (λ (x y : Item). x ≢ y) (λ (x : Item). not (eqb x.doc n)) xs make.once;
    }

-- ---- and back

at_most : (m : ℕ) (ds : List Document) → Ascend ds → All (λ (d : Document). ArePoints d.points) ds → All (λ (d : Document). eqb d.number m ≡ true) ds
    → sum_by (λ (d : Document). length d.points) ds ≤ 16
at_most m [] up points all = omega arith
at_most m (d ∷ []) up points all =
    let few = (All-head (λ (e : Document). ArePoints e.points) d [] points).few in
    omega (arith, few, sum_by-cons (λ (e : Document). length e.points) d [])
at_most m (d ∷ e ∷ es) up points all =
    let lt = pairs_head (λ (a b : Document). a.number < b.number) d (e ∷ es) up e (cons_head e es) in
    let one = eqb-true d.number m (All-head (λ (f : Document). eqb f.number m ≡ true) d (e ∷ es) all) in
    let two = eqb-true e.number m (All-contains (λ (f : Document). eqb f.number m ≡ true) (d ∷ e ∷ es) e all (cons_tail d (e ∷ es) e (cons_head e es))) in
    absurd (omega (arith, lt, one, two))

own_apart : (n : ℕ) (ps : List (List ℤ)) → ArePoints ps → AllPairs (λ (x y : Item). x ≢ y) (map (entry_of n) ps)
own_apart n ps are =
    pairs_map (λ (x y : Item). x ≢ y) (entry_of n) ps (λ i j d h k e.
    let less = Less-from_sorted (slice_cmp int_cmp) ps i j d are.ascending h k in
    never_ahead (get_or ps j d) (subst (λ p. Ahead p (get_or ps j d)) (ap (λ (x : Item). x.at) e) less))

all_apart : (docs : List Document) → Ascend docs → All (λ (d : Document). ArePoints d.points) docs → AllPairs (λ (x y : Item). x ≢ y) (entries_in docs)
all_apart [] up points = pairs_none (λ (x y : Item). x ≢ y)
all_apart (d ∷ ds) up points =
    pairs_append (λ (x y : Item). x ≢ y) (entries_of d) (entries_in ds)
    (own_apart d.number d.points (All-head (λ (e : Document). ArePoints e.points) d ds points))
    (all_apart ds (pairs_tail (λ (a b : Document). a.number < b.number) d ds up) (All-tail (λ (e : Document). ArePoints e.points) d ds points))
    (λ x y h k e.
    let p = of_map (entry_of d.number) d.points x h in
    let other = of_entry ds y k in
    let lt = pairs_head (λ (a b : Document). a.number < b.number) d ds up other.0 other.1 in
    let here : d.number ≡ x.doc = ap (λ (z : Item). z.doc) p.2 in
    let there = other.2 in
    let same : x.doc ≡ y.doc = ap (λ (z : Item). z.doc) e in
    absurd (omega (arith, lt, here, there, same)))

-- no entry stands twice, in whatever order
pub apart_moved : (xs ys : List Item) → IsPermutation xs ys → AllPairs (λ (x y : Item). x ≢ y) xs → AllPairs (λ (x y : Item). x ≢ y) ys
apart_moved xs ys moved once i j d h k e =
    let apart = IsDistinct-from_apart is_item xs (λ a b c l m. false_from_ne_true _ (λ t. once a b c l m (tells_apart item_exact _ _ t))) in
    let distinct = IsDistinct-IsPermutation is_item (eq_by_cmp_equiv item_total).symm xs ys moved apart in
    let no_tie = apart_from_distinct is_item ys i j d distinct h k in
    false≢true (sym no_tie ∙ ap (λ x. is_item (get_or ys i d) x) (sym e) ∙ (eq_by_cmp_equiv item_total).refl (get_or ys i d))

pub docs_make : (n : ℕ) (xs : List Item) (docs : List Document) → AreDocs n xs docs → MakeDocs n xs
docs_make n xs docs are = record {
  below = All-weaker (λ (x : Item). Contains xs x) (λ x. x.doc < n)
      (λ x h. let d = doc_of n xs docs are x h in subst (λ m. m < n) d.2 (All-contains (λ (e : Document). e.number < n) docs d.0 are.below d.1)) xs
      (All-contains_itself xs);
  few = λ number.
      let part = kept n xs docs (λ m. eqb m number) are in
      let most = at_most number (filter (λ (d : Document). eqb d.number number) docs) part.ascend part.points
      (filter_passes (λ (d : Document). eqb d.number number) docs) in
      omega (
        arith,
        most,
        counted n (filter (λ (x : Item). eqb x.doc number) xs) (filter (λ (d : Document). eqb d.number number) docs) part,
        length-filter (λ (x : Item). eqb x.doc number) xs,
      );
  once = apart_moved (entries_in docs) xs (IsPermutation-sym xs (entries_in docs) are.same) (all_apart docs are.ascend are.points);
}
