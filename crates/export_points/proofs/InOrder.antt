-- Entries in order of number and coordinates are those of the documents, one after the other.
use Rattle.std.proofs.Common.{◌≡◌, ◌≢◌, ℕ, ◌<◌, ◌∙◌, List, [], ◌∷◌, false, get_or, refl, sym, ap, arith, ℤ, Ordering, Less, Equal, Greater}
use Rattle.std.specs.List.{All, AllPairs, Contains}
use Rattle.std.specs.List.Sorted.{IsPermutation, IsSorted}
use Rattle.std.specs.Ordering.{int_cmp, is_lt, ordering_reverse, ordering_then}
use Rattle.std.specs.Cmp.{nat_cmp_is}
use Rattle.std.specs.Cmp.Lexicographic.{slice_cmp}
use Rattle.std.proofs.lemmas.Bool.{true≢false}
use Rattle.std.proofs.lemmas.Cmp.{nat_cmp_total, tied_itself}
use Rattle.std.proofs.lemmas.List.Elements.{All-head, All-tail}
use Rattle.std.proofs.lemmas.List.Sorted.{Contains-permutation, IsPermutation-sym, ranks_by, sorted_far}
use Rattle.std.proofs.lemmas.Map.Keys.{Less-from_sorted}
use Rattle.point_codec.specs.Points.{Item, ArePoints}
use Rattle.documents.specs.Documents.{Ascend, Document}
use Rattle.documents.specs.Entries.{AreDocs, entries_in, entries_of, entry_of}
use Rattle.documents.proofs.Lists.{of_map, pairs_append, pairs_head, pairs_map, pairs_none, pairs_tail, same_members}
use Rattle.documents.proofs.Making.{apart_moved, docs_make}
use Rattle.documents.proofs.Members.{of_entry}
use Rattle.documents.proofs.Totals.{item_cmp, item_exact, item_total}

abbrev Before : Item → Item → Type 0
Before x y = item_cmp x y ≡ Less

never : (x : Item) → Before x x → ⊥
never x h = let tied = tied_itself item_total x in cc

strictly : (x y : Item) → is_lt (item_cmp y x) ≡ false → x ≢ y → Before x y
strictly x y behind apart = by (item_cmp x y) refl
  where
    by : (o : Ordering) → item_cmp x y ≡ o → item_cmp x y ≡ Less
    by Less e = e
    by Equal e = absurd (apart (item_exact x y e))
    by Greater e = absurd (true≢false (sym (ap is_lt (item_total.antisymm y x ∙ ap ordering_reverse e)) ∙ behind))

sorted_pairs : (ys : List Item) → IsSorted item_cmp ys → AllPairs (λ (x y : Item). x ≢ y) ys → AllPairs Before ys
sorted_pairs ys up apart i j d lt long =
    strictly (get_or ys i d) (get_or ys j d)
    (sorted_far (λ (x y : Item). is_lt (item_cmp x y)) (ranks_by item_total (λ (z : Item). z)) ys up i j d (omega arith) long) (apart i j d lt long)

-- of one document
same_number : (n : ℕ) (p q : List ℤ) → slice_cmp int_cmp p q ≡ Less → Before (entry_of n p) (entry_of n q)
same_number n p q h = ap (λ (o : Ordering). ordering_then o (slice_cmp int_cmp p q)) (tied_itself nat_cmp_total n) ∙ h

points_pairs : (d : Document) → ArePoints d.points → AllPairs Before (entries_of d)
points_pairs d are =
    pairs_map Before (entry_of d.number) d.points
    (λ i j e lt long.
    same_number d.number (get_or d.points i e) (get_or d.points j e) (Less-from_sorted (slice_cmp int_cmp) d.points i j e are.ascending lt long))

-- of two
lesser_number : (x y : Item) → x.doc < y.doc → Before x y
lesser_number x y lt = ap (λ (o : Ordering). ordering_then o (slice_cmp int_cmp x.at y.at)) (sym (nat_cmp_is x.doc y.doc Less lt))

entries_pairs : (docs : List Document) → Ascend docs → All (λ (d : Document). ArePoints d.points) docs → AllPairs Before (entries_in docs)
entries_pairs [] up are = pairs_none Before
entries_pairs (d ∷ ds) up are =
    pairs_append Before (entries_of d) (entries_in ds) (points_pairs d (All-head (λ (e : Document). ArePoints e.points) d ds are))
    (entries_pairs ds (pairs_tail (λ (a b : Document). a.number < b.number) d ds up) (All-tail (λ (e : Document). ArePoints e.points) d ds are))
    apart
  where
    apart : (x y : Item) → Contains (entries_of d) x → Contains (entries_in ds) y → Before x y
    apart x y h k =
        let p = of_map (entry_of d.number) d.points x h in
        let e = of_entry ds y k in
        let less = pairs_head (λ (a b : Document). a.number < b.number) d ds up e.0 e.1 in
        let here = ap (λ (z : Item). z.doc) p.2 in
        lesser_number x y (omega (arith, less, here, e.2))

pub in_order : (n : ℕ) (xs ys : List Item) (docs : List Document) → AreDocs n xs docs → IsPermutation xs ys → IsSorted item_cmp ys → ys ≡ entries_in docs
in_order n xs ys docs are moved up =
    same_members Before never item_total.trans ys (entries_in docs)
    (sorted_pairs ys up (apart_moved xs ys moved (docs_make n xs docs are).once))
    (entries_pairs docs are.ascend are.points)
    (λ x h. Contains-permutation xs (entries_in docs) x are.same (Contains-permutation ys xs x (IsPermutation-sym xs ys moved) h))
    (λ x h. Contains-permutation xs ys x moved (Contains-permutation (entries_in docs) xs x (IsPermutation-sym xs (entries_in docs) are.same) h))
