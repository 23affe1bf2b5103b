-- What is counted over live entries is what is told of the documents whose entries they are.
use Rattle.std.proofs.Common.{◌≡◌, ℕ, ◌+◌, cond, List, [], ◌∷◌, ◌++◌, map, refl, sym, ap, subst, ◌∙◌, append-nil, ℤ}
use Rattle.std.specs.List.{count_by}
use Rattle.std.specs.List.Sorted.{IsPermutation}
use Rattle.std.proofs.lemmas.List.Elements.{All-weaker}
use Rattle.std.proofs.lemmas.List.Sorted.{Contains-permutation, IsPermutation-sym, sum_by-IsPermutation}
use Rattle.std.proofs.lemmas.List.Sums.{sum_by-append, sum_by-cons}
use Rattle.point_codec.specs.Points.{Item, Region, in_box}
use Rattle.documents.specs.Documents.{Document}
use Rattle.documents.specs.Entries.{AreDocs, entries_in, entries_of, entry_of}
use Rattle.point_counts.specs.Grids.{IsGrid, Plan, is_in_bucket, number_in, number_of}
use Rattle.point_counts.specs.declared.plan.Bucket.{Bucket}
use Rattle.count_queries.specs.Counted.{points_in}

abbrev one_in : Region → List ℤ → ℕ
one_in bounds at = cond (in_box bounds at) 1 0

number_points : (bounds : Region) (n : ℕ) (ps : List (List ℤ)) → number_in bounds (map (entry_of n) ps) ≡ count_by (in_box bounds) ps
number_points bounds n [] = refl
number_points bounds n (p ∷ ps) =
    sum_by-cons (λ (e : Item). one_in bounds e.at) (entry_of n p) (map (entry_of n) ps)
    ∙ ap (λ m. one_in bounds p + m) (number_points bounds n ps)
    ∙ sym (sum_by-cons (one_in bounds) p ps)

number_docs : (bounds : Region) (docs : List Document) → number_in bounds (entries_in docs) ≡ points_in bounds docs
number_docs bounds [] = refl
number_docs bounds (d ∷ ds) =
    sum_by-append (λ (e : Item). one_in bounds e.at) (entries_of d) (entries_in ds)
    ∙ (λ i. number_points bounds d.number d.points i + number_docs bounds ds i)
    ∙ sym (sum_by-cons (λ (e : Document). count_by (in_box bounds) e.points) d ds)

pub points_counted : (bounds : Region) (n : ℕ) (xs none : List Item) (docs : List Document) → AreDocs n xs docs → none ≡ []
    → number_in bounds (xs ++ none) ≡ points_in bounds docs
points_counted bounds n xs none docs are empty =
    ap (λ (ys : List Item). number_in bounds (xs ++ ys)) empty
    ∙ ap (number_in bounds) (append-nil xs)
    ∙ sym (sum_by-IsPermutation (λ (e : Item). one_in bounds e.at) xs (entries_in docs) are.same)
    ∙ number_docs bounds docs

grid_permuted : (plan : Plan) (xs ys : List Item) (buckets : List Bucket) → IsPermutation xs ys → IsGrid plan xs buckets → IsGrid plan ys buckets
grid_permuted plan xs ys buckets moved g = record {
  rises = g.rises;
  filled = g.filled;
  counted = All-weaker (λ (b : Bucket). b.n ≡ number_of plan b.x b.y xs) (λ (b : Bucket). b.n ≡ number_of plan b.x b.y ys)
      (λ b is. is ∙ sym (sum_by-IsPermutation (λ (e : Item). cond (is_in_bucket plan b.x b.y e.at) 1 0) xs ys moved)) buckets g.counted;
  each = λ e there. g.each e (Contains-permutation ys xs e (IsPermutation-sym xs ys moved) there);
}

pub grid_counted : (plan : Plan) (n : ℕ) (xs none : List Item) (docs : List Document) (buckets : List Bucket) → AreDocs n xs docs → none ≡ []
    → IsGrid plan (xs ++ none) buckets → IsGrid plan (entries_in docs) buckets
grid_counted plan n xs none docs buckets are empty g =
    grid_permuted plan xs (entries_in docs) buckets are.same
    (subst (λ (ys : List Item). IsGrid plan ys buckets) (ap (λ (ys : List Item). xs ++ ys) empty ∙ append-nil xs) g)
