-- Found documents in order of distance and number.
use Rattle.std.proofs.Common.{◌≡◌, ℕ, Bool, ◌&&◌, ◌==◌, List, take, sym, ap, ◌∙◌}
use Rattle.std.proofs.lemmas.List.{take-map}
use Rattle.std.specs.List.{dedup}
use Rattle.std.specs.List.Sorted.{IsPermutation, IsSorted}
use Rattle.std.specs.Ordering.{nat_cmp, eq_by_cmp}
use Rattle.std.specs.Cmp.{IsTotalOrder, nat_cmp_total, on_total, then_total, unsigned_ties, both_tied}
use Rattle.std.specs.FinSet.{IsAntisymmetric}
use Rattle.std.proofs.lemmas.Map.Lookups.{exact_pairs, exact_unsigned}
use Rattle.point_codec.proofs.Ordered.{sorted_and_dedup}
use Rattle.point_codec.specs.Order.{in_order}
use Rattle.point_codec.specs.declared.entries.Near.{Near}
use Rattle.documents.specs.Nearest.{nearer, found_of}

pub nearer_total : IsTotalOrder nearer
nearer_total = then_total (on_total (λ p. p.0) nat_cmp_total) (on_total (λ p. p.1) nat_cmp_total)

pub nearer_exact : IsAntisymmetric nearer
nearer_exact a b h = exact_pairs nat_cmp nat_cmp exact_unsigned exact_unsigned a b h

abbrev pair_of : Near → ℕ × ℕ
pair_of n = (n.dist2, n.doc)

abbrev same_near : Near → Near → Bool
same_near m n = (m.dist2 == n.dist2) && (m.doc == n.doc)

same_ties : (m n : Near) → same_near m n ≡ eq_by_cmp nearer (pair_of m) (pair_of n)
same_ties m n = both_tied _ _ _ _ (unsigned_ties m.dist2 n.dist2) (unsigned_ties m.doc n.doc)

-- sorted, rid of repetitions and cut, they are the first in order
pub ranked : (k : ℕ) (xs ys : List Near) → IsPermutation xs ys → IsSorted (λ m n. nearer (pair_of m) (pair_of n)) ys
    → found_of (take k (dedup same_near ys)) ≡ take k (in_order nearer (found_of xs))
ranked k xs ys moved sorted =
    sym (take-map pair_of k (dedup same_near ys))
    ∙ ap (take k) (sorted_and_dedup pair_of nearer nearer_total nearer_exact same_near same_ties xs ys moved sorted).1
