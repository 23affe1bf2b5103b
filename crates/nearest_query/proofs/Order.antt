-- The order by distance and number.
use Rattle.std.proofs.Common.{◌≡◌, ℕ, ◌≤◌, ◌<◌, false, List, get_or, arith}
use Rattle.std.proofs.lemmas.Bool.Decides.{nat_tests}
use Rattle.std.proofs.lemmas.Map.Keys.{Less-from_sorted}
use Rattle.std.proofs.lemmas.Map.Lookups.{exact_unsigned, exact_pairs}
use Rattle.std.specs.List.{AllPairs}
use Rattle.std.specs.List.Sorted.{IsStrictlySortedBy}
use Rattle.std.specs.declared.cmp.Ordering.TheVariants.{Less, Equal}
use Rattle.std.specs.Ordering.{nat_cmp, ordering_then, is_lt}
use Rattle.std.specs.Cmp.{IsTotalOrder, nat_cmp_total, on_total, then_total}
use Rattle.point_codec.specs.declared.entries.Near.{Near}
use Rattle.documents.specs.NearestEntries.{ComesBefore}
use Rattle.nearest_query.specs.Best.{near_cmp}

pub near_total : IsTotalOrder near_cmp
near_total = then_total (on_total (λ n. n.dist2) nat_cmp_total) (on_total (λ n. n.doc) nat_cmp_total)

pub near_exact : (a b : Near) → near_cmp a b ≡ Equal → a ≡ b
near_exact a b h =
    let same : (a.dist2, a.doc) ≡ (b.dist2, b.doc) = exact_pairs nat_cmp nat_cmp exact_unsigned exact_unsigned (a.dist2, a.doc) (b.dist2, b.doc) h in
    λ i. record { dist2 = (same i).0; doc = (same i).1 }

less_parts : (m n p q : ℕ) → ordering_then (nat_cmp m n) (nat_cmp p q) ≡ Less → (m ≤ n) × (n ≤ m → p < q)
less_parts m n p q h = (grind (arith, nat_tests), λ k. grind (arith, nat_tests))

parts_less : (m n p q : ℕ) → m ≤ n → (n ≤ m → p < q) → ordering_then (nat_cmp m n) (nat_cmp p q) ≡ Less
parts_less m n p q h k = grind (arith, nat_tests)

parts_order : (m n p q : ℕ) → is_lt (ordering_then (nat_cmp m n) (nat_cmp p q)) ≡ false → (n ≤ m) × (m ≤ n → q ≤ p)
parts_order m n p q h = (grind (arith, nat_tests), λ k. grind (arith, nat_tests))

pub before_from_less : (a b : Near) → near_cmp a b ≡ Less → ComesBefore a b
before_from_less a b h = let parts = less_parts a.dist2 b.dist2 a.doc b.doc h in record { near = parts.0; tie = parts.1 }

pub less_from_before : (a b : Near) → ComesBefore a b → near_cmp a b ≡ Less
less_from_before a b h = parts_less a.dist2 b.dist2 a.doc b.doc h.near h.tie

-- what doesn't come before is at least as far
pub behind : (a b : Near) → is_lt (near_cmp a b) ≡ false → (b.dist2 ≤ a.dist2) × (a.dist2 ≤ b.dist2 → b.doc ≤ a.doc)
behind a b h = parts_order a.dist2 b.dist2 a.doc b.doc h

pub same_near : (a b : Near) → a.dist2 ≡ b.dist2 → a.doc ≡ b.doc → a ≡ b
same_near a b e f = λ i. record { dist2 = e i; doc = f i }

pub before_trans : (a b c : Near) → ComesBefore a b → ComesBefore b c → ComesBefore a c
before_trans a b c h k = record {
  near = omega (arith, h.near, k.near);
  tie = λ t.
      let s : b.dist2 ≤ a.dist2 = omega (arith, h.near, k.near) in
      let u : c.dist2 ≤ b.dist2 = omega (arith, h.near, k.near) in
      let p = h.tie s in
      let q = k.tie u in omega arith;
}

pub before_itself : (a : Near) → ComesBefore a a → (a.doc < a.doc)
before_itself a h = let s : a.dist2 ≤ a.dist2 = omega arith in h.tie s

pub pairs_from_sorted : (ks : List Near) → IsStrictlySortedBy near_cmp ks → AllPairs ComesBefore ks
pairs_from_sorted ks up = λ i j d h k. before_from_less (get_or ks i d) (get_or ks j d) (Less-from_sorted near_cmp ks i j d up h k)
