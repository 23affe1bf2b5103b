-- How long the prefix is that keys share.
use Rattle.std.proofs.Common.{◌≡◌, ◌≢◌, ℕ, zero, suc, ◌<◌, ◌≤◌, Bool, true, ltb, eqb, List, [], ◌∷◌, get_or, sym, ap, ◌∙◌, arith}
use Rattle.std.specs.List.{range_with_len, list_any, All, Contains}
use Rattle.std.proofs.lemmas.Bool.{le-ltb, lt-ltb, eq-eqb, eqb-true}
use Rattle.std.proofs.lemmas.List.FromFn.{get_or-range_with_len}
use Rattle.std.proofs.lemmas.List.Sums.{position_or_len_is}
use Rattle.std.proofs.lemmas.List.Folds.{list_any_at, Any-from_list_any}
use Rattle.std.specs.Ordering.{ord_min, nat_cmp}
use Rattle.std.proofs.Common.{◌++◌, ◌⊎◌, inl, inr}
use Rattle.std.proofs.lemmas.Bool.Decides.{nat_tests}
use Rattle.std.proofs.lemmas.List.Elements.{All-push, All-weaker, Contains-append_left, Contains-push}
use Rattle.point_codec.specs.Points.{Item}
use Rattle.leaf_codec.specs.Dimensions.{key_of, key_byte, different, shared_prefix}
use Rattle.leaf_codec.proofs.Counts.{values_one, values_two}

-- a byte of a key is a byte
pub key_byte-lt : (d i : ℕ) (x : Item) → key_byte d i x < 256
unfolding key_of
key_byte-lt d zero x = omega arith
key_byte-lt d (suc zero) x = omega arith
key_byte-lt d (suc (suc zero)) x = omega arith
key_byte-lt d (suc (suc (suc zero))) x = omega arith
key_byte-lt d (suc (suc (suc (suc i)))) x = omega arith

-- one value at byte k
pub same_byte : (d k b : ℕ) (items : List Item) → All (λ (x : Item). key_byte d k x ≡ b) items → different d k items ≤ 1
same_byte d k b items h = values_one (λ v. list_any (λ (x : Item). eqb (key_byte d k x) v) items) b (λ v e.
    let a = Any-from_list_any (λ (x : Item). eqb (key_byte d k x) v) items e in
    sym (eqb-true _ _ a.4) ∙ ap (key_byte d k) (sym a.3) ∙ h a.0 a.1 a.2)

-- two values at byte k
pub two_bytes : (d k : ℕ) (items : List Item) (x y : Item) → Contains items x → Contains items y → key_byte d k x ≢ key_byte d k y → 2 ≤ different d k items
two_bytes d k items x y hx hy apart =
    values_two (λ v. list_any (λ (z : Item). eqb (key_byte d k z) v) items) (key_byte d k x) (key_byte d k y) (key_byte-lt d k x) (key_byte-lt d k y) apart
    (found x hx) (found y hy)
  where
    found : (u : Item) → Contains items u → list_any (λ (z : Item). eqb (key_byte d k z) (key_byte d k u)) items ≡ true
    found u h = list_any_at (λ (z : Item). eqb (key_byte d k z) (key_byte d k u)) items h.0 u h.1 (eq-eqb _ _ (ap (key_byte d k) h.2))

pub shared_is : (d p : ℕ) (items : List Item) → p ≤ 4 → ((k : ℕ) → k < p → different d k items ≤ 1) → (p < 4 → 2 ≤ different d p items)
    → shared_prefix d items ≡ p
unfolding shared_prefix
shared_is d p items short same differ =
    position_or_len_is (λ i. ltb 1 (different d i items)) (range_with_len 0 4) p 0 short
    (λ k lt. ap test (place k (omega arith)) ∙ le-ltb _ _ (same k lt))
    (λ lt. ap test (place p lt) ∙ lt-ltb _ _ (differ lt))
  where
    test : ℕ → Bool
    test j = ltb 1 (different d j items)

    place : (k : ℕ) → k < 4 → get_or (range_with_len 0 4) k 0 ≡ k
    place k lt = get_or-range_with_len 0 4 k 0 lt ∙ omega arith

-- ---- the loop over entries

-- the items so far share `shared` bytes with the first key, and one of them no more
pub record SharesSoFar (d : ℕ) (items : List Item) (first : List ℕ) (shared : ℕ) : Type 0 where
  pub short : shared ≤ 4
  pub same : All (λ (x : Item). (k : ℕ) → k < shared → key_byte d k x ≡ get_or first k 0) items
  pub differ : shared < 4 → (x : Item) × Contains items x × (key_byte d shared x ≢ get_or first shared 0)

pub shares_none : (d : ℕ) (first : List ℕ) → SharesSoFar d [] first 4
shares_none d first = record {
  short = omega arith;
  same = λ k x lt. absurd (omega arith);
  differ = λ lt. absurd (omega arith);
}

-- what the next item has in common with the first key
pub record HasInCommon (d : ℕ) (x : Item) (first : List ℕ) (n : ℕ) : Type 0 where
  pub short : n ≤ 4
  pub same : (k : ℕ) → k < n → get_or first k 0 ≡ key_byte d k x
  pub differ : n < 4 → get_or first n 0 ≢ key_byte d n x

pub shares_more : (d : ℕ) (items : List Item) (first : List ℕ) (shared n : ℕ) (y : Item) → SharesSoFar d items first shared → HasInCommon d y first n
    → SharesSoFar d (items ++ y ∷ []) first (ord_min nat_cmp shared n)
shares_more d items first shared n y s h = elim (least-is shared n) [
  | inl keeps ↦ rw keeps.0 (record {
    short = s.short;
    same = All-push (λ (x : Item). (k : ℕ) → k < shared → key_byte d k x ≡ get_or first k 0) items y s.same (λ k lt. sym (h.same k (omega (arith, keeps.1))));
    differ = λ lt. let w = s.differ lt in (w.0, Contains-append_left items (y ∷ []) w.0 w.1, w.2);
  })
  | inr takes ↦ rw takes.0 (record {
    short = h.short;
    same = All-push (λ (x : Item). (k : ℕ) → k < n → key_byte d k x ≡ get_or first k 0) items y
        (All-weaker (λ (x : Item). (k : ℕ) → k < shared → key_byte d k x ≡ get_or first k 0) (λ (x : Item). (k : ℕ) → k < n → key_byte d k x ≡ get_or first k 0)
        (λ x f k lt. f k (omega (arith, takes.1))) items s.same) (λ k lt. sym (h.same k lt));
    differ = λ lt. (y, Contains-push items y, λ e. h.differ lt (sym e));
  })
]
  where
    least-is : (a b : ℕ) → ((ord_min nat_cmp a b ≡ a) × (a ≤ b)) ⊎ ((ord_min nat_cmp a b ≡ b) × (b < a))
    least-is a b = grind (arith, nat_tests)

-- at the end: the first key is that of an item
pub shares_all : (d : ℕ) (items : List Item) (first : List ℕ) (shared : ℕ) (x : Item) → SharesSoFar d items first shared → Contains items x → first ≡ key_of d x
    → shared_prefix d items ≡ shared
shares_all d items first shared x s member is =
    shared_is d shared items s.short
    (λ k lt. same_byte d k (get_or first k 0) items
    (All-weaker (λ (y : Item). (j : ℕ) → j < shared → key_byte d j y ≡ get_or first j 0) (λ (y : Item). key_byte d k y ≡ get_or first k 0) (λ y f. f k lt) items
    s.same))
    (λ lt. let w = s.differ lt in two_bytes d shared items w.0 x w.1 member (λ e. w.2 (e ∙ sym (ap (λ (bs : List ℕ). get_or bs shared 0) is))))

-- where there are no keys, they share all four bytes
pub shared_none : (d : ℕ) → shared_prefix d [] ≡ 4
shared_none d =
    shared_is d 4 [] (omega arith) (λ k lt. same_byte d k 0 [] (λ j x none. absurd (omega arith))) (λ lt. absurd (omega arith))
