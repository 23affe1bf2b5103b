-- Entries whose numbers ascend stand once each.
use Rattle.std.proofs.Common.{◌≡◌, ℕ, ◌+◌, ◌^◌, ◌<◌, ◌≤◌, Bool, List, [], ◌∷◌, ◌++◌, length, cond, refl, sym, ap, subst, arith, inl, inr}
use Rattle.std.specs.List.{All, count_by}
use Rattle.std.proofs.lemmas.Bool.{cases_Bool}
use Rattle.std.proofs.lemmas.List.{map-append, length-append}
use Rattle.std.proofs.lemmas.List.Elements.{All-nil, All-cons, All-head, All-tail, All-weaker, All-append, All-map}
use Rattle.std.proofs.lemmas.List.Sums.{sum_by-append}
use Rattle.point_codec.specs.Points.{Item}
use Rattle.point_codec.specs.Seen.{items_of}
use Rattle.point_codec.specs.declared.entries.Entry.{Entry}
use Rattle.leaf_codec.specs.LeafOrder.{same_item, NoneTwice}
use Rattle.leaf_codec.proofs.OrderLemmas.{count-cons}
use Rattle.bkd_build.specs.Pieces.{AreEntries}
use Rattle.bkd_build.proofs.Ascending.{one_item}

-- so many entries, with numbers below n, none of them twice
pub record AreNumbered {D : ℕ} (n : ℕ) (entries : List (Entry D)) : Type 0 where
  pub number : length entries ≡ n
  pub below : All (λ e. e.doc < n) entries
  pub once : NoneTwice (items_of entries)

abbrev one_if : Bool → ℕ
one_if b = cond b 1 0

-- an item with a number that none of the others has is not among them
new : (x : Item) (items : List Item) → All (λ (y : Item). y.doc < x.doc) items → count_by (same_item x) items ≡ 0
new x [] h = refl
new x (y ∷ items) h = elim (cases_Bool (same_item x y)) [
  | inl same ↦ absurd (omega (arith, All-head (λ (z : Item). z.doc < x.doc) y items h, ap (λ (z : Item). z.doc) (one_item x y same)))
  | inr apart ↦ omega (arith, count-cons (same_item x) y items, ap one_if apart, new x items (All-tail (λ (z : Item). z.doc < x.doc) y items h))
]

once_push : (items : List Item) (x : Item) → All (λ (y : Item). y.doc < x.doc) items → NoneTwice items → NoneTwice (items ++ x ∷ [])
unfolding NoneTwice
once_push items x h once z = elim (cases_Bool (same_item z x)) [
  | inl same ↦
      let none : count_by (same_item z) items ≡ 0 = subst (λ (y : Item). count_by (same_item y) items ≡ 0) (sym (one_item z x same)) (new x items h) in
      omega (arith, sum_by-append (λ (y : Item). one_if (same_item z y)) items (x ∷ []), count-cons (same_item z) x [], ap one_if same, none)
  | inr apart ↦ omega (arith, sum_by-append (λ (y : Item). one_if (same_item z y)) items (x ∷ []), count-cons (same_item z) x [], ap one_if apart, once z)
]

nothing_twice : NoneTwice []
unfolding NoneTwice
nothing_twice x = omega arith

pub none_numbered : {D : ℕ} (es : List (Entry D)) → es ≡ [] → AreNumbered 0 es
none_numbered {D} es is =
    subst (λ (xs : List (Entry D)). AreNumbered 0 xs) (sym is) (record { number = refl; below = All-nil (λ (e : Entry D). e.doc < 0); once = nothing_twice })

pub numbered_push : {D : ℕ} (n : ℕ) (es fs : List (Entry D)) (e : Entry D) → AreNumbered n es → e.doc ≡ n → fs ≡ es ++ e ∷ [] → AreNumbered (n + 1) fs
numbered_push {D} n es fs e h is made = subst (λ (xs : List (Entry D)). AreNumbered (n + 1) xs) (sym made) (record {
  number = omega (arith, length-append es (e ∷ []), h.number);
  below = All-append (λ (x : Entry D). x.doc < n + 1) es (e ∷ [])
      (All-weaker (λ (x : Entry D). x.doc < n) (λ (x : Entry D). x.doc < n + 1) (λ x lt. omega arith) es h.below)
      (All-cons (λ (x : Entry D). x.doc < n + 1) e [] (omega (arith, is)) (All-nil (λ (x : Entry D). x.doc < n + 1)));
  once = subst NoneTwice (sym (map-append (λ (x : Entry D). record { doc = x.doc; at = x.point.c }) es (e ∷ [])))
      (once_push (items_of es) (record { doc = e.doc; at = e.point.c })
      (All-map (λ (y : Item). y.doc < e.doc) (λ (x : Entry D). record { doc = x.doc; at = x.point.c }) es
      (All-weaker (λ (x : Entry D). x.doc < n) (λ (x : Entry D). x.doc < e.doc) (λ x lt. omega (arith, is)) es h.below)) h.once);
})

pub numbered_entries : {D : ℕ} (n : ℕ) (es : List (Entry D)) → 1 ≤ n → n ≤ 2 ^ 24 → AreNumbered n es → AreEntries es
numbered_entries {D} n es some few h = record {
  some = omega (arith, h.number);
  numbers = All-weaker (λ (x : Entry D). x.doc < n) (λ (x : Entry D). x.doc < 2 ^ 24) (λ x lt. omega arith) es h.below;
  once = h.once;
}
