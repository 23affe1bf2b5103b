-- A leaf's coordinates in the dimension by which it is sorted, and what a value parts.
use Rattle.std.proofs.Common.{◌≡◌, ◌<◌, ◌≤◌, ◌+◌, ℕ, zero, suc, true, false, List, [], ◌∷◌, length, map}
use Rattle.std.proofs.Common.{get_or, take, drop, refl, sym, ap, subst, ◌∙◌, arith, ℤ, pos, int_lt, int_le, Bool}
use Rattle.std.specs.Prelude.{All, IsSomeAnd, slice_get, FitsSigned}
use Rattle.std.specs.Int.{w32}
use mir.Val.{to_z, of_z}
use Rattle.std.specs.List.Sorted.{IsStrictlySortedBy}
use Rattle.std.specs.Ordering.{ord_min, nat_cmp}
use Rattle.std.specs.declared.cmp.Ordering.TheVariants.{Less}
use Rattle.std.proofs.lemmas.Bool.Decides.{nat_tests}
use Rattle.std.proofs.lemmas.Int.{ints, to_z-of_z}
use Rattle.std.proofs.lemmas.List.{get_or-map, get_or-take, get_or-drop, length-take-le, length-drop}
use Rattle.std.proofs.lemmas.List.Elements.{All-from_recursion}
use Rattle.point_codec.specs.Points.{Item}
use Rattle.leaf_codec.specs.Ascending.{AscendIn, coordinate}
use Rattle.leaf_codec.specs.LeafOrder.{leaf_cmp}
use Rattle.leaf_codec.specs.Words.{coordinate as coordinate_of_key}
use Rattle.leaf_codec.specs.Raw.{RawNumbers, RawKeys, AreRawKeys, key_at, raw_items}
use Rattle.leaf_codec.proofs.Bytes.{coordinate-fits}
use Rattle.leaf_codec.proofs.ItemsDecoded.{raw_item_is}
use Rattle.leaf_codec.proofs.KeysLemmas.{get_or-raw_items, length-raw_items, get_or-point_at}
use Rattle.leaf_codec.proofs.OrderedKeys.{not_greater}
use Rattle.leaf_codec.proofs.ReadKeys.{length-key_at, AreBytes-key_at}

-- what comes before has no greater coordinate
not_above : (d : ℕ) (x y : Item) → leaf_cmp d x y ≡ Less → int_le (coordinate d x) (coordinate d y) ≡ true
not_above d x y less =
    elim (int_le (coordinate d x) (coordinate d y)) as (λ b. int_le (coordinate d x) (coordinate d y) ≡ b → b ≡ true) [
      | true ↦ λ _. refl
      | false ↦ λ no. absurd (not_greater d x y (grind (arith, ints)) less)
    ] refl

same_le : (z : ℤ) → int_le z z ≡ true
same_le z = grind (arith, ints)

pub ascend_in : (d : ℕ) (items : List Item) → IsStrictlySortedBy (leaf_cmp d) items → AscendIn d items
unfolding IsStrictlySortedBy
ascend_in d [] h i j le lt = absurd (omega arith)
ascend_in d (x ∷ items) h zero zero le lt = same_le (coordinate d x)
ascend_in d (x ∷ items) h zero (suc j) le lt =
    let under : j < length items = omega arith in
    ap (λ z. int_le (coordinate d x) z) (get_or-map (coordinate d) items j x (pos 0) under)
    ∙ not_above d x (get_or items j x) (All-from_recursion (λ (y : Item). leaf_cmp d x y ≡ Less) items h.0 j x under)
ascend_in d (x ∷ items) h (suc i) zero le lt = absurd (omega arith)
ascend_in d (x ∷ items) h (suc i) (suc j) le lt = ascend_in d items h.1 i j (omega arith) (omega arith)

-- the coordinate of entry i in dimension d
abbrev pub coordinate_of : ℕ → List Item → ℕ → ℤ
coordinate_of d items i = get_or (map (coordinate d) items) i (pos 0)

taken : (P : Item → Type 0) (items : List Item) (i : ℕ) (d : Item) → i < length items → IsSomeAnd (slice_get items i) P → P (get_or items i d)
taken P [] i d lt h = absurd (omega arith)
taken P (x ∷ items) zero d lt h = h
taken P (x ∷ items) (suc i) d lt h = taken P items i d (omega arith) h

none : Item
none = record { doc = 0; at = [] }

pub coordinate_said : (d i : ℕ) (items : List Item) (v : ℤ) → i < length items → IsSomeAnd (slice_get items i) (λ x. v ≡ coordinate d x)
    → v ≡ coordinate_of d items i
coordinate_said d i items v lt h =
    taken (λ x. v ≡ coordinate d x) items i none lt h ∙ sym (get_or-map (coordinate d) items i none (pos 0) lt)

-- what the comparison of two values in memory says
pub test_at : (v x c : ℤ) (b : Bool) → FitsSigned w32 v → FitsSigned w32 x → v ≡ c → int_lt (to_z w32 (of_z w32 v)) (to_z w32 (of_z w32 x)) ≡ b → int_lt c x ≡ b
test_at v x c b v_fits x_fits is h = ap (λ z. int_lt z x) (sym is) ∙ (λ j. int_lt (sym (to_z-of_z w32 v v_fits) j) (sym (to_z-of_z w32 x x_fits) j)) ∙ h

through : (a b x : ℤ) → int_le a b ≡ true → int_lt b x ≡ true → int_lt a x ≡ true
through a b x h k = grind (arith, ints)

from_not : (a b x : ℤ) → int_lt a x ≡ false → int_le a b ≡ true → int_le x b ≡ true
from_not a b x h k = grind (arith, ints)

-- up to an entry below the value all are below, and from one that isn't on none is
pub below_up_to : (d i k : ℕ) (items : List Item) (x : ℤ) → AscendIn d items → i < length items → k ≤ i → int_lt (coordinate_of d items i) x ≡ true
    → int_lt (coordinate_of d items k) x ≡ true
below_up_to d i k items x up lt le h = through (coordinate_of d items k) (coordinate_of d items i) x (up k i le lt) h

pub above_from : (d i k : ℕ) (items : List Item) (x : ℤ) → AscendIn d items → i ≤ k → k < length items → int_lt (coordinate_of d items i) x ≡ false
    → int_le x (coordinate_of d items k) ≡ true
above_from d i k items x up le lt h = from_not (coordinate_of d items i) (coordinate_of d items k) x h (up i k le lt)

pub all_below : (d n : ℕ) (items : List Item) (x : ℤ) → n ≤ length items → ((k : ℕ) → k < n → int_lt (coordinate_of d items k) x ≡ true)
    → All (λ y. int_lt (coordinate d y) x ≡ true) (take n items)
all_below d n items x le h k e lt =
    let under : k < n = omega (arith, lt, length-take-le n items le) in
    ap (λ (y : Item). int_lt (coordinate d y) x) (get_or-take n items k e under)
    ∙ ap (λ z. int_lt z x) (sym (get_or-map (coordinate d) items k e (pos 0) (omega arith))) ∙ h k under

pub all_above : (d n : ℕ) (items : List Item) (x : ℤ) → n ≤ length items → ((k : ℕ) → n ≤ k → k < length items → int_le x (coordinate_of d items k) ≡ true)
    → All (λ y. int_le x (coordinate d y) ≡ true) (drop n items)
all_above d n items x le h k e lt =
    let under : n + k < length items = omega (arith, lt, length-drop n items) in
    ap (λ (y : Item). int_le x (coordinate d y)) (get_or-drop n items k e)
    ∙ ap (λ z. int_le x z) (sym (get_or-map (coordinate d) items (n + k) e (pos 0) under)) ∙ h (n + k) (omega arith) under

-- each coordinate is one of 32 bits
pub all_fit : (D n d : ℕ) (numbers : RawNumbers) (r : RawKeys) (items : List Item) → AreRawKeys D n r → d < D → raw_items D n numbers r ≡ items
    → All (λ y. FitsSigned w32 (coordinate d y)) items
all_fit D n d numbers r items h lt is k e under =
    let long : length items ≡ n = ap length (sym is) ∙ length-raw_items D n numbers r in
    let here : k < n = omega (arith, under, long) in
    let same : coordinate d (get_or items k e) ≡ coordinate_of_key (key_at D r k d) =
    ap (coordinate d) (ap (λ (t : List Item). get_or t k e) (sym is) ∙ get_or-raw_items D n k numbers r e here ∙ raw_item_is D k numbers r)
    ∙ get_or-point_at D k d r (pos 0) lt in
    subst (FitsSigned w32) (sym same) (coordinate-fits (key_at D r k d) (length-key_at D n r k d h here lt) (AreBytes-key_at D n r k d h here))

-- the lesser of two numbers
pub min_within : (a b : ℕ) → ord_min nat_cmp a b ≤ b
min_within a b = grind (arith, nat_tests)
