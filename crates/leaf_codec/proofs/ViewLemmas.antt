-- What a view says at a place, and its order.
use Rattle.std.proofs.Common.{◌≡◌, ◌<◌, ◌+◌, ℕ, zero, suc, List, [], ◌∷◌, length, get_or, refl, sym, ap, subst, ◌∙◌, arith, ℤ, pos, Option, Some}
use Rattle.std.specs.Prelude.{All, IsSomeAnd, slice_get}
use Rattle.std.specs.List.{AllByRecursion}
use Rattle.std.specs.List.Sorted.{IsStrictlySortedBy}
use Rattle.std.specs.Cmp.{IsTotalOrder}
use Rattle.std.specs.declared.cmp.Ordering.{Ordering}
use Rattle.std.specs.declared.cmp.Ordering.TheVariants.{Less}
use Rattle.point_codec.specs.Points.{Item}
use Rattle.leaf_codec.specs.declared.read_numbers.Numbers.{Numbers}
use Rattle.leaf_codec.specs.declared.read_parts.Parts.{Parts}
use Rattle.leaf_codec.specs.Ascending.{coordinate as coordinate_in}
use Rattle.leaf_codec.specs.LeafOrder.{leaf_cmp}
use Rattle.leaf_codec.specs.Words.{coordinate}
use Rattle.leaf_codec.specs.Raw.{RawNumbers, RawKeys, offset_at, key_at, point_at, raw_item, raw_items}
use Rattle.leaf_codec.specs.Views.{items_said, raw_numbers_of, raw_keys_of, AscendInside}
use Rattle.leaf_codec.proofs.OrderLemmas.{leaf_total}
use Rattle.point_codec.specs.Points.{Region, in_box}
use Rattle.std.proofs.Common.{true}
use Rattle.std.specs.Ordering.{is_lt}
use Rattle.std.specs.declared.cmp.Ordering.TheVariants.{Equal, Greater}
use Rattle.leaf_codec.proofs.ItemsDecoded.{raw_item_is, length-point_at}
use Rattle.leaf_codec.proofs.KeysLemmas.{length-raw_items, get_or-raw_items, get_or-point_at}

pub said_length : (D : ℕ) (n : Numbers) (p : Parts) (xs : List Item) → items_said D n p ≡ xs → length xs ≡ n.count
said_length D n p xs is = ap length (sym is) ∙ length-raw_items D n.count (raw_numbers_of n) (raw_keys_of p)

taken : {X : Type 0} (xs : List X) (i : ℕ) (d : X) → i < length xs → slice_get xs i ≡ Some (get_or xs i d)
taken [] i d lt = absurd (omega arith)
taken (x ∷ xs) zero d lt = refl
taken (x ∷ xs) (suc i) d lt = taken xs i d (omega arith)

some_and : {X : Type 0} (o : Option X) (x : X) (P : X → Type 0) → o ≡ Some x → P x → IsSomeAnd o P
some_and o x P is h = subst (λ (q : Option _). IsSomeAnd q P) (sym is) h

item_said : (D : ℕ) (n : Numbers) (p : Parts) (i : ℕ) (xs : List Item) → items_said D n p ≡ xs → i < length xs
    → slice_get xs i ≡ Some (record { doc = n.least + offset_at (raw_numbers_of n) i; at = point_at D (raw_keys_of p) i })
item_said D n p i xs is lt =
    let x : Item = record { doc = 0; at = [] } in
    taken xs i x lt ∙ ap Some (ap (λ (t : List Item). get_or t i x) (sym is)
    ∙ get_or-raw_items D n.count i (raw_numbers_of n) (raw_keys_of p) x (omega (arith, lt, said_length D n p xs is))
    ∙ raw_item_is D i (raw_numbers_of n) (raw_keys_of p))

pub said_doc : (D : ℕ) (n : Numbers) (p : Parts) (i : ℕ) (xs : List Item) (v : ℕ) → items_said D n p ≡ xs → i < length xs
    → v ≡ n.least + offset_at (raw_numbers_of n) i → IsSomeAnd (slice_get xs i) (λ x. v ≡ x.doc)
said_doc D n p i xs v is lt e = some_and (slice_get xs i) _ (λ (x : Item). v ≡ x.doc) (item_said D n p i xs is lt) e

pub said_point : (D : ℕ) (n : Numbers) (p : Parts) (i : ℕ) (xs : List Item) (v : List ℤ) → items_said D n p ≡ xs → i < length xs
    → v ≡ point_at D (raw_keys_of p) i → IsSomeAnd (slice_get xs i) (λ x. v ≡ x.at)
said_point D n p i xs v is lt e = some_and (slice_get xs i) _ (λ (x : Item). v ≡ x.at) (item_said D n p i xs is lt) e

pub said_coordinate : (D : ℕ) (n : Numbers) (p : Parts) (i d : ℕ) (xs : List Item) (v : ℤ) → items_said D n p ≡ xs → i < length xs → d < D
    → v ≡ coordinate (key_at D (raw_keys_of p) i d) → IsSomeAnd (slice_get xs i) (λ x. v ≡ coordinate_in d x)
said_coordinate D n p i d xs v is lt within e =
    some_and (slice_get xs i) _ (λ (x : Item). v ≡ coordinate_in d x) (item_said D n p i xs is lt)
    (e ∙ sym (get_or-point_at D i d (raw_keys_of p) (pos 0) within))

pub said_points : (D : ℕ) (n : Numbers) (p : Parts) (xs : List Item) → items_said D n p ≡ xs → All (λ x. length x.at ≡ D) xs
said_points D n p xs is =
    subst (All (λ (x : Item). length x.at ≡ D)) is
    (λ i x lt. ap (λ (y : Item). length y.at)
    (get_or-raw_items D n.count i (raw_numbers_of n) (raw_keys_of p) x (omega (arith, lt, said_length D n p (items_said D n p) refl))
    ∙ raw_item_is D i (raw_numbers_of n) (raw_keys_of p))
    ∙ length-point_at D i (raw_keys_of p))

-- ---- strict order, from each to the next

module _ {K : Type 0} (cmp : K → K → Ordering) (total : IsTotalOrder cmp) where
  behind : (x y : K) (ys : List K) → cmp x y ≡ Less → AllByRecursion (λ z. cmp y z ≡ Less) ys → AllByRecursion (λ z. cmp x z ≡ Less) ys
  behind x y [] less h = tt
  behind x y (z ∷ ys) less h = (total.trans x y z less h.0, behind x y ys less h.1)

  pub ascending_from : (xs : List K) → ((k : ℕ) (d : K) → k + 1 < length xs → cmp (get_or xs k d) (get_or xs (k + 1) d) ≡ Less) → IsStrictlySortedBy cmp xs
  unfolding IsStrictlySortedBy
  ascending_from [] h = tt
  ascending_from (x ∷ []) h = (tt, tt)
  ascending_from (x ∷ y ∷ ys) h =
      let rest = ascending_from (y ∷ ys)
      (λ k d lt.
      let next : suc k + 1 ≡ suc (k + 1) = omega arith in
      subst (λ (m : ℕ). cmp (get_or (y ∷ ys) k d) (get_or (x ∷ y ∷ ys) m d) ≡ Less) next (h (suc k) d (omega arith))) in
      let less : cmp x y ≡ Less = h 0 x (omega arith) in
      ((less, behind x y ys less rest.0), rest)

  pub ascending_at : (xs : List K) (k : ℕ) (d : K) → IsStrictlySortedBy cmp xs → k + 1 < length xs → cmp (get_or xs k d) (get_or xs (k + 1) d) ≡ Less
  unfolding IsStrictlySortedBy
  ascending_at [] k d h lt = absurd (omega arith)
  ascending_at (x ∷ []) k d h lt = absurd (omega arith)
  ascending_at (x ∷ y ∷ ys) zero d h lt = h.0.0
  ascending_at (x ∷ y ∷ ys) (suc k) d h lt =
      let next : suc (k + 1) ≡ suc k + 1 = omega arith in
      subst (λ (m : ℕ). cmp (get_or (y ∷ ys) k d) (get_or (x ∷ y ∷ ys) m d) ≡ Less) next (ascending_at (y ∷ ys) k d h.1 (omega arith))

pub less_of : (o : Ordering) → is_lt o ≡ true → o ≡ Less
less_of Less e = refl
less_of Equal e = absurd cc
less_of Greater e = absurd cc

none : Item
none = record { doc = 0; at = [] }

pub inside_at : (D n k d : ℕ) (numbers : RawNumbers) (r : RawKeys) (cell : Region) → AscendInside d cell (raw_items D n numbers r) → k < n
    → in_box cell (raw_item D numbers r k).at ≡ true
inside_at D n k d numbers r cell h lt =
    ap (λ (x : Item). in_box cell x.at) (sym (get_or-raw_items D n k numbers r none lt)) ∙ h.inside k none (omega (arith, lt, length-raw_items D n numbers r))

pub up_at : (D n k d : ℕ) (numbers : RawNumbers) (r : RawKeys) (cell : Region) → AscendInside d cell (raw_items D n numbers r) → k + 1 < n
    → leaf_cmp d (raw_item D numbers r k) (raw_item D numbers r (k + 1)) ≡ Less
up_at D n k d numbers r cell h lt =
    (λ j. leaf_cmp d (sym (get_or-raw_items D n k numbers r none (omega arith)) j) (sym (get_or-raw_items D n (k + 1) numbers r none lt) j))
    ∙ ascending_at (leaf_cmp d) (leaf_total d) (raw_items D n numbers r) k none h.ascending (omega (arith, lt, length-raw_items D n numbers r))

pub ascends : (D n d : ℕ) (numbers : RawNumbers) (r : RawKeys) (cell : Region) → ((k : ℕ) → k < n → in_box cell (raw_item D numbers r k).at ≡ true)
    → ((k : ℕ) → k + 1 < n → leaf_cmp d (raw_item D numbers r k) (raw_item D numbers r (k + 1)) ≡ Less)
    → AscendInside d cell (raw_items D n numbers r)
ascends D n d numbers r cell inside up = record {
  ascending = ascending_from (leaf_cmp d) (leaf_total d) (raw_items D n numbers r) (λ k x lt.
      let under : k + 1 < n = omega (arith, lt, length-raw_items D n numbers r) in
      (λ j. leaf_cmp d (get_or-raw_items D n k numbers r x (omega arith) j) (get_or-raw_items D n (k + 1) numbers r x under j)) ∙ up k under);
  inside = λ k x lt.
      let under : k < n = omega (arith, lt, length-raw_items D n numbers r) in
      ap (λ (y : Item). in_box cell y.at) (get_or-raw_items D n k numbers r x under) ∙ inside k under;
}
