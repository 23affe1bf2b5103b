-- The parts of the spelling, from what the writer knows of the dimensions.
use Rattle.std.proofs.Common.{◌≡◌, ℕ, ◌+◌, ◌-◌, ◌<◌, ◌≤◌, Bool, true, false, eqb, ltb, List, [], ◌∷◌, map, length, get_or, take, drop}
use Rattle.std.proofs.Common.{cond, refl, sym, ap, ◌∙◌, arith, inl, inr, Option, Some, None, unwrap_or, ltb-true, take_all, length-drop}
use Rattle.std.proofs.Common.{not}
use Rattle.std.specs.Int.{from_bool}
use Rattle.std.specs.List.{flat_map, range_with_len}
use Rattle.std.proofs.lemmas.Bool.{cases_Bool, eqb-true, ne_eqb, cond-true, cond-false}
use Rattle.std.proofs.lemmas.List.FromFn.{get_or-map-range_with_len}
use Rattle.std.proofs.lemmas.List.Sums.{prefix_len-le-length}
use Rattle.point_codec.specs.Points.{Item}
use Rattle.leaf_codec.specs.Dimensions.{key_of, shared_prefix, sorted_dimension, told_of, different}
use Rattle.leaf_codec.specs.Spelling.{told_length, rest, shared_bytes}
use Rattle.leaf_codec.proofs.Lists.{flat_map_agree}
use Rattle.leaf_codec.proofs.Permuted.{sorted_found}

pub shared_prefix-le : (d : ℕ) (items : List Item) → shared_prefix d items ≤ 4
unfolding shared_prefix
shared_prefix-le d items = prefix_len-le-length (λ i. not (ltb 1 (different d i items))) (range_with_len 0 4)

-- the lengths of the shared prefixes, one after another
abbrev pub lengths_of : ℕ → List Item → List ℕ
lengths_of D items = map (λ d. shared_prefix d items) (range_with_len 0 D)

-- the sorted dimension, or D where there is none
abbrev pub sorted_number : ℕ → List Item → ℕ
sorted_number D items = unwrap_or (sorted_dimension D items) D

pub get_or-lengths : (D d : ℕ) (items : List Item) → d < D → get_or (lengths_of D items) d 0 ≡ shared_prefix d items
get_or-lengths D d items lt = get_or-map-range_with_len (λ k. shared_prefix k items) 0 D d d 0 lt (omega arith)

-- how many bytes of a key stand before the rests
pub told_is : (D d : ℕ) (items : List Item) → d < D → told_of (lengths_of D items) (sorted_number D items) d ≡ told_length (sorted_dimension D items) d items
told_is D d items lt = ap (λ n. n + cond (eqb d (sorted_number D items)) 1 0) (get_or-lengths D d items lt) ∙ by (sorted_dimension D items)
  where
    by : (o : Option ℕ) → shared_prefix d items + cond (eqb d (unwrap_or o D)) 1 0 ≡ told_length o d items
    by None = ap (λ b. shared_prefix d items + cond b 1 0) (ne_eqb d D (λ e. absurd (omega arith))) ∙ omega arith
    by (Some s) = elim (cases_Bool (eqb d s)) [
      | inl same ↦ ap (λ b. shared_prefix d items + cond b 1 0) same ∙ sym (cond-true (eqb d s) (shared_prefix d items + 1) (shared_prefix d items) same)
      | inr apart ↦
          ap (λ b. shared_prefix d items + cond b 1 0) apart ∙ omega (arith, cond-false (eqb d s) (shared_prefix d items + 1) (shared_prefix d items) apart)
    ]

-- they are at most the whole key
pub told-le : (D d : ℕ) (items : List Item) → told_length (sorted_dimension D items) d items ≤ 4
told-le D d items = by (sorted_dimension D items) (λ s e. ltb-true _ _ (sorted_found D items s e).0)
  where
    by : (o : Option ℕ) → ((s : ℕ) → o ≡ Some s → shared_prefix s items < 4) → told_length o d items ≤ 4
    by None h = shared_prefix-le d items
    by (Some s) h = elim (cases_Bool (eqb d s)) [
      | inl same ↦ omega
          (arith, cond-true (eqb d s) (shared_prefix d items + 1) (shared_prefix d items) same, ap (λ k. shared_prefix k items) (eqb-true d s same), h s refl)
      | inr apart ↦ omega (arith, cond-false (eqb d s) (shared_prefix d items + 1) (shared_prefix d items) apart, shared_prefix-le d items)
    ]

-- what is left of an item's keys
pub rest_is : (D : ℕ) (items : List Item) (x : Item)
    → flat_map (λ d. drop (told_of (lengths_of D items) (sorted_number D items) d) (key_of d x)) (range_with_len 0 D) ≡ rest D items x
rest_is D items x = flat_map_agree _ _ 0 D (λ d low high. ap (λ n. drop n (key_of d x)) (told_is D d items (omega arith)))

pub shared_bytes_is : (d : ℕ) (items : List Item) (x : Item) → 0 < length items → get_or items 0 x ≡ x
    → shared_bytes d items ≡ take (shared_prefix d items) (key_of d x)
shared_bytes_is d [] x some is = absurd (omega arith)
shared_bytes_is d (y ∷ items) x some is = ap (λ z. take (shared_prefix d (y ∷ items)) (key_of d z)) is

pub length-key_of : (d : ℕ) (x : Item) → length (key_of d x) ≡ 4
unfolding key_of
length-key_of d x = refl

-- a flag as a number
pub flag_is : (b : Bool) → from_bool b ≡ cond b 1 0
flag_is true = refl
flag_is false = refl

-- the key from a place on, as a slice to its end has it
pub key_from : (d n : ℕ) (x : Item) → take (4 - n) (drop n (key_of d x)) ≡ drop n (key_of d x)
key_from d n x = take_all (4 - n) (drop n (key_of d x)) (omega (arith, length-drop n (key_of d x), length-key_of d x))

-- the sorted dimension from its number
pub sorted_none : (D : ℕ) (items : List Item) → D ≤ sorted_number D items → sorted_dimension D items ≡ None
sorted_none D items = by (sorted_dimension D items) (λ s e. (sorted_found D items s e).1)
  where
    by : (o : Option ℕ) → ((s : ℕ) → o ≡ Some s → s < D) → D ≤ unwrap_or o D → o ≡ None
    by None h le = refl
    by (Some s) h le = absurd (omega (arith, h s refl))

pub sorted_some : (D : ℕ) (items : List Item) → sorted_number D items < D → sorted_dimension D items ≡ Some (sorted_number D items)
sorted_some D items = by (sorted_dimension D items)
  where
    by : (o : Option ℕ) → unwrap_or o D < D → o ≡ Some (unwrap_or o D)
    by None lt = absurd (omega arith)
    by (Some s) lt = refl
