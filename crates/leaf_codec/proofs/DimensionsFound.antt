-- The dimensions of the items that fields say.
use Rattle.std.proofs.Common.{◌≡◌, ◌<◌, ◌≤◌, ℕ, zero, suc, Bool, List, [], ◌∷◌, ◌++◌, length}
use Rattle.std.proofs.Common.{get_or, refl, sym, ap, ◌∙◌, arith, ltb, Option, unwrap_or, ltb-true}
use Rattle.std.specs.List.{range_with_len, position_or_len}
use Rattle.std.proofs.lemmas.List.{same_lists, get_or_default}
use Rattle.std.proofs.lemmas.List.FromFn.{length-map-range_with_len, get_or-range_with_len, length-range_with_len}
use Rattle.std.proofs.lemmas.List.Sums.{passes_at_first}
use Rattle.point_codec.specs.Points.{Item}
use Rattle.leaf_codec.specs.Dimensions.{key_byte, different, shared_prefix, varies, spread, narrowest, sorted_dimension}
use Rattle.leaf_codec.specs.Raw.{RawNumbers, RawKeys, AreRawKeys, raw_items}
use Rattle.leaf_codec.proofs.KeysAgain.{front_of, middle_of, back_of, key_at_is}
use Rattle.leaf_codec.proofs.KeysLemmas.{get_or-raw_items, length-raw_items, key_of-raw}
use Rattle.leaf_codec.proofs.Narrowest.{narrowest_agree}
use Rattle.leaf_codec.proofs.ReadKeys.{key_parts}
use Rattle.leaf_codec.proofs.Shared.{same_byte, shared_is}
use Rattle.leaf_codec.proofs.Written.{lengths_of, get_or-lengths}

-- the byte in which keys differ takes two values or more
pub shared_spreads : (d : ℕ) (items : List Item) → shared_prefix d items < 4 → 2 ≤ different d (shared_prefix d items) items
unfolding shared_prefix
shared_spreads d items lt =
    let test : ℕ → Bool = λ i. ltb 1 (different d i items) in
    let place = position_or_len test (range_with_len 0 4) in
    let same : get_or (range_with_len 0 4) place 0 ≡ place = get_or-range_with_len 0 4 place 0 lt ∙ omega arith in
    omega (
      arith,
      ltb-true 1 (different d place items) (sym (ap test same) ∙ passes_at_first test (range_with_len 0 4) 0 (omega (arith, lt, length-range_with_len 0 4))),
    )

from_left : (front c : List ℕ) (k : ℕ) → k < length front → get_or (front ++ c) k 0 ≡ get_or front k 0
from_left [] c k lt = absurd (omega arith)
from_left (x ∷ front) c zero lt = refl
from_left (x ∷ front) c (suc k) lt = from_left front c k (omega arith)

-- the keys share their prefix
shared_raw : (D n d k : ℕ) (numbers : RawNumbers) (r : RawKeys) → AreRawKeys D n r → d < D → k < get_or r.lengths d 0
    → different d k (raw_items D n numbers r) ≤ 1
shared_raw D n d k numbers r h lt low =
    same_byte d k (get_or (front_of r d) k 0) (raw_items D n numbers r) (λ i x under.
    let here : i < n = omega (arith, under, length-raw_items D n numbers r) in
    ap (key_byte d k) (get_or-raw_items D n i numbers r x here)
    ∙ ap (λ (t : List ℕ). get_or t k 0) (key_of-raw D n i d numbers r h here lt ∙ key_at_is D r i d)
    ∙ from_left (front_of r d) (middle_of r i d ++ back_of D r i d) k (omega (arith, low, (key_parts D n r i d h here lt).front)))

pub prefix_found : (D n d : ℕ) (numbers : RawNumbers) (r : RawKeys) → AreRawKeys D n r → d < D
    → (get_or r.lengths d 0 < 4 → 2 ≤ different d (get_or r.lengths d 0) (raw_items D n numbers r))
    → shared_prefix d (raw_items D n numbers r) ≡ get_or r.lengths d 0
prefix_found D n d numbers r h lt wide =
    shared_is d (get_or r.lengths d 0) (raw_items D n numbers r) (h.short d 0 (omega (arith, lt, h.dims))) (λ k low. shared_raw D n d k numbers r h lt low) wide

pub lengths_found : (D n : ℕ) (numbers : RawNumbers) (r : RawKeys) → AreRawKeys D n r
    → ((d : ℕ) → d < D → get_or r.lengths d 0 < 4 → 2 ≤ different d (get_or r.lengths d 0) (raw_items D n numbers r))
    → lengths_of D (raw_items D n numbers r) ≡ r.lengths
lengths_found D n numbers r h wide =
    let items = raw_items D n numbers r in
    same_lists (lengths_of D items) r.lengths (length-map-range_with_len (λ d. shared_prefix d items) 0 D ∙ sym h.dims) (λ d e low.
    let under : d < D = omega (arith, low, length-map-range_with_len (λ k. shared_prefix k items) 0 D) in
    get_or_default (lengths_of D items) d e 0 low ∙ get_or-lengths D d items under ∙ prefix_found D n d numbers r h under (wide d under)
    ∙ get_or_default r.lengths d 0 e (omega (arith, under, h.dims)))

-- the sorted dimension, by the spreads behind the prefixes that are said
pub sorted_found_in : (D n : ℕ) (numbers : RawNumbers) (r : RawKeys) → lengths_of D (raw_items D n numbers r) ≡ r.lengths
    → unwrap_or (narrowest D (λ d. ltb (get_or r.lengths d 0) 4) (λ d. different d (get_or r.lengths d 0) (raw_items D n numbers r))) D
    ≡ unwrap_or (sorted_dimension D (raw_items D n numbers r)) D
unfolding sorted_dimension
sorted_found_in D n numbers r lengths =
    let items = raw_items D n numbers r in
    let length_is : (d : ℕ) → d < D → get_or r.lengths d 0 ≡ shared_prefix d items = λ d lt.
    ap (λ (t : List ℕ). get_or t d 0) (sym lengths) ∙ get_or-lengths D d items lt in
    ap (λ (o : Option ℕ). unwrap_or o D)
    (narrowest_agree D (λ d. ltb (get_or r.lengths d 0) 4) (varies items) (λ d. different d (get_or r.lengths d 0) items) (spread items)
    (λ d lt. ap (λ m. ltb m 4) (length_is d lt)) (λ d lt moves. ap (λ m. different d m items) (length_is d lt)))
