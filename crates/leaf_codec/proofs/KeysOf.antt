-- The fields of the keys of items can be read.
use Rattle.std.proofs.Common.{◌≡◌, ◌<◌, ◌≤◌, ◌-◌, ◌*◌, ℕ, List, [], ◌∷◌, map}
use Rattle.std.proofs.Common.{length, get_or, drop, refl, sym, ap, subst, ◌∙◌, arith, inl, inr, length-take, ltb-true}
use Rattle.std.specs.List.{flat_map, range_with_len}
use Rattle.std.proofs.lemmas.Bool.{cases_lt}
use Rattle.std.proofs.lemmas.List.{get_or_default, length-map}
use Rattle.std.proofs.lemmas.List.Concat.{length-flat_map}
use Rattle.std.proofs.lemmas.List.Elements.{All-take, All-drop, All-map}
use Rattle.std.proofs.lemmas.List.FromFn.{length-map-range_with_len}
use Rattle.point_codec.specs.Points.{Item}
use Rattle.leaf_codec.specs.Dimensions.{key_of, key_byte, shared_prefix, sorted_dimension}
use Rattle.leaf_codec.specs.Spelling.{shared_bytes, told_length, rest, rests}
use Rattle.leaf_codec.specs.Words.{AreBytes}
use Rattle.leaf_codec.specs.Raw.{RawKeys, AreRawKeys, MaySort, gap_of, place_of}
use Rattle.leaf_codec.proofs.KeysLemmas.{AreKeysOf}
use Rattle.leaf_codec.proofs.Lengths.{length-rest}
use Rattle.leaf_codec.proofs.Lists.{sum_agree}
use Rattle.leaf_codec.proofs.NoneVaries.{all_shared}
use Rattle.leaf_codec.proofs.Permuted.{sorted_found}
use Rattle.leaf_codec.proofs.RawNumbersLemmas.{AreBytes-flat_map, sum_same}
use Rattle.leaf_codec.proofs.Shared.{key_byte-lt}
use Rattle.leaf_codec.proofs.Written.{lengths_of, sorted_number, get_or-lengths, told_is, shared_prefix-le, length-key_of, sorted_some}

-- the fields of the items' keys
pub raw_keys : ℕ → List Item → RawKeys
raw_keys D items = record {
  lengths = lengths_of D items;
  prefixes = flat_map (λ d. shared_bytes d items) (range_with_len 0 D);
  sorted = sorted_number D items;
  bytes = map (key_byte (sorted_number D items) (shared_prefix (sorted_number D items) items)) items;
  rests = rests D items;
}

pub raw_keys_of : (D : ℕ) (items : List Item) → AreKeysOf D items (raw_keys D items)
unfolding raw_keys
raw_keys_of D items = record { lengths = refl; sorted = refl; prefixes = refl; bytes = λ _. refl; rests = refl }

AreBytes-key_of : (d : ℕ) (x : Item) → AreBytes (key_of d x)
AreBytes-key_of d x = λ k e lt. subst (λ (n : ℕ). n < 256) (sym (get_or_default (key_of d x) k e 0 lt)) (key_byte-lt d k x)

AreBytes-shared : (d : ℕ) (items : List Item) → AreBytes (shared_bytes d items)
AreBytes-shared d [] = λ k e lt. absurd (omega arith)
AreBytes-shared d (x ∷ items) = All-take (λ (n : ℕ). n < 256) (shared_prefix d (x ∷ items)) (key_of d x) (AreBytes-key_of d x)

pub length-shared_bytes : (d : ℕ) (items : List Item) → 1 ≤ length items → length (shared_bytes d items) ≡ shared_prefix d items
length-shared_bytes d [] some = absurd (omega arith)
length-shared_bytes d (x ∷ items) some =
    omega (arith, length-take (shared_prefix d (x ∷ items)) (key_of d x), length-key_of d x, shared_prefix-le d (x ∷ items))

pub length-lengths : (D : ℕ) (items : List Item) → length (lengths_of D items) ≡ D
length-lengths D items = length-map-range_with_len (λ d. shared_prefix d items) 0 D

pub may_sort : (D : ℕ) (items : List Item) → MaySort (lengths_of D items) (sorted_number D items)
may_sort D items = record {
  within = elim (cases_lt (sorted_number D items) D) [
    | inl lt ↦ omega (arith, lt, length-lengths D items)
    | inr le ↦ omega (arith, top (sorted_dimension D items) (λ s e. (sorted_found D items s e).1), length-lengths D items)
  ];
  moves = λ lt.
      let under : sorted_number D items < D = omega (arith, lt, length-lengths D items) in
      omega (
        arith,
        get_or-lengths D (sorted_number D items) items under,
        ltb-true (shared_prefix (sorted_number D items) items) 4 (sorted_found D items (sorted_number D items) (sorted_some D items under)).0,
      );
  still = λ none k e lt.
      let under : k < D = omega (arith, lt, length-lengths D items) in
      get_or_default (lengths_of D items) k e 0 lt ∙ get_or-lengths D k items under ∙ all_shared D items (none ∙ length-lengths D items) k under;
}
  where
    top : (o : Rattle.std.proofs.Common.Option ℕ) → ((s : ℕ) → o ≡ Rattle.std.proofs.Common.Some s → s < D) → Rattle.std.proofs.Common.unwrap_or o D ≤ D
    top Rattle.std.proofs.Common.None h = omega arith
    top (Rattle.std.proofs.Common.Some s) h = omega (arith, h s refl)

-- how many bytes of an item are among the rests
pub length-rest_of : (D : ℕ) (items : List Item) (x : Item) → length (rest D items x) ≡ place_of (lengths_of D items) (sorted_number D items) D
length-rest_of D items x =
    length-rest D items x
    ∙ sum_agree (λ d. 4 - told_length (sorted_dimension D items) d items) (gap_of (lengths_of D items) (sorted_number D items)) 0 D
    (λ d low high. ap (λ n. 4 - n) (sym (told_is D d items (omega arith))))

length-rests : (D : ℕ) (items : List Item) → length (rests D items) ≡ length items * place_of (lengths_of D items) (sorted_number D items) D
unfolding rests
length-rests D items =
    length-flat_map (rest D items) items
    ∙ sum_same (λ x. length (rest D items x)) (place_of (lengths_of D items) (sorted_number D items) D) items (length-rest_of D items)

AreBytes-rests : (D : ℕ) (items : List Item) → AreBytes (rests D items)
unfolding rests
AreBytes-rests D items =
    AreBytes-flat_map (rest D items) items
    (λ x. AreBytes-flat_map (λ d. drop (told_length (sorted_dimension D items) d items) (key_of d x)) (range_with_len 0 D) (λ d.
    All-drop (λ (n : ℕ). n < 256) (told_length (sorted_dimension D items) d items) (key_of d x) (AreBytes-key_of d x)))

pub raw_keys_are : (D : ℕ) (items : List Item) → 1 ≤ length items → AreRawKeys D (length items) (raw_keys D items)
unfolding raw_keys
raw_keys_are D items some = record {
  dims = length-lengths D items;
  short = λ k e lt. omega
      (arith, get_or_default (lengths_of D items) k e 0 lt, get_or-lengths D k items (omega (arith, lt, length-lengths D items)), shared_prefix-le k items);
  total = length-flat_map (λ d. shared_bytes d items) (range_with_len 0 D)
      ∙ sum_agree (λ d. length (shared_bytes d items)) (λ d. get_or (lengths_of D items) d 0) 0 D
      (λ d low high. length-shared_bytes d items some ∙ sym (get_or-lengths D d items (omega arith)));
  sorts = may_sort D items;
  counted = length-map items (key_byte (sorted_number D items) (shared_prefix (sorted_number D items) items));
  sized = length-rests D items;
  prefix_bytes = AreBytes-flat_map (λ d. shared_bytes d items) (range_with_len 0 D) (λ d. AreBytes-shared d items);
  sorted_bytes = All-map (λ (n : ℕ). n < 256) (key_byte (sorted_number D items) (shared_prefix (sorted_number D items) items)) items
      (λ k e lt. key_byte-lt (sorted_number D items) (shared_prefix (sorted_number D items) items) (get_or items k e));
  rest_bytes = AreBytes-rests D items;
}
