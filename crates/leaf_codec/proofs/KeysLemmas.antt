-- The keys of items as fields, and the items again from the fields.
use Rattle.std.proofs.Common.{◌≡◌, ◌<◌, ℕ, List, [], ◌∷◌, ◌++◌, map, length, get_or, refl, sym, ap}
use Rattle.std.proofs.Common.{subst, ◌∙◌, arith, ltb, inl, inr, Option, Some, None, append_assoc, ℤ, pos}
use Rattle.std.specs.List.{flat_map, range_with_len}
use Rattle.std.proofs.lemmas.Bool.{cases_lt, lt-ltb, le-ltb, cond-true, cond-false}
use Rattle.std.proofs.lemmas.List.FromFn.{get_or-map-range_with_len, length-map-range_with_len}
use Rattle.point_codec.specs.Points.{Item}
use Rattle.leaf_codec.specs.Dimensions.{key_of, key_byte, shared_prefix, sorted_dimension}
use Rattle.leaf_codec.specs.Spelling.{prefixes, shared_bytes, sorted_bytes, sorted_part, rests}
use Rattle.leaf_codec.specs.Words.{coordinate}
use Rattle.leaf_codec.specs.Raw.{RawNumbers, RawKeys, AreRawKeys, start_of, sorted_raw, keys_bytes, key_at, point_at, raw_item, raw_items}
use Rattle.leaf_codec.proofs.Bytes.{key-coordinate}
use Rattle.leaf_codec.proofs.ReadKeys.{length-key_at, AreBytes-key_at}
use Rattle.leaf_codec.proofs.TakeKeys.{lengths_same, prefixes_same, sorts_same}
use Rattle.leaf_codec.proofs.Written.{lengths_of, sorted_number, sorted_none, sorted_some}

-- the fields are those of the items' keys
pub record AreKeysOf (D : ℕ) (items : List Item) (r : RawKeys) : Type 0 where
  pub lengths : r.lengths ≡ lengths_of D items
  pub sorted : r.sorted ≡ sorted_number D items
  pub prefixes : r.prefixes ≡ flat_map (λ d. shared_bytes d items) (range_with_len 0 D)
  pub bytes : r.sorted < D → r.bytes ≡ map (key_byte r.sorted (shared_prefix r.sorted items)) items
  pub rests : r.rests ≡ rests D items

-- ---- their bytes are those of the spelling

part_some : (s : ℕ) (items : List Item) → sorted_part (Some s) items ≡ s ∷ sorted_bytes (map (key_byte s (shared_prefix s items)) items)
unfolding sorted_part
part_some s items = refl

part_none : (items : List Item) → sorted_part None items ≡ []
unfolding sorted_part
part_none items = refl

sorted_is : (D : ℕ) (items : List Item) (r : RawKeys) → AreKeysOf D items r → sorted_part (sorted_dimension D items) items ≡ sorted_raw D r.sorted r.bytes
sorted_is D items r h = elim (cases_lt r.sorted D) [
  | inl lt ↦
      let some = sorted_some D items (omega (arith, h.sorted, lt)) in
      ap (λ (o : Option ℕ). sorted_part o items) some ∙ part_some (sorted_number D items) items
      ∙ (λ i. sym h.sorted i ∷ sorted_bytes (map (key_byte (sym h.sorted i) (shared_prefix (sym h.sorted i) items)) items))
      ∙ ap (λ (t : List ℕ). r.sorted ∷ sorted_bytes t) (sym (h.bytes lt))
      ∙ sym (cond-true (ltb r.sorted D) (r.sorted ∷ sorted_bytes r.bytes) [] (lt-ltb r.sorted D lt))
  | inr le ↦
      ap (λ (o : Option ℕ). sorted_part o items) (sorted_none D items (omega (arith, h.sorted, le))) ∙ part_none items
      ∙ sym (cond-false (ltb r.sorted D) (r.sorted ∷ sorted_bytes r.bytes) [] (le-ltb r.sorted D le))
]

pub keys_spelled : (D : ℕ) (items : List Item) (r : RawKeys) → AreKeysOf D items r
    → prefixes D items ++ (sorted_part (sorted_dimension D items) items ++ rests D items) ≡ keys_bytes D r
unfolding prefixes
keys_spelled D items r h =
    append_assoc (lengths_of D items) (flat_map (λ d. shared_bytes d items) (range_with_len 0 D))
    (sorted_part (sorted_dimension D items) items ++ rests D items)
    ∙ (λ i. sym h.lengths i ++ (sym h.prefixes i ++ (sorted_is D items r h i ++ sym h.rests i)))

-- ---- bytes are those of one choice of fields

pub record SameKeys (D : ℕ) (r s : RawKeys) : Type 0 where
  pub lengths : r.lengths ≡ s.lengths
  pub prefixes : r.prefixes ≡ s.prefixes
  pub sorted : r.sorted ≡ s.sorted
  pub bytes : r.sorted < D → r.bytes ≡ s.bytes
  pub rests : r.rests ≡ s.rests

pub keys_front : (D n : ℕ) (r s : RawKeys) → AreRawKeys D n r → AreRawKeys D n s → keys_bytes D r ≡ keys_bytes D s → SameKeys D r s
keys_front D n r s hr hs e =
    let a = lengths_same D n s (keys_bytes D r) r.lengths (r.prefixes ++ (sorted_raw D r.sorted r.bytes ++ r.rests)) hs hr.dims refl e in
    let b = prefixes_same D n (start_of r.lengths (length r.lengths)) s r.lengths r.prefixes (r.prefixes ++ (sorted_raw D r.sorted r.bytes ++ r.rests))
    (sorted_raw D r.sorted r.bytes ++ r.rests) hs a.0 refl (hr.total ∙ ap (start_of r.lengths) (sym hr.dims)) refl a.1 in
    let c = sorts_same r.lengths r.sorted s.sorted r.rests s.rests r.bytes s.bytes hr.sorts
    (subst (λ (t : List ℕ). Rattle.leaf_codec.specs.Raw.MaySort t s.sorted) (sym a.0) hs.sorts) (hr.counted ∙ sym hs.counted)
    (ap (λ m. sorted_raw m r.sorted r.bytes ++ r.rests) hr.dims ∙ b.1 ∙ ap (λ m. sorted_raw m s.sorted s.bytes ++ s.rests) (sym hr.dims)) in
    record { lengths = a.0; prefixes = b.0; sorted = c.0; bytes = λ lt. c.2 (omega (arith, lt, hr.dims)); rests = c.1 }

pub same_keys_of : (D : ℕ) (items : List Item) (r s : RawKeys) → SameKeys D r s → AreKeysOf D items s → AreKeysOf D items r
same_keys_of D items r s e h = record {
  lengths = e.lengths ∙ h.lengths;
  sorted = e.sorted ∙ h.sorted;
  prefixes = e.prefixes ∙ h.prefixes;
  bytes = λ lt. e.bytes lt ∙ h.bytes (omega (arith, lt, e.sorted)) ∙ (λ i. map (key_byte (sym e.sorted i) (shared_prefix (sym e.sorted i) items)) items);
  rests = e.rests ∙ h.rests;
}

-- ---- the keys of the items that fields say

pub get_or-raw_items : (D n i : ℕ) (numbers : RawNumbers) (r : RawKeys) (x : Item) → i < n → get_or (raw_items D n numbers r) i x ≡ raw_item D numbers r i
unfolding raw_items
get_or-raw_items D n i numbers r x lt = get_or-map-range_with_len (raw_item D numbers r) 0 n i i x lt (omega arith)

pub length-raw_items : (D n : ℕ) (numbers : RawNumbers) (r : RawKeys) → length (raw_items D n numbers r) ≡ n
unfolding raw_items
length-raw_items D n numbers r = length-map-range_with_len (raw_item D numbers r) 0 n

pub get_or-point_at : (D i d : ℕ) (r : RawKeys) (x : ℤ) → d < D → get_or (point_at D r i) d x ≡ coordinate (key_at D r i d)
unfolding point_at
get_or-point_at D i d r x lt = get_or-map-range_with_len (λ e. coordinate (key_at D r i e)) 0 D d d x lt (omega arith)

pub key_of-raw : (D n i d : ℕ) (numbers : RawNumbers) (r : RawKeys) → AreRawKeys D n r → i < n → d < D → key_of d (raw_item D numbers r i) ≡ key_at D r i d
unfolding key_of raw_item
key_of-raw D n i d numbers r h here lt =
    ap Rattle.point_codec.specs.Keys.key (get_or-point_at D i d r (pos 0) lt)
    ∙ key-coordinate (key_at D r i d) (length-key_at D n r i d h here lt) (AreBytes-key_at D n r i d h here)
