-- How many values a byte of the keys takes, as it is read from the fields.
use Rattle.std.proofs.Common.{◌≡◌, ◌≢◌, ◌<◌, ◌+◌, ◌*◌, ℕ, zero, suc, Bool, List, [], ◌∷◌, ◌++◌, map}
use Rattle.std.proofs.Common.{length, get_or, take, drop, refl, sym, ap, ◌∙◌, arith, cond, eqb, length-drop}
use Rattle.std.specs.List.{range_with_len, list_any}
use Rattle.std.proofs.lemmas.Bool.{eq-eqb, ne_eqb}
use Rattle.std.proofs.lemmas.List.{same_lists, get_or-map, length-map, get_or-take}
use Rattle.std.proofs.lemmas.List.FromFn.{get_or-map-range_with_len, length-map-range_with_len}
use Rattle.point_codec.specs.Points.{Item}
use Rattle.leaf_codec.specs.declared.read_parts.Parts.{Parts}
use Rattle.leaf_codec.specs.Dimensions.{key_byte, count_values, different}
use Rattle.leaf_codec.specs.Raw.{RawNumbers, RawKeys, gap_of, place_of, raw_item, raw_items}
use Rattle.leaf_codec.specs.Views.{IsParts, raw_keys_of}
use Rattle.leaf_codec.proofs.Lists.{as_range}
use Rattle.leaf_codec.proofs.KeysAgain.{front_of, middle_of, back_of, key_at_is, byte_at}
use Rattle.leaf_codec.proofs.KeysLemmas.{get_or-raw_items, length-raw_items, key_of-raw}
use Rattle.leaf_codec.proofs.ReadKeys.{key_parts}
use Rattle.leaf_codec.proofs.SeenBytes.{has_value, values-map}

from_front : (front c : List ℕ) (p : ℕ) → length front ≡ p → get_or (front ++ c) p 0 ≡ get_or c 0 0
from_front [] c p long = ap (λ n. get_or c n 0) (sym long)
from_front (x ∷ front) c zero long = absurd (omega (arith, long))
from_front (x ∷ front) c (suc p) long = from_front front c p (omega (arith, long))

dropped : (m k : ℕ) (xs : List ℕ) → get_or (drop m xs) k 0 ≡ get_or xs (m + k) 0
dropped zero k xs = ap (λ n. get_or xs n 0) (omega arith)
dropped (suc m) k [] = refl
dropped (suc m) k (x ∷ xs) = dropped m k xs ∙ ap (λ n. get_or (x ∷ xs) n 0) next
  where
    next : suc (m + k) ≡ suc m + k
    next = omega arith

-- where the bytes of a dimension without a sorted byte stand
pub place_within : (D : ℕ) (p : Parts) (i d : ℕ) → IsParts D p → i < p.count → d < D → get_or p.lengths.now d 0 < 4 → d ≢ p.sorted
    → 4 + place_of p.lengths.now p.sorted d + i * p.stride < length p.words.now
place_within D p i d h here lt moves other =
    let k = key_parts D p.count (raw_keys_of p) i d h.raw here lt in
    let none : cond (eqb d p.sorted) 1 0 ≡ 0 = ap (λ (b : Bool). cond {A = ℕ} b 1 0) (ne_eqb d p.sorted other) in
    let row : i * p.stride ≡ i * place_of p.lengths.now p.sorted D = ap (λ n. i * n) h.stride in
    omega (arith, k.ends, k.next, none, moves, row, h.raw.sized, length-drop 4 p.words.now, h.long)

-- the byte behind the shared prefix
abbrev byte_read : Parts → ℕ → ℕ → ℕ
byte_read p d i = get_or p.words.now (4 + place_of p.lengths.now p.sorted d + i * p.stride) 0

byte_of : (D : ℕ) (n : RawNumbers) (p : Parts) (i d : ℕ) → IsParts D p → i < p.count → d < D
    → key_byte d (get_or p.lengths.now d 0) (raw_item D n (raw_keys_of p) i)
    ≡ get_or (front_of (raw_keys_of p) d ++ (middle_of (raw_keys_of p) i d ++ back_of D (raw_keys_of p) i d)) (get_or p.lengths.now d 0) 0
byte_of D n p i d h here lt =
    ap (λ (t : List ℕ). get_or t (get_or p.lengths.now d 0) 0) (key_of-raw D p.count i d n (raw_keys_of p) h.raw here lt ∙ key_at_is D (raw_keys_of p) i d)

byte_sorted : (D : ℕ) (n : RawNumbers) (p : Parts) (i d : ℕ) → IsParts D p → i < p.count → d < D → d ≡ p.sorted
    → key_byte d (get_or p.lengths.now d 0) (raw_item D n (raw_keys_of p) i) ≡ get_or (take p.count p.table) i 0
byte_sorted D n p i d h here lt same =
    let r = raw_keys_of p in
    let k = key_parts D p.count r i d h.raw here lt in
    byte_of D n p i d h here lt
    ∙ ap (λ (b : Bool). get_or (front_of r d ++ (cond b (get_or r.bytes i 0 ∷ []) [] ++ back_of D r i d)) (get_or p.lengths.now d 0) 0) (eq-eqb d p.sorted same)
    ∙ byte_at (front_of r d) (back_of D r i d) (get_or r.bytes i 0) (get_or p.lengths.now d 0) k.front

byte_other : (D : ℕ) (n : RawNumbers) (p : Parts) (i d : ℕ) → IsParts D p → i < p.count → d < D → get_or p.lengths.now d 0 < 4 → d ≢ p.sorted
    → key_byte d (get_or p.lengths.now d 0) (raw_item D n (raw_keys_of p) i) ≡ byte_read p d i
byte_other D n p i d h here lt moves other =
    let r = raw_keys_of p in
    let k = key_parts D p.count r i d h.raw here lt in
    let gap = gap_of p.lengths.now p.sorted d in
    let row = i * place_of p.lengths.now p.sorted D + place_of p.lengths.now p.sorted d in
    let none : cond (eqb d p.sorted) 1 0 ≡ 0 = ap (λ (b : Bool). cond {A = ℕ} b 1 0) (ne_eqb d p.sorted other) in
    let some : 0 < gap = omega (arith, none, moves) in
    let stride : i * p.stride ≡ i * place_of p.lengths.now p.sorted D = ap (λ m. i * m) h.stride in
    let at : 4 + (row + 0) ≡ 4 + place_of p.lengths.now p.sorted d + i * p.stride = omega (arith, stride) in
    byte_of D n p i d h here lt
    ∙ ap (λ (b : Bool). get_or (front_of r d ++ (cond b (get_or r.bytes i 0 ∷ []) [] ++ back_of D r i d)) (get_or p.lengths.now d 0) 0)
    (ne_eqb d p.sorted other)
    ∙ from_front (front_of r d) (back_of D r i d) (get_or p.lengths.now d 0) k.front
    ∙ get_or-take gap (drop row r.rests) 0 0 some
    ∙ dropped row 0 r.rests
    ∙ dropped 4 (row + 0) p.words.now
    ∙ ap (λ m. get_or p.words.now m 0) at

values_read : (D n_dim len n : ℕ) (numbers : RawNumbers) (r : RawKeys) (byte : ℕ → ℕ) → ((i : ℕ) → i < n → key_byte n_dim len (raw_item D numbers r i) ≡ byte i)
    → count_values (λ b. list_any (λ i. eqb (byte i) b) (range_with_len 0 n)) ≡ different n_dim len (raw_items D n numbers r)
values_read D d len n numbers r byte is =
    sym (values-map byte (range_with_len 0 n))
    ∙ ap (λ (t : List ℕ). count_values (has_value t))
    (sym (same_lists (map (key_byte d len) items) (map byte (range_with_len 0 n))
    (length-map items (key_byte d len) ∙ length-raw_items D n numbers r ∙ sym (length-map-range_with_len byte 0 n)) (λ i e lt.
    let here : i < n = omega (arith, lt, length-map items (key_byte d len), length-raw_items D n numbers r) in
    let x = raw_item D numbers r i in
    get_or-map (key_byte d len) items i x e (omega (arith, here, length-raw_items D n numbers r))
    ∙ ap (key_byte d len) (get_or-raw_items D n i numbers r x here) ∙ is i here
    ∙ sym (get_or-map-range_with_len byte 0 n i i e here (omega arith)))))
    ∙ values-map (key_byte d len) items
  where
    items : List Item
    items = raw_items D n numbers r

pub spread_sorted : (D d : ℕ) (n : RawNumbers) (p : Parts) → IsParts D p → d < D → d ≡ p.sorted
    → count_values (has_value (take p.count p.table)) ≡ different d (get_or p.lengths.now d 0) (raw_items D p.count n (raw_keys_of p))
spread_sorted D d n p h lt same =
    let bytes = take p.count p.table in
    ap (λ (t : List ℕ). count_values (has_value t)) (as_range bytes 0)
    ∙ values-map (λ i. get_or bytes i 0) (range_with_len 0 (length bytes))
    ∙ ap (λ m. count_values (λ b. list_any (λ i. eqb (get_or bytes i 0) b) (range_with_len 0 m))) h.raw.counted
    ∙ values_read D d (get_or p.lengths.now d 0) p.count n (raw_keys_of p) (λ i. get_or bytes i 0) (λ i here. byte_sorted D n p i d h here lt same)

pub spread_other : (D d : ℕ) (n : RawNumbers) (p : Parts) → IsParts D p → d < D → get_or p.lengths.now d 0 < 4 → d ≢ p.sorted
    → count_values (λ b. list_any (λ i. eqb (byte_read p d i) b) (range_with_len 0 p.count))
    ≡ different d (get_or p.lengths.now d 0) (raw_items D p.count n (raw_keys_of p))
spread_other D d n p h lt moves other =
    values_read D d (get_or p.lengths.now d 0) p.count n (raw_keys_of p) (byte_read p d) (λ i here. byte_other D n p i d h here lt moves other)
