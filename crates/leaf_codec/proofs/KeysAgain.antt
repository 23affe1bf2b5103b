-- Fields that are as short as they can be are those of the items that they say.
use Rattle.std.proofs.Common.{◌≡◌, ◌<◌, ◌+◌, ◌*◌, ℕ, zero, suc, Bool, true, false, List, [], ◌∷◌, ◌++◌, map, length, get_or, take}
use Rattle.std.proofs.Common.{drop, refl, sym, ap, ◌∙◌, arith, cond, eqb, append_assoc, length-append, take_at, drop_at, take_all}
use Rattle.std.specs.List.{flat_map, range_with_len}
use Rattle.std.proofs.lemmas.Bool.{eq-eqb}
use Rattle.std.proofs.lemmas.List.{same_lists, get_or_default, get_or-map, length-map}
use Rattle.point_codec.specs.Points.{Item}
use Rattle.leaf_codec.specs.Dimensions.{key_of, key_byte, shared_prefix, told_of}
use Rattle.leaf_codec.specs.Spelling.{shared_bytes, rest, rests}
use Rattle.leaf_codec.specs.Raw.{RawNumbers, RawKeys, AreRawKeys, start_of, gap_of, place_of, key_at, raw_item, raw_items}
use Rattle.leaf_codec.proofs.Chunks.{place, parts_joined, chunks_joined, flat_map-map-range}
use Rattle.leaf_codec.proofs.KeysLemmas.{AreKeysOf, get_or-raw_items, length-raw_items, key_of-raw}
use Rattle.leaf_codec.proofs.Lists.{flat_map_agree}
use Rattle.leaf_codec.proofs.ReadKeys.{key_parts}
use Rattle.leaf_codec.proofs.Written.{lengths_of, sorted_number, get_or-lengths, rest_is, shared_bytes_is}

-- the three parts of a key
abbrev pub front_of : RawKeys → ℕ → List ℕ
front_of r d = take (get_or r.lengths d 0) (drop (start_of r.lengths d) r.prefixes)

abbrev pub middle_of : RawKeys → ℕ → ℕ → List ℕ
middle_of r i d = cond (eqb d r.sorted) (get_or r.bytes i 0 ∷ []) []

abbrev pub back_of : ℕ → RawKeys → ℕ → ℕ → List ℕ
back_of D r i d = take (gap_of r.lengths r.sorted d) (drop (i * place_of r.lengths r.sorted D + place_of r.lengths r.sorted d) r.rests)

pub key_at_is : (D : ℕ) (r : RawKeys) (i d : ℕ) → key_at D r i d ≡ front_of r d ++ (middle_of r i d ++ back_of D r i d)
unfolding key_at
key_at_is D r i d = refl

flagged : (b : Bool) (n : ℕ) → length (cond b (n ∷ []) []) ≡ cond b 1 0
flagged true n = refl
flagged false n = refl

pub byte_at : (front c : List ℕ) (b p : ℕ) → length front ≡ p → get_or (front ++ (b ∷ c)) p 0 ≡ b
byte_at [] c b p long = ap (λ n. get_or (b ∷ c) n 0) (sym long)
byte_at (x ∷ front) c b zero long = absurd (omega (arith, long))
byte_at (x ∷ front) c b (suc p) long = byte_at front c b p (omega (arith, long))

rests_raw : (D n : ℕ) (numbers : RawNumbers) (r : RawKeys)
    → rests D (raw_items D n numbers r) ≡ flat_map (λ i. rest D (raw_items D n numbers r) (raw_item D numbers r i)) (range_with_len 0 n)
unfolding rests raw_items
rests_raw D n numbers r = flat_map-map-range (rest D (raw_items D n numbers r)) (raw_item D numbers r) n

pub keys_again : (D n : ℕ) (numbers : RawNumbers) (r : RawKeys) → AreRawKeys D n r → 0 < n
    → lengths_of D (raw_items D n numbers r) ≡ r.lengths → sorted_number D (raw_items D n numbers r) ≡ r.sorted → AreKeysOf D (raw_items D n numbers r) r
keys_again D n numbers r h some lengths sorted = record {
  lengths = sym lengths;
  sorted = sym sorted;
  prefixes =
      sym (flat_map_agree (λ d. shared_bytes d items) (λ d. take (wide d) (drop (0 + place wide d) r.prefixes)) 0 D (λ d low high. front_is d (omega arith))
      ∙ parts_joined wide r.prefixes 0 D ∙ take_all (place wide D) r.prefixes (omega (arith, h.total)));
  bytes = λ moves. same_lists r.bytes (map (key_byte r.sorted (shared_prefix r.sorted items)) items)
      (h.counted ∙ sym (length-map items (key_byte r.sorted (shared_prefix r.sorted items)) ∙ length-raw_items D n numbers r))
      (λ i e lt. let here : i < n = omega (arith, lt, h.counted) in
      get_or_default r.bytes i e 0 lt ∙ sym (byte_is moves i here)
      ∙ ap (λ x. key_byte r.sorted (shared_prefix r.sorted items) x) (sym (get_or-raw_items D n i numbers r (item i) here))
      ∙ sym (get_or-map (key_byte r.sorted (shared_prefix r.sorted items)) items i (item i) e (omega (arith, here, length-raw_items D n numbers r))));
  rests = sym rests_are;
}
  where
    items : List Item
    items = raw_items D n numbers r

    item : ℕ → Item
    item i = raw_item D numbers r i

    wide : ℕ → ℕ
    wide d = get_or r.lengths d 0

    stride : ℕ
    stride = place_of r.lengths r.sorted D

    shared : (d : ℕ) → d < D → shared_prefix d items ≡ wide d
    shared d lt = sym (get_or-lengths D d items lt) ∙ ap (λ (t : List ℕ). get_or t d 0) lengths

    key : (i d : ℕ) → i < n → d < D → key_of d (item i) ≡ front_of r d ++ (middle_of r i d ++ back_of D r i d)
    key i d here lt = key_of-raw D n i d numbers r h here lt ∙ key_at_is D r i d

    front_is : (d : ℕ) → d < D → shared_bytes d items ≡ take (wide d) (drop (0 + place wide d) r.prefixes)
    front_is d lt =
        shared_bytes_is d items (item 0) (omega (arith, some, length-raw_items D n numbers r)) (get_or-raw_items D n 0 numbers r (item 0) some)
        ∙ (λ j. take (shared d lt j) (key 0 d some lt j))
        ∙ take_at (front_of r d) (middle_of r 0 d ++ back_of D r 0 d) (wide d) (key_parts D n r 0 d h some lt).front
        ∙ ap (λ m. take (wide d) (drop m r.prefixes)) (omega arith)

    byte_is : r.sorted < D → (i : ℕ) → i < n → key_byte r.sorted (shared_prefix r.sorted items) (item i) ≡ get_or r.bytes i 0
    byte_is moves i here =
        (λ j. get_or (key i r.sorted here moves j) (shared r.sorted moves j) 0)
        ∙ ap (λ (b : Bool). get_or (front_of r r.sorted ++ (cond b (get_or r.bytes i 0 ∷ []) [] ++ back_of D r i r.sorted)) (wide r.sorted) 0)
        (eq-eqb r.sorted r.sorted refl)
        ∙ byte_at (front_of r r.sorted) (back_of D r i r.sorted) (get_or r.bytes i 0) (wide r.sorted) (key_parts D n r i r.sorted h here moves).front

    back_is : (i d : ℕ) → i < n → d < D
        → drop (told_of (lengths_of D items) (sorted_number D items) d) (key_of d (item i))
        ≡ take (gap_of r.lengths r.sorted d) (drop (i * stride + place (gap_of r.lengths r.sorted) d) r.rests)
    back_is i d here lt =
        (λ j. drop (told_of (lengths j) (sorted j) d) (key i d here lt j))
        ∙ ap (drop (told_of r.lengths r.sorted d)) (sym (append_assoc (front_of r d) (middle_of r i d) (back_of D r i d)))
        ∙ drop_at (front_of r d ++ middle_of r i d) (back_of D r i d) (told_of r.lengths r.sorted d)
        (length-append (front_of r d) (middle_of r i d) ∙ (λ j. (key_parts D n r i d h here lt).front j + flagged (eqb d r.sorted) (get_or r.bytes i 0) j))

    rest_are : (i : ℕ) → i < n → rest D items (item i) ≡ take stride (drop (i * stride) r.rests)
    rest_are i here =
        sym (rest_is D items (item i))
        ∙ flat_map_agree (λ d. drop (told_of (lengths_of D items) (sorted_number D items) d) (key_of d (item i)))
        (λ d. take (gap_of r.lengths r.sorted d) (drop (i * stride + place (gap_of r.lengths r.sorted) d) r.rests)) 0 D
        (λ d low high. back_is i d here (omega arith))
        ∙ parts_joined (gap_of r.lengths r.sorted) r.rests (i * stride) D

    rests_are : rests D items ≡ r.rests
    rests_are =
        rests_raw D n numbers r
        ∙ flat_map_agree (λ i. rest D items (item i)) (λ i. take stride (drop (i * stride) r.rests)) 0 n (λ i low high. rest_are i (omega arith))
        ∙ chunks_joined stride n r.rests h.sized
