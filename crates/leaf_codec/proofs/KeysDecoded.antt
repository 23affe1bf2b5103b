-- Items are what the fields of their keys say.
use Rattle.std.proofs.Common.{◌≡◌, ◌<◌, ◌+◌, ◌-◌, ◌*◌, ℕ, suc, Bool, true, false, List, [], ◌∷◌, ◌++◌, length, get_or, take, drop}
use Rattle.std.proofs.Common.{refl, sym, ap, ◌∙◌, arith, cond, eqb, append-nil, take-append-drop, drop-drop, length-take, length-drop}
use Rattle.std.specs.Prelude.{Contains}
use Rattle.std.specs.List.{flat_map, range_with_len}
use Rattle.std.proofs.lemmas.Bool.{eqb-true}
use Rattle.std.proofs.lemmas.List.{same_lists, get_or_default, get_or-map, get_or-take}
use Rattle.point_codec.specs.Points.{Item}
use Rattle.leaf_codec.specs.Dimensions.{key_of, key_byte, shared_prefix, told_of}
use Rattle.leaf_codec.specs.Spelling.{shared_bytes, rest, rests}
use Rattle.leaf_codec.specs.Raw.{RawKeys, AreRawKeys, gap_of, place_of, key_at}
use Rattle.leaf_codec.proofs.Chunks.{place, part_at, chunk_at}
use Rattle.leaf_codec.proofs.KeysAgain.{front_of, back_of, key_at_is}
use Rattle.leaf_codec.proofs.KeysLemmas.{AreKeysOf}
use Rattle.leaf_codec.proofs.KeysOf.{length-shared_bytes, length-rest_of}
use Rattle.leaf_codec.proofs.NoneVaries.{shared_same}
use Rattle.leaf_codec.proofs.Written.{lengths_of, sorted_number, get_or-lengths, rest_is, shared_bytes_is, shared_prefix-le, length-key_of}
use lib.Seq.{drop-cons}

-- a key from its parts
pub key_joined : (same : Bool) (key : List ℕ) (p : ℕ) → (same ≡ true → p < length key)
    → take p key ++ (cond same (get_or key p 0 ∷ []) [] ++ drop (p + cond same 1 0) key) ≡ key
key_joined true key p lt =
    let next : p + 1 ≡ suc p = omega arith in
    ap (λ (t : List ℕ). take p key ++ t) (ap (λ n. get_or key p 0 ∷ drop n key) next ∙ sym (drop-cons key p 0 (lt refl))) ∙ take-append-drop p key
key_joined false key p lt =
    let same : p + 0 ≡ p = omega arith in
    ap (λ n. take p key ++ drop n key) same ∙ take-append-drop p key

-- an item at a place is among the items
pub at_place : (items : List Item) (i : ℕ) (x y : Item) → i < length items → get_or items i x ≡ y → Contains items y
at_place items i x y lt is = (i, lt, get_or_default items i y x lt ∙ is)

rests_chunk : (D i : ℕ) (items : List Item) (x : Item) → i < length items → (m : ℕ)
    → ((k : ℕ) → k < length items → length (rest D items (get_or items k x)) ≡ m) → take m (drop (i * m) (rests D items)) ≡ rest D items (get_or items i x)
unfolding rests
rests_chunk D i items x here m long = chunk_at (rest D items) m items i x here long

-- the key of an item in a dimension is what the fields say
pub key_decoded : (D n i d : ℕ) (items : List Item) (r : RawKeys) (x : Item) → AreRawKeys D n r → AreKeysOf D items r → i < length items → d < D
    → key_at D r i d ≡ key_of d (get_or items i x)
key_decoded D n i d items r x h of here lt =
    key_at_is D r i d
    ∙ (λ j. front j ++ (middle (eqb d r.sorted) refl j ++ back j))
    ∙ key_joined (eqb d r.sorted) key p (λ same. let is = eqb-true d r.sorted same in
    omega (
      arith,
      length-key_of d y,
      ap (λ (t : List ℕ). get_or t d 0) of.lengths,
      get_or-lengths D d items lt,
      ap (λ k. get_or r.lengths k 0) is,
      h.sorts.moves (omega (arith, is, lt, h.dims)),
    ))
  where
    y : Item
    y = get_or items i x

    key : List ℕ
    key = key_of d y

    first : Item
    first = get_or items 0 x

    p : ℕ
    p = shared_prefix d items

    wide : ℕ → ℕ
    wide e = get_or r.lengths e 0

    wide_is : (e : ℕ) → e < D → wide e ≡ shared_prefix e items
    wide_is e under = ap (λ (t : List ℕ). get_or t e 0) of.lengths ∙ get_or-lengths D e items under

    some : 0 < length items
    some = omega (arith, here)

    same_front : take p (key_of d first) ≡ take p key
    same_front = same_lists (take p (key_of d first)) (take p key)
        (length-take p (key_of d first) ∙ (λ j. Rattle.std.proofs.Common.min p ((length-key_of d first ∙ sym (length-key_of d y)) j)) ∙ sym (length-take p key))
        (λ k e low.
        let under : k < p = omega (arith, low, length-take p (key_of d first)) in
        let four : k < 4 = omega (arith, under, shared_prefix-le d items) in
        get_or-take p (key_of d first) k e under ∙ get_or_default (key_of d first) k e 0 (omega (arith, four, length-key_of d first))
        ∙ shared_same d k 0 i items first y under (at_place items 0 x first some refl) (at_place items i x y here refl)
        ∙ get_or_default key k 0 e (omega (arith, four, length-key_of d y)) ∙ sym (get_or-take p key k e under))

    front : front_of r d ≡ take p key
    front =
        (λ j. take (wide d) (drop (place wide d) ((of.prefixes ∙ sym (append-nil (flat_map (λ e. shared_bytes e items) (range_with_len 0 D)))) j)))
        ∙ part_at (λ e. shared_bytes e items) wide D d [] lt (λ e under. length-shared_bytes e items some ∙ sym (wide_is e under))
        ∙ shared_bytes_is d items first some (get_or_default items 0 first x some)
        ∙ same_front

    middle : (same : Bool) → eqb d r.sorted ≡ same → cond same (get_or r.bytes i 0 ∷ []) [] ≡ cond same (get_or key p 0 ∷ []) []
    middle false e = refl
    middle true e =
        let is = eqb-true d r.sorted e in
        let moves : r.sorted < D = omega (arith, is, lt) in
        ap (λ n. n ∷ [])
        (ap (λ (t : List ℕ). get_or t i 0) (of.bytes moves) ∙ get_or-map (key_byte r.sorted (shared_prefix r.sorted items)) items i x 0 here
        ∙ ap (λ k. key_byte k (shared_prefix k items) y) (sym is))

    told_at : (e : ℕ) → ℕ
    told_at e = told_of (lengths_of D items) (sorted_number D items) e

    gap : ℕ → ℕ
    gap e = gap_of (lengths_of D items) (sorted_number D items) e

    row : ℕ
    row = i * place gap D

    part : ℕ → List ℕ
    part e = drop (told_at e) (key_of e y)

    chunk : take (place gap D) (drop row (rests D items)) ≡ flat_map part (range_with_len 0 D)
    chunk = rests_chunk D i items x here (place gap D) (λ k _. length-rest_of D items (get_or items k x)) ∙ sym (rest_is D items y)

    back : back_of D r i d ≡ drop (p + cond (eqb d r.sorted) 1 0) key
    back =
        (λ j. take (gap_of (of.lengths j) (of.sorted j) d)
        (drop (i * place_of (of.lengths j) (of.sorted j) D + place_of (of.lengths j) (of.sorted j) d) (of.rests j)))
        ∙ ap (λ n. take (gap d) (drop n (rests D items))) (omega arith)
        ∙ ap (take (gap d))
        (sym (drop-drop (place gap d) row (rests D items))
        ∙ ap (drop (place gap d))
        (sym (take-append-drop (place gap D) (drop row (rests D items))) ∙ ap (λ (t : List ℕ). t ++ drop (place gap D) (drop row (rests D items))) chunk))
        ∙ part_at part gap D d (drop (place gap D) (drop row (rests D items))) lt
        (λ e under. length-drop (told_at e) (key_of e y) ∙ ap (λ n. n - told_at e) (length-key_of e y))
        ∙ (λ j. drop (get_or-lengths D d items lt j + cond (eqb d (sym of.sorted j)) 1 0) key)
