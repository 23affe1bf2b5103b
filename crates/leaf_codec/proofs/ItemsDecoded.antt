-- The items of a leaf and their fields: each from the other, and both from the bytes.
use Rattle.std.proofs.Common.{◌≡◌, ◌<◌, ◌+◌, ◌^◌, ℕ, List, ◌++◌, map, length, get_or, refl, sym, ap, ◌∙◌, arith, append_assoc, pos}
use Rattle.std.specs.Prelude.{All}
use Rattle.std.specs.Int.{w16, to_be_bytes}
use Rattle.std.proofs.lemmas.List.{same_lists, get_or_default, get_or-map, length-map}
use Rattle.std.proofs.lemmas.List.FromFn.{length-map-range_with_len}
use Rattle.point_codec.specs.Points.{Item}
use Rattle.point_codec.specs.Keys.{key}
use Rattle.leaf_codec.specs.Dimensions.{key_of, sorted_dimension}
use Rattle.leaf_codec.specs.Leaves.{IsPoint}
use Rattle.leaf_codec.specs.Spelling.{numbers, prefixes, sorted_part, rests, spelling}
use Rattle.leaf_codec.specs.Words.{coordinate}
use Rattle.leaf_codec.specs.Raw.{RawNumbers, RawKeys, AreRawKeys, numbers_bytes, keys_bytes, key_at, point_at, raw_docs, offset_at, raw_item, raw_items}
use Rattle.leaf_codec.proofs.Bytes.{coordinate-key}
use Rattle.leaf_codec.proofs.KeysDecoded.{key_decoded}
use Rattle.leaf_codec.proofs.KeysLemmas.{AreKeysOf, keys_spelled, get_or-raw_items, length-raw_items, get_or-point_at}
use Rattle.leaf_codec.proofs.RawNumbersLemmas.{raw_numbers, docs_again, numbers_raw}
use Rattle.leaf_codec.proofs.ReadNumbers.{get_or-raw_docs}

-- the documents' numbers of the items, in their order
abbrev pub docs : List Item → List ℕ
docs items = map (λ x. x.doc) items

pub length-point_at : (D i : ℕ) (r : RawKeys) → length (point_at D r i) ≡ D
unfolding point_at
length-point_at D i r = length-map-range_with_len (λ d. coordinate (key_at D r i d)) 0 D

key_is : (d : ℕ) (x : Item) → key_of d x ≡ key (get_or x.at d (pos 0))
unfolding key_of
key_is d x = refl

pub raw_item_is : (D i : ℕ) (n : RawNumbers) (r : RawKeys) → raw_item D n r i ≡ record { doc = n.least + offset_at n i; at = point_at D r i }
unfolding raw_item
raw_item_is D i n r = refl

-- the point of an item is what the fields say
pub point_decoded : (D n i : ℕ) (items : List Item) (r : RawKeys) (x : Item) → AreRawKeys D n r → AreKeysOf D items r → i < length items
    → IsPoint D (get_or items i x).at → point_at D r i ≡ (get_or items i x).at
point_decoded D n i items r x h of here point =
    same_lists (point_at D r i) (get_or items i x).at (length-point_at D i r ∙ sym point.dims) (λ d e low.
    let under : d < D = omega (arith, low, length-point_at D i r) in
    let within : d < length (get_or items i x).at = omega (arith, under, point.dims) in
    let y = get_or items i x in
    get_or-point_at D i d r e under
    ∙ ap coordinate (key_decoded D n i d items r x h of here under ∙ key_is d y)
    ∙ coordinate-key (get_or y.at d (pos 0)) (point.fits d (pos 0) within)
    ∙ get_or_default y.at d (pos 0) e within)

pub items_decoded : (D : ℕ) (items : List Item) (r : RawKeys) → AreRawKeys D (length items) r → AreKeysOf D items r → All (λ x. x.doc < 2 ^ 24) items
    → All (λ x. IsPoint D x.at) items
    → raw_items D (length items) (raw_numbers (docs items)) r ≡ items
items_decoded D items r h of small points =
    same_lists (raw_items D (length items) n r) items (length-raw_items D (length items) n r) (λ i x low.
    let here : i < length items = omega (arith, low, length-raw_items D (length items) n r) in
    get_or-raw_items D (length items) i n r x here ∙ raw_item_is D i n r
    ∙ (λ j. record { doc = doc_is i x here j; at = point_decoded D (length items) i items r x h of here (points i x here) j }))
  where
    n : RawNumbers
    n = raw_numbers (docs items)

    all_small : All (λ m. m < 2 ^ 24) (docs items)
    all_small = Rattle.std.proofs.lemmas.List.Elements.All-map (λ m. m < 2 ^ 24) (λ (x : Item). x.doc) items small

    doc_is : (i : ℕ) (x : Item) → i < length items → n.least + offset_at n i ≡ (get_or items i x).doc
    doc_is i x here =
        sym (get_or-raw_docs (length items) n i 0 here)
        ∙ ap (λ k. get_or (raw_docs k n) i 0) (sym (length-map items (λ (y : Item). y.doc)))
        ∙ ap (λ (t : List ℕ). get_or t i 0) (docs_again (docs items) all_small)
        ∙ get_or-map (λ (y : Item). y.doc) items i x 0 here

-- the fields of a leaf's items spell it
pub leaf_spelled : (D : ℕ) (items : List Item) (n : RawNumbers) (r : RawKeys) → n ≡ raw_numbers (docs items) → AreKeysOf D items r
    → spelling D items ≡ to_be_bytes w16 (length items) ++ (numbers_bytes n ++ keys_bytes D r)
unfolding spelling
leaf_spelled D items n r numbers_are of =
    append_assoc ((to_be_bytes w16 (length items) ++ numbers (docs items)) ++ prefixes D items) (sorted_part (sorted_dimension D items) items) (rests D items)
    ∙ append_assoc (to_be_bytes w16 (length items) ++ numbers (docs items)) (prefixes D items) (sorted_part (sorted_dimension D items) items ++ rests D items)
    ∙ append_assoc (to_be_bytes w16 (length items)) (numbers (docs items)) (prefixes D items ++ (sorted_part (sorted_dimension D items) items ++ rests D items))
    ∙ (λ i. to_be_bytes w16 (length items) ++ ((numbers_raw (docs items) ∙ ap numbers_bytes (sym numbers_are)) i ++ keys_spelled D items r of i))
