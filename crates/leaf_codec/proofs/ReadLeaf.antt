-- A leaf is read where its bytes spell one, and then its items are those.
use Rattle.std.proofs.Common.{◌≡◌, ◌<◌, ◌≤◌, ◌+◌, ◌*◌, ◌/◌, ◌%◌, ◌^◌, ℕ, List, ◌++◌, length, get_or, drop, refl}
use Rattle.std.proofs.Common.{sym, ap, subst, ◌∙◌, arith, ltb, inl, inr, Option, Some, None, unwrap_or, ℤ}
use Rattle.std.proofs.Math.Nat.{div-le_self, div-le_of_le-mul}
use Rattle.std.specs.Prelude.{All, FitsSigned, if◌then◌else◌, nat_lt, IfNone}
use Rattle.std.specs.Int.{w16, w32, to_be_bytes}
use Rattle.std.specs.List.Sorted.{IsStrictlySortedBy}
use Rattle.std.proofs.lemmas.Bool.{cases_lt, lt-ltb, le-ltb, cond-true, cond-false}
use Rattle.std.proofs.lemmas.List.{same_lists, get_or-map, length-map, append_cancel_left}
use Rattle.std.proofs.lemmas.List.Elements.{All-map}
use Rattle.point_codec.specs.Points.{Item, Region}
use Rattle.leaf_codec.specs.declared.read_numbers.Numbers.{Numbers}
use Rattle.leaf_codec.specs.declared.read_parts.Parts.{Parts}
use Rattle.leaf_codec.specs.Dimensions.{sorted_dimension}
use Rattle.leaf_codec.specs.LeafOrder.{leaf_cmp}
use Rattle.leaf_codec.specs.Leaves.{IsPoint, SpellsLeaf, SpellsLeafIn, leaf_limit}
use Rattle.leaf_codec.specs.Spelling.{form, least}
use Rattle.leaf_codec.specs.Raw.{RawNumbers, AreRawNumbers, RawKeys, AreRawKeys, numbers_bytes, keys_bytes, key_at, point_at, raw_docs, raw_item, raw_items}
use Rattle.leaf_codec.specs.Views.{BeginsWithNumbers, BeginsWithKeys, AreCanonNumbers, AreDimensionsOf, AscendInside, items_said, raw_numbers_of, raw_keys_of}
use Rattle.leaf_codec.proofs.Bytes.{coordinate-fits}
use Rattle.leaf_codec.proofs.ItemsDecoded.{docs, items_decoded, leaf_spelled, length-point_at, raw_item_is}
use Rattle.leaf_codec.proofs.KeysAgain.{keys_again}
use Rattle.leaf_codec.proofs.KeysLemmas.{AreKeysOf, keys_front, same_keys_of, get_or-raw_items, length-raw_items, get_or-point_at}
use Rattle.leaf_codec.proofs.KeysOf.{raw_keys, raw_keys_are}
use Rattle.leaf_codec.proofs.KeysOf.{raw_keys_of as keys_are}
use Rattle.leaf_codec.proofs.Permuted.{leads}
use Rattle.leaf_codec.proofs.RawNumbersLemmas.{raw_numbers, docs_again, raw_numbers_are, numbers_again, numbers_front}
use Rattle.leaf_codec.proofs.ReadKeys.{length-key_at, AreBytes-key_at}
use Rattle.leaf_codec.proofs.ReadNumbers.{length-raw_docs, get_or-raw_docs}
use Rattle.byte_cursor.proofs.Lists.{split_same}

pub if_none : {X : Type 0} (o : Option X) (P : Type 0) → P → IfNone o P
if_none None P h = h
if_none (Some x) P h = tt

-- the fields of a leaf's items, in its bytes
pub record SpelledFields (D count : ℕ) (b : List ℕ) (items : List Item) : Type 0 where
  pub numbers : AreRawNumbers count (raw_numbers (docs items))
  pub keys : AreRawKeys D count (raw_keys D items)
  pub is : b ≡ to_be_bytes w16 count ++ (numbers_bytes (raw_numbers (docs items)) ++ keys_bytes D (raw_keys D items))

small_docs : (items : List Item) → All (λ x. x.doc < 2 ^ 24) items → All (λ n. n < 2 ^ 24) (docs items)
small_docs items h = All-map (λ (n : ℕ). n < 2 ^ 24) (λ (x : Item). x.doc) items h

pub spelled_fields : (D count : ℕ) (b : List ℕ) (cell : Region) (items : List Item) → SpellsLeafIn D b count cell items → SpelledFields D count b items
spelled_fields D count b cell items h =
    let leaf = h.spells.are_leaf in
    let long : length (docs items) ≡ count = length-map items (λ (x : Item). x.doc) ∙ h.counted in
    record {
      numbers = subst (λ (n : ℕ). AreRawNumbers n (raw_numbers (docs items))) long
          (raw_numbers_are (docs items) (omega (arith, leaf.some, long, h.counted)) (small_docs items leaf.numbers));
      keys = subst (λ (n : ℕ). AreRawKeys D n (raw_keys D items)) h.counted (raw_keys_are D items leaf.some);
      is = h.spells.is ∙ leaf_spelled D items (raw_numbers (docs items)) (raw_keys D items) refl (keys_are D items)
          ∙ ap (λ (n : ℕ). to_be_bytes w16 n ++ (numbers_bytes (raw_numbers (docs items)) ++ keys_bytes D (raw_keys D items))) h.counted;
    }

-- what was read of the numbers is so
pub after_numbers : (D count at : ℕ) (b : List ℕ) (cell : Region) (items : List Item) (n : Numbers) → SpellsLeafIn D b count cell items
    → BeginsWithNumbers b count n at
    → (raw_numbers_of n ≡ raw_numbers (docs items)) × (drop at b ≡ keys_bytes D (raw_keys D items))
after_numbers D count at b cell items n h begins =
    let f = spelled_fields D count b cell items h in
    numbers_front count (raw_numbers_of n) (raw_numbers (docs items)) (drop at b) (keys_bytes D (raw_keys D items))
    (subst (λ (k : ℕ). AreRawNumbers k (raw_numbers_of n)) begins.counted begins.numbers.raw) f.numbers
    (append_cancel_left (to_be_bytes w16 count) (numbers_bytes (raw_numbers_of n) ++ drop at b)
    (numbers_bytes (raw_numbers (docs items)) ++ keys_bytes D (raw_keys D items)) (sym begins.parts ∙ f.is))

pub after_keys : (D count at : ℕ) (b : List ℕ) (cell : Region) (items : List Item) (n : Numbers) (p : Parts) → SpellsLeafIn D b count cell items
    → BeginsWithNumbers b count n at → BeginsWithKeys (drop at b) D count p → AreKeysOf D items (raw_keys_of p)
after_keys D count at b cell items n p h begins keys =
    let f = spelled_fields D count b cell items h in
    same_keys_of D items (raw_keys_of p) (raw_keys D items)
    (keys_front D count (raw_keys_of p) (raw_keys D items) (subst (λ (k : ℕ). AreRawKeys D k (raw_keys_of p)) keys.counted keys.keys.raw) f.keys
    (sym keys.is ∙ (after_numbers D count at b cell items n h begins).1))
    (keys_are D items)

pub said_are : (D count at : ℕ) (b : List ℕ) (cell : Region) (items : List Item) (n : Numbers) (p : Parts) → SpellsLeafIn D b count cell items
    → BeginsWithNumbers b count n at → BeginsWithKeys (drop at b) D count p → items_said D n p ≡ items
said_are D count at b cell items n p h begins keys =
    let leaf = h.spells.are_leaf in
    let long : n.count ≡ length items = begins.counted ∙ sym h.counted in
    let raw : AreRawKeys D (length items) (raw_keys_of p) = subst (λ (k : ℕ). AreRawKeys D k (raw_keys_of p)) (keys.counted ∙ sym h.counted) keys.keys.raw in
    (λ i. raw_items D (long i) ((after_numbers D count at b cell items n h begins).0 i) (raw_keys_of p))
    ∙ items_decoded D items (raw_keys_of p) raw (after_keys D count at b cell items n p h begins keys) leaf.numbers leaf.points

canonical : (ns : List ℕ) → All (λ n. n < 2 ^ 24) ns → AreCanonNumbers (length ns) (raw_numbers ns)
canonical ns small =
    let again = docs_again ns small in
    record { form_is = ap form again; least_is = ap least again; small = subst (λ (t : List ℕ). All (λ n. n < 2 ^ 24) t) (sym again) small }

pub canonical_of : (D count at : ℕ) (b : List ℕ) (cell : Region) (items : List Item) (n : Numbers) → SpellsLeafIn D b count cell items
    → BeginsWithNumbers b count n at → AreCanonNumbers n.count (raw_numbers_of n)
canonical_of D count at b cell items n h begins =
    let long : length (docs items) ≡ n.count = length-map items (λ (x : Item). x.doc) ∙ h.counted ∙ sym begins.counted in
    subst (λ (r : RawNumbers). AreCanonNumbers n.count r) (sym (after_numbers D count at b cell items n h begins).0)
    (subst (λ (k : ℕ). AreCanonNumbers k (raw_numbers (docs items))) long (canonical (docs items) (small_docs items h.spells.are_leaf.numbers)))

pub dimensions_of : (D count at : ℕ) (b : List ℕ) (cell : Region) (items : List Item) (n : Numbers) (p : Parts) → SpellsLeafIn D b count cell items
    → BeginsWithNumbers b count n at → BeginsWithKeys (drop at b) D count p
    → AreDimensionsOf D (raw_items D p.count (raw_numbers_of n) (raw_keys_of p)) p.lengths.now p.sorted
dimensions_of D count at b cell items n p h begins keys =
    let of = after_keys D count at b cell items n p h begins keys in
    let said : raw_items D p.count (raw_numbers_of n) (raw_keys_of p) ≡ items =
    ap (λ k. raw_items D k (raw_numbers_of n) (raw_keys_of p)) (keys.counted ∙ sym begins.counted) ∙ said_are D count at b cell items n p h begins keys in
    subst (λ (t : List Item). AreDimensionsOf D t p.lengths.now p.sorted) (sym said) (record { lengths_are = sym of.lengths; sorted_is = sym of.sorted })

-- the dimension that leads is the sorted one, or 0 where there is none
leads_by : (D s : ℕ) (items : List Item) → s ≡ unwrap_or (sorted_dimension D items) D → (if nat_lt s D then s else 0) ≡ unwrap_or (sorted_dimension D items) 0
leads_by D s items is =
    let l = leads D items in
    elim (cases_lt s D) [
      | inl lt ↦ cond-true (ltb s D) s 0 (lt-ltb s D lt) ∙ is ∙ sym (l.0 (omega (arith, is, lt)))
      | inr le ↦ cond-false (ltb s D) s 0 (le-ltb s D le) ∙ sym (l.1 (omega (arith, is, le)))
    ]

pub order_of : (D count at : ℕ) (b : List ℕ) (cell : Region) (items : List Item) (n : Numbers) (p : Parts) → SpellsLeafIn D b count cell items
    → BeginsWithNumbers b count n at → BeginsWithKeys (drop at b) D count p
    → AscendInside (if nat_lt p.sorted D then p.sorted else 0) cell (items_said D n p)
order_of D count at b cell items n p h begins keys =
    let of = after_keys D count at b cell items n p h begins keys in
    subst (λ (t : List Item). AscendInside (if nat_lt p.sorted D then p.sorted else 0) cell t) (sym (said_are D count at b cell items n p h begins keys))
    (subst (λ (d : ℕ). AscendInside d cell items) (sym (leads_by D p.sorted items of.sorted))
    (record { ascending = h.spells.are_leaf.ascending; inside = h.inside }))

-- ---- what was read is spelled so

docs_raw : (D n : ℕ) (numbers : RawNumbers) (r : RawKeys) → docs (raw_items D n numbers r) ≡ raw_docs n numbers
docs_raw D n numbers r =
    let items = raw_items D n numbers r in
    same_lists (docs items) (raw_docs n numbers) (length-map items (λ (x : Item). x.doc) ∙ length-raw_items D n numbers r ∙ sym (length-raw_docs n numbers))
    (λ i e lt.
    let here : i < n = omega (arith, lt, length-map items (λ (x : Item). x.doc), length-raw_items D n numbers r) in
    let x = raw_item D numbers r i in
    get_or-map (λ (y : Item). y.doc) items i x e (omega (arith, here, length-raw_items D n numbers r))
    ∙ ap (λ (y : Item). y.doc) (get_or-raw_items D n i numbers r x here ∙ raw_item_is D i numbers r)
    ∙ sym (get_or-raw_docs n numbers i e here))

point_is : (D n i : ℕ) (r : RawKeys) → AreRawKeys D n r → i < n → IsPoint D (point_at D r i)
point_is D n i r h here = record {
  dims = length-point_at D i r;
  fits = λ d e lt.
      let under : d < D = omega (arith, lt, length-point_at D i r) in
      subst (λ (x : ℤ). FitsSigned w32 x) (sym (get_or-point_at D i d r e under))
      (coordinate-fits (key_at D r i d) (length-key_at D n r i d h here under) (AreBytes-key_at D n r i d h here));
}

pub spelled_from : (D count at : ℕ) (b : List ℕ) (cell : Region) (n : Numbers) (p : Parts) → 1 ≤ count → count ≤ leaf_limit D
    → BeginsWithNumbers b count n at → BeginsWithKeys (drop at b) D count p
    → AreCanonNumbers n.count (raw_numbers_of n) → AreDimensionsOf D (raw_items D p.count (raw_numbers_of n) (raw_keys_of p)) p.lengths.now p.sorted
    → AscendInside (if nat_lt p.sorted D then p.sorted else 0) cell (items_said D n p)
    → SpellsLeafIn D b count cell (items_said D n p)
spelled_from D count at b cell n p some few begins keys right dims order =
    let numbers = raw_numbers_of n in
    let r = raw_keys_of p in
    let items = items_said D n p in
    let same : p.count ≡ n.count = keys.counted ∙ sym begins.counted in
    let raw : AreRawKeys D n.count r = subst (λ (k : ℕ). AreRawKeys D k r) same keys.keys.raw in
    let found : AreDimensionsOf D items p.lengths.now p.sorted =
    subst (λ (k : ℕ). AreDimensionsOf D (raw_items D k numbers r) p.lengths.now p.sorted) same dims in
    let of : AreKeysOf D items r = keys_again D n.count numbers r raw (omega (arith, some, begins.counted)) found.lengths_are found.sorted_is in
    let long : length items ≡ count = length-raw_items D n.count numbers r ∙ begins.counted in
    let said = docs_raw D n.count numbers r in
    record {
      spells = record {
        are_leaf = record {
          some = omega (arith, long, some);
          few = omega (arith, long, few);
          numbers = λ i x lt.
              let here : i < n.count = omega (arith, lt, length-raw_items D n.count numbers r) in
              omega (
                arith,
                right.small i 0 (omega (arith, here, length-raw_docs n.count numbers)),
                get_or-raw_docs n.count numbers i 0 here,
                ap (λ (y : Item). y.doc) (get_or-raw_items D n.count i numbers r x here ∙ raw_item_is D i numbers r),
              );
          points = λ i x lt.
              let here : i < n.count = omega (arith, lt, length-raw_items D n.count numbers r) in
              subst (λ (q : List ℤ). IsPoint D q) (sym (ap (λ (y : Item). y.at) (get_or-raw_items D n.count i numbers r x here ∙ raw_item_is D i numbers r)))
              (point_is D n.count i r raw here);
          ascending = subst (λ (d : ℕ). IsStrictlySortedBy (leaf_cmp d) items) (leads_by D p.sorted items (sym found.sorted_is)) order.ascending;
        };
        is = begins.parts ∙ ap (λ (t : List ℕ). to_be_bytes w16 count ++ (numbers_bytes numbers ++ t)) keys.is
            ∙ ap (λ (k : ℕ). to_be_bytes w16 k ++ (numbers_bytes numbers ++ keys_bytes D r)) (sym long)
            ∙ sym (leaf_spelled D items numbers r
            (sym (numbers_again n.count numbers begins.numbers.raw right.form_is right.least_is) ∙ ap raw_numbers (sym said)) of);
      };
      counted = long;
      inside = order.inside;
    }

-- ---- bytes spell one leaf at most

two_same : (m n : ℕ) → m < 65536 → n < 65536 → to_be_bytes w16 m ≡ to_be_bytes w16 n → m ≡ n
two_same m n hm hn e =
    let high : m / 256 % 256 ≡ n / 256 % 256 = ap (λ (t : List ℕ). get_or t 0 0) e in
    let low : m % 256 ≡ n % 256 = ap (λ (t : List ℕ). get_or t 1 0) e in
    omega (arith, high, low)

pub within_500 : (D k : ℕ) → 1 ≤ D → k ≤ leaf_limit D → k ≤ 500
within_500 D k some le = omega (arith, div-le_of_le-mul (4 + 4 * D) {m = 4000} {n = 500} (omega arith), le)

few_items : (D k : ℕ) → k ≤ leaf_limit D → k < 65536
few_items D k le = omega (arith, div-le_self 4000 (4 + 4 * D), le)

pub one_leaf : (D : ℕ) (b : List ℕ) (xs ys : List Item) → SpellsLeaf D b xs → SpellsLeaf D b ys → xs ≡ ys
one_leaf D b xs ys hx hy =
    let n = length xs in
    let m = length ys in
    let numbers_x = raw_numbers (docs xs) in
    let numbers_y = raw_numbers (docs ys) in
    let keys_x = raw_keys D xs in
    let keys_y = raw_keys D ys in
    let e : to_be_bytes w16 n ++ (numbers_bytes numbers_x ++ keys_bytes D keys_x) ≡ to_be_bytes w16 m ++ (numbers_bytes numbers_y ++ keys_bytes D keys_y) =
    sym (hx.is ∙ leaf_spelled D xs numbers_x keys_x refl (keys_are D xs)) ∙ hy.is ∙ leaf_spelled D ys numbers_y keys_y refl (keys_are D ys) in
    let first = split_same (to_be_bytes w16 n) (to_be_bytes w16 m) (numbers_bytes numbers_x ++ keys_bytes D keys_x)
    (numbers_bytes numbers_y ++ keys_bytes D keys_y) refl e in
    let same : n ≡ m = two_same n m (few_items D n hx.are_leaf.few) (few_items D m hy.are_leaf.few) first.0 in
    let long_x : length (docs xs) ≡ m = length-map xs (λ (x : Item). x.doc) ∙ same in
    let long_y : length (docs ys) ≡ m = length-map ys (λ (x : Item). x.doc) in
    let are_x : AreRawNumbers m numbers_x =
    subst (λ (k : ℕ). AreRawNumbers k numbers_x) long_x
    (raw_numbers_are (docs xs) (omega (arith, hx.are_leaf.some, long_x, same)) (small_docs xs hx.are_leaf.numbers)) in
    let are_y : AreRawNumbers m numbers_y =
    subst (λ (k : ℕ). AreRawNumbers k numbers_y) long_y
    (raw_numbers_are (docs ys) (omega (arith, hy.are_leaf.some, long_y)) (small_docs ys hy.are_leaf.numbers)) in
    let second = numbers_front m numbers_x numbers_y (keys_bytes D keys_x) (keys_bytes D keys_y) are_x are_y first.1 in
    let raw_x = raw_keys_are D xs hx.are_leaf.some in
    let raw_m : AreRawKeys D m keys_x = subst (λ (k : ℕ). AreRawKeys D k keys_x) same raw_x in
    let of : AreKeysOf D ys keys_x =
    same_keys_of D ys keys_x keys_y (keys_front D m keys_x keys_y raw_m (raw_keys_are D ys hy.are_leaf.some) second.1) (keys_are D ys) in
    sym (items_decoded D xs keys_x raw_x (keys_are D xs) hx.are_leaf.numbers hx.are_leaf.points)
    ∙ (λ i. raw_items D (same i) (second.0 i) keys_x)
    ∙ items_decoded D ys keys_x raw_m of hy.are_leaf.numbers hy.are_leaf.points
