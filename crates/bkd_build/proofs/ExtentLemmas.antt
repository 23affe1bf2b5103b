-- Least and greatest coordinates, extents, and the widest dimension: there is one of each, and they depend on the items and
-- not on their order.
use Rattle.std.proofs.Common.{◌≡◌, ℕ, ◌+◌, ◌<◌, true, false, List, [], ◌∷◌, map, length, get_or, take, drop}
use Rattle.std.proofs.Common.{refl, sym, ap, ◌∙◌, subst, arith, inl, inr, ℤ, pos, ◌≤ℤ◌, ◌<ℤ◌, int_le}
use Rattle.std.specs.List.{All, Contains}
use Rattle.std.specs.List.Sorted.{IsPermutation}
use Rattle.std.specs.declared.cmp.Ordering.{Ordering}
use Rattle.std.specs.declared.cmp.Ordering.TheVariants.{Less, Equal, Greater}
use Rattle.std.specs.Ordering.{is_gt, int_cmp, ordering_then, MatchOrdering}
use Rattle.std.proofs.lemmas.Bool.{cases_order, true≢false}
use Rattle.std.proofs.lemmas.Cmp.{int_ranked}
use Rattle.std.proofs.lemmas.Int.{ints}
use Rattle.std.proofs.lemmas.List.{length-take, get_or-take, drop_more}
use Rattle.std.proofs.lemmas.List.Elements.{All-cons, All-map, All-contains, All-weaker}
use Rattle.std.proofs.lemmas.List.Sorted.{All-permutation, Contains-permutation, IsPermutation-map, IsPermutation-sym}
use Rattle.point_codec.specs.Points.{Item, Region, all_le, in_box}
use Rattle.point_codec.proofs.Corners.{both_true, all_le_at}
use Rattle.leaf_codec.specs.LeafOrder.{leaf_cmp}
use Rattle.bkd_build.specs.Cuts.{IsCutAt}
use Rattle.bkd_build.specs.Extents.{coordinate, IsLeast, IsGreatest, HasExtent, IsWidest}

antisymmetric : (x y : ℤ) → x ≤ℤ y → y ≤ℤ x → x ≡ y
antisymmetric x y h k = grind (arith, ints)

-- ---- there is one

pub least_below : (d : ℕ) (m n : ℤ) (items : List Item) → IsLeast d m items → Contains (map (coordinate d) items) n → m ≤ℤ n
least_below d m n items h at = All-contains (λ (z : ℤ). m ≤ℤ z) (map (coordinate d) items) n (All-map (λ (z : ℤ). m ≤ℤ z) (coordinate d) items h.bound) at

pub greatest_above : (d : ℕ) (m n : ℤ) (items : List Item) → IsGreatest d m items → Contains (map (coordinate d) items) n → n ≤ℤ m
greatest_above d m n items h at = All-contains (λ (z : ℤ). z ≤ℤ m) (map (coordinate d) items) n (All-map (λ (z : ℤ). z ≤ℤ m) (coordinate d) items h.bound) at

pub one_least : (d : ℕ) (m n : ℤ) (items : List Item) → IsLeast d m items → IsLeast d n items → m ≡ n
one_least d m n items h k = antisymmetric m n (least_below d m n items h k.reached) (least_below d n m items k h.reached)

pub one_widest : (D d e : ℕ) (items : List Item) → IsWidest D d items → IsWidest D e items → d ≡ e
one_widest D d e items h k = elim (cases_order d e) [
  | inl same ↦ same
  | inr (inl less) ↦ absurd (omega (arith, k.first d h.extent less h.has, h.greatest e k.extent k.dimension k.has))
  | inr (inr more) ↦ absurd (omega (arith, h.first e k.extent more k.has, k.greatest d h.extent h.dimension h.has))
]

-- ---- in any order

pub IsLeast-IsPermutation : (d : ℕ) (m : ℤ) (xs ys : List Item) → IsPermutation xs ys → IsLeast d m xs → IsLeast d m ys
IsLeast-IsPermutation d m xs ys p h = record {
  bound = All-permutation (λ (x : Item). m ≤ℤ coordinate d x) xs ys p h.bound;
  reached = Contains-permutation (map (coordinate d) xs) (map (coordinate d) ys) m (IsPermutation-map (coordinate d) xs ys p) h.reached;
}

pub IsGreatest-IsPermutation : (d : ℕ) (m : ℤ) (xs ys : List Item) → IsPermutation xs ys → IsGreatest d m xs → IsGreatest d m ys
IsGreatest-IsPermutation d m xs ys p h = record {
  bound = All-permutation (λ (x : Item). coordinate d x ≤ℤ m) xs ys p h.bound;
  reached = Contains-permutation (map (coordinate d) xs) (map (coordinate d) ys) m (IsPermutation-map (coordinate d) xs ys p) h.reached;
}

pub HasExtent-IsPermutation : (d w : ℕ) (xs ys : List Item) → IsPermutation xs ys → HasExtent d w xs → HasExtent d w ys
HasExtent-IsPermutation d w xs ys p h = record {
  least = h.least;
  greatest = h.greatest;
  is_least = IsLeast-IsPermutation d h.least xs ys p h.is_least;
  is_greatest = IsGreatest-IsPermutation d h.greatest xs ys p h.is_greatest;
  is = h.is;
}

pub IsWidest-IsPermutation : (D d : ℕ) (xs ys : List Item) → IsPermutation xs ys → IsWidest D d xs → IsWidest D d ys
IsWidest-IsPermutation D d xs ys p h =
    let back = IsPermutation-sym xs ys p in
    record {
      dimension = h.dimension;
      extent = h.extent;
      has = HasExtent-IsPermutation d h.extent xs ys p h.has;
      greatest = λ e w lt k. h.greatest e w lt (HasExtent-IsPermutation e w ys xs back k);
      first = λ e w lt k. h.first e w lt (HasExtent-IsPermutation e w ys xs back k);
    }

-- ---- in a cell

pub all_le-length : (a b : List ℤ) → all_le a b ≡ true → length a ≡ length b
all_le-length [] [] h = refl
all_le-length [] (y ∷ ys) h = cc
all_le-length (x ∷ xs) [] h = cc
all_le-length (x ∷ xs) (y ∷ ys) h = let rest = all_le-length xs ys (both_true (int_le x y) (all_le xs ys) h).1 in omega (arith, rest)

pub coordinate_inside : (d : ℕ) (r : Region) (x : Item) → d < length r.lo → in_box r x.at ≡ true
    → (get_or r.lo d (pos 0) ≤ℤ coordinate d x) × (coordinate d x ≤ℤ get_or r.hi d (pos 0))
coordinate_inside d r x lt h =
    let at = both_true (all_le r.lo x.at) (all_le x.at r.hi) h in
    let lt' : d < length x.at = omega (arith, all_le-length r.lo x.at at.0) in
    (all_le_at r.lo x.at d at.0 lt, all_le_at x.at r.hi d at.1 lt')

-- the least coordinate of items that lie in a cell lies in it too
pub least_inside : (d : ℕ) (m : ℤ) (r : Region) (items : List Item) → d < length r.lo → All (λ x. in_box r x.at ≡ true) items → IsLeast d m items
    → (get_or r.lo d (pos 0) ≤ℤ m) × (m ≤ℤ get_or r.hi d (pos 0))
least_inside d m r items lt inside h = (
  All-contains (λ (z : ℤ). get_or r.lo d (pos 0) ≤ℤ z) (map (coordinate d) items) m
      (All-map (λ (z : ℤ). get_or r.lo d (pos 0) ≤ℤ z) (coordinate d) items
      (All-weaker (λ (x : Item). in_box r x.at ≡ true) (λ (x : Item). get_or r.lo d (pos 0) ≤ℤ coordinate d x) (λ x at. (coordinate_inside d r x lt at).0) items
      inside)) h.reached,
  All-contains (λ (z : ℤ). z ≤ℤ get_or r.hi d (pos 0)) (map (coordinate d) items) m
      (All-map (λ (z : ℤ). z ≤ℤ get_or r.hi d (pos 0)) (coordinate d) items
      (All-weaker (λ (x : Item). in_box r x.at ≡ true) (λ (x : Item). coordinate d x ≤ℤ get_or r.hi d (pos 0)) (λ x at. (coordinate_inside d r x lt at).1) items
      inside)) h.reached,
)

-- and so does the greatest
pub greatest_inside : (d : ℕ) (m : ℤ) (r : Region) (items : List Item) → d < length r.lo → All (λ x. in_box r x.at ≡ true) items → IsGreatest d m items
    → (get_or r.lo d (pos 0) ≤ℤ m) × (m ≤ℤ get_or r.hi d (pos 0))
greatest_inside d m r items lt inside h = (
  All-contains (λ (z : ℤ). get_or r.lo d (pos 0) ≤ℤ z) (map (coordinate d) items) m
      (All-map (λ (z : ℤ). get_or r.lo d (pos 0) ≤ℤ z) (coordinate d) items
      (All-weaker (λ (x : Item). in_box r x.at ≡ true) (λ (x : Item). get_or r.lo d (pos 0) ≤ℤ coordinate d x) (λ x at. (coordinate_inside d r x lt at).0) items
      inside)) h.reached,
  All-contains (λ (z : ℤ). z ≤ℤ get_or r.hi d (pos 0)) (map (coordinate d) items) m
      (All-map (λ (z : ℤ). z ≤ℤ get_or r.hi d (pos 0)) (coordinate d) items
      (All-weaker (λ (x : Item). in_box r x.at ≡ true) (λ (x : Item). coordinate d x ≤ℤ get_or r.hi d (pos 0)) (λ x at. (coordinate_inside d r x lt at).1) items
      inside)) h.reached,
)

-- ---- after a cut

first_decides : (a b : Ordering) → is_gt (ordering_then a b) ≡ false → is_gt a ≡ false
first_decides Less b h = refl
first_decides Equal b h = refl
first_decides Greater b h = h

not_greater : (x y : ℤ) (o : Ordering) → MatchOrdering o (x <ℤ y) (x ≡ y) (y <ℤ x) → is_gt o ≡ false → x ≤ℤ y
not_greater x y Less told h = omega (arith, ints, told)
not_greater x y Equal told h = grind (arith, ints)
not_greater x y Greater told h = absurd (true≢false h)

pub coordinate_le : (d : ℕ) (x y : Item) → is_gt (leaf_cmp d x y) ≡ false → coordinate d x ≤ℤ coordinate d y
unfolding leaf_cmp
coordinate_le d x y h =
    not_greater (coordinate d x) (coordinate d y) (int_cmp (coordinate d x) (coordinate d y)) (int_ranked (coordinate d x) (coordinate d y) _ refl)
    (first_decides (int_cmp (coordinate d x) (coordinate d y)) _ h)

at_itself : (x : ℤ) → x ≤ℤ x
at_itself x = grind (arith, ints)

-- where the items are cut behind the k-th, that one has the least coordinate of those from it on
pub least_of_cut : (d k : ℕ) (items : List Item) (x : Item) → k < length items → x ≡ get_or items k x → IsCutAt d (k + 1) items
    → IsLeast d (coordinate d x) (drop k items)
least_of_cut d k items x lt is cut = rw more (record {
  bound = All-cons (λ (y : Item). coordinate d x ≤ℤ coordinate d y) x (drop (k + 1) items) (at_itself (coordinate d x)) behind;
  reached = (0, omega arith, refl);
})
  where
    more : drop k items ≡ x ∷ drop (k + 1) items
    more = drop_more items k x lt ∙ ap (λ (y : Item). y ∷ drop (k + 1) items) (sym is)

    behind : All (λ (y : Item). coordinate d x ≤ℤ coordinate d y) (drop (k + 1) items)
    behind i e lt' =
        let here : k < length (take (k + 1) items) = omega (arith, length-take (k + 1) items) in
        let same : get_or (take (k + 1) items) k x ≡ x = get_or-take (k + 1) items k x (omega arith) ∙ sym is in
        coordinate_le d x (get_or (drop (k + 1) items) i e)
        (subst (λ (y : Item). is_gt (leaf_cmp d y (get_or (drop (k + 1) items) i e)) ≡ false) same (cut.each k x here i e lt'))
