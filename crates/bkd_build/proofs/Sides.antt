-- The sides of a cell that items lie in, and the cell cut down to them.
use Rattle.std.proofs.Common.{◌≡◌, ◌≢◌, ◌⊎◌, ℕ, ◌+◌, ◌<◌, ◌≤◌, true, false, Bool, List, [], ◌∷◌, ◌++◌, map, length, get_or, take, drop, not}
use Rattle.std.proofs.Common.{refl, sym, ap, ◌∙◌, subst, arith, inl, inr, ℤ, pos, ◌+ℤ◌, ◌-ℤ◌, ◌≤ℤ◌, int_le, is_gt, unsigned_abs}
use Rattle.std.proofs.Common.{get_or-set_same, get_or-set_other}
use Rattle.std.specs.List.{All, Contains, count_by}
use Rattle.std.specs.List.Sorted.{IsPermutation}
use Rattle.std.specs.Int.{int_max, int_min}
use Rattle.std.proofs.lemmas.Bool.{cases_order, and_from}
use Rattle.std.proofs.lemmas.Int.{ints}
use Rattle.std.proofs.lemmas.List.{length-map, get_or-map, length-set}
use Rattle.std.proofs.lemmas.List.Elements.{All-push, All-map, All-contains, All-weaker, All-take, All-drop}
use Rattle.std.proofs.lemmas.List.Sorted.{All-permutation}
use Rattle.point_codec.specs.Points.{Item, Region, all_le, in_box}
use Rattle.point_codec.specs.Cells.{IsLeastCell, left_of, right_of}
use Rattle.point_codec.specs.Seen.{items_of}
use Rattle.point_codec.specs.declared.entries.Entry.{Entry}
use Rattle.point_codec.proofs.Corners.{both_true, left_keeps, right_keeps}
use Rattle.leaf_codec.specs.LeafOrder.{leaf_cmp}
use Rattle.bkd_build.specs.Cuts.{AllComeBefore}
use Rattle.bkd_build.specs.Extents.{coordinate, IsLeast, IsGreatest, HasExtent, IsWidest, IsWidestSide, LieIn, width}
use Rattle.bkd_build.proofs.ExtentLemmas.{all_le-length, coordinate_le, least_inside, greatest_inside, greatest_above}
use Rattle.bkd_build.proofs.Nodes.{items-IsPermutation, items-take, items-drop}

le_test : (x y : ℤ) → x ≤ℤ y → int_le x y ≡ true
le_test x y h = grind (arith, ints)

-- ---- the least and the greatest coordinate

-- l and g are coordinates of items, and none of the items passed lies beyond them
pub record Reaches (d : ℕ) (l g : ℤ) (passed items : List Item) : Type 0 where
  pub low : All (λ x. l ≤ℤ coordinate d x) passed
  pub high : All (λ x. coordinate d x ≤ℤ g) passed
  pub has_low : Contains (map (coordinate d) items) l
  pub has_high : Contains (map (coordinate d) items) g

low_of : (x y : ℤ) → (int_min x y ≤ℤ x) × (int_min x y ≤ℤ y)
low_of x y = (grind (arith, ints), grind (arith, ints))

high_of : (x y : ℤ) → (x ≤ℤ int_max x y) × (y ≤ℤ int_max x y)
high_of x y = (grind (arith, ints), grind (arith, ints))

one_low : (x y : ℤ) → (int_min x y ≡ x) ⊎ (int_min x y ≡ y)
one_low x y = grind (arith, ints)

one_high : (x y : ℤ) → (int_max x y ≡ x) ⊎ (int_max x y ≡ y)
one_high x y = grind (arith, ints)

le_trans : (x y z : ℤ) → x ≤ℤ y → y ≤ℤ z → x ≤ℤ z
le_trans x y z h k = grind (arith, ints)

one_of : (P : ℤ → Type 0) (x y z : ℤ) → (z ≡ x) ⊎ (z ≡ y) → P x → P y → P z
one_of P x y z (inl is) px py = subst P (sym is) px
one_of P x y z (inr is) px py = subst P (sym is) py

pub reaches_more : (d : ℕ) (l g : ℤ) (passed items : List Item) (x : Item) → Contains items x → Reaches d l g passed items
    → Reaches d (int_min l (coordinate d x)) (int_max g (coordinate d x)) (passed ++ x ∷ []) items
reaches_more d l g passed items x has h = record {
  low = All-push (λ (y : Item). int_min l (coordinate d x) ≤ℤ coordinate d y) passed x
      (All-weaker (λ (y : Item). l ≤ℤ coordinate d y) (λ (y : Item). int_min l (coordinate d x) ≤ℤ coordinate d y)
      (λ y k. le_trans (int_min l (coordinate d x)) l (coordinate d y) (low_of l (coordinate d x)).0 k) passed h.low) (low_of l (coordinate d x)).1;
  high = All-push (λ (y : Item). coordinate d y ≤ℤ int_max g (coordinate d x)) passed x
      (All-weaker (λ (y : Item). coordinate d y ≤ℤ g) (λ (y : Item). coordinate d y ≤ℤ int_max g (coordinate d x))
      (λ y k. le_trans (coordinate d y) g (int_max g (coordinate d x)) k (high_of g (coordinate d x)).0) passed h.high) (high_of g (coordinate d x)).1;
  has_low = one_of (Contains (map (coordinate d) items)) l (coordinate d x) (int_min l (coordinate d x)) (one_low l (coordinate d x)) h.has_low here;
  has_high = one_of (Contains (map (coordinate d) items)) g (coordinate d x) (int_max g (coordinate d x)) (one_high g (coordinate d x)) h.has_high here;
}
  where
    here : Contains (map (coordinate d) items) (coordinate d x)
    here = (
      has.0,
      omega (arith, has.1, length-map items (coordinate d)),
      get_or-map (coordinate d) items has.0 x (coordinate d x) has.1 ∙ ap (coordinate d) has.2,
    )

-- ---- items that lie in a cell

-- those of the least cell
pub cell_holds : (D : ℕ) (r : Region) (items : List Item) → length r.lo ≡ D → length r.hi ≡ D → IsLeastCell (map (λ x. x.at) items) r → LieIn D r items
cell_holds D r items lo hi told = record { lo_dims = lo; hi_dims = hi; each = each }
  where
    each : All (λ (x : Item). in_box r x.at ≡ true) items
    each i e below =
        let long : i < length (map (λ (y : Item). y.at) items) = omega (arith, length-map items (λ (y : Item). y.at)) in
        rw (get_or-map (λ (y : Item). y.at) items i e (get_or items i e).at below) at (told.holds i (get_or items i e).at long)

reaches : (l m g h : ℤ) (w : ℕ) → l ≤ℤ m → g ≤ℤ h → g ≡ m +ℤ pos w → w ≤ unsigned_abs (h -ℤ l)
reaches l m g h w low high e = grind (arith, ints)

-- they reach no farther than its side
extent_inside : (D d w : ℕ) (r : Region) (items : List Item) → d < D → LieIn D r items → HasExtent d w items → w ≤ width r d
extent_inside D d w r items lt lie h =
    let under : d < length r.lo = omega (arith, lie.lo_dims) in
    reaches (get_or r.lo d (pos 0)) h.least h.greatest (get_or r.hi d (pos 0)) w (least_inside d h.least r items under lie.each h.is_least).0
    (greatest_inside d h.greatest r items under lie.each h.is_greatest).1 h.is

-- so where they reach as far as its widest side that dimension is the widest one
pub widest_exact : (D d : ℕ) (r : Region) (items : List Item) → LieIn D r items → IsWidestSide D d r → HasExtent d (width r d) items → IsWidest D d items
widest_exact D d r items lie side exact = record {
  dimension = side.dimension;
  extent = width r d;
  has = exact;
  greatest = λ e w lt h. omega (arith, extent_inside D e w r items lt lie h, side.greatest e lt);
  first = λ e w lt h. omega (arith, extent_inside D e w r items (omega (arith, side.dimension)) lie h, side.first e lt);
}

-- ---- the cell cut at a value

long_as : (r : Region) (y : Item) → in_box r y.at ≡ true → length y.at ≡ length r.hi
long_as r y h = all_le-length y.at r.hi (both_true (all_le r.lo y.at) (all_le y.at r.hi) h).1

module _ (D d : ℕ) (m : ℤ) (r : Region) (items : List Item) (lt : d < D) (from : get_or r.lo d (pos 0) ≤ℤ m) (to : m ≤ℤ get_or r.hi d (pos 0))
    (lie : LieIn D r items) where
  same : length r.lo ≡ length r.hi
  same = lie.lo_dims ∙ sym lie.hi_dims

  under : d < length r.hi
  under = omega (arith, lie.hi_dims, lt)

  pub lie_left : All (λ (x : Item). coordinate d x ≤ℤ m) items → LieIn D (left_of r d m) items
  lie_left below = record {
    lo_dims = lie.lo_dims;
    hi_dims = length-set r.hi d m ∙ lie.hi_dims;
    each = λ i e has.
        let y : Item = get_or items i e in
        left_keeps r d m same under from to y.at (long_as r y (lie.each i e has))
        ∙ and_from (in_box r y.at) (int_le (coordinate d y) m) (lie.each i e has) (le_test (coordinate d y) m (below i e has));
  }

  pub lie_right : All (λ (x : Item). m ≤ℤ coordinate d x) items → LieIn D (right_of r d m) items
  lie_right above = record {
    lo_dims = length-set r.lo d m ∙ lie.lo_dims;
    hi_dims = lie.hi_dims;
    each = λ i e has.
        let y : Item = get_or items i e in
        right_keeps r d m same under from to y.at (long_as r y (lie.each i e has))
        ∙ and_from (in_box r y.at) (int_le m (coordinate d y)) (lie.each i e has) (le_test m (coordinate d y) (above i e has));
  }

-- cut at the greatest and at the least coordinate it still holds the items
pub cut_above : (D d : ℕ) (g : ℤ) (r : Region) (items : List Item) → d < D → LieIn D r items → IsGreatest d g items → LieIn D (left_of r d g) items
cut_above D d g r items lt lie h =
    let at = greatest_inside d g r items (omega (arith, lie.lo_dims, lt)) lie.each h in lie_left D d g r items lt at.0 at.1 lie h.bound

pub cut_below : (D d : ℕ) (m : ℤ) (r : Region) (items : List Item) → d < D → LieIn D r items → IsLeast d m items → LieIn D (right_of r d m) items
cut_below D d m r items lt lie h =
    let at = least_inside d m r items (omega (arith, lie.lo_dims, lt)) lie.each h in lie_right D d m r items lt at.0 at.1 lie h.bound

between : (l h : ℤ) → l ≤ℤ h → h ≡ l +ℤ pos (unsigned_abs (h -ℤ l))
between l h le = grind (arith, ints)

-- cut at both ends of the items it is as wide as these
pub exact_between : (D d : ℕ) (m g : ℤ) (r : Region) (items : List Item) → d < D → LieIn D r items → IsLeast d m items → IsGreatest d g items
    → HasExtent d (width (right_of (left_of r d g) d m) d) items
exact_between D d m g r items lt lie least greatest =
    let low : d < length r.lo = omega (arith, lie.lo_dims, lt) in
    let high : d < length r.hi = omega (arith, lie.hi_dims, lt) in
    rw (get_or-set_same r.lo d m (pos 0) low, get_or-set_same r.hi d g (pos 0) high) (record {
      least = m;
      greatest = g;
      is_least = least;
      is_greatest = greatest;
      is = between m g (greatest_above d g m items greatest least.reached);
    })

-- and its other sides stay
pub other_side : (d e : ℕ) (m g : ℤ) (r : Region) → e ≢ d → width (right_of (left_of r d g) d m) e ≡ width r e
other_side d e m g r apart = rw (get_or-set_other r.lo d e m (pos 0) apart, get_or-set_other r.hi d e g (pos 0) apart) refl

-- ---- the sides that aren't known to be the items' own

abbrev pub open_sides : List Bool → ℕ
open_sides exact = count_by not exact

-- ---- both halves of a node

-- the left items reach at most to the least coordinate of the right ones
pub lefts_below : (d : ℕ) (x : ℤ) (ls rs : List Item) → AllComeBefore (leaf_cmp d) ls rs → IsLeast d x rs → All (λ (y : Item). coordinate d y ≤ℤ x) ls
lefts_below d x ls rs apart value =
    All-weaker (λ (y : Item). All (λ (z : Item). is_gt (leaf_cmp d y z) ≡ false) rs) (λ (y : Item). coordinate d y ≤ℤ x)
    (λ y each. All-contains (λ (v : ℤ). coordinate d y ≤ℤ v) (map (coordinate d) rs) x
    (All-map (λ (v : ℤ). coordinate d y ≤ℤ v) (coordinate d) rs
    (All-weaker (λ (z : Item). is_gt (leaf_cmp d y z) ≡ false) (λ (z : Item). coordinate d y ≤ℤ coordinate d z) (λ z k. coordinate_le d y z k) rs each))
    value.reached)
    ls apart.each

module _ (D d rank : ℕ) (x : ℤ) (r : Region) (es fs : List (Entry D)) (p : IsPermutation es fs) (lt : d < D) (lie : LieIn D r (items_of es))
    (value : IsLeast d x (drop rank (items_of fs))) where
  moved : All (λ (y : Item). in_box r y.at ≡ true) (items_of fs)
  moved = All-permutation (λ (y : Item). in_box r y.at ≡ true) (items_of es) (items_of fs) (items-IsPermutation es fs p) lie.each

  lefts : LieIn D r (take rank (items_of fs))
  lefts = record {
    lo_dims = lie.lo_dims;
    hi_dims = lie.hi_dims;
    each = All-take (λ (y : Item). in_box r y.at ≡ true) rank (items_of fs) moved;
  }

  rights : LieIn D r (drop rank (items_of fs))
  rights = record {
    lo_dims = lie.lo_dims;
    hi_dims = lie.hi_dims;
    each = All-drop (λ (y : Item). in_box r y.at ≡ true) rank (items_of fs) moved;
  }

  pub value_inside : (get_or r.lo d (pos 0) ≤ℤ x) × (x ≤ℤ get_or r.hi d (pos 0))
  value_inside = least_inside d x r (drop rank (items_of fs)) (omega (arith, lie.lo_dims, lt)) rights.each value

  pub low_lies : AllComeBefore (leaf_cmp d) (take rank (items_of fs)) (drop rank (items_of fs)) → LieIn D (left_of r d x) (items_of (take rank fs))
  low_lies apart =
      subst (λ (ls : List Item). LieIn D (left_of r d x) ls) (items-take rank fs)
      (lie_left D d x r (take rank (items_of fs)) lt value_inside.0 value_inside.1 lefts
      (lefts_below d x (take rank (items_of fs)) (drop rank (items_of fs)) apart value))

  pub high_lies : LieIn D (right_of r d x) (items_of (drop rank fs))
  high_lies =
      subst (λ (rs : List Item). LieIn D (right_of r d x) rs) (items-drop rank fs)
      (lie_right D d x r (drop rank (items_of fs)) lt value_inside.0 value_inside.1 rights value.bound)

-- ---- one dimension more

pub first_side : (r : Region) → IsWidestSide 1 0 r
first_side r = record {
  dimension = omega arith;
  greatest = λ e lt. subst (λ (n : ℕ). width r n ≤ width r 0) (none e lt) (omega arith);
  first = λ e lt. absurd (omega arith);
}
  where
    none : (e : ℕ) → e < 1 → 0 ≡ e
    none e lt = omega arith

pub wider_side : (n d : ℕ) (r : Region) → IsWidestSide n d r → width r d < width r n → IsWidestSide (n + 1) n r
wider_side n d r h more = record { dimension = omega arith; greatest = upto; first = λ e lt. omega (arith, h.greatest e lt) }
  where
    upto : (e : ℕ) → e < n + 1 → width r e ≤ width r n
    upto e lt = elim (cases_order e n) [
      | inl same ↦ subst (λ (m : ℕ). width r m ≤ width r n) (sym same) (omega arith)
      | inr (inl less) ↦ omega (arith, h.greatest e less)
      | inr (inr beyond) ↦ absurd (omega arith)
    ]

pub same_side : (n d : ℕ) (r : Region) → IsWidestSide n d r → width r n ≤ width r d → IsWidestSide (n + 1) d r
same_side n d r h le = record { dimension = omega (arith, h.dimension); greatest = upto; first = h.first }
  where
    upto : (e : ℕ) → e < n + 1 → width r e ≤ width r d
    upto e lt = elim (cases_order e n) [
      | inl same ↦ subst (λ (m : ℕ). width r m ≤ width r d) (sym same) le
      | inr (inl less) ↦ h.greatest e less
      | inr (inr beyond) ↦ absurd (omega arith)
    ]
