-- The same entries have one canonical tree.
use Rattle.std.proofs.Common.{◌≡◌, ℕ, ◌<◌, ◌≤◌, List, ◌++◌, length, map, ℤ, Option, unwrap_or, sym, ap, ◌∙◌, subst, arith, true}
use Rattle.std.specs.List.Sorted.{IsPermutation, IsStrictlySortedBy}
use Rattle.std.proofs.lemmas.List.Sorted.{IsPermutation-sym, IsPermutation-trans, length_permutation, All-permutation, IsPermutation-map}
use Rattle.point_codec.specs.Points.{Item, Region, in_box}
use Rattle.point_codec.specs.Cells.{IsLeastCell}
use Rattle.point_codec.proofs.LeastCells.{least_cell_unique}
use Rattle.leaf_codec.specs.Dimensions.{sorted_dimension}
use Rattle.leaf_codec.specs.LeafOrder.{leaf_cmp}
use Rattle.leaf_codec.specs.Leaves.{AreLeaf}
use Rattle.leaf_codec.proofs.Permuted.{sorted_dimension-IsPermutation}
use Rattle.bkd_build.specs.Cuts.{AllComeBefore}
use Rattle.bkd_build.specs.Extents.{IsLeast}
use Rattle.bkd_build.specs.Canon.{KdTree, Leaf, Split, entries_of, left_count, IsCanonLeaf, IsCanonSplit, IsCanon, Canon}
use Rattle.bkd_build.proofs.Ascending.{ascends_strictly, one_ascending, same_items, one_cut}
use Rattle.bkd_build.proofs.ExtentLemmas.{one_least, one_widest, IsLeast-IsPermutation, IsWidest-IsPermutation}

-- a leaf's entries stand in one order
one_leaf_order : (D : ℕ) (xs ys : List Item) → AreLeaf D xs → AreLeaf D ys → IsPermutation xs ys → xs ≡ ys
one_leaf_order D xs ys a b p =
    let d : ℕ = unwrap_or (sorted_dimension D xs) 0 in
    let e : unwrap_or (sorted_dimension D ys) 0 ≡ d = ap (λ (o : Option ℕ). unwrap_or o 0) (sym (sorted_dimension-IsPermutation D xs ys p)) in
    one_ascending d xs ys (ascends_strictly d xs a.ascending) (ascends_strictly d ys (subst (λ (d : ℕ). IsStrictlySortedBy (leaf_cmp d) ys) e b.ascending))
    (same_items xs ys p)

same_leaf : (D leaf_size : ℕ) (xs ys : List Item) (r s : Region) → IsCanonLeaf D leaf_size xs r → IsCanonLeaf D leaf_size ys s → IsPermutation xs ys
    → Leaf xs r ≡ Leaf ys s
same_leaf D leaf_size xs ys r s a b p =
    let items : xs ≡ ys = one_leaf_order D xs ys a.entries b.entries p in
    let cells : r ≡ s =
    least_cell_unique (map (λ (x : Item). x.at) ys) r s (subst (λ (zs : List Item). IsLeastCell (map (λ (x : Item). x.at) zs) r) items a.cell) b.cell in
    λ i. Leaf (items i) (cells i)

-- the least cell is that of the points in any order
pub least_cell-IsPermutation : (xs ys : List Item) (r : Region) → IsPermutation xs ys → IsLeastCell (map (λ (x : Item). x.at) xs) r
    → IsLeastCell (map (λ (x : Item). x.at) ys) r
least_cell-IsPermutation xs ys r p h =
    let moved = IsPermutation-map (λ (x : Item). x.at) xs ys p in
    let points = map (λ (x : Item). x.at) xs in
    let others = map (λ (x : Item). x.at) ys in
    record {
      holds = All-permutation (λ (q : List ℤ). in_box r q ≡ true) points others moved h.holds;
      least = λ s all. h.least s (All-permutation (λ (q : List ℤ). in_box s q ≡ true) others points (IsPermutation-sym points others moved) all);
    }

-- a leaf has too few entries for an inner node
no_split : (leaf_size : ℕ) (xs ys : List Item) → IsPermutation xs ys → length xs ≤ leaf_size → leaf_size < length ys → ⊥
no_split leaf_size xs ys p few many = omega (arith, length_permutation xs ys p)

-- the halves of the same entries have the same entries
halves : (D leaf_size d e : ℕ) (x y : ℤ) (ls rs us vs : List Item) → IsCanonSplit D leaf_size d x ls rs → IsCanonSplit D leaf_size e y us vs
    → IsPermutation (ls ++ rs) (us ++ vs)
    → (d ≡ e) × (x ≡ y) × IsPermutation ls us × IsPermutation rs vs
halves D leaf_size d e x y ls rs us vs a b p =
    let dims : d ≡ e = one_widest D d e (us ++ vs) (IsWidest-IsPermutation D d (ls ++ rs) (us ++ vs) p a.widest) b.widest in
    let long : length ls ≡ length us = a.rank ∙ ap (left_count leaf_size) (sym (length_permutation (ls ++ rs) (us ++ vs) p)) ∙ sym b.rank in
    let parts = one_cut d ls rs us vs p long a.apart (subst (λ (d : ℕ). AllComeBefore (leaf_cmp d) us vs) (sym dims) b.apart) in
    (dims, one_least d x y vs (IsLeast-IsPermutation d x rs vs parts.1 a.value) (subst (λ (d : ℕ). IsLeast d y vs) (sym dims) b.value), parts.0, parts.1)

pub one_tree : (D leaf_size : ℕ) (t u : KdTree) → IsCanon D leaf_size t → IsCanon D leaf_size u → IsPermutation (entries_of t) (entries_of u) → t ≡ u
one_tree D leaf_size (Leaf xs r) (Leaf ys s) a b p = same_leaf D leaf_size xs ys r s a b p
one_tree D leaf_size (Leaf xs r) (Split e y m q) a b p = absurd (no_split leaf_size xs (entries_of m ++ entries_of q) p a.few b.0.many)
one_tree D leaf_size (Split d x l r) (Leaf ys s) a b p =
    absurd (no_split leaf_size ys (entries_of l ++ entries_of r) (IsPermutation-sym (entries_of l ++ entries_of r) ys p) b.few a.0.many)
one_tree D leaf_size (Split d x l r) (Split e y m q) a b p =
    let parts = halves D leaf_size d e x y (entries_of l) (entries_of r) (entries_of m) (entries_of q) a.0 b.0 p in
    let lefts = one_tree D leaf_size l m a.1 b.1 parts.2 in
    let rights = one_tree D leaf_size r q a.2 b.2 parts.3 in
    λ i. Split (parts.0 i) (parts.1 i) (lefts i) (rights i)

pub one_canon : (D leaf_size : ℕ) (xs ys : List Item) (r s : Region) (t u : KdTree) → IsPermutation xs ys → Canon D leaf_size xs r t → Canon D leaf_size ys s u
    → (r ≡ s) × (t ≡ u)
one_canon D leaf_size xs ys r s t u p a b =
    let between : IsPermutation (entries_of t) (entries_of u) =
    IsPermutation-trans (entries_of t) xs (entries_of u) (IsPermutation-sym xs (entries_of t) a.same) (IsPermutation-trans xs ys (entries_of u) p b.same) in
    (one_root xs ys r s p a.cell b.cell, one_tree D leaf_size t u a.canon b.canon between)
  where
    one_root : (xs ys : List Item) (r s : Region) → IsPermutation xs ys → IsLeastCell (map (λ (x : Item). x.at) xs) r
        → IsLeastCell (map (λ (x : Item). x.at) ys) s → r ≡ s
    one_root xs ys r s p h k =
        least_cell_unique (map (λ (x : Item). x.at) ys) r s (least_cell-IsPermutation xs ys r p h) k
