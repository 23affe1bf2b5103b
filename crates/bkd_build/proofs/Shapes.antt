-- The shape of a canonical tree follows from the number of its entries.
use Rattle.std.proofs.Common.{◌≡◌, ℕ, zero, suc, add-one, ◌+◌, ◌-◌, ◌*◌, ◌/◌, ◌<◌, ◌≤◌, ℤ, List, [], ◌++◌, length, sym, ap, ◌∙◌, subst, arith, mul-le-mul_left}
use Rattle.std.specs.List.{All}
use Rattle.std.proofs.lemmas.List.{length-append}
use Rattle.std.proofs.lemmas.List.Elements.{All-nil, All-cons, All-append}
use Rattle.point_codec.specs.Points.{Item}
use Rattle.leaf_codec.specs.Leaves.{IsPoint}
use Rattle.leaf_codec.specs.Spelling.{spelling}
use Rattle.leaf_codec.proofs.Lengths.{length-spelling}
use Rattle.inner_pack.specs.Trees.{IndexTree, Leaf as IndexLeaf, Split as IndexSplit, IsShaped, lengths_of}
use Rattle.bkd_build.specs.Canon.{KdTree, Leaf, Split, entries_of, index_tree_of, leaves_for, left_count, IsCanonSplit, IsCanon}
use Rattle.bkd_build.proofs.Counts.{leaves_hold, one_leaf_for, two_leaves, left_leaves, right_leaves}

-- a tree of n leaves has n
pub shaped_count : (n : ℕ) (x : IndexTree) → IsShaped n x → length (lengths_of x) ≡ n
shaped_count n (IndexLeaf long own) h = sym h
shaped_count n (IndexSplit d x l r) h =
    omega (arith, length-append (lengths_of l) (lengths_of r), shaped_count (n - n / 2) l h.1, shaped_count (n / 2) r h.2, h.0)

-- the right half has what the left one leaves
rest_count : (D leaf_size d : ℕ) (x : ℤ) (ls rs : List Item) → IsCanonSplit D leaf_size d x ls rs
    → length rs ≡ length (ls ++ rs) - left_count leaf_size (length (ls ++ rs))
rest_count D leaf_size d x ls rs h = omega (arith, length-append ls rs, h.rank)

pub shaped : (D leaf_size : ℕ) (t : KdTree) → 1 ≤ leaf_size → IsCanon D leaf_size t
    → IsShaped (leaves_for leaf_size (length (entries_of t))) (index_tree_of D t)
shaped D leaf_size (Leaf items own) some h = one_leaf_for leaf_size (length items) h.entries.some h.few
shaped D leaf_size (Split d x l r) some h =
    let count : ℕ = length (entries_of l ++ entries_of r) in
    let left : leaves_for leaf_size (length (entries_of l)) ≡ leaves_for leaf_size count - leaves_for leaf_size count / 2 =
    ap (leaves_for leaf_size) h.0.rank ∙ left_leaves leaf_size count some h.0.many in
    let right : leaves_for leaf_size (length (entries_of r)) ≡ leaves_for leaf_size count / 2 =
    ap (leaves_for leaf_size) (rest_count D leaf_size d x (entries_of l) (entries_of r) h.0) ∙ right_leaves leaf_size count some h.0.many in (
      two_leaves leaf_size count some h.0.many,
      subst (λ (n : ℕ). IsShaped n (index_tree_of D l)) left (shaped D leaf_size l some h.1),
      subst (λ (n : ℕ). IsShaped n (index_tree_of D r)) right (shaped D leaf_size r some h.2),
    )

-- the points of the entries
pub all_points : (D leaf_size : ℕ) (t : KdTree) → IsCanon D leaf_size t → All (λ (x : Item). IsPoint D x.at) (entries_of t)
all_points D leaf_size (Leaf items own) h = h.entries.points
all_points D leaf_size (Split d x l r) h =
    All-append (λ (y : Item). IsPoint D y.at) (entries_of l) (entries_of r) (all_points D leaf_size l h.1) (all_points D leaf_size r h.2)

-- each leaf fits into a page
pub all_fit : (D leaf_size : ℕ) (t : KdTree) → D ≤ 8 → IsCanon D leaf_size t → All (λ (n : ℕ). (1 ≤ n) × (n ≤ 4064)) (lengths_of (index_tree_of D t))
all_fit D leaf_size (Leaf items own) few h =
    All-cons (λ (n : ℕ). (1 ≤ n) × (n ≤ 4064)) (length (spelling D items)) [] (length-spelling D items few h.entries)
    (All-nil (λ (n : ℕ). (1 ≤ n) × (n ≤ 4064)))
all_fit D leaf_size (Split d x l r) few h =
    All-append (λ (n : ℕ). (1 ≤ n) × (n ≤ 4064)) (lengths_of (index_tree_of D l)) (lengths_of (index_tree_of D r)) (all_fit D leaf_size l few h.1)
    (all_fit D leaf_size r few h.2)

-- the greatest number of entries has no more leaves than an index may have
pub few_leaves : (leaf_size count : ℕ) → 2 ≤ leaf_size → count ≤ 16777216 → leaves_for leaf_size count ≤ 8388608
few_leaves leaf_size count two few = at_most (leaves_for leaf_size count) leaf_size count two few (leaves_hold leaf_size count (omega arith)).1
  where
    -- (n - 1) * leaf_size is below the count
    below : (m leaf_size count : ℕ) → (m + 1) * leaf_size < count + leaf_size → m * leaf_size < count
    below m leaf_size count h = omega arith

    at_most : (n leaf_size count : ℕ) → 2 ≤ leaf_size → count ≤ 16777216 → n * leaf_size < count + leaf_size → n ≤ 8388608
    at_most zero leaf_size count two few h = omega arith
    at_most (suc m) leaf_size count two few h = omega (arith, mul-le-mul_left m two, below m leaf_size count (rw add-one h))

pub some_leaves : (leaf_size count : ℕ) → 1 ≤ leaf_size → 1 ≤ count → 1 ≤ leaves_for leaf_size count
some_leaves leaf_size count some one = have (leaves_for leaf_size count) leaf_size count one (leaves_hold leaf_size count some).0
  where
    have : (n leaf_size count : ℕ) → 1 ≤ count → count ≤ n * leaf_size → 1 ≤ n
    have zero leaf_size count one h = absurd (omega arith)
    have (suc n) leaf_size count one h = omega arith
