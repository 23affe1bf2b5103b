-- The leaves of a canonical tree, one by one.
use Rattle.std.proofs.Common.{◌≡◌, ℕ, ℤ, zero, suc, ◌+◌, ◌-◌, ◌*◌, ◌/◌, ◌<◌, ◌≤◌, min, true, List, ◌++◌, length}
use Rattle.std.proofs.Common.{map, get_or, refl, sym, ap, ◌∙◌, subst, arith, inl, inr, mul-le-mul_right}
use Rattle.std.specs.List.{flat_map}
use Rattle.std.specs.List.Sorted.{IsPermutation}
use Rattle.std.proofs.lemmas.Bool.{cases_lt}
use Rattle.std.proofs.lemmas.List.{length-append, length-map, map-append, append-nil, get_or_append_left, get_or-append_right, get_or-map}
use Rattle.std.proofs.lemmas.List.Concat.{flat_map-append}
use Rattle.std.proofs.lemmas.List.Sorted.{IsPermutation-sym, IsPermutation-trans, length_permutation}
use Rattle.point_codec.specs.Points.{Item, Region, in_box}
use Rattle.leaf_codec.specs.Spelling.{spelling}
use Rattle.inner_pack.specs.Trees.{IndexTree, IsShaped, lengths_of, own_cells}
use Rattle.inner_pack.specs.Bodies.{Body, HasTree}
use Rattle.bkd_build.specs.Canon.{KdTree, Leaf, Split, entries_of, leaves_of, index_tree_of, leaves_for, IsCanonLeaf, IsCanon, BuiltValue, IsBuilt}
use Rattle.bkd_build.specs.Leaves.{AreLeaves}
use Rattle.bkd_build.proofs.Counts.{left_leaves}
use Rattle.bkd_build.proofs.Shapes.{shaped, shaped_count}
use Rattle.bkd_build.proofs.OneTree.{one_canon, least_cell-IsPermutation}
use Rattle.bkd_build.proofs.Whole.{unmapped}

-- as many own cells and lengths as leaves
pub cells_count : (D : ℕ) (t : KdTree) → length (own_cells (index_tree_of D t)) ≡ length (leaves_of t)
cells_count D (Leaf items own) = refl
cells_count D (Split d x l r) =
    omega (
      arith,
      length-append (own_cells (index_tree_of D l)) (own_cells (index_tree_of D r)),
      length-append (leaves_of l) (leaves_of r),
      cells_count D l,
      cells_count D r,
    )

pub lengths_told : (D : ℕ) (t : KdTree) → map (λ (bytes : List ℕ). length bytes) (map (spelling D) (leaves_of t)) ≡ lengths_of (index_tree_of D t)
lengths_told D (Leaf items own) = refl
lengths_told D (Split d x l r) =
    let spelled = map (spelling D) in
    ap (map (λ (bytes : List ℕ). length bytes)) (map-append (spelling D) (leaves_of l) (leaves_of r))
    ∙ map-append (λ (bytes : List ℕ). length bytes) (map (spelling D) (leaves_of l)) (map (spelling D) (leaves_of r))
    ∙ ap (λ (ns : List ℕ). ns ++ map (λ (bytes : List ℕ). length bytes) (map (spelling D) (leaves_of r))) (lengths_told D l)
    ∙ ap (λ (ns : List ℕ). lengths_of (index_tree_of D l) ++ ns) (lengths_told D r)

pub leaves_count : (D leaf_size : ℕ) (t : KdTree) → 1 ≤ leaf_size → IsCanon D leaf_size t → length (leaves_of t) ≡ leaves_for leaf_size (length (entries_of t))
leaves_count D leaf_size t some h =
    let told : length (map (λ (bytes : List ℕ). length bytes) (map (spelling D) (leaves_of t))) ≡ length (lengths_of (index_tree_of D t)) =
    ap (λ (ns : List ℕ). length ns) (lengths_told D t) in
    let once : length (map (spelling D) (leaves_of t)) ≡ length (leaves_of t) = length-map (leaves_of t) (spelling D) in
    let twice : length (map (λ (bytes : List ℕ). length bytes) (map (spelling D) (leaves_of t))) ≡ length (map (spelling D) (leaves_of t)) =
    length-map (map (spelling D) (leaves_of t)) (λ (bytes : List ℕ). length bytes) in
    sym once ∙ sym twice ∙ told ∙ shaped_count (leaves_for leaf_size (length (entries_of t))) (index_tree_of D t) (shaped D leaf_size t some h)

-- the entries of the leaves are all entries
pub entries_joined : (t : KdTree) → entries_of t ≡ flat_map (λ (leaf : List Item). leaf) (leaves_of t)
entries_joined (Leaf items own) = sym (append-nil items)
entries_joined (Split d x l r) =
    ap (λ (xs : List Item). xs ++ entries_of r) (entries_joined l)
    ∙ ap (λ (xs : List Item). flat_map (λ (leaf : List Item). leaf) (leaves_of l) ++ xs) (entries_joined r)
    ∙ sym (flat_map-append (λ (leaf : List Item). leaf) (leaves_of l) (leaves_of r))

-- leaf k is a canonical leaf
pub leaf_at : (D leaf_size : ℕ) (t : KdTree) → IsCanon D leaf_size t → (k : ℕ) (items : List Item) (own : Region) → k < length (leaves_of t)
    → IsCanonLeaf D leaf_size (get_or (leaves_of t) k items) (get_or (own_cells (index_tree_of D t)) k own)
leaf_at D leaf_size (Leaf xs r) h zero items own lt = h
leaf_at D leaf_size (Leaf xs r) h (suc k) items own lt = absurd (omega arith)
leaf_at D leaf_size (Split d x l r) h k items own lt = elim (cases_lt k (length (leaves_of l))) [
  | inl left ↦
      rw (
        get_or_append_left (leaves_of l) (leaves_of r) items k left,
        get_or_append_left (own_cells (index_tree_of D l)) (own_cells (index_tree_of D r)) own k (omega (arith, cells_count D l, left)),
      )
      (leaf_at D leaf_size l h.1 k items own left)
  | inr right ↦
      rw (
        get_or-append_right (leaves_of l) (leaves_of r) (length (leaves_of l)) k items refl right,
        get_or-append_right (own_cells (index_tree_of D l)) (own_cells (index_tree_of D r)) (length (leaves_of l)) k own (cells_count D l) right,
      )
      (leaf_at D leaf_size r h.2 (k - length (leaves_of l)) items own (omega (arith, length-append (leaves_of l) (leaves_of r), lt, right)))
]

-- ---- how many entries it has

-- a leaf of the left half is full
full_left : (leaf_size count n k : ℕ) → k < n → n * leaf_size ≤ count → min leaf_size (count - k * leaf_size) ≡ leaf_size
full_left leaf_size count n k lt fits = omega (arith, mul-le-mul_right {m = k + 1} {n = n} leaf_size (omega arith))

-- and one of the right half has what it has there
same_right : (leaf_size count n k : ℕ) → n ≤ k → min leaf_size (count - n * leaf_size - (k - n) * leaf_size) ≡ min leaf_size (count - k * leaf_size)
same_right leaf_size count n k le = let e : n * leaf_size + (k - n) * leaf_size ≡ k * leaf_size = parts n (k - n) k leaf_size (omega arith) in omega arith
  where
    parts : (n m k leaf_size : ℕ) → n + m ≡ k → n * leaf_size + m * leaf_size ≡ k * leaf_size
    parts n m k leaf_size is = rw (← is) (omega arith)

pub size_at : (D leaf_size : ℕ) (t : KdTree) → 1 ≤ leaf_size → IsCanon D leaf_size t → (k : ℕ) (items : List Item) → k < length (leaves_of t)
    → length (get_or (leaves_of t) k items) ≡ min leaf_size (length (entries_of t) - k * leaf_size)
size_at D leaf_size (Leaf xs r) some h zero items lt = omega (arith, h.few)
size_at D leaf_size (Leaf xs r) some h (suc k) items lt = absurd (omega arith)
size_at D leaf_size (Split d x l r) some h k items lt =
    let count : ℕ = length (entries_of l ++ entries_of r) in
    let n : ℕ = length (leaves_of l) in
    let left_is : n ≡ leaves_for leaf_size count - leaves_for leaf_size count / 2 =
    leaves_count D leaf_size l some h.1 ∙ ap (leaves_for leaf_size) h.0.rank ∙ left_leaves leaf_size count some h.0.many in
    let full : length (entries_of l) ≡ n * leaf_size = h.0.rank ∙ ap (λ (m : ℕ). m * leaf_size) (sym left_is) in
    let both : count ≡ length (entries_of l) + length (entries_of r) = length-append (entries_of l) (entries_of r) in
    elim (cases_lt k n) [
      | inl left ↦
          rw (get_or_append_left (leaves_of l) (leaves_of r) items k left)
          (size_at D leaf_size l some h.1 k items left ∙ ap (λ (m : ℕ). min leaf_size (m - k * leaf_size)) full
          ∙ full_left leaf_size (n * leaf_size) n k left (omega arith)
          ∙ sym (full_left leaf_size count n k left (omega (arith, both, full))))
      | inr right ↦
          rw (get_or-append_right (leaves_of l) (leaves_of r) n k items refl right)
          (size_at D leaf_size r some h.2 (k - n) items (omega (arith, length-append (leaves_of l) (leaves_of r), lt, right))
          ∙ ap (λ (m : ℕ). min leaf_size (m - (k - n) * leaf_size)) (omega (arith, both, full))
          ∙ same_right leaf_size count n k right)
    ]

-- ---- what was built

pub are_leaves : (D leaf_size : ℕ) (items : List Item) (b : BuiltValue) → 1 ≤ leaf_size → (h : IsBuilt D leaf_size items b)
    → AreLeaves D leaf_size (length items) b h.root (index_tree_of D h.tree) (leaves_of h.tree)
are_leaves D leaf_size items b some h =
    let t : KdTree = h.tree in
    let all : length (entries_of t) ≡ length items = length_permutation items (entries_of t) h.canon.same in
    let n : ℕ = leaves_for leaf_size (length items) in
    let counted : length (leaves_of t) ≡ n = leaves_count D leaf_size t some h.canon.canon ∙ ap (leaves_for leaf_size) all in
    let shape : IsShaped n (index_tree_of D t) =
    subst (λ (m : ℕ). IsShaped (leaves_for leaf_size m) (index_tree_of D t)) all (shaped D leaf_size t some h.canon.canon) in
    record {
      index = h.index;
      form = h.form;
      told = sym (shaped_count b.index.leaves (index_tree_of D t) h.index.tree.shaped) ∙ shaped_count n (index_tree_of D t) shape;
      number = ap (λ (bs : List (List ℕ)). length bs) h.leaves ∙ length-map (leaves_of t) (spelling D) ∙ counted;
      counted = counted;
      lengths = ap (map (λ (bytes : List ℕ). length bytes)) h.leaves ∙ lengths_told D t;
      spelled = λ k bytes entries own lt.
          let within : k < length (leaves_of t) = omega (arith, counted, lt) in
          let at = leaf_at D leaf_size t h.canon.canon k entries own within in
          let is : get_or b.leaves k bytes ≡ spelling D (get_or (leaves_of t) k entries) =
          ap (λ (bs : List (List ℕ)). get_or bs k bytes) h.leaves ∙ get_or-map (spelling D) (leaves_of t) k entries bytes within in
          record {
            spells = record { are_leaf = at.entries; is = is };
            counted = size_at D leaf_size t some h.canon.canon k entries within ∙ ap (λ (m : ℕ). min leaf_size (m - k * leaf_size)) all;
            inside = unmapped (λ (p : List ℤ). in_box (get_or (own_cells (index_tree_of D t)) k own) p ≡ true) (get_or (leaves_of t) k entries) at.cell.holds;
          };
    }

pub all_there : (D leaf_size : ℕ) (items : List Item) (b : BuiltValue) → (h : IsBuilt D leaf_size items b)
    → IsPermutation items (flat_map (λ (leaf : List Item). leaf) (leaves_of h.tree))
all_there D leaf_size items b h = subst (λ (xs : List Item). IsPermutation items xs) (entries_joined h.tree) h.canon.same

pub built_in_any_order : (D leaf_size : ℕ) (xs ys : List Item) (p : BuiltValue) → IsPermutation xs ys → IsBuilt D leaf_size xs p → IsBuilt D leaf_size ys p
built_in_any_order D leaf_size xs ys p moved h = record {
  tree = h.tree;
  root = h.root;
  canon = record {
    canon = h.canon.canon;
    same = IsPermutation-trans ys xs (entries_of h.tree) (IsPermutation-sym xs ys moved) h.canon.same;
    cell = least_cell-IsPermutation xs ys h.root moved h.canon.cell;
  };
  form = h.form;
  index = h.index;
  leaves = h.leaves;
}

-- an index of form 3 is fixed by its tree
one_index : (D : ℕ) (p q : Body) (r s : Region) (x y : IndexTree) → p.form ≡ 3 → q.form ≡ 3 → HasTree D p r x → HasTree D q s y → r ≡ s → x ≡ y → p ≡ q
one_index D p q r s x y f g h k roots trees =
    let forms : p.form ≡ q.form = f ∙ sym g in
    let leaves : p.leaves ≡ q.leaves =
    sym (shaped_count p.leaves x h.tree.shaped) ∙ ap (λ (t : IndexTree). length (lengths_of t)) trees ∙ shaped_count q.leaves y k.tree.shaped in
    let bytes : p.bytes ≡ q.bytes = h.is ∙ cc (k.is, forms, roots, trees) in
    λ i. record { form = forms i; leaves = leaves i; bytes = bytes i }

pub one_built : (D leaf_size : ℕ) (xs ys : List Item) (p q : BuiltValue) → IsPermutation xs ys → IsBuilt D leaf_size xs p → IsBuilt D leaf_size ys q → p ≡ q
one_built D leaf_size xs ys p q moved h k =
    let one = one_canon D leaf_size xs ys h.root k.root h.tree k.tree moved h.canon k.canon in
    let index : p.index ≡ q.index =
    one_index D p.index q.index h.root k.root (index_tree_of D h.tree) (index_tree_of D k.tree) h.form k.form h.index k.index one.0
    (ap (index_tree_of D) one.1) in
    let leaves : p.leaves ≡ q.leaves = h.leaves ∙ ap (λ (t : KdTree). map (spelling D) (leaves_of t)) one.1 ∙ sym k.leaves in
    λ i. record { index = index i; leaves = leaves i }
