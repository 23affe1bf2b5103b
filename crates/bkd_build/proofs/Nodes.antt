-- From the entries of a leaf, and from both halves of a node, to the canonical tree.
use Rattle.std.proofs.Common.{◌≡◌, ℕ, ◌+◌, ◌^◌, ◌<◌, ◌≤◌, Bool, List, [], ◌∷◌, ◌++◌, length, map, take, drop, cond, ℤ, sym, ap, ◌∙◌, subst, arith}
use Rattle.std.specs.List.{count_by}
use Rattle.std.specs.List.Sorted.{IsPermutation}
use Rattle.std.proofs.lemmas.List.{length-map, length-take, length-take-le, length-drop, take-append-drop, take-map, drop-map, map-append, append_assoc}
use Rattle.std.proofs.lemmas.List.Elements.{All-take, All-drop}
use Rattle.std.proofs.lemmas.List.Sorted.{IsPermutation-trans, IsPermutation-append, IsPermutation-map, All-permutation, length_permutation}
use Rattle.std.proofs.lemmas.List.Sums.{sum_by-append}
use Rattle.point_codec.specs.Points.{Item, Region}
use Rattle.point_codec.specs.Cells.{IsLeastCell}
use Rattle.point_codec.specs.Seen.{items_of}
use Rattle.point_codec.specs.declared.entries.Entry.{Entry}
use Rattle.leaf_codec.specs.LeafOrder.{leaf_cmp, same_item, NoneTwice}
use Rattle.leaf_codec.specs.Leaves.{AreLeaf}
use Rattle.leaf_codec.specs.Spelling.{spelling}
use Rattle.leaf_codec.proofs.OrderLemmas.{NoneTwice-IsPermutation}
use Rattle.inner_pack.specs.Trees.{Cut, cuts_of, lengths_of, own_cells}
use Rattle.bkd_build.specs.Cuts.{AllComeBefore}
use Rattle.bkd_build.specs.Extents.{IsLeast, IsWidest}
use Rattle.bkd_build.specs.Canon.{KdTree, Leaf, Split, entries_of, leaves_of, index_tree_of, left_count, IsCanonSplit}
use Rattle.bkd_build.specs.Pieces.{AreEntries, Pieces, pieces_of, no_pieces, one_node, joined_pieces, AddsPieces}
use Rattle.bkd_build.proofs.CutLemmas.{before-moved}
use Rattle.bkd_build.proofs.ExtentLemmas.{IsLeast-IsPermutation, IsWidest-IsPermutation}

-- ---- the entries of the halves

abbrev one_if : Bool → ℕ
one_if b = cond b 1 0

counted : (p : Item → Bool) (k : ℕ) (xs : List Item) → count_by p xs ≡ count_by p (take k xs) + count_by p (drop k xs)
counted p k xs = ap (count_by p) (sym (take-append-drop k xs)) ∙ sum_by-append (λ x. one_if (p x)) (take k xs) (drop k xs)

once-take : (k : ℕ) (xs : List Item) → NoneTwice xs → NoneTwice (take k xs)
unfolding NoneTwice
once-take k xs once x = omega (arith, counted (same_item x) k xs, once x)

once-drop : (k : ℕ) (xs : List Item) → NoneTwice xs → NoneTwice (drop k xs)
unfolding NoneTwice
once-drop k xs once x = omega (arith, counted (same_item x) k xs, once x)

pub items-IsPermutation : {D : ℕ} (es fs : List (Entry D)) → IsPermutation es fs → IsPermutation (items_of es) (items_of fs)
items-IsPermutation {D} es fs p = IsPermutation-map (λ (e : Entry D). record { doc = e.doc; at = e.point.c }) es fs p

pub entries-IsPermutation : {D : ℕ} (es fs : List (Entry D)) → IsPermutation es fs → AreEntries es → AreEntries fs
entries-IsPermutation {D} es fs p h = record {
  some = omega (arith, length_permutation es fs p, h.some);
  numbers = All-permutation (λ (e : Entry D). e.doc < 2 ^ 24) es fs p h.numbers;
  once = NoneTwice-IsPermutation (items_of es) (items_of fs) (items-IsPermutation es fs p) h.once;
}

pub items-take : {D : ℕ} (k : ℕ) (es : List (Entry D)) → take k (items_of es) ≡ items_of (take k es)
items-take {D} k es = take-map (λ (e : Entry D). record { doc = e.doc; at = e.point.c }) k es

pub items-drop : {D : ℕ} (k : ℕ) (es : List (Entry D)) → drop k (items_of es) ≡ items_of (drop k es)
items-drop {D} k es = drop-map (λ (e : Entry D). record { doc = e.doc; at = e.point.c }) k es

pub entries-take : {D : ℕ} (k : ℕ) (es : List (Entry D)) → 1 ≤ k → AreEntries es → AreEntries (take k es)
entries-take {D} k es low h = record {
  some = omega (arith, length-take k es, h.some);
  numbers = All-take (λ (e : Entry D). e.doc < 2 ^ 24) k es h.numbers;
  once = subst NoneTwice (items-take k es) (once-take k (items_of es) h.once);
}

pub entries-drop : {D : ℕ} (k : ℕ) (es : List (Entry D)) → k < length es → AreEntries es → AreEntries (drop k es)
entries-drop {D} k es high h = record {
  some = omega (arith, length-drop k es, h.some);
  numbers = All-drop (λ (e : Entry D). e.doc < 2 ^ 24) k es h.numbers;
  once = subst NoneTwice (items-drop k es) (once-drop k (items_of es) h.once);
}

-- ---- a node

-- a cut at the rank of the left half, in the widest dimension, splits the node
pub split_of_cut : (D leaf_size d rank : ℕ) (x : ℤ) (es fs : List (Entry D)) → IsPermutation es fs → leaf_size < length es
    → rank ≡ left_count leaf_size (length es) → rank < length es
    → IsWidest D d (items_of es) → AllComeBefore (leaf_cmp d) (take rank (items_of fs)) (drop rank (items_of fs)) → IsLeast d x (drop rank (items_of fs))
    → IsCanonSplit D leaf_size d x (items_of (take rank fs)) (items_of (drop rank fs))
split_of_cut D leaf_size d rank x es fs p many is below widest apart value =
    subst (λ (ls : List Item). IsCanonSplit D leaf_size d x ls (items_of (drop rank fs))) (items-take rank fs)
    (subst (λ (rs : List Item). IsCanonSplit D leaf_size d x (take rank (items_of fs)) rs) (items-drop rank fs) there)
  where
    whole : take rank (items_of fs) ++ drop rank (items_of fs) ≡ items_of fs
    whole = take-append-drop rank (items_of fs)

    long : length (items_of fs) ≡ length es
    long = length-map fs (λ (e : Entry D). record { doc = e.doc; at = e.point.c }) ∙ length_permutation es fs p

    there : IsCanonSplit D leaf_size d x (take rank (items_of fs)) (drop rank (items_of fs))
    there = record {
      many = rw whole (rw long many);
      widest = rw whole (IsWidest-IsPermutation D d (items_of es) (items_of fs) (items-IsPermutation es fs p) widest);
      rank = rw (whole, long) (length-take-le rank (items_of fs) (omega (arith, long, below)) ∙ is);
      apart = apart;
      value = value;
    }

-- the entries are those of both halves
pub items_joined : {D : ℕ} (es fs ls rs : List (Entry D)) → IsPermutation es fs → fs ≡ ls ++ rs → IsPermutation (items_of es) (items_of ls ++ items_of rs)
items_joined {D} es fs ls rs p is =
    subst (λ (xs : List Item). IsPermutation (items_of es) xs) (ap items_of is ∙ map-append (λ (e : Entry D). record { doc = e.doc; at = e.point.c }) ls rs)
    (items-IsPermutation es fs p)

pub halves_moved : {D : ℕ} (es fs ls rs us vs : List (Entry D)) → IsPermutation es fs → fs ≡ ls ++ rs → IsPermutation ls us → IsPermutation rs vs
    → IsPermutation es (us ++ vs)
halves_moved {D} es fs ls rs us vs p is q r =
    IsPermutation-trans es fs (us ++ vs) p (subst (λ (xs : List (Entry D)). IsPermutation xs (us ++ vs)) (sym is) (IsPermutation-append ls us rs vs q r))

-- it is one however the entries of the halves stand
split-IsPermutation : (D leaf_size d : ℕ) (x : ℤ) (ls rs us vs : List Item) → IsPermutation ls us → IsPermutation rs vs → IsCanonSplit D leaf_size d x ls rs
    → IsCanonSplit D leaf_size d x us vs
split-IsPermutation D leaf_size d x ls rs us vs p q h =
    let both : IsPermutation (ls ++ rs) (us ++ vs) = IsPermutation-append ls us rs vs p q in
    let long : length (us ++ vs) ≡ length (ls ++ rs) = length_permutation (ls ++ rs) (us ++ vs) both in
    record {
      many = rw long h.many;
      widest = IsWidest-IsPermutation D d (ls ++ rs) (us ++ vs) both h.widest;
      rank = rw long (length_permutation ls us p ∙ h.rank);
      apart = before-moved (leaf_cmp d) ls rs us vs p q h.apart;
      value = IsLeast-IsPermutation d x rs vs q h.value;
    }

abbrev node_of : Cut → ℕ × ℤ
node_of c = (c.dimension, c.at)

-- the pieces of a node are its own, then those of its left and of its right half
pieces_joined : (D d : ℕ) (x : ℤ) (l r : KdTree) (before : Pieces)
    → joined_pieces (joined_pieces (joined_pieces before (one_node d x)) (pieces_of D l)) (pieces_of D r) ≡ joined_pieces before (pieces_of D (Split d x l r))
pieces_joined D d x l r before = λ i. record { nodes = nodes i; lengths = lengths i; cells = cells i; leaves = leaves i }
  where
    nodes : ((before.nodes ++ (d, x) ∷ []) ++ map node_of (cuts_of (index_tree_of D l))) ++ map node_of (cuts_of (index_tree_of D r))
        ≡ before.nodes ++ ((d, x) ∷ map node_of (cuts_of (index_tree_of D l) ++ cuts_of (index_tree_of D r)))
    nodes = simp (map-append, append_assoc)

    lengths : ((before.lengths ++ []) ++ lengths_of (index_tree_of D l)) ++ lengths_of (index_tree_of D r)
        ≡ before.lengths ++ (lengths_of (index_tree_of D l) ++ lengths_of (index_tree_of D r))
    lengths = simp append_assoc

    cells : ((before.cells ++ []) ++ own_cells (index_tree_of D l)) ++ own_cells (index_tree_of D r)
        ≡ before.cells ++ (own_cells (index_tree_of D l) ++ own_cells (index_tree_of D r))
    cells = simp append_assoc

    leaves : ((before.leaves ++ []) ++ map (spelling D) (leaves_of l)) ++ map (spelling D) (leaves_of r)
        ≡ before.leaves ++ map (spelling D) (leaves_of l ++ leaves_of r)
    leaves = simp (map-append, append_assoc)

pub node_adds : (D leaf_size d : ℕ) (x : ℤ) (items ls rs : List Item) (before middle after : Pieces) → IsPermutation items (ls ++ rs)
    → IsCanonSplit D leaf_size d x ls rs
    → AddsPieces D leaf_size ls (joined_pieces before (one_node d x)) middle → AddsPieces D leaf_size rs middle after
    → AddsPieces D leaf_size items before after
node_adds D leaf_size d x items ls rs before middle after p split left right = record {
  tree = Split d x left.tree right.tree;
  canon = (split-IsPermutation D leaf_size d x ls rs (entries_of left.tree) (entries_of right.tree) left.same right.same split, left.canon, right.canon);
  same = IsPermutation-trans items (ls ++ rs) (entries_of left.tree ++ entries_of right.tree) p
      (IsPermutation-append ls (entries_of left.tree) rs (entries_of right.tree) left.same right.same);
  is = right.is ∙ ap (λ (ps : Pieces). joined_pieces ps (pieces_of D right.tree)) left.is ∙ pieces_joined D d x left.tree right.tree before;
}

-- from halves that were built apart
pub halves_add : (D leaf_size d : ℕ) (x : ℤ) (items ls rs : List Item) (first second whole : Pieces) → IsPermutation items (ls ++ rs)
    → IsCanonSplit D leaf_size d x ls rs
    → AddsPieces D leaf_size ls no_pieces first → AddsPieces D leaf_size rs no_pieces second → whole ≡ joined_pieces (joined_pieces (one_node d x) first) second
    → AddsPieces D leaf_size items no_pieces whole
halves_add D leaf_size d x items ls rs first second whole p split left right is = record {
  tree = Split d x left.tree right.tree;
  canon = (split-IsPermutation D leaf_size d x ls rs (entries_of left.tree) (entries_of right.tree) left.same right.same split, left.canon, right.canon);
  same = IsPermutation-trans items (ls ++ rs) (entries_of left.tree ++ entries_of right.tree) p
      (IsPermutation-append ls (entries_of left.tree) rs (entries_of right.tree) left.same right.same);
  is = is ∙ ap (λ (ps : Pieces). joined_pieces (joined_pieces (one_node d x) ps) second) left.is
      ∙ ap (λ (ps : Pieces). joined_pieces (joined_pieces (one_node d x) (pieces_of D left.tree)) ps) right.is
      ∙ pieces_joined D d x left.tree right.tree no_pieces;
}

-- ---- a leaf

pub leaf_adds : (D leaf_size : ℕ) (items entries : List Item) (own : Region) (before after : Pieces) → IsPermutation items entries → length items ≤ leaf_size
    → AreLeaf D entries
    → IsLeastCell (map (λ (x : Item). x.at) entries) own → after ≡ joined_pieces before (pieces_of D (Leaf entries own))
    → AddsPieces D leaf_size items before after
leaf_adds D leaf_size items entries own before after p few are cell is = record {
  tree = Leaf entries own;
  canon = record { few = omega (arith, length_permutation items entries p, few); entries = are; cell = cell };
  same = p;
  is = is;
}
