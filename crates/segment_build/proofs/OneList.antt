-- A segment in memory has one list of entries.
use Rattle.std.proofs.Common.{◌≡◌, ℕ, ◌+◌, List, [], ◌∷◌, ◌++◌, length, take, drop, refl, sym, ap, ◌∙◌, subst, arith, length-append}
use Rattle.std.proofs.lemmas.List.{take_at, drop_at}
use Rattle.point_codec.specs.Points.{Item}
use Rattle.leaf_codec.specs.Leaves.{SpellsLeafIn}
use Rattle.leaf_codec.proofs.ReadLeaf.{one_leaf}
use Rattle.inner_pack.specs.Trees.{IndexTree, Leaf, Split, leaf_count}
use Rattle.inner_pack.proofs.OneTree.{one_index}
use Rattle.segment_file.specs.Heads.{Head, count_of}
use Rattle.segment_file.specs.Written.{head_of, SpellsLeaves, FitsSegment}
use Rattle.segment_build.specs.NewSegments.{NewSegmentData, HasEntries}

-- a subtree has a leaf for each of its leaves' bytes
spelled_count : (D : ℕ) (head : Head) (first : ℕ) (t : IndexTree) (leaves : List (List ℕ)) (items : List Item) → SpellsLeaves D head first t leaves items
    → length leaves ≡ leaf_count t
spelled_count D head first (Leaf len own) leaves items h = ap (λ (ls : List (List ℕ)). length ls) h.1
spelled_count D head first (Split d x l r) leaves items h =
    omega (
      arith,
      ap (λ (ls : List (List ℕ)). length ls) h.leaves_joined,
      length-append h.front_leaves h.back_leaves,
      spelled_count D head first l h.front_leaves h.front_items h.front_spells,
      spelled_count D head (first + leaf_count l) r h.back_leaves h.back_items h.back_spells,
    )

fronts_equal : (a b x y : List (List ℕ)) → length a ≡ length b → a ++ x ≡ b ++ y → a ≡ b
fronts_equal a b x y same e = sym (take_at a x (length b) same) ∙ ap (λ (l : List (List ℕ)). take (length b) l) e ∙ take_at b y (length b) refl

backs_equal : (a b x y : List (List ℕ)) → length a ≡ length b → a ++ x ≡ b ++ y → x ≡ y
backs_equal a b x y same e = sym (drop_at a x (length b) same) ∙ ap (λ (l : List (List ℕ)). drop (length b) l) e ∙ drop_at b y (length b) refl

only_bytes : (a b : List ℕ) → a ∷ [] ≡ b ∷ [] → a ≡ b
only_bytes a b e = cc

-- the leaves of a subtree spell one list of items
spelled_once : (D : ℕ) (head : Head) (first : ℕ) (t : IndexTree) (leaves : List (List ℕ)) (xs ys : List Item) → SpellsLeaves D head first t leaves xs
    → SpellsLeaves D head first t leaves ys → xs ≡ ys
spelled_once D head first (Leaf len own) leaves xs ys h k =
    let bytes : h.0 ≡ k.0 = only_bytes h.0 k.0 (sym h.1 ∙ k.1) in
    let there : SpellsLeafIn D k.0 (count_of head first) own xs = subst (λ (b : List ℕ). SpellsLeafIn D b (count_of head first) own xs) bytes h.3 in
    one_leaf D k.0 xs ys there.spells k.3.spells
spelled_once D head first (Split d x l r) leaves xs ys h k =
    let counted : length h.front_leaves ≡ length k.front_leaves =
    spelled_count D head first l h.front_leaves h.front_items h.front_spells ∙ sym (spelled_count D head first l k.front_leaves k.front_items k.front_spells) in
    let joined : h.front_leaves ++ h.back_leaves ≡ k.front_leaves ++ k.back_leaves = sym h.leaves_joined ∙ k.leaves_joined in
    let fronts = fronts_equal h.front_leaves k.front_leaves h.back_leaves k.back_leaves counted joined in
    let backs = backs_equal h.front_leaves k.front_leaves h.back_leaves k.back_leaves counted joined in
    let front_items : h.front_items ≡ k.front_items = spelled_once D head first l k.front_leaves h.front_items k.front_items
    (subst (λ (ls : List (List ℕ)). SpellsLeaves D head first l ls h.front_items) fronts h.front_spells) k.front_spells in
    let back_items : h.back_items ≡ k.back_items = spelled_once D head (first + leaf_count l) r k.back_leaves h.back_items k.back_items
    (subst (λ (ls : List (List ℕ)). SpellsLeaves D head (first + leaf_count l) r ls h.back_items) backs h.back_spells) k.back_spells in
    h.items_joined ∙ (λ i. front_items i ++ back_items i) ∙ sym k.items_joined

fits_once : (D id leaf_size entries : ℕ) (n : NewSegmentData) (xs ys : List Item) → FitsSegment D id leaf_size entries n.index n.leaves xs
    → FitsSegment D id leaf_size entries n.index n.leaves ys → xs ≡ ys
fits_once D id leaf_size entries n xs ys h k =
    let trees : h.tree ≡ k.tree = (one_index D n.index.form n.index.leaves n.index.bytes h.root k.root h.tree k.tree h.has k.has).1 in
    let head : Head = head_of id entries leaf_size n.index in
    spelled_once D head 0 k.tree n.leaves xs ys (subst (λ (t : IndexTree). SpellsLeaves D head 0 t n.leaves xs) trees h.spells) k.spells

pub has_once : (D : ℕ) (xs ys : List Item) (n : NewSegmentData) → HasEntries D xs n → HasEntries D ys n → xs ≡ ys
has_once D xs ys n h k = fits_once D 0 n.leaf_size n.entries n xs ys (h.fits 0) (k.fits 0)
