-- No bytes spell two trees of one number of leaves.
use Rattle.std.proofs.Common.{◌≡◌, ℕ, ◌-◌, ◌/◌, ◌≤◌, List, ◌++◌, map, refl, sym, subst, ◌∙◌, arith, inl, inr, slice_set}
use Rattle.std.proofs.lemmas.Bool.{cases_eq}
use Rattle.point_codec.specs.Points.{Region}
use Rattle.point_codec.specs.Keys.{key}
use Rattle.point_codec.specs.Cells.{left_of, right_of}
use Rattle.inner_pack.specs.Places.{Spot, front}
use Rattle.inner_pack.specs.Trees.{IndexTree, Leaf, Split, IsShaped, IsCell}
use Rattle.inner_pack.specs.Bodies.{SpellsIndex, cuts_table, places_table, cell_bytes, right_begin}
use Rattle.inner_pack.specs.Spelled.{spelled_part, told_part, tree_bytes, IsNodeOf, IsTreeIn}
use Rattle.inner_pack.proofs.PlaceLemmas.{first_fits}
use Rattle.inner_pack.proofs.CellLemmas.{cell_front}
use Rattle.inner_pack.proofs.SpelledLemmas.{spelled_one, told_one, spelled_packed, told_packed, tree_one, tree_packed, body_is, cuts_long}
use Rattle.inner_pack.proofs.SameNodes.{IsWide, wide_cell, inside_fits, left_wide, right_wide, one_leaf}
use Rattle.inner_pack.proofs.SameNodes.{same_children, own_bytes_left, own_bytes_right, with_bytes}
use Rattle.byte_cursor.proofs.Lists.{split_same}

-- ---- the whole

pub one_node : (D form n : ℕ) (s u : Spot) (path : Region) (references : List (List ℕ)) (bytes places : List ℕ) (t t2 : IndexTree) → D ≤ 8 → n ≤ 8388608
    → IsWide D path
    → IsNodeOf D form n s path references bytes places t → IsNodeOf D form n u path references bytes places t2 → t ≡ t2
one_node D form n s u path references bytes places (Leaf m own) (Leaf m2 other) few many wide h k =
    one_leaf D form n s u path references bytes places m m2 own other h k
one_node D form n s u path references bytes places (Leaf m own) (Split e y l2 r2) few many wide h k = absurd (omega (arith, h.shaped, k.shaped.0))
one_node D form n s u path references bytes places (Split d x l r) (Leaf m2 other) few many wide h k = absurd (omega (arith, k.shaped, h.shaped.0))
one_node D form n s u path references bytes places (Split d x l r) (Split e y l2 r2) few many wide h k =
    let fx = inside_fits D d x path wide h.cells.0 in
    let fy = inside_fits D e y path wide k.cells.0 in
    let c = same_children D form n s u path references bytes places d e x y l l2 r r2 few many fx fy h k in
    let lower = slice_set references d (key x) in
    let lower2 = slice_set references e (key y) in
    let v = right_begin s l r in
    let w = right_begin u l2 r2 in
    let moved : lower ≡ lower2 = (λ i. slice_set references (c.dimension i) (key (c.value i))) in
    let left : l ≡ l2 = one_node D form (n - n / 2) s u (left_of path d x) lower (spelled_part form lower s l) (told_part form s l) l l2 few
    (omega (arith, many)) (left_wide D d x path wide fx)
    (own_bytes_left D form n s path references bytes places d x l r h)
    (with_bytes D form (n - n / 2) u (left_of path e y) (left_of path d x) lower2 lower (spelled_part form lower2 u l2) (spelled_part form lower s l)
    (told_part form u l2) (told_part form s l) l2
    (λ i. left_of path (c.dimension i) (c.value i)) moved c.left_bytes c.left_places (own_bytes_left D form n u path references bytes places e y l2 r2 k)) in
    let right : r ≡ r2 = one_node D form (n / 2) v w (right_of path d x) lower (spelled_part form lower v r) (told_part form v r) r r2 few (omega (arith, many))
    (right_wide D d x path wide fx)
    (own_bytes_right D form n s path references bytes places d x l r h)
    (with_bytes D form (n / 2) w (right_of path e y) (right_of path d x) lower2 lower (spelled_part form lower2 w r2) (spelled_part form lower v r)
    (told_part form w r2) (told_part form v r) r2
    (λ i. right_of path (c.dimension i) (c.value i)) moved c.right_bytes c.right_places
    (own_bytes_right D form n u path references bytes places e y l2 r2 k)) in
    (λ i. Split (c.dimension i) (c.value i) (left i) (right i))

-- the root's bytes are those of a node with this tree
pub root_node : (D form n : ℕ) (root : Region) (bytes : List ℕ) (t : IndexTree) → 1 ≤ form → form ≤ 3 → IsTreeIn D form n root bytes t
    → IsNodeOf D form n front root (map key root.lo) (spelled_part form (map key root.lo) front t) (told_part form front t) t
root_node D form n root bytes t low high h = record {
  least_form = low;
  greatest_form = high;
  shaped = h.shaped;
  fits = omega (arith, first_fits t h.lengths);
  cells = h.cells;
  path_cells = h.path_cells;
  lengths = h.lengths;
  spelled = refl;
  told = refl;
}

same_root : (form n : ℕ) (references : List (List ℕ)) (t t2 : IndexTree) → 1 ≤ form → 1 ≤ n → IsShaped n t → IsShaped n t2
    → tree_bytes form references t ≡ tree_bytes form references t2
    → (spelled_part form references front t ≡ spelled_part form references front t2) × (told_part form front t ≡ told_part form front t2)
same_root form n references t t2 low some h k e = elim (cases_eq form 1) [
  | inl one ↦
      let both = split_same (cuts_table t) (cuts_table t2) (places_table front t) (places_table front t2) (cuts_long n t some h ∙ sym (cuts_long n t2 some k))
      (sym (tree_one form references t one) ∙ e ∙ tree_one form references t2 one) in (
        spelled_one form references front t one ∙ both.0 ∙ sym (spelled_one form references front t2 one),
        told_one form front t one ∙ both.1 ∙ sym (told_one form front t2 one),
      )
  | inr ne ↦
      let packed : 2 ≤ form = omega (arith, low, ne) in (
        spelled_packed form references front t packed ∙ sym (tree_packed form references t packed) ∙ e ∙ tree_packed form references t2 packed
            ∙ sym (spelled_packed form references front t2 packed),
        told_packed form front t packed ∙ sym (told_packed form front t2 packed),
      )
]

pub one_tree_in : (D form n : ℕ) (root : Region) (bytes : List ℕ) (t t2 : IndexTree) → D ≤ 8 → 1 ≤ n → n ≤ 8388608 → 1 ≤ form → form ≤ 3 → IsCell D root
    → IsTreeIn D form n root bytes t → IsTreeIn D form n root bytes t2 → t ≡ t2
one_tree_in D form n root bytes t t2 few some many low high cell h k =
    let refs = map key root.lo in
    let e = same_root form n refs t t2 low some h.shaped k.shaped (sym h.spelled ∙ k.spelled) in
    one_node D form n front front root refs (spelled_part form refs front t) (told_part form front t) t t2 few many (wide_cell D root cell)
    (root_node D form n root bytes t low high h)
    (with_bytes D form n front root root refs refs (spelled_part form refs front t2) (spelled_part form refs front t) (told_part form front t2)
    (told_part form front t) t2 refl refl e.0 e.1 (root_node D form n root bytes t2 low high k))

-- what follows the root cell of an index
pub index_tree : (D form n : ℕ) (bytes rest : List ℕ) (root : Region) (t : IndexTree) → SpellsIndex D form n bytes root t → bytes ≡ cell_bytes root ++ rest
    → IsTreeIn D form n root rest t
index_tree D form n bytes rest root t h e = record {
  shaped = h.tree.shaped;
  cells = h.tree.cells;
  path_cells = h.path_cells;
  lengths = h.tree.lengths;
  spelled = (split_same (cell_bytes root) (cell_bytes root) rest (tree_bytes form (map key root.lo) t) refl (sym e ∙ h.is ∙ body_is form root t)).1;
}

pub one_index : (D form n : ℕ) (bytes : List ℕ) (r r2 : Region) (t t2 : IndexTree) → SpellsIndex D form n bytes r t → SpellsIndex D form n bytes r2 t2
    → (r ≡ r2) × (t ≡ t2)
one_index D form n bytes r r2 t t2 h k =
    let cells = cell_front D r r2 (tree_bytes form (map key r.lo) t) (tree_bytes form (map key r2.lo) t2) h.tree.root_cell k.tree.root_cell
    (sym (h.is ∙ body_is form r t) ∙ (k.is ∙ body_is form r2 t2)) in
    let other : SpellsIndex D form n bytes r t2 = subst (λ (q : Region). SpellsIndex D form n bytes q t2) (sym cells.0) k in
    let rest = tree_bytes form (map key r.lo) t in
    let e : bytes ≡ cell_bytes r ++ rest = h.is ∙ body_is form r t in (
      cells.0,
      one_tree_in D form n r rest t t2 h.tree.few_dims h.tree.some h.tree.few h.least_form h.greatest_form h.tree.root_cell
          (index_tree D form n bytes rest r t h e) (index_tree D form n bytes rest r t2 other e),
    )
