-- Nodes in the bytes of each form.
use Rattle.std.proofs.Common.{◌≡◌, ℕ, ℤ, zero, ◌+◌, ◌-◌, ◌*◌, ◌≤◌, List, [], ◌∷◌, ◌++◌, length, map, drop, refl, sym, ap, subst, ◌∙◌}
use Rattle.std.proofs.Common.{arith, cond, eqb, true, int_le, length-append, append_assoc, append-nil, eq-eqb, ne_eqb, slice_index_or}
use Rattle.std.proofs.lemmas.Bool.{cond-true, cond-false}
use Rattle.std.proofs.lemmas.Int.{ints}
use Rattle.std.proofs.lemmas.List.Concat.{flat_map-append}
use Rattle.point_codec.specs.Points.{Region, all_le}
use Rattle.point_codec.specs.Keys.{key}
use Rattle.point_codec.specs.Cells.{within}
use Rattle.byte_cursor.specs.Vint.{vint}
use Rattle.inner_pack.specs.Places.{Spot, leaf_begin, front}
use Rattle.inner_pack.specs.Trees.{IndexTree, Leaf, Split, IsShaped, IsCell, cuts_of, leaf_count}
use Rattle.inner_pack.specs.Bodies.{cut_bytes, cuts_table, places_table, place_bytes, shared_front, head_bytes}
use Rattle.inner_pack.specs.Bodies.{leaf_bytes, node_bytes, with_children, cell_bytes, body_bytes}
use Rattle.inner_pack.specs.Spelled.{spelled_part, told_part, tree_bytes, IsNodeOf}
use Rattle.inner_pack.specs.Heads.{IsPackedLeaf, IsTableLeaf, IsLeafBehind}
use Rattle.inner_pack.proofs.PlaceLemmas.{AreLengths, fitted_fits, fitted_again, first_fits, count_shaped, length-places}

-- ---- the forms

pub spelled_one : (form : ℕ) (references : List (List ℕ)) (s : Spot) (t : IndexTree) → form ≡ 1 → spelled_part form references s t ≡ cuts_table t
unfolding spelled_part
spelled_one form references s t e = cond-true (eqb form 1) (cuts_table t) (node_bytes form references s t) (eq-eqb form 1 e)

pub told_one : (form : ℕ) (s : Spot) (t : IndexTree) → form ≡ 1 → told_part form s t ≡ places_table s t
unfolding told_part
told_one form s t e = cond-true (eqb form 1) (places_table s t) [] (eq-eqb form 1 e)

not_one : (form : ℕ) → 2 ≤ form → form ≡ 1 → ⊥
not_one form le e = omega arith

pub spelled_packed : (form : ℕ) (references : List (List ℕ)) (s : Spot) (t : IndexTree) → 2 ≤ form
    → spelled_part form references s t ≡ node_bytes form references s t
unfolding spelled_part
spelled_packed form references s t le = cond-false (eqb form 1) (cuts_table t) (node_bytes form references s t) (ne_eqb form 1 (not_one form le))

pub told_packed : (form : ℕ) (s : Spot) (t : IndexTree) → 2 ≤ form → told_part form s t ≡ []
unfolding told_part
told_packed form s t le = cond-false (eqb form 1) (places_table s t) [] (ne_eqb form 1 (not_one form le))

pub tree_one : (form : ℕ) (references : List (List ℕ)) (t : IndexTree) → form ≡ 1 → tree_bytes form references t ≡ cuts_table t ++ places_table front t
unfolding tree_bytes
tree_one form references t e = cond-true (eqb form 1) (cuts_table t ++ places_table front t) (node_bytes form references front t) (eq-eqb form 1 e)

pub tree_packed : (form : ℕ) (references : List (List ℕ)) (t : IndexTree) → 2 ≤ form → tree_bytes form references t ≡ node_bytes form references front t
unfolding tree_bytes
tree_packed form references t le =
    cond-false (eqb form 1) (cuts_table t ++ places_table front t) (node_bytes form references front t) (ne_eqb form 1 (not_one form le))

pub body_is : (form : ℕ) (root : Region) (t : IndexTree) → body_bytes form root t ≡ cell_bytes root ++ tree_bytes form (map key root.lo) t
unfolding body_bytes tree_bytes
body_is form root t = refl

-- ---- cells

le_self : (x : ℤ) → int_le x x ≡ true
le_self x = grind (arith, ints)

pub all_le_self : (xs : List ℤ) → all_le xs xs ≡ true
all_le_self [] = refl
all_le_self (x ∷ xs) = rw (le_self x, all_le_self xs) refl

pub within_self : (r : Region) → within r r ≡ true
within_self r = rw (all_le_self r.lo, all_le_self r.hi) refl

-- ---- leaves

one_length : (n : ℕ) → 1 ≤ n → n ≤ 4064 → AreLengths (n ∷ [])
one_length n low high k d lt =
    let first : zero ≡ k = omega arith in
    subst (λ (i : ℕ). (1 ≤ slice_index_or (n ∷ []) i d) × (slice_index_or (n ∷ []) i d ≤ 4064)) first (low, high)

pub leaf_in_table : (s : Spot) (n : ℕ) (own : Region) → places_table s (Leaf n own) ≡ place_bytes (record { at = leaf_begin s n; length = n })
unfolding places_table
leaf_in_table s n own = append-nil (place_bytes (record { at = leaf_begin s n; length = n }))

pub no_cut : (n : ℕ) (own : Region) → cuts_table (Leaf n own) ≡ []
unfolding cuts_table
no_cut n own = refl

pub of_table_leaf : (D form : ℕ) (e : Spot) (path : Region) (references : List (List ℕ)) (bytes places : List ℕ) (n : ℕ) → form ≡ 1 → IsCell D path
    → IsTableLeaf e bytes places n → IsLeafBehind D form e path references bytes places n
of_table_leaf D form e path references bytes places n one cell h = record {
  own = path;
  is = record {
    least_form = omega (arith, one);
    greatest_form = omega (arith, one);
    shaped = refl;
    fits = fitted_fits e n h.greatest;
    cells = (cell, within_self path);
    path_cells = λ _. refl;
    lengths = one_length n h.least h.greatest;
    spelled = h.no_node ∙ sym (spelled_one form references (leaf_begin e n) (Leaf n path) one ∙ no_cut n path);
    told = h.told ∙ (λ i. place_bytes (record { at = sym (fitted_again e n h.greatest) i; length = n }))
        ∙ sym (told_one form (leaf_begin e n) (Leaf n path) one ∙ leaf_in_table (leaf_begin e n) n path);
  };
}

pub to_table_leaf : (D form : ℕ) (e : Spot) (path : Region) (references : List (List ℕ)) (bytes places : List ℕ) (n : ℕ) (own : Region) → form ≡ 1
    → IsNodeOf D form 1 (leaf_begin e n) path references bytes places (Leaf n own) → IsTableLeaf e bytes places n
to_table_leaf D form e path references bytes places n own one h =
    let bound = first_fits (Leaf n own) h.lengths in
    record {
      least = bound.0;
      greatest = bound.1;
      no_node = h.spelled ∙ spelled_one form references (leaf_begin e n) (Leaf n own) one ∙ no_cut n own;
      told = h.told ∙ told_one form (leaf_begin e n) (Leaf n own) one ∙ leaf_in_table (leaf_begin e n) n own
          ∙ (λ i. place_bytes (record { at = fitted_again e n bound.1 i; length = n }));
    }

pub leaf_bytes_is : (form n : ℕ) (own : Region) → leaf_bytes form n own ≡ vint n ++ cond (eqb form 3) (cell_bytes own) []
unfolding leaf_bytes
leaf_bytes_is form n own = refl

pub of_packed_leaf : (D form : ℕ) (e : Spot) (path : Region) (references : List (List ℕ)) (bytes places : List ℕ) (n : ℕ) (own : Region) → 2 ≤ form → form ≤ 3
    → places ≡ [] → IsPackedLeaf D form path bytes n own → IsLeafBehind D form e path references bytes places n
of_packed_leaf D form e path references bytes places n own packed high none h = record {
  own = own;
  is = record {
    least_form = omega arith;
    greatest_form = high;
    shaped = refl;
    fits = fitted_fits e n h.greatest;
    cells = (h.cell, h.inside);
    path_cells = h.path_cell;
    lengths = one_length n h.least h.greatest;
    spelled = h.spelled ∙ sym (spelled_packed form references (leaf_begin e n) (Leaf n own) packed);
    told = none ∙ sym (told_packed form (leaf_begin e n) (Leaf n own) packed);
  };
}

pub to_packed_leaf : (D form leaves : ℕ) (s : Spot) (path : Region) (references : List (List ℕ)) (bytes places : List ℕ) (n : ℕ) (own : Region) → 2 ≤ form
    → IsNodeOf D form leaves s path references bytes places (Leaf n own) → IsPackedLeaf D form path bytes n own
to_packed_leaf D form leaves s path references bytes places n own packed h =
    let bound = first_fits (Leaf n own) h.lengths in
    record {
      least = bound.0;
      greatest = bound.1;
      cell = h.cells.0;
      inside = h.cells.1;
      path_cell = h.path_cells;
      spelled = h.spelled ∙ spelled_packed form references s (Leaf n own) packed;
    }

pub no_places : (D form leaves : ℕ) (s : Spot) (path : Region) (references : List (List ℕ)) (bytes places : List ℕ) (t : IndexTree) → 2 ≤ form
    → IsNodeOf D form leaves s path references bytes places t → places ≡ []
no_places D form leaves s path references bytes places t packed h = h.told ∙ told_packed form s t packed

-- ---- inner nodes

pub cuts_split : (d : ℕ) (x : ℤ) (l r : IndexTree) → cuts_table (Split d x l r) ≡ d ∷ (key x ++ (cuts_table l ++ cuts_table r))
unfolding cuts_table
cuts_split d x l r = ap (λ (t : List ℕ). d ∷ (key x ++ t)) (flat_map-append cut_bytes (cuts_of l) (cuts_of r))

pub length-cuts : (t : IndexTree) → length (cuts_table t) + 5 ≡ 5 * leaf_count t
length-cuts (Leaf n own) = refl_five n own
  where
    refl_five : (n : ℕ) (own : Region) → length (cuts_table (Leaf n own)) + 5 ≡ 5 * 1
    refl_five n own = omega (arith, ap length (no_cut n own))
length-cuts (Split d x l r) = omega (arith, ap length (cuts_split d x l r), length-append (cuts_table l) (cuts_table r), length-cuts l, length-cuts r)

pub cuts_long : (n : ℕ) (t : IndexTree) → 1 ≤ n → IsShaped n t → length (cuts_table t) ≡ 5 * (n - 1)
cuts_long n t some h = omega (arith, length-cuts t, count_shaped n t h)

pub places_long : (n : ℕ) (s : Spot) (t : IndexTree) → IsShaped n t → length (places_table s t) ≡ 8 * n
places_long n s t h = length-places s t ∙ ap (λ k. 8 * k) (count_shaped n t h)

-- the fields of a packed inner node one behind the other
abbrev pub fields : (references : List (List ℕ)) (d : ℕ) (k : List ℕ) (pages offset : ℕ) (lb rb : List ℕ) → List ℕ
fields references d k pages offset lb rb =
    let p = shared_front k (slice_index_or references d []) in
    (5 * d + p) ∷ (drop p k ++ (vint pages ++ (vint offset ++ (vint (length lb) ++ (lb ++ rb)))))

pub with_children_is : (references : List (List ℕ)) (d : ℕ) (x : ℤ) (s right : Spot) (lb rb : List ℕ)
    → with_children references d x s right lb rb ≡ fields references d (key x) (right.page - s.page) right.offset lb rb
unfolding head_bytes
with_children_is references d x s right lb rb =
    let p = shared_front (key x) (slice_index_or references d []) in
    ap (λ (t : List ℕ). (5 * d + p) ∷ t) (six (drop p (key x)) (vint (right.page - s.page)) (vint right.offset) (vint (length lb)) lb rb)
  where
    six : (a b c d e f : List ℕ) → ((((a ++ b) ++ c) ++ d) ++ e) ++ f ≡ a ++ (b ++ (c ++ (d ++ (e ++ f))))
    six a b c d e f = simp append_assoc
