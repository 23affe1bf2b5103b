-- The parts of a whole tree, and its body.
use Rattle.std.proofs.Common.{◌≡◌, ◌<◌, ◌≤◌, ◌+◌, ℕ, List, [], ◌∷◌, ◌++◌, length, map, take, drop, reverse, get_or, refl, sym, ap, subst, ◌∙◌, arith, All, ℤ}
use Rattle.std.proofs.lemmas.List.{length-map, map-append, get_or-map, reverse-append, reverse-reverse}
use Rattle.std.proofs.lemmas.List.Elements.{All-nil, All-cons, All-append}
use Rattle.point_codec.specs.Points.{Region}
use Rattle.point_codec.specs.Seen.{region_of}
use Rattle.point_codec.specs.Keys.{key}
use Rattle.point_codec.specs.Cells.{left_of, right_of}
use Rattle.point_codec.specs.declared.boxes.Cell.{Cell}
use Rattle.inner_pack.specs.declared.place.LeafPlace.{LeafPlace}
use Rattle.inner_pack.specs.Places.{Spot, front, leaf_begin, leaf_end, LeafSpan, leaf_spans, end_of}
use Rattle.inner_pack.specs.Trees.{IndexTree, Leaf, Split, Cut, HasCells, IsShaped, leaf_count, cuts_of}
use Rattle.inner_pack.specs.Bodies.{first_length, node_bytes, cell_bytes, body_bytes, SpellsIndex, IsIndex}
use Rattle.inner_pack.specs.Parts.{ArePartsOf, AreParts}
use Rattle.inner_pack.specs.Packs.{AppendsReversed, IsSubtree}
use Rattle.inner_pack.proofs.PlaceLemmas.{fitted_here, first_fits, length-lengths_of}
use Rattle.inner_pack.proofs.PackBytes.{turned}
use Rattle.inner_pack.proofs.PackParts.{length-placed, length-own_cells, length-cuts_of}
use Rattle.inner_pack.specs.Heads.{placed_of}

-- each split's dimension is one of the cell's
dimensions_in : (D : ℕ) (path : Region) (t : IndexTree) → HasCells D path t → All (λ (v : ℕ × ℤ). v.0 < D) (map (λ (c : Cut). (c.dimension, c.at)) (cuts_of t))
dimensions_in D path (Leaf n own) h = All-nil (λ (v : ℕ × ℤ). v.0 < D)
dimensions_in D path (Split d x l r) h =
    let left = dimensions_in D (left_of path d x) l h.1 in
    let right = dimensions_in D (right_of path d x) r h.2 in
    let both = All-append (λ (v : ℕ × ℤ). v.0 < D) (map (λ (c : Cut). (c.dimension, c.at)) (cuts_of l)) (map (λ (c : Cut). (c.dimension, c.at)) (cuts_of r))
    left right in
    All-cons (λ (v : ℕ × ℤ). v.0 < D) (d, x) (map (λ (c : Cut). (c.dimension, c.at)) (cuts_of l ++ cuts_of r)) h.0.dimension
    (subst (All (λ (v : ℕ × ℤ). v.0 < D)) (sym (map-append (λ (c : Cut). (c.dimension, c.at)) (cuts_of l) (cuts_of r))) both)

pub dimensions_below : (D : ℕ) (root : Region) (nodes : List (ℕ × ℤ)) (lengths : List ℕ) (cells : List (Cell D)) → AreParts D root nodes lengths cells
    → All (λ (v : ℕ × ℤ). v.0 < D) nodes
dimensions_below D root nodes lengths cells h =
    subst (All (λ (v : ℕ × ℤ). v.0 < D)) (sym h.are.nodes_are) (dimensions_in D root h.tree h.are.tree.cells)

pub lengths_small : (D : ℕ) (root : Region) (nodes : List (ℕ × ℤ)) (lengths : List ℕ) (cells : List (Cell D)) → AreParts D root nodes lengths cells
    → All (λ (n : ℕ). (1 ≤ n) × (n ≤ 4064)) lengths
lengths_small D root nodes lengths cells h = subst (All (λ (n : ℕ). (1 ≤ n) × (n ≤ 4064))) (sym h.are.lengths_are) h.are.tree.lengths

placed_lengths : (e : Spot) (xs : List ℕ) → map (λ (z : LeafSpan). z.length) (leaf_spans e xs) ≡ xs
placed_lengths e [] = refl
placed_lengths e (x ∷ xs) = ap (λ (t : List ℕ). x ∷ t) (placed_lengths (leaf_end (leaf_begin e x) x) xs)

-- the lengths that the places tell
pub places_small : (places : List LeafPlace) (lengths : List ℕ) → map placed_of places ≡ leaf_spans front lengths
    → All (λ (n : ℕ). (1 ≤ n) × (n ≤ 4064)) lengths
    → All (λ (p : LeafPlace). p.length ≤ 4064) places
places_small places lengths are all k d lt =
    let n = length-map places placed_of in
    let m = length-placed front lengths in
    let same : length places ≡ length lengths = sym n ∙ ap length are ∙ m in
    let told : (get_or places k d).length ≡ get_or lengths k d.length =
    ap (λ (z : LeafSpan). z.length) (sym (get_or-map placed_of places k d (placed_of d) lt))
    ∙ ap (λ (zs : List LeafSpan). (get_or zs k (placed_of d)).length) are
    ∙ sym (get_or-map (λ (z : LeafSpan). z.length) (leaf_spans front lengths) k (placed_of d) d.length (omega arith))
    ∙ ap (λ (ns : List ℕ). get_or ns k d.length) (placed_lengths front lengths) in
    let here : (1 ≤ get_or lengths k d.length) × (get_or lengths k d.length ≤ 4064) = all k d.length (omega arith) in
    omega arith

pub record Counts {D : ℕ} (nodes : List (ℕ × ℤ)) (lengths : List ℕ) (places : List LeafPlace) (cells : List (Cell D)) : Type 0 where
  pub nodes_are : length nodes + 1 ≡ length places
  pub cells_are : length cells ≡ length places
  pub places_are : length places ≡ length lengths
  pub few : length lengths ≤ 8388608
  pub some : 1 ≤ length lengths

pub counted : (D : ℕ) (root : Region) (nodes : List (ℕ × ℤ)) (lengths : List ℕ) (cells : List (Cell D)) (places : List LeafPlace)
    → AreParts D root nodes lengths cells
    → map placed_of places ≡ leaf_spans front lengths → Counts nodes lengths places cells
counted D root nodes lengths cells places h are =
    let t = h.tree in
    let same : length places ≡ length lengths = sym (length-map places placed_of) ∙ ap length are ∙ length-placed front lengths in
    let leaves : length lengths ≡ leaf_count t = ap length h.are.lengths_are ∙ length-lengths_of t in
    let own : length cells ≡ leaf_count t = sym (length-map cells (region_of {D = D})) ∙ ap length h.are.cells_are ∙ length-own_cells t in
    let inner : length nodes ≡ length (cuts_of t) = ap length h.are.nodes_are ∙ length-map (cuts_of t) (λ (c : Cut). (c.dimension, c.at)) in
    let few = h.are.tree.few in
    let some = h.are.tree.some in
    record { nodes_are = omega (arith, length-cuts_of t); cells_are = omega arith; places_are = same; few = few; some = some }

-- the parts of the whole are those of a subtree that begins at the front
pub whole_part : (D : ℕ) (root : Region) (nodes : List (ℕ × ℤ)) (lengths : List ℕ) (cells : List (Cell D)) (places : List LeafPlace) (t : IndexTree)
    → ArePartsOf D root nodes lengths cells t
    → map placed_of places ≡ leaf_spans front lengths → IsSubtree D front nodes places cells t
whole_part D root nodes lengths cells places t h are =
    let same : length lengths ≡ length places = sym (sym (length-map places placed_of) ∙ ap length are ∙ length-placed front lengths) in
    let fits : first_length t ≤ 4064 = (first_fits t h.tree.lengths).1 in
    record {
      path = root;
      shaped = subst (λ (n : ℕ). IsShaped n t) same h.tree.shaped;
      cells_in = h.tree.cells;
      lengths = h.tree.lengths;
      begins = fitted_here front (first_length t) (omega arith);
      nodes_are = h.nodes_are;
      places_are = are ∙ ap (leaf_spans front) h.lengths_are;
      cells_are = h.cells_are;
    }

-- the body, from the nodes that are turned
pub body_turned : (root : Region) (t : IndexTree) (a b c d e : List ℕ) (from : ℕ) → a ≡ [] → AppendsReversed a b (node_bytes 3 (map key root.lo) front t)
    → from ≡ length b
    → c ≡ b ++ cell_bytes root → d ≡ take from c ++ reverse (drop from c) → e ≡ take 0 d ++ reverse (drop 0 d) → e ≡ body_bytes 3 root t
unfolding body_bytes
body_turned root t a b c d e from none nodes here cell first last =
    let node = node_bytes 3 (map key root.lo) front t in
    let back : AppendsReversed b d (cell_bytes root) = turned b c d (cell_bytes root) from here cell first in
    last
    ∙ ap reverse back
    ∙ reverse-append b (reverse (cell_bytes root))
    ∙ (λ i. reverse-reverse (cell_bytes root) i ++ reverse ((nodes ∙ ap (λ (w : List ℕ). w ++ reverse node) none) i))
    ∙ ap (λ (w : List ℕ). cell_bytes root ++ w) (reverse-reverse node)

-- the body spells the tree
pub spelled_body : (D : ℕ) (root : Region) (nodes : List (ℕ × ℤ)) (lengths : List ℕ) (cells : List (Cell D)) (bytes : List ℕ) (t : IndexTree)
    → ArePartsOf D root nodes lengths cells t
    → bytes ≡ body_bytes 3 root t → SpellsIndex D 3 (length lengths) bytes root t
spelled_body D root nodes lengths cells bytes t h is = record {
  least_form = omega arith;
  greatest_form = omega arith;
  tree = h.tree;
  path_cells = λ lt. absurd (omega arith);
  is = is;
}

pub is_index : (D : ℕ) (root : Region) (nodes : List (ℕ × ℤ)) (lengths : List ℕ) (cells : List (Cell D)) (bytes : List ℕ) (pages : ℕ)
    → (h : AreParts D root nodes lengths cells)
    → bytes ≡ body_bytes 3 root h.tree → pages ≡ (end_of front lengths).page + 1 → IsIndex D 3 (length lengths) bytes root pages
is_index D root nodes lengths cells bytes pages h is told = record {
  tree = h.tree;
  spelled = spelled_body D root nodes lengths cells bytes h.tree h.are is;
  pages_are = told ∙ ap (λ (ns : List ℕ). (end_of front ns).page + 1) h.are.lengths_are;
}
