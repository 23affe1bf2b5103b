-- Nodes made of their children, and taken apart.
use Rattle.std.proofs.Common.{◌≡◌, ℕ, ℤ, ◌-◌, ◌/◌, ◌≤◌, List, length, refl, sym, ap, subst, ◌∙◌, arith, slice_set}
use Rattle.std.proofs.lemmas.List.Elements.{All-append}
use Rattle.point_codec.specs.Points.{Region}
use Rattle.point_codec.specs.Keys.{key}
use Rattle.point_codec.specs.Cells.{left_of, right_of}
use Rattle.inner_pack.specs.Places.{Spot, leaf_begin, leaf_end, end_of}
use Rattle.inner_pack.specs.Trees.{IndexTree, Leaf, Split, IsShaped, IsInCell, lengths_of}
use Rattle.inner_pack.specs.Bodies.{first_length, right_begin}
use Rattle.inner_pack.specs.Spelled.{IsNodeOf}
use Rattle.inner_pack.specs.Heads.{SaysSplit, IsNodeHead}
use Rattle.inner_pack.specs.declared.head.Head.{Head}
use Rattle.inner_pack.proofs.PlaceLemmas.{AreLengths, right_fits, end_of_append, right_first}
use Rattle.inner_pack.proofs.HeadLemmas.{left_lengths, right_lengths}

-- a node of two leaves or more is an inner node
pub record IsSplit (t : IndexTree) : Type 0 where
  pub d : ℕ
  pub x : ℤ
  pub l : IndexTree
  pub r : IndexTree
  pub is : t ≡ Split d x l r

pub is_split : (n : ℕ) (t : IndexTree) → 2 ≤ n → IsShaped n t → IsSplit t
is_split n (Leaf length own) le h = absurd (omega arith)
is_split n (Split d x l r) le h = record { d = d; x = x; l = l; r = r; is = refl }

pub record IsLeaf (t : IndexTree) : Type 0 where
  pub size : ℕ
  pub own : Region
  pub is : t ≡ Leaf size own

pub is_leaf : (n : ℕ) (t : IndexTree) → n ≡ 1 → IsShaped n t → IsLeaf t
is_leaf n (Leaf length own) e h = record { size = length; own = own; is = refl }
is_leaf n (Split d x l r) e h = absurd (omega (arith, e, h.0))

-- the children of an inner node in the parts that its head says
pub left_node : (D form leaves : ℕ) (s : Spot) (path : Region) (references : List (List ℕ)) (bytes places : List ℕ) (d : ℕ) (x : ℤ) (l r : IndexTree) (h : Head)
    → IsNodeOf D form leaves s path references bytes places (Split d x l r) → SaysSplit form references s d x l r h
    → IsNodeOf D form (leaves - leaves / 2) s (left_of path d x) (slice_set references d (key x)) h.left.bytes.now h.left.places.now l
left_node D form leaves s path references bytes places d x l r h n says = record {
  least_form = n.least_form;
  greatest_form = n.greatest_form;
  shaped = n.shaped.1;
  fits = n.fits;
  cells = n.cells.1;
  path_cells = λ lt. (n.path_cells lt).0;
  lengths = left_lengths l r n.lengths;
  spelled = says.left_bytes;
  told = says.left_places;
}

pub right_node : (D form leaves : ℕ) (s : Spot) (path : Region) (references : List (List ℕ)) (bytes places : List ℕ) (d : ℕ) (x : ℤ) (l r : IndexTree)
    (h : Head) → IsNodeOf D form leaves s path references bytes places (Split d x l r) → SaysSplit form references s d x l r h
    → IsNodeOf D form (leaves / 2) (right_begin s l r) (right_of path d x) (slice_set references d (key x)) h.right.bytes.now h.right.places.now r
right_node D form leaves s path references bytes places d x l r h n says =
    let rl = right_lengths l r n.lengths in
    record {
      least_form = n.least_form;
      greatest_form = n.greatest_form;
      shaped = n.shaped.2;
      fits = right_fits s l r rl;
      cells = n.cells.2;
      path_cells = λ lt. (n.path_cells lt).1;
      lengths = rl;
      spelled = says.right_bytes;
      told = says.right_places;
    }

-- an inner node of two children
pub joined_node : (D form leaves : ℕ) (s : Spot) (path : Region) (references : List (List ℕ)) (bytes places : List ℕ) (l r : IndexTree) (h : Head)
    (lb lp rb rp : List ℕ) (lower : List (List ℕ)) → 2 ≤ leaves
    → IsInCell D path h.dimension h.at
    → IsNodeOf D form (leaves - leaves / 2) s (left_of path h.dimension h.at) lower lb lp l
    → IsNodeOf D form (leaves / 2) (right_begin s l r) (right_of path h.dimension h.at) lower rb rp r
    → IsNodeHead D form references bytes places h → SaysSplit form references s h.dimension h.at l r h
    → IsNodeOf D form leaves s path references bytes places (Split h.dimension h.at l r)
joined_node D form leaves s path references bytes places l r h lb lp rb rp lower two inside nl nr head says =
    let j = head.joins s l r nr.lengths says in
    record {
      least_form = nl.least_form;
      greatest_form = nl.greatest_form;
      shaped = (two, nl.shaped, nr.shaped);
      fits = nl.fits;
      cells = (inside, nl.cells, nr.cells);
      path_cells = λ lt. (nl.path_cells lt, nr.path_cells lt);
      lengths = All-append (λ (n : ℕ). (1 ≤ n) × (n ≤ 4064)) (lengths_of l) (lengths_of r) nl.lengths nr.lengths;
      spelled = j.0;
      told = j.1;
    }

-- where the leaves of an inner node next behind e end
pub split_end : (e : Spot) (d : ℕ) (x : ℤ) (l r : IndexTree) → end_of e (lengths_of (Split d x l r)) ≡ end_of (end_of e (lengths_of l)) (lengths_of r)
split_end e d x l r = end_of_append e (lengths_of l) (lengths_of r)

-- where a leaf next behind e ends
pub leaf_span : (e b f : Spot) (t : IndexTree) (n m : ℕ) (own : Region) → t ≡ Leaf m own → n ≡ m → b ≡ leaf_begin e n → f ≡ leaf_end b n
    → (b ≡ leaf_begin e (first_length t)) × (f ≡ end_of e (lengths_of t))
leaf_span e b f t n m own is same begin end =
    subst (λ (u : IndexTree). (b ≡ leaf_begin e (first_length u)) × (f ≡ end_of e (lengths_of u))) (sym is)
    (begin ∙ ap (leaf_begin e) same, end ∙ (λ i. leaf_end (begin i) n) ∙ ap (λ k. leaf_end (leaf_begin e k) k) same)

pub as_leaf : (D form : ℕ) (e : Spot) (path : Region) (references : List (List ℕ)) (bytes places : List ℕ) (t : IndexTree) (n : ℕ) (own : Region)
    → t ≡ Leaf n own
    → IsNodeOf D form 1 (leaf_begin e (first_length t)) path references bytes places t
    → IsNodeOf D form 1 (leaf_begin e n) path references bytes places (Leaf n own)
as_leaf D form e path references bytes places t n own is h =
    subst (λ (u : IndexTree). IsNodeOf D form 1 (leaf_begin e (first_length u)) path references bytes places u) is h

-- the same node, its path cell, its references and its begin said otherwise
pub said_otherwise : (D form leaves : ℕ) (s u : Spot) (path other : Region) (references moved : List (List ℕ)) (bytes places : List ℕ) (t : IndexTree) → u ≡ s
    → other ≡ path → moved ≡ references
    → IsNodeOf D form leaves s path references bytes places t → IsNodeOf D form leaves u other moved bytes places t
said_otherwise D form leaves s u path other references moved bytes places t es ep er h =
    subst (λ (v : Spot). IsNodeOf D form leaves v other moved bytes places t) (sym es)
    (subst (λ (q : Region). IsNodeOf D form leaves s q moved bytes places t) (sym ep)
    (subst (λ (rs : List (List ℕ)). IsNodeOf D form leaves s path rs bytes places t) (sym er) h))

pub as_split : (D form leaves : ℕ) (e : Spot) (path : Region) (references : List (List ℕ)) (bytes places : List ℕ) (t : IndexTree) (d : ℕ) (x : ℤ)
    (l r : IndexTree) → t ≡ Split d x l r
    → IsNodeOf D form leaves (leaf_begin e (first_length t)) path references bytes places t
    → IsNodeOf D form leaves (leaf_begin e (first_length l)) path references bytes places (Split d x l r)
as_split D form leaves e path references bytes places t d x l r is h =
    subst (λ (u : IndexTree). IsNodeOf D form leaves (leaf_begin e (first_length u)) path references bytes places u) is h

-- where an inner node next behind e begins and ends, where its children are found one behind the other
pub split_span : (e b m f : Spot) (t : IndexTree) (d : ℕ) (x : ℤ) (l r : IndexTree) → t ≡ Split d x l r → b ≡ leaf_begin e (first_length l)
    → m ≡ end_of e (lengths_of l) → f ≡ end_of m (lengths_of r)
    → (b ≡ leaf_begin e (first_length t)) × (f ≡ end_of e (lengths_of t))
split_span e b m f t d x l r is begin middle end =
    subst (λ (u : IndexTree). (b ≡ leaf_begin e (first_length u)) × (f ≡ end_of e (lengths_of u))) (sym is)
    (begin, end ∙ ap (λ (v : Spot). end_of v (lengths_of r)) middle ∙ sym (split_end e d x l r))

-- where the right child is found is where the tree has it
pub right_found : (e m : Spot) (l r : IndexTree) → AreLengths (lengths_of l) → m ≡ end_of e (lengths_of l)
    → leaf_begin m (first_length r) ≡ right_begin (leaf_begin e (first_length l)) l r
right_found e m l r h middle = ap (λ (v : Spot). leaf_begin v (first_length r)) middle ∙ sym (right_first e l r h)
