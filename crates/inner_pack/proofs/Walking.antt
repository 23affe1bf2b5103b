-- What a walk knows at a node.
use Rattle.std.proofs.Common.{◌≡◌, ℕ, ℤ, ◌+◌, ◌-◌, ◌*◌, ◌/◌, ◌≤◌, ◌<◌, List, length, map, drop, drop_at}
use Rattle.std.proofs.Common.{length-append, inl, inr, FitsSigned, refl, sym, ap, subst, ◌∙◌, arith, slice_set}
use Rattle.std.specs.Int.{w32}
use Rattle.std.proofs.lemmas.Bool.{cases_lt}
use Rattle.std.proofs.lemmas.Grind.{not_there}
use Rattle.point_codec.specs.Points.{Region}
use Rattle.point_codec.specs.Keys.{key}
use Rattle.point_codec.specs.Cells.{left_of, right_of}
use Rattle.inner_pack.specs.Places.{Spot, spot_at, front}
use Rattle.inner_pack.specs.Trees.{IndexTree, Leaf, Split, IsCell, IsInCell, cell_of}
use Rattle.inner_pack.specs.Bodies.{right_begin, cell_bytes, SpellsIndex}
use Rattle.inner_pack.specs.Spelled.{spelled_part, told_part, tree_bytes, IsNodeOf}
use Rattle.inner_pack.specs.Nodes.{IsAt}
use Rattle.inner_pack.specs.declared.node.NodeAt.{NodeAt}
use Rattle.inner_pack.specs.Heads.{SaysSplit}
use Rattle.inner_pack.specs.declared.head.Head.{Head}
use Rattle.inner_pack.proofs.PlaceLemmas.{first_fits, right_from, right_to, count_shaped}
use Rattle.inner_pack.proofs.CellLemmas.{length-cell}
use Rattle.inner_pack.proofs.SpelledLemmas.{body_is}
use Rattle.inner_pack.proofs.OneTree.{root_node, index_tree}
use Rattle.inner_pack.proofs.SameNodes.{with_bytes}
use Rattle.inner_pack.proofs.HeadLemmas.{in_cell_fits, left_lengths}
use Rattle.inner_pack.proofs.NodeLemmas.{is_split, is_leaf, left_node, right_node, said_otherwise}

-- an inner node, whose cell is its path cell
pub record Opened (D form n : ℕ) (s : Spot) (cell : Region) (references : List (List ℕ)) (bytes places : List ℕ) (path : Region) (t : IndexTree) : Type 0 where
  pub d : ℕ
  pub x : ℤ
  pub l : IndexTree
  pub r : IndexTree
  pub is : t ≡ Split d x l r
  pub path_is : cell ≡ path
  pub fits : FitsSigned w32 x
  pub node : IsNodeOf D form n s cell references bytes places (Split d x l r)

pub opened : (D form n : ℕ) (s : Spot) (cell : Region) (references : List (List ℕ)) (bytes places : List ℕ) (path : Region) (t : IndexTree) → 2 ≤ n
    → IsCell D cell → cell ≡ cell_of path t
    → IsNodeOf D form n s path references bytes places t → Opened D form n s cell references bytes places path t
opened D form n s cell references bytes places path t two is_cell same h =
    let sp = is_split n t two h.shaped in
    let path_is : cell ≡ path = same ∙ ap (cell_of path) sp.is in
    let there : IsNodeOf D form n s path references bytes places (Split sp.d sp.x sp.l sp.r) =
    subst (λ (u : IndexTree). IsNodeOf D form n s path references bytes places u) sp.is h in
    let node = said_otherwise D form n s s path cell references references bytes places (Split sp.d sp.x sp.l sp.r) refl path_is refl there in
    record { d = sp.d; x = sp.x; l = sp.l; r = sp.r; is = sp.is; path_is = path_is; fits = in_cell_fits D sp.d sp.x cell is_cell node.cells.0; node = node }

pub record LeafNode (D form n : ℕ) (s : Spot) (path : Region) (references : List (List ℕ)) (bytes places : List ℕ) (t : IndexTree) : Type 0 where
  pub size : ℕ
  pub own : Region
  pub is : t ≡ Leaf size own
  pub least : 1 ≤ size
  pub greatest : size ≤ 4064
  pub node : IsNodeOf D form n s path references bytes places (Leaf size own)

pub leaf_node : (D form n : ℕ) (s : Spot) (path : Region) (references : List (List ℕ)) (bytes places : List ℕ) (t : IndexTree) → n ≡ 1
    → IsNodeOf D form n s path references bytes places t → LeafNode D form n s path references bytes places t
leaf_node D form n s path references bytes places t one h =
    let lf = is_leaf n t one h.shaped in
    let node : IsNodeOf D form n s path references bytes places (Leaf lf.size lf.own) =
    subst (λ (u : IndexTree). IsNodeOf D form n s path references bytes places u) lf.is h in
    let bound = first_fits (Leaf lf.size lf.own) node.lengths in
    record { size = lf.size; own = lf.own; is = lf.is; least = bound.0; greatest = bound.1; node = node }

pub in_cell_said : (D form : ℕ) (s : Spot) (cell : Region) (references : List (List ℕ)) (d : ℕ) (x : ℤ) (l r : IndexTree) (h : Head)
    → SaysSplit form references s d x l r h → IsInCell D cell d x → IsInCell D cell h.dimension h.at
in_cell_said D form s cell references d x l r h says inside =
    subst (λ (e : ℕ). IsInCell D cell e h.at) (sym says.dimension) (subst (λ (y : ℤ). IsInCell D cell d y) (sym says.value) inside)

pub pages_said : (D form n : ℕ) (s : Spot) (cell : Region) (references : List (List ℕ)) (bytes places : List ℕ) (d : ℕ) (x : ℤ) (l r : IndexTree) (h : Head)
    → IsNodeOf D form n s cell references bytes places (Split d x l r) → SaysSplit form references s d x l r h
    → h.pages ≤ n - n / 2
pages_said D form n s cell references bytes places d x l r h node says =
    omega (arith, says.pages, right_to s l r (left_lengths l r node.lengths) node.fits, count_shaped (n - n / 2) l node.shaped.1)

pub left_child : (D form n : ℕ) (s : Spot) (cell : Region) (references : List (List ℕ)) (bytes places : List ℕ) (d : ℕ) (x : ℤ) (l r : IndexTree) (h : Head)
    (path : Region) (moved : List (List ℕ)) → IsNodeOf D form n s cell references bytes places (Split d x l r) → SaysSplit form references s d x l r h
    → path ≡ left_of cell h.dimension h.at → moved ≡ slice_set references h.dimension h.key
    → IsNodeOf D form (n - n / 2) s path moved h.left.bytes.now h.left.places.now l
left_child D form n s cell references bytes places d x l r h path moved node says ep em =
    said_otherwise D form (n - n / 2) s s (left_of cell d x) path (slice_set references d (key x)) moved h.left.bytes.now h.left.places.now l refl
    (ep ∙ (λ i. left_of cell (says.dimension i) (says.value i))) (em ∙ (λ i. slice_set references (says.dimension i) (says.key_is i)))
    (left_node D form n s cell references bytes places d x l r h node says)

pub right_spot : (form : ℕ) (s : Spot) (references : List (List ℕ)) (d : ℕ) (x : ℤ) (l r : IndexTree) (h : Head) → SaysSplit form references s d x l r h
    → spot_at (s.page + h.pages) h.offset ≡ right_begin s l r
right_spot form s references d x l r h says =
    let page : s.page + h.pages ≡ (right_begin s l r).page = omega (arith, says.pages, right_from s l r) in
    (λ i. spot_at (page i) (says.offset i))

pub right_child : (D form n : ℕ) (s : Spot) (cell : Region) (references : List (List ℕ)) (bytes places : List ℕ) (d : ℕ) (x : ℤ) (l r : IndexTree) (h : Head)
    (path : Region) (moved : List (List ℕ)) → IsNodeOf D form n s cell references bytes places (Split d x l r) → SaysSplit form references s d x l r h
    → path ≡ right_of cell h.dimension h.at → moved ≡ slice_set references h.dimension h.key
    → IsNodeOf D form (n / 2) (spot_at (s.page + h.pages) h.offset) path moved h.right.bytes.now h.right.places.now r
right_child D form n s cell references bytes places d x l r h path moved node says ep em =
    said_otherwise D form (n / 2) (right_begin s l r) (spot_at (s.page + h.pages) h.offset) (right_of cell d x) path (slice_set references d (key x)) moved
    h.right.bytes.now h.right.places.now r (right_spot form s references d x l r h says)
    (ep ∙ (λ i. right_of cell (says.dimension i) (says.value i))) (em ∙ (λ i. slice_set references (says.dimension i) (says.key_is i)))
    (right_node D form n s cell references bytes places d x l r h node says)

-- the same node with its path cell and its split in sight
pub as_inner : (D form n : ℕ) (s : Spot) (cell : Region) (references : List (List ℕ)) (bytes places : List ℕ) (path : Region) (t : IndexTree) (d : ℕ) (x : ℤ)
    (l r : IndexTree) → cell ≡ cell_of path t → t ≡ Split d x l r
    → IsNodeOf D form n s path references bytes places t → IsNodeOf D form n s cell references bytes places (Split d x l r)
as_inner D form n s cell references bytes places path t d x l r same is h =
    said_otherwise D form n s s path cell references references bytes places (Split d x l r) refl (same ∙ ap (cell_of path) is) refl
    (subst (λ (u : IndexTree). IsNodeOf D form n s path references bytes places u) is h)

pub begins_at : (D form n : ℕ) (s u : Spot) (path : Region) (references : List (List ℕ)) (bytes places : List ℕ) (t : IndexTree) → u ≡ s
    → IsNodeOf D form n s path references bytes places t → IsNodeOf D form n u path references bytes places t
begins_at D form n s u path references bytes places t e h = said_otherwise D form n s u path path references references bytes places t e refl refl h

-- what follows from each that there may be
pub le_there : {P : Type 0} (a b : ℕ) → ∥ P ∥₁ → (P → a ≤ b) → a ≤ b
le_there a b h f = elim (cases_lt b a) [
  | inl lt ↦ absurd (not_there h (λ p. over a b lt (f p)))
  | inr le ↦ le
]
  where
    over : (a b : ℕ) → b < a → a ≤ b → ⊥
    over a b lt le = omega arith

pub at_otherwise : {D : ℕ} (node : NodeAt D) (f k : ℕ) (u v : Spot) (p q : Region) (t : IndexTree) → k ≡ f → v ≡ u → q ≡ p → IsAt node f u p t
    → IsAt node k v q t
at_otherwise node f k u v p q t ef eu ep h =
    subst (λ (j : ℕ). IsAt node j v q t) (sym ef) (subst (λ (w : Spot). IsAt node f w q t) (sym eu) (subst (λ (r : Region). IsAt node f u r t) (sym ep) h))

-- what follows the root cell
pub after_cell : (D form n : ℕ) (bytes : List ℕ) (root : Region) (t : IndexTree) → SpellsIndex D form n bytes root t
    → drop (8 * D) bytes ≡ tree_bytes form (map key root.lo) t
after_cell D form n bytes root t h =
    ap (drop (8 * D)) (h.is ∙ body_is form root t)
    ∙ drop_at (cell_bytes root) (tree_bytes form (map key root.lo) t) (8 * D) (length-cell D root h.tree.root_cell)

pub cell_before : (D form n : ℕ) (bytes : List ℕ) (root : Region) (t : IndexTree) → SpellsIndex D form n bytes root t → 8 * D ≤ length bytes
cell_before D form n bytes root t h =
    omega (
      arith,
      ap length (h.is ∙ body_is form root t),
      length-append (cell_bytes root) (tree_bytes form (map key root.lo) t),
      length-cell D root h.tree.root_cell,
    )

-- the root in its parts
pub root_at : (D form n : ℕ) (bytes rest : List ℕ) (root : Region) (t : IndexTree) (references : List (List ℕ)) (b p : List ℕ)
    → SpellsIndex D form n bytes root t → references ≡ map key root.lo
    → b ≡ spelled_part form (map key root.lo) front t → p ≡ told_part form front t → IsNodeOf D form n front root references b p t
root_at D form n bytes rest root t references b p h er eb ep =
    with_bytes D form n front root root (map key root.lo) references (spelled_part form (map key root.lo) front t) b (told_part form front t) p t refl er eb ep
    (root_node D form n root (tree_bytes form (map key root.lo) t) t h.least_form h.greatest_form
    (index_tree D form n bytes (tree_bytes form (map key root.lo) t) root t h (h.is ∙ body_is form root t)))
