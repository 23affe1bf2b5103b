-- The bytes of an index body: the root cell, and then the tree in one of three forms. They are a function of the root
-- cell and the tree; the number of leaves stands beside them in the segment's head.
use Rattle.std.specs.Prelude.{ℕ, ◌+◌, ◌-◌, ◌*◌, ◌<◌, ◌≤◌, ◌≡◌, if◌then◌else◌, ◌==◌, List, [], ◌∷◌, ◌++◌, map, length}
use Rattle.std.specs.Prelude.{drop, slice_set, slice_index_or, ℤ}
use Rattle.std.specs.List.{flat_map}
use Rattle.std.specs.Int.{w16, w32, to_be_bytes}
use Rattle.point_codec.specs.Points.{Region}
use Rattle.point_codec.specs.Keys.{key}
use Rattle.byte_cursor.specs.Vint.{vint}
use Rattle.inner_pack.specs.Places.{Spot, front, leaf_begin, LeafSpan, leaf_spans, end_of}
use Rattle.inner_pack.specs.Trees.{IndexTree, Leaf, Split, Cut, cuts_of, lengths_of, HasPathCells, IsTree}

-- the keys of the least coordinates, then those of the greatest
unfoldable pub cell_bytes : Region → List ℕ
cell_bytes r = flat_map key r.lo ++ flat_map key r.hi

-- ---- form 1, a table of the inner nodes in preorder and one of the leaves' places

abbrev pub cut_bytes : Cut → List ℕ
cut_bytes c = c.dimension ∷ key c.at

abbrev pub place_bytes : LeafSpan → List ℕ
place_bytes p = to_be_bytes w32 p.at.page ++ to_be_bytes w16 p.at.offset ++ to_be_bytes w16 p.length

unfoldable pub cuts_table : IndexTree → List ℕ
cuts_table t = flat_map cut_bytes (cuts_of t)

-- the first leaf begins at s
unfoldable pub places_table : Spot → IndexTree → List ℕ
places_table s t = flat_map place_bytes (leaf_spans s (lengths_of t))

-- ---- forms 2 and 3, packed: a split value less what it shares with the last one on the path in its dimension, and its
-- place in the bytes told so that a walk can pass over a subtree (after Lucene's packed index of a block tree)

-- how many bytes the two keys share at the front
abbrev pub shared_front : List ℕ → List ℕ → ℕ
shared_front (x ∷ xs) (y ∷ ys) = if x == y then shared_front xs ys + 1 else 0
shared_front [] ys = 0
shared_front (x ∷ xs) [] = 0

-- the code of dimension and shared length, the rest of the key, how many pages further and at which offset the right
-- child's first leaf begins, and how many bytes spell the left child. A reference is the key of the last split in its
-- dimension on the path from the root, and of the root cell's least coordinate where there is none
unfoldable pub head_bytes : (references : List (List ℕ)) (dimension : ℕ) (at : ℤ) (pages offset left : ℕ) → List ℕ
head_bytes references d x pages offset left =
    (5 * d + shared_front (key x) (slice_index_or references d [])) ∷ drop
    (shared_front (key x) (slice_index_or references d []))
    (key x) ++ vint pages ++ vint offset ++ vint left

-- in form 3 a leaf's own cell stands behind its length
unfoldable pub leaf_bytes : (form length : ℕ) → Region → List ℕ
leaf_bytes form length own = vint length ++ (if form == 3 then cell_bytes own else [])

-- the length of the first leaf
abbrev pub first_length : IndexTree → ℕ
first_length (Leaf length own) = length
first_length (Split d x l r) = first_length l

-- where the first leaf of the right child begins, where that of the left child begins at s
unfoldable pub right_begin : Spot → IndexTree → IndexTree → Spot
right_begin s l r = leaf_begin (end_of s (lengths_of l)) (first_length r)

abbrev pub with_children : (references : List (List ℕ)) (d : ℕ) (x : ℤ) (s right : Spot)
    (left_bytes right_bytes : List ℕ) → List ℕ
with_children references d x s right left_bytes right_bytes =
    head_bytes references d x (right.page - s.page) right.offset (length left_bytes) ++ left_bytes ++ right_bytes

-- a node whose first leaf begins at s
abbrev pub node_bytes : (form : ℕ) (references : List (List ℕ)) → Spot → IndexTree → List ℕ
node_bytes form references s (Leaf length own) = leaf_bytes form length own
node_bytes form references s (Split d x l r) = with_children references d x s (right_begin s l r)
    (node_bytes form (slice_set references d (key x)) s l)
    (node_bytes form (slice_set references d (key x)) (right_begin s l r) r)

-- ---- the whole

unfoldable pub body_bytes : (form : ℕ) → Region → IndexTree → List ℕ
body_bytes form root t =
    cell_bytes root ++
    (if form == 1 then cuts_table t ++ places_table front t else node_bytes form (map key root.lo) front t)

-- The bytes spell the tree of n leaves over a root cell, in form 1, 2 or 3. They spell no other one (`one_tree`).
pub record SpellsIndex (D form n : ℕ) (bytes : List ℕ) (root : Region) (t : IndexTree) : Type 0 where
  pub least_form : 1 ≤ form
  pub greatest_form : form ≤ 3
  pub tree : IsTree D n root t
  pub path_cells : form < 3 → HasPathCells root t
  pub is : bytes ≡ body_bytes form root t

-- an index as its form, its number of leaves and its bytes
pub record Body : Type 0 where
  pub form : ℕ
  pub leaves : ℕ
  pub bytes : List ℕ

-- the index has this root cell and this tree
abbrev pub HasTree : ℕ → Body → Region → IndexTree → Type 0
HasTree D index root t = SpellsIndex D index.form index.leaves index.bytes root t

-- the index has a root cell and a tree
pub record IsSpelled (D : ℕ) (index : Body) : Type 0 where
  pub root : Region
  pub tree : IndexTree
  pub has : HasTree D index root tree

-- one page more than that in which the last leaf stands
abbrev pub pages_of : IndexTree → ℕ
pages_of t = (end_of front (lengths_of t)).page + 1

-- the bytes spell a tree over this root cell, whose leaves take so many pages
pub record IsIndex (D form leaves : ℕ) (bytes : List ℕ) (root : Region) (pages : ℕ) : Type 0 where
  pub tree : IndexTree
  pub spelled : SpellsIndex D form leaves bytes root tree
  pub pages_are : pages ≡ pages_of tree
