-- What an inner node and a leaf say of themselves, and what a check of a node finds.
use Rattle.std.specs.Prelude.{ℕ, ◌-◌, ◌≤◌, ◌<◌, ◌≡◌, if◌then◌else◌, ◌==◌, true, List, [], All, ℤ, slice_set}
use Rattle.point_codec.specs.Points.{Region}
use Rattle.point_codec.specs.Keys.{key}
use Rattle.point_codec.specs.Cells.{within}
use Rattle.inner_pack.specs.Places.{Spot, LeafSpan, front, leaf_begin, end_of}
use Rattle.inner_pack.specs.Trees.{IndexTree, Leaf, Split, IsCell, lengths_of}
use Rattle.inner_pack.specs.Bodies.{first_length, right_begin, cell_bytes, leaf_bytes, place_bytes}
use Rattle.inner_pack.specs.Spelled.{spelled_part, told_part, tree_bytes, IsNodeOf}
use Rattle.inner_pack.specs.declared.place.LeafPlace.{LeafPlace}
use Rattle.inner_pack.specs.declared.place.Mark.{Mark}
use Rattle.inner_pack.specs.declared.head.Head.{Head}
use Rattle.inner_pack.specs.declared.check.Span.{Span}

abbrev pub spot_of : Mark → Spot
spot_of m = record { page = m.page; offset = m.offset }

-- the head says the split at x in dimension d of a node whose first leaf begins at s, with these children
pub record SaysSplit (form : ℕ) (references : List (List ℕ)) (s : Spot) (d : ℕ) (x : ℤ) (l r : IndexTree) (h : Head)
    : Type 0 where
  pub dimension : h.dimension ≡ d
  pub value : h.at ≡ x
  pub key_is : h.key ≡ key x
  pub pages : h.pages ≡ (right_begin s l r).page - s.page
  pub offset : h.offset ≡ (right_begin s l r).offset
  pub left_bytes : h.left.bytes.now ≡ spelled_part form (slice_set references d (key x)) s l
  pub left_places : h.left.places.now ≡ told_part form s l
  pub right_bytes : h.right.bytes.now ≡ spelled_part form (slice_set references d (key x)) (right_begin s l r) r
  pub right_places : h.right.places.now ≡ told_part form (right_begin s l r) r

-- the tree is an inner node, and the head says its split
pub record SaysTree (form : ℕ) (references : List (List ℕ)) (s : Spot) (t : IndexTree) (h : Head) : Type 0 where
  pub dimension : ℕ
  pub value : ℤ
  pub l : IndexTree
  pub r : IndexTree
  pub is : t ≡ Split dimension value l r
  pub says : SaysSplit form references s dimension value l r h

-- the bytes are those of the node with the head's split, wherever its first leaf begins, where the parts are those of
-- the children
pub record IsNodeHead (D form : ℕ) (references : List (List ℕ)) (bytes places : List ℕ) (h : Head) : Type 0 where
  pub dimension : h.dimension < D
  pub key_is : h.key ≡ key h.at
  pub joins : (s : Spot) (l r : IndexTree) → All (λ length. (1 ≤ length) × (length ≤ 4064)) (lengths_of r)
      → SaysSplit form references s h.dimension h.at l r h
      → (bytes ≡ spelled_part form references s (Split h.dimension h.at l r))
      × (places ≡ told_part form s (Split h.dimension h.at l r))

abbrev pub placed_of : LeafPlace → LeafSpan
placed_of p = record { at = record { page = p.page; offset = p.offset }; length = p.length }

-- a leaf of a packed form, of so many bytes and with this own cell
pub record IsPackedLeaf (D form : ℕ) (path : Region) (bytes : List ℕ) (length : ℕ) (own : Region) : Type 0 where
  pub least : 1 ≤ length
  pub greatest : length ≤ 4064
  pub cell : IsCell D own
  pub inside : within own path ≡ true
  pub path_cell : form < 3 → own ≡ path
  pub spelled : bytes ≡ leaf_bytes form length own

-- what follows a leaf's length in a packed form: in form 3 its own cell, within the path cell; in form 2 nothing
pub record IsOwnCell (D form : ℕ) (path : Region) (bytes : List ℕ) (own : Region) : Type 0 where
  pub cell : IsCell D own
  pub inside : within own path ≡ true
  pub path_cell : form < 3 → own ≡ path
  pub spelled : bytes ≡ (if form == 3 then cell_bytes own else [])

-- a leaf in the table of places, next behind e
pub record IsTableLeaf (e : Spot) (bytes places : List ℕ) (length : ℕ) : Type 0 where
  pub least : 1 ≤ length
  pub greatest : length ≤ 4064
  pub no_node : bytes ≡ []
  pub told : places ≡ place_bytes (record { at = leaf_begin e length; length = length })

-- a leaf of so many bytes next behind e, in any form
pub record IsLeafBehind (D form : ℕ) (e : Spot) (path : Region) (references : List (List ℕ)) (bytes places : List ℕ)
    (length : ℕ) : Type 0 where
  pub own : Region
  pub is : IsNodeOf D form 1 (leaf_begin e length) path references bytes places (Leaf length own)

-- the span of a tree next behind e
pub record IsSpanOf (e : Spot) (t : IndexTree) (x : Span) : Type 0 where
  pub begin : spot_of x.begin ≡ leaf_begin e (first_length t)
  pub end : spot_of x.end ≡ end_of e (lengths_of t)

-- the node next behind e, from where its first leaf begins to where its last one ends
pub record SpansFrom (D form leaves : ℕ) (e : Spot) (path : Region) (references : List (List ℕ)) (bytes places : List ℕ)
    (x : Span) : Type 0 where
  pub tree : IndexTree
  pub is : IsNodeOf D form leaves (leaf_begin e (first_length tree)) path references bytes places tree
  pub span : IsSpanOf e tree x

-- what follows the root cell is a tree's, where these are the root's parts
abbrev pub JoinsRoot : (form : ℕ) (rest bytes places : List ℕ) → Type 0
JoinsRoot form rest bytes places = (references : List (List ℕ)) (t : IndexTree)
    → bytes ≡ spelled_part form references front t → places ≡ told_part form front t
    → rest ≡ tree_bytes form references t
