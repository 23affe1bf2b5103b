-- What a search knows of the nodes that wait.
use Rattle.std.specs.Prelude.{ℕ, ◌+◌, ◌≡◌, ◌≤◌, ◌<◌, if◌then◌else◌, Bool, Option, List, [], length, sum_by, All}
use Rattle.std.specs.Prelude.{nat_eq, slice_index_or, ℤ}
use Rattle.std.specs.List.{range_with_len}
use Rattle.point_codec.specs.Points.{Item, Region}
use Rattle.point_codec.specs.declared.entries.Near.{Near}
use Rattle.live_bits.specs.LiveSet.{LiveSet}
use Rattle.outer_io.specs.Files.{Files, bytes_of}
use Rattle.outer_io.specs.declared.file_name.FileName.TheVariants.{Segment}
use Rattle.inner_pack.specs.Places.{Spot, front}
use Rattle.inner_pack.specs.Trees.{IndexTree, Leaf, Split, leaf_count, cell_of, HasCells}
use Rattle.inner_pack.specs.Bodies.{HasTree, right_begin}
use Rattle.inner_pack.specs.Nodes.{IsAt}
use Rattle.inner_pack.specs.declared.node.NodeAt.{NodeAt}
use Rattle.segment_file.specs.Heads.{Head}
use Rattle.segment_file.specs.Segments.{HoldsLeaf, IsLeafOf}
use Rattle.nearest_query.specs.declared.candidates.Candidates.{Candidates}
use Rattle.nearest_query.specs.declared.frontier.Waiting.{Waiting}
use Rattle.documents.specs.NearestEntries.{nears_of}
use Rattle.nearest_query.specs.Best.{AreBest}
use Rattle.nearest_query.specs.Fronts.{Front, leaf_sum, sum_below}
use Rattle.nearest_query.specs.Segments.{live_items, least_dist2, is_within, no_head}

-- what is searched: a point and segments, told by position, with the entries and the least distance of each leaf
pub record World : Type 0 where
  pub at : List ℤ
  pub heads : List Head
  pub lives : List LiveSet
  pub files : Files
  pub table : ℕ → ℕ → List Item
  pub least : ℕ → ℕ → ℕ

abbrev pub head_at : World → ℕ → Head
head_at w i = slice_index_or w.heads i no_head

abbrev pub no_live : LiveSet
no_live = record { base = 0; span = 0; live = [] }

abbrev pub live_at : World → ℕ → LiveSet
live_at w i = slice_index_or w.lives i no_live

-- the live entries of leaf n of segment i
abbrev pub nears_at : World → ℕ → ℕ → List Near
nears_at w i n = nears_of w.at (live_items (live_at w i) (w.table i n))

-- the leaves of a subtree of segment i are those of the world
abbrev pub HasLeaves : (D : ℕ) → World → ℕ → (first : ℕ) → Spot → IndexTree → Type 0
HasLeaves D w i first s (Leaf len own) =
    HoldsLeaf D (bytes_of (w.files (Segment (head_at w i).id))) (head_at w i) first s len own (w.table i first)
    × (w.least i first ≡ least_dist2 w.at own)
HasLeaves D w i first s (Split d x l r) = HasLeaves D w i first s l
    × HasLeaves D w i (first + leaf_count l) (right_begin s l r) r

-- the world is over these
pub record IsOver (w : World) (at : List ℤ) (heads : List Head) (lives : List LiveSet) (files : Files) : Type 0 where
  pub at_is : w.at ≡ at
  pub heads_are : w.heads ≡ heads
  pub lives_are : w.lives ≡ lives
  pub files_are : w.files ≡ files

-- the node stands at the place
pub record IsNthNode {D : ℕ} (nodes : List (NodeAt D)) (place : ℕ) (node : NodeAt D) : Type 0 where
  pub within : place < length nodes
  pub is : (d : NodeAt D) → slice_index_or nodes place d ≡ node

-- its segment is there, and its node with that many leaves
pub record IsInside {D : ℕ} (segments : ℕ) (nodes : List (NodeAt D)) (t : Waiting) : Type 0 where
  pub inside : t.segment < segments
  pub node : NodeAt D
  pub stands : IsNthNode nodes t.place node
  pub leaves_are : t.leaves ≡ node.leaves

-- each that waits stands inside, and so many leaves taken out and those that wait are no more than ever waited
pub record AreInside {D : ℕ} (segments taken : ℕ) (f : Front D) : Type 0 where
  pub each : All (IsInside segments f.nodes) f.waiting
  pub few : taken + length f.waiting ≤ length f.nodes

-- what waits is a node of its segment's tree, whose leaves are some of those of the tree
pub record IsNodeBelow {D : ℕ} (heads : List Head) (trees : ℕ → IndexTree) (nodes : List (NodeAt D)) (t : Waiting)
    : Type 0 where
  pub inside : t.segment < length heads
  pub node : NodeAt D
  pub stands : IsNthNode nodes t.place node
  pub spot : Spot
  pub path : Region
  pub tree : IndexTree
  pub is : IsAt node t.first spot path tree
  pub part : (number : ℕ) (at : Spot) (len : ℕ) (own : Region) → IsLeafOf t.first spot tree number at len own
      → IsLeafOf 0 front (trees t.segment) number at len own

-- what waits is a node of its segment's tree, and waits by its least distance
pub record IsNode (D : ℕ) (w : World) (nodes : List (NodeAt D)) (t : Waiting) : Type 0 where
  pub inside : t.segment < length w.heads
  pub node : NodeAt D
  pub stands : IsNthNode nodes t.place node
  pub spot : Spot
  pub path : Region
  pub tree : IndexTree
  pub is : IsAt node t.first spot path tree
  pub count : t.leaves ≡ leaf_count tree
  pub node_count : node.leaves ≡ leaf_count tree
  pub dims : length path.hi ≡ D
  pub dims_too : length path.lo ≡ D
  pub cells : HasCells D path tree
  pub leaves : HasLeaves D w t.segment t.first spot tree
  pub dist : t.dist2.0 ≡ least_dist2 w.at (cell_of path tree)

-- the entries seen and those below the nodes that wait are all; of those seen the candidates are the nearest
pub record IsSought (D : ℕ) (w : World) (all : List Near) (waiting : List Waiting) (nodes : List (NodeAt D))
    (found : Candidates) : Type 0 where
  pub seen : List Near
  pub best : AreBest seen found
  pub nodes_are : All (IsNode D w nodes) waiting
  pub totals : (f : Near → ℕ)
      → sum_by f seen + sum_by (sum_below (λ i n. sum_by f (nears_at w i n))) waiting ≡ sum_by f all

-- a leaf counts where it is within the bound
abbrev pub one_within : World → Option ℕ → ℕ → ℕ → ℕ
one_within w bound i n = if is_within bound (w.least i n) then 1 else 0

-- no number of segment i is live
abbrev pub is_dead : World → ℕ → Bool
is_dead w i = nat_eq (length (live_at w i).live) 0

-- what g counts of all leaves of a segment
abbrev pub sum_of : World → (ℕ → ℕ → ℕ) → (i : ℕ) → ℕ
sum_of w g i = leaf_sum g i 0 (head_at w i).index.leaves

-- together that of the first so many segments that have a live number, and of those that have none
abbrev pub sum_of_live : World → (ℕ → ℕ → ℕ) → (count : ℕ) → ℕ
sum_of_live w g count = sum_by (λ i. if is_dead w i then 0 else sum_of w g i) (range_with_len 0 count)

abbrev pub sum_of_dead : World → (ℕ → ℕ → ℕ) → (count : ℕ) → ℕ
sum_of_dead w g count = sum_by (λ i. if is_dead w i then sum_of w g i else 0) (range_with_len 0 count)

-- each segment's tree, with its leaves
pub record HasRoot (D : ℕ) (w : World) (i : ℕ) : Type 0 where
  pub root : Region
  pub tree : IndexTree
  pub has : HasTree D (head_at w i).index root tree
  pub leaves : HasLeaves D w i 0 front tree

abbrev pub HasRoots : ℕ → World → Type 0
HasRoots D w = (i : ℕ) → i < length w.heads → HasRoot D w i
