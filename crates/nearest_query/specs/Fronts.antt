-- What contracts see of the nodes that wait.
use Rattle.std.specs.Prelude.{ℕ, ◌+◌, ◌-◌, ◌*◌, ◌≡◌, ◌≤◌, All, List, [], ◌∷◌, ◌++◌, length, sum_by, ℤ, nat_eq}
use Rattle.std.specs.Prelude.{if◌then◌else◌, Result, OnOk}
use Rattle.std.specs.List.{range_with_len}
use Rattle.std.specs.List.Sorted.{IsPermutation}
use Rattle.std.specs.declared.cmp.Ordering.{Ordering}
use Rattle.std.specs.Ordering.{nat_cmp}
use Rattle.point_codec.specs.Points.{Region}
use Rattle.inner_pack.specs.Places.{Spot}
use Rattle.inner_pack.specs.Trees.{IndexTree, cell_of, leaf_count}
use Rattle.inner_pack.specs.Nodes.{IsAt}
use Rattle.inner_pack.specs.declared.node.NodeAt.{NodeAt}
use Rattle.page_cache.specs.declared.faults.PageFault.{PageFault}
use Rattle.nearest_query.specs.declared.frontier.Waiting.{Waiting}
use Rattle.nearest_query.specs.Segments.{least_dist2}

-- the order of nodes that wait, in which the nearer one is the greater, as the first of a heap
abbrev pub wait_cmp : Waiting → Waiting → Ordering
wait_cmp a b = nat_cmp b.dist2.0 a.dist2.0

-- none of those that wait is nearer
abbrev pub IsNearestWaiting : Waiting → List Waiting → Type 0
IsNearestWaiting t waiting = All (λ u. t.dist2.0 ≤ u.dist2.0) waiting

-- the nodes that wait, in no order, and all nodes that ever waited, told by their places
pub record Front (D : ℕ) : Type 0 where
  pub waiting : List Waiting
  pub nodes : List (NodeAt D)

-- the sum of g over so many leaves of segment i
abbrev pub leaf_sum : (ℕ → ℕ → ℕ) → (i first count : ℕ) → ℕ
leaf_sum g i first count = sum_by (g i) (range_with_len first count)

abbrev pub sum_below : (ℕ → ℕ → ℕ) → Waiting → ℕ
sum_below g t = leaf_sum g t.segment t.first t.leaves

-- how much is left to do below a node; more than for both children together
abbrev pub work : Waiting → ℕ
work t = 2 * t.leaves - 1 + (1 - t.leaves)

-- 1 for a leaf, and 0 for another node
abbrev pub one_leaf : Waiting → ℕ
one_leaf t = if nat_eq t.leaves 1 then 1 else 0

-- a node was opened: of the leaves that g counts, those below what waits now are those that were left, but for the
-- node itself where it is a leaf. At most one page was read for each that was taken out.
pub record IsOpened {T : Type 0} (g : ℕ → ℕ → ℕ) (next : Waiting) (old new : List Waiting) (before now : ℕ)
    (result : Result T PageFault) : Type 0 where
  pub reads : now + sum_by (sum_below g) new ≤ before + sum_below g next + sum_by (sum_below g) old
  pub rest : OnOk result (one_leaf next + sum_by (sum_below g) new ≡ sum_below g next + sum_by (sum_below g) old)

-- a node waits now, by its least distance from the point
pub record IsWaiting {D : ℕ} (at : List ℤ) (segment : ℕ) (node : NodeAt D) (old new : Front D) : Type 0 where
  pub dist : ℕ
  pub grown : new.nodes ≡ old.nodes ++ node ∷ []
  pub moved : IsPermutation
      (record {
        dist2 = record { 0 = dist };
        segment = segment;
        first = node.first;
        leaves = node.leaves;
        place = length
            old.nodes;
      } ∷ old.waiting) new.waiting
  pub is : (first : ℕ) (s : Spot) (path : Region) (t : IndexTree) → IsAt node first s path t
      → (dist ≡ least_dist2 at (cell_of path t)) × (node.first ≡ first) × (node.leaves ≡ leaf_count t)
