use Rattle.std.proofs.Common.{◌≡◌, ◌≤◌, ℕ, [], length}
use Rattle.std.specs.Prelude.{All, sum_by}
use Rattle.std.specs.List.{range_with_len}
use Rattle.inner_pack.specs.Trees.{IndexTree}
use Rattle.nearest_query.specs.Segments.{HaveTrees}
use Rattle.nearest_query.specs.Fronts.{leaf_sum, sum_below}
use Rattle.nearest_query.specs.Search.{World, AreInside, IsNodeBelow, IsNode, HasRoots, head_at, live_at, sum_of_live}
use Rattle.nearest_query.proofs.query.push_roots.Given as goal

abbrev pub invariant-loop-i : goal.invariant-loop-i
invariant-loop-i g l = record {
  inside : AreInside (length l.heads) 0 l.frontier;
  parts : (trees : ℕ → IndexTree) → HaveTrees g.row.D l.heads trees → All (IsNodeBelow l.heads trees l.frontier.nodes) l.frontier.waiting;
  nodes : (w : World) → HasRoots g.row.D w → w.heads ≡ l.heads → w.at ≡ l.at.c → All (IsNode g.row.D w l.frontier.nodes) l.frontier.waiting;
  totals : (w : World) → HasRoots g.row.D w → w.heads ≡ l.heads → w.lives ≡ l.lives → (h : ℕ → ℕ → ℕ)
      → ((i n : ℕ) → (live_at w i).live ≡ [] → h i n ≡ 0)
      → sum_by (sum_below h) l.frontier.waiting ≡ sum_by (λ i. leaf_sum h i 0 (head_at w i).index.leaves) (range_with_len 0 l.i);
  live : (w : World) → HasRoots g.row.D w → w.heads ≡ l.heads → w.lives ≡ l.lives → (h : ℕ → ℕ → ℕ)
      → sum_by (sum_below h) l.frontier.waiting ≡ sum_of_live w h l.i;
  most : (w : World) → HasRoots g.row.D w → w.heads ≡ l.heads → (h : ℕ → ℕ → ℕ)
      → sum_by (sum_below h) l.frontier.waiting ≤ sum_by (λ i. leaf_sum h i 0 (head_at w i).index.leaves) (range_with_len 0 l.i);
}
