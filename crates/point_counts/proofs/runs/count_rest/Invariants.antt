use Rattle.std.proofs.Common.{◌≡◌, ◌≤◌, true, take}
use Rattle.std.specs.List.{All}
use Rattle.live_bits.specs.LiveSet.{LiveSet, is_live}
use Rattle.point_counts.specs.Tables.{RaisesCounts, live_at}
use Rattle.point_counts.proofs.runs.count_rest.Given as goal

abbrev pub invariant-loop-i : goal.invariant-loop-i
invariant-loop-i g l = record {
  within : l.i ≤ l.end;
  raises : (live : LiveSet) → All (λ x. is_live live x.doc ≡ true) l.leaf
      → RaisesCounts (live_at (g.S.Sorting.bounds l.sorting) (g.S.Sorting.place l.sorting) live (take l.from l.leaf))
      (live_at (g.S.Sorting.bounds l.sorting) (g.S.Sorting.place l.sorting) live (take l.i l.leaf)) l.initial.table
      l.table;
}
