use Rattle.std.proofs.Common.{◌≤◌, take}
use Rattle.point_counts.specs.Tables.{RaisesCounts, live_at}
use Rattle.point_counts.proofs.leaf.count_each.Given as goal

abbrev pub invariant-loop-i : goal.invariant-loop-i
invariant-loop-i g l = record {
  within : l.i ≤ l.end;
  raises : RaisesCounts (live_at (g.S.Sorting.bounds l.sorting) (g.S.Sorting.place l.sorting) l.live (take l.from l.leaf))
      (live_at (g.S.Sorting.bounds l.sorting) (g.S.Sorting.place l.sorting) l.live (take l.i l.leaf)) l.initial.table
      l.table;
}
