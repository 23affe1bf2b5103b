use Rattle.std.proofs.Common.{◌≡◌, ◌≤◌, ◌+◌, ℕ, take}
use Rattle.std.specs.Prelude.{IsTrue}
use Rattle.page_cache.specs.Cache.{Agrees}
use Rattle.segment_view.specs.LiveSegments.{Contents, AreRead, ids_of, live_in_parts}
use Rattle.segment_view.specs.Calm.{IsCalm}
use Rattle.point_counts.specs.Tables.{AddsCounts, all_at}
use Rattle.point_counts.specs.Costs.{OpensLeaves}
use Rattle.point_counts.proofs.tallies.count_segments.Given as goal

abbrev pub invariant-loop-i : goal.invariant-loop-i
invariant-loop-i g l = record {
  calm : IsCalm g.F.Pages.told (g.F.Pages.files l.initial.folder) (g.F.Pages.files l.folder) l.initial.cache l.cache
      (ids_of l.segments);
  faults : g.F.Pages.faults l.folder ≡ g.F.Pages.faults l.initial.folder;
  reads : (n : ℕ) → OpensLeaves g.row.D (g.S.Sorting.bounds l.sorting) (g.S.Sorting.parts l.sorting) (take l.i l.segments)
      n → g.F.Pages.reads l.folder ≤ g.F.Pages.reads l.initial.folder + n;
  counts : IsTrue g.F.Pages.told → Agrees (g.F.Pages.files l.initial.folder) l.initial.cache → (c : Contents)
      → AreRead g.row.D (g.F.Pages.files l.initial.folder) c l.segments
      → AddsCounts (all_at (g.S.Sorting.bounds l.sorting) (g.S.Sorting.place l.sorting)
      (live_in_parts c (take l.i l.segments))) l.initial.table l.table;
}
