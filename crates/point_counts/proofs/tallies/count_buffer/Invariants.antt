use Rattle.std.proofs.Common.{take}
use Rattle.point_codec.specs.Seen.{items_of}
use Rattle.point_counts.specs.Tables.{AddsCounts, all_at}
use Rattle.point_counts.proofs.tallies.count_buffer.Given as goal

abbrev pub invariant-loop-entry : goal.invariant-loop-entry
invariant-loop-entry g l = AddsCounts (all_at (g.S.Sorting.bounds l.sorting) (g.S.Sorting.place l.sorting)
    (take l.entry-index (items_of l.buffer))) l.initial.table l.table
