use Rattle.std.proofs.Common.{◌≡◌, ◌+◌, ◌++◌, map, length, take, drop}
use Rattle.std.specs.List.{filter}
use Rattle.point_codec.specs.declared.entries.Entry.{Entry}
use Rattle.segment_set.specs.Waiting.{waits}
use Rattle.segment_set.proofs.Buffered.{entry_out}
use Rattle.segment_set.proofs.buffer.mark_gone.Given as goal

-- those before the place are marked, and those that did wait are counted
abbrev pub invariant-loop-i : goal.invariant-loop-i
invariant-loop-i g l = record {
  marked : l.entries.items ≡ map (entry_out l.number) (take l.i l.initial.entries.items) ++ drop l.i l.initial.entries.items;
  count : length (filter (λ (e : Entry g.row.D). waits e.doc) l.entries.items) + l.count
      ≡ length (filter (λ (e : Entry g.row.D). waits e.doc) l.initial.entries.items);
}
