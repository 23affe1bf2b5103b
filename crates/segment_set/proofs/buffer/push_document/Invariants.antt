use Rattle.std.proofs.Common.{◌≡◌, ◌+◌, ◌-◌, ◌≤◌, ◌++◌, map, length, take, vec_len, vec_capacity}
use Rattle.point_codec.specs.Seen.{coordinates_of, items_of}
use Rattle.documents.specs.Entries.{entry_of}
use Rattle.segment_set.proofs.buffer.push_document.Given as goal

abbrev pub invariant-loop-point : goal.invariant-loop-point
invariant-loop-point g l = record {
  items : items_of l.entries.items ≡ items_of l.initial.entries.items ++ map (entry_of l.number) (coordinates_of (take l.point-index l.points));
  room : vec_len l.entries + (length l.points - l.point-index) ≤ vec_capacity l.entries;
}
