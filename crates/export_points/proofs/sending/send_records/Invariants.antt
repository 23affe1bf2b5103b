use Rattle.std.proofs.Common.{◌≤◌, ◌++◌, take}
use Rattle.std.specs.Prelude.{IsTrue}
use Rattle.std.specs.List.{flat_map}
use Rattle.point_codec.specs.Seen.{items_of}
use Rattle.export_points.specs.Ends.{IsSentBut}
use Rattle.export_points.specs.Exported.{record_text}
use Rattle.export_points.proofs.sending.send_records.Given as goal

abbrev pub invariant-loop-entry : goal.invariant-loop-entry
invariant-loop-entry g l = record {
  sent : IsTrue g.K.Sink.told → IsSentBut l.piece.items (g.K.Sink.written l.initial.out) (g.K.Sink.written l.out)
      (l.initial.piece.items ++ flat_map record_text (items_of (take l.entry-index l.entries)));
  later : g.K.Sink.faults l.initial.out ≤ g.K.Sink.faults l.out;
}
