use Rattle.std.proofs.Common.{◌≡◌, ◌+◌, ◌≤◌, length}
use Rattle.csv_load.specs.Loading.{each_ok, point_of, points_of, records_of}
use Rattle.csv_load.specs.Reading.{IsReading, bytes_left, records_left}
use Rattle.csv_load.proofs.Each.{before}
use Rattle.csv_load.proofs.Numbered.{AreFrom, next_of, points_in}
use Rattle.csv_load.proofs.read_entries.Given as goal

-- the points so far and what the records that are left give are what all records give
abbrev pub invariant-loop-entries : goal.invariant-loop-entries
invariant-loop-entries g l = record {
  reading : IsReading l.reader;
  counted : l.row + length (bytes_left l.reader) ≤ length l.b;
  same : before (points_in l.entries.items) (each_ok (point_of l.width l.places) (l.row + 1) (records_left l.reader))
      ≡ points_of l.columns (records_of l.b);
  next : l.doc ≡ next_of l.first (length l.entries.items);
  from : AreFrom l.first l.entries.items;
}

abbrev pub decreases-loop-entries : goal.decreases-loop-entries
decreases-loop-entries g l = length (bytes_left l.reader)
