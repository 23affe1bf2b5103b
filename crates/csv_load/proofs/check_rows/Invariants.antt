use Rattle.std.proofs.Common.{◌≡◌, ◌+◌, ◌≤◌, List, ℤ, length}
use Rattle.csv_load.specs.Loading.{each_ok, point_of}
use Rattle.csv_load.specs.Reading.{IsReading, bytes_left, records_left}
use Rattle.csv_load.proofs.Each.{before}
use Rattle.csv_load.proofs.check_rows.Given as goal

-- some points and what the records that are left give are what all records give
abbrev pub invariant-records : goal.invariant-records
invariant-records g l = record {
  reading : IsReading l.reader;
  counted : l.row + length (bytes_left l.reader) ≤ length (bytes_left l.fn.reader);
  same : (done : List (List ℤ)) × (before done (each_ok (point_of l.width l.places) (l.row + 1) (records_left l.reader))
      ≡ each_ok (point_of l.width l.places) 1 (records_left l.fn.reader));
}

abbrev pub decreases-records : goal.decreases-records
decreases-records g l = length (bytes_left l.reader)
