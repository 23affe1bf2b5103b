use Rattle.std.proofs.Common.{◌≡◌, length, take, drop}
use Rattle.csv.specs.Records.{fields_of}
use Rattle.csv_load.specs.Loading.{each_ok, column_of}
use Rattle.csv_load.proofs.Each.{before}
use Rattle.csv_load.proofs.fields.columns_of.Given as goal

abbrev pub invariant-loop-k : goal.invariant-loop-k
invariant-loop-k g l = record {
  width : length l.places ≡ g.row.D;
  same : before (take l.k l.places) (each_ok (column_of (fields_of l.header)) l.k (drop l.k l.names)) ≡ each_ok (column_of (fields_of l.header)) 0 l.names;
}
