use Rattle.std.proofs.Common.{◌≡◌, length, take, drop}
use Rattle.csv.specs.Records.{fields_of}
use Rattle.csv_load.specs.Loading.{each_ok, value_of}
use Rattle.csv_load.proofs.Each.{before}
use Rattle.csv_load.proofs.fields.point_of.Given as goal

abbrev pub invariant-loop-k : goal.invariant-loop-k
invariant-loop-k g l = record {
  width : length l.c ≡ g.row.D;
  same : before (take l.k l.c) (each_ok (value_of (fields_of l.fields) l.row) l.k (drop l.k l.places))
      ≡ each_ok (value_of (fields_of l.fields) l.row) 0 l.places;
}
