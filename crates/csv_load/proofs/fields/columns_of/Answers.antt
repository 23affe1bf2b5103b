use Rattle.std.proofs.Common.{refl, arith}
use Rattle.std.proofs.Math.ListN.{length-set}
use Rattle.csv.specs.Records.{fields_of}
use Rattle.csv_load.specs.Loading.{column_of}
use Rattle.csv_load.specs.declared.CsvFault.TheVariants as fault
use Rattle.csv_load.proofs.Each.{write-yes, write-fault, write-end}
use Rattle.csv_load.proofs.fields.columns_of.Goals as goal

pub returns-in-None-clause-fault : goal.returns-in-None-clause-fault
returns-in-None-clause-fault g c =
    let header = fields_of c.args.header.now in
    write-fault (column_of header) c.args.names.now c.loop-k.k c.index-names-k.result c.loop-k.places _ (fault.NoColumn c.loop-k.k) (omega arith)
    c.index-names-k.is
    (rw (← c.as_slice.ensures, ← c.in-None.ensures) refl) c.loop-k.invariant.same

pub loop-k-preserved : goal.loop-k-preserved
loop-k-preserved g c =
    let header = fields_of c.args.header.now in
    record {
      width = rw length-set c.loop-k.invariant.width;
      same = write-yes (column_of header) c.args.names.now c.loop-k.k c.index-names-k.result c.loop-k.places _ c.in-Some.place (omega arith) (omega arith)
          c.index-names-k.is
          (rw (← c.as_slice.ensures, ← c.in-Some.ensures) refl) c.loop-k.invariant.same;
    }

pub returns-clause-places : goal.returns-clause-places
returns-clause-places g c =
    write-end (column_of (fields_of c.args.header.now)) c.args.names.now c.loop-k.k c.loop-k.places _ (omega arith) (omega arith) c.loop-k.invariant.same
