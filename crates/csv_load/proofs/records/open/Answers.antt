use Rattle.std.proofs.Common.{refl}
use Rattle.csv_load.specs.Loading.{records_of}
use Rattle.csv_load.proofs.Places.{strip_bom-shorter}
use Rattle.csv_load.proofs.records.open.Goals as goal

pub returns-clause-records : goal.returns-clause-records
unfolding records_of
returns-clause-records c = rw (c.from_reader.ensures.source, c.from_reader.ensures.state) refl

pub returns-clause-short : goal.returns-clause-short
returns-clause-short c = rw c.from_reader.ensures.source (strip_bom-shorter c.args.b.now)
