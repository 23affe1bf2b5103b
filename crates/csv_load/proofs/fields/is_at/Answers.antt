use Rattle.std.proofs.Common.{[]}
use Rattle.std.proofs.lemmas.Option.{get_or_from_slice_get}
use Rattle.csv.specs.Records.{fields_of}
use Rattle.csv_load.proofs.Places.{got, got_none}
use Rattle.csv_load.proofs.fields.is_at.Goals as goal

pub returns-in-Some : goal.returns-in-Some
returns-in-Some c =
    let at = get_or_from_slice_get (fields_of c.args.header.now) c.args.i c.in-Some.field.now []
    (got (fields_of c.args.header.now) c.args.i c.in-Some.field c.in-Some.ensures.value) in
    rw at c.eq.ensures

pub returns-in-None : goal.returns-in-None
returns-in-None c = absurd (got_none (fields_of c.args.header.now) c.args.i c.requires c.in-None.ensures.value)
