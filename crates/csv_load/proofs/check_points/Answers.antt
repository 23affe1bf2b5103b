-- The header says where the columns are, and the records under it say the rest.
use Rattle.std.proofs.Common.{◌≡◌, ◌≢◌, ◌∙◌, ℤ, List, Result, Ok, Err, sym, arith}
use Rattle.std.proofs.lemmas.Result.{IfErr-weaker, on_ok_weaker}
use Rattle.csv.specs.Records.{fields_of}
use Rattle.csv_load.specs.Loading.{each_ok, point_of, points_of, records_of}
use Rattle.csv_load.specs.Reading.{records_left}
use Rattle.csv_load.specs.declared.CsvFault.{CsvFault}
use Rattle.csv_load.specs.declared.CsvFault.TheVariants as fault
use Rattle.csv_load.proofs.Header.{no_header, header_fault, handed_on, rows_whole}
use Rattle.csv_load.proofs.check_points.Goals as goal

pub returns-then-not-branch-clause-fault : goal.returns-then-not-branch-clause-fault
returns-then-not-branch-clause-fault g c = λ fault.
    let none = c.in_ok-next_record.ensures.end c.if-not-branch.true in
    rw (← c.open-reader.ensures.records, none) (no_header c.args.columns.now (omega arith))

pub returns-in_err-places-clause-fault : goal.returns-in_err-places-clause-fault
returns-in_err-places-clause-fault g c =
    let first = sym c.open-reader.ensures.records ∙ (c.in_ok-next_record.ensures.more c.if-not-branch.false).first in
    handed_on c.from_residual-in_err-places.result _ c.in_err-places.field-0.0 c.from_residual-in_err-places.ensures.1
    (header_fault c.args.columns.now (records_of c.args.b.now) (records_left c.next_record.new.reader) (fields_of c.next_record.new.fields)
    c.in_err-places.field-0.0
    first c.in_err-places.ensures.fault)

pub returns-clause-on_ok : goal.returns-clause-on_ok
returns-clause-on_ok g c =
    let first = sym c.open-reader.ensures.records ∙ (c.in_ok-next_record.ensures.more c.if-not-branch.false).first in
    let rows : Result (List (List ℤ)) CsvFault = each_ok (point_of c.len-width.result c.in_ok-places.places) 1 (records_left c.next_record.new.reader) in
    let whole = rows_whole c.args.columns.now (records_of c.args.b.now) (records_left c.next_record.new.reader) (fields_of c.next_record.new.fields)
    c.in_ok-places.places c.len-width.result first c.len-width.ensures c.in_ok-places.ensures.places in
    on_ok_weaker c.check_rows.result (λ (p : (points : List (List ℤ)) × (rows ≡ Ok points)). (p.0, whole ∙ p.1)) c.check_rows.ensures.on_ok

pub returns-clause-fault : goal.returns-clause-fault
returns-clause-fault g c =
    let first = sym c.open-reader.ensures.records ∙ (c.in_ok-next_record.ensures.more c.if-not-branch.false).first in
    let rows : Result (List (List ℤ)) CsvFault = each_ok (point_of c.len-width.result c.in_ok-places.places) 1 (records_left c.next_record.new.reader) in
    let whole = rows_whole c.args.columns.now (records_of c.args.b.now) (records_left c.next_record.new.reader) (fields_of c.next_record.new.fields)
    c.in_ok-places.places c.len-width.result first c.len-width.ensures c.in_ok-places.ensures.places in
    IfErr-weaker c.check_rows.result (λ (f : CsvFault). f ≢ fault.Memory → rows ≡ Err f)
    (λ (f : CsvFault). f ≢ fault.Memory → points_of c.args.columns.now (records_of c.args.b.now) ≡ Err f)
    (λ f told other. whole ∙ told other) c.check_rows.ensures.fault
