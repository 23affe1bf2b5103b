-- As for the points that are kept, but that what they are is not told.
use Rattle.std.proofs.Common.{◌+◌, ◌∙◌, [], ◌∷◌, ◌++◌, sym, refl, ap, arith}
use Rattle.csv.specs.Records.{fields_of}
use Rattle.csv_load.specs.Loading.{each_ok, point_of}
use Rattle.csv_load.specs.Reading.{records_left}
use Rattle.csv_load.proofs.Each.{before, before-nil, each-yes, each-fault, each-end}
use Rattle.csv_load.proofs.Header.{handed_on}
use Rattle.csv_load.proofs.check_rows.Goals as goal

pub records-init : goal.records-init
records-init g c = record { reading = c.requires.reading; counted = omega arith; same = ([], before-nil _) }

pub returns-in_err-point_of-clause-fault : goal.returns-in_err-point_of-clause-fault
returns-in_err-point_of-clause-fault g c =
    let gave = c.in_ok-next_record.ensures.more c.if-branch.true in
    let f = point_of c.args.width c.args.places.now in
    let done = c.records.invariant.same.0 in
    handed_on c.from_residual-in_err-point_of.result _ c.in_err-point_of.field-0.0 c.from_residual-in_err-point_of.ensures.1
    (sym c.records.invariant.same.1 ∙ ap (λ rows. before done (each_ok f (c.records.row + 1) rows)) gave.first
    ∙ each-fault f (c.records.row + 1) (fields_of c.next_record.new.fields) (records_left c.next_record.new.reader) done
    c.in_err-point_of.field-0.0 c.in_err-point_of.ensures.fault)

pub records-preserved : goal.records-preserved
records-preserved g c =
    let gave = c.in_ok-next_record.ensures.more c.if-branch.true in
    let f = point_of c.args.width c.args.places.now in
    let done = c.records.invariant.same.0 in
    let point = c.in_ok-point_of.field-0 in
    let row = c.records.row + 1 in
    record {
      reading = gave.reading;
      counted = omega (arith, gave.shorter, c.records.invariant.counted);
      same = (
        done ++ point.c ∷ [],
        sym (each-yes f row (row + 1) (fields_of c.next_record.new.fields) (records_left c.next_record.new.reader) done point.c refl
            c.in_ok-point_of.ensures.point)
            ∙ sym (ap (λ rows. before done (each_ok f row rows)) gave.first)
            ∙ c.records.invariant.same.1,
      );
    }

pub returns-clause-on_ok : goal.returns-clause-on_ok
returns-clause-on_ok g c =
    let none = c.in_ok-next_record.ensures.end c.if-branch.false in
    let f = point_of c.args.width c.args.places.now in
    let done = c.records.invariant.same.0 in
    (done, sym c.records.invariant.same.1 ∙ ap (λ rows. before done (each_ok f (c.records.row + 1) rows)) none ∙ each-end f (c.records.row + 1) done)
