use Rattle.std.proofs.Common.{◌≡◌, ◌+◌, ◌∙◌, sym, refl, ap, subst, arith, length, [], ◌∷◌, ◌++◌}
use Rattle.std.proofs.lemmas.List.{length-append, map-append}
use Rattle.csv.specs.Records.{fields_of}
use Rattle.point_codec.specs.declared.entries.Entry.{Entry}
use Rattle.csv_load.specs.Loading.{records_of, each_ok, point_of}
use Rattle.csv_load.specs.Reading.{records_left}
use Rattle.csv_load.proofs.Each.{before, before-nil, each-yes, each-fault, each-end}
use Rattle.csv_load.proofs.Numbered.{AreFrom, from_more, from_none, points_in}
use Rattle.csv_load.proofs.Header.{no_header, header_fault, header_columns, handed_on}
use Rattle.csv_load.proofs.read_entries.Goals as goal

pub returns-then-not-branch-clause-fault : goal.returns-then-not-branch-clause-fault
returns-then-not-branch-clause-fault g c = λ fault.
    let none = c.in_ok-next_record.ensures.end c.if-not-branch.true in
    rw (← c.open-reader.ensures.records, none) (no_header c.args.columns.now (omega arith))

pub returns-in_err-places-clause-fault : goal.returns-in_err-places-clause-fault
returns-in_err-places-clause-fault g c =
    let first = sym c.open-reader.ensures.records ∙ (c.in_ok-next_record.ensures.more c.if-not-branch.false).first in
    handed_on c.from_residual-in_err-places.result _ c.in_err-places.field-0.0 c.from_residual-in_err-places.ensures.1
    (header_fault c.args.columns.now (records_of c.args.b.now) (records_left c.next_record.new.reader) (fields_of c.next_record.new.fields)
    c.in_err-places.field-0.0
    first c.in_err-places.ensures.fault)

pub loop-entries-init : goal.loop-entries-init
loop-entries-init g c =
    let gave = c.in_ok-next_record.ensures.more c.if-not-branch.false in
    let first = sym c.open-reader.ensures.records ∙ gave.first in
    record {
      reading = gave.reading;
      counted = omega (arith, gave.shorter, c.open-reader.ensures.short);
      same = rw (c.new-entries.ensures.items, c.len-width.ensures) (
          before-nil _
          ∙ sym (header_columns c.args.columns.now (records_of c.args.b.now) (records_left c.next_record.new.reader) (fields_of c.next_record.new.fields)
          c.in_ok-places.places first c.in_ok-places.ensures.places));
      next = omega (arith, ap length c.new-entries.ensures.items);
      from = from_none c.args.first c.new-entries.result.items c.new-entries.ensures.items;
    }

pub returns-in_err-point-clause-fault : goal.returns-in_err-point-clause-fault
returns-in_err-point-clause-fault g c =
    let gave = c.in_ok-next_record-2.ensures.more c.if-branch.true in
    let f = point_of c.len-width.result c.in_ok-places.places in
    let done = points_in c.loop-entries.entries.items in
    handed_on c.from_residual-in_err-point.result _ c.in_err-point.field-0.0 c.from_residual-in_err-point.ensures.1
    (sym c.loop-entries.invariant.same ∙ ap (λ rows. before done (each_ok f (c.loop-entries.row + 1) rows)) gave.first
    ∙ each-fault f (c.loop-entries.row + 1) (fields_of c.next_record-in-loop-entries.new.fields) (records_left c.next_record-in-loop-entries.new.reader) done
    c.in_err-point.field-0.0 c.in_err-point.ensures.fault)

pub loop-entries-preserved : goal.loop-entries-preserved
loop-entries-preserved g c =
    let gave = c.in_ok-next_record-2.ensures.more c.if-branch.true in
    let f = point_of c.len-width.result c.in_ok-places.places in
    let done = points_in c.loop-entries.entries.items in
    let point = c.in_ok-point.point in
    let entry : Entry g.row.D = record { doc = c.loop-entries.doc; point = point } in
    let row = c.loop-entries.row + 1 in
    let grown : points_in c.push.new.self.items ≡ done ++ point.c ∷ [] =
    rw c.in_ok-push.ensures.items (map-append (λ (e : Entry g.row.D). e.point.c) c.loop-entries.entries.items (entry ∷ [])) in
    record {
      reading = gave.reading;
      counted = omega (arith, gave.shorter, c.loop-entries.invariant.counted);
      same = rw grown (
          sym (each-yes f row (row + 1) (fields_of c.next_record-in-loop-entries.new.fields) (records_left c.next_record-in-loop-entries.new.reader) done
          point.c
          refl c.in_ok-point.ensures.point)
          ∙ sym (ap (λ rows. before done (each_ok f row rows)) gave.first)
          ∙ c.loop-entries.invariant.same);
      next = omega (
        arith,
        c.saturating_add-doc.ensures,
        c.loop-entries.invariant.next,
        ap length c.in_ok-push.ensures.items,
        length-append c.loop-entries.entries.items (entry ∷ []),
      );
      from = subst (AreFrom c.args.first) (sym c.in_ok-push.ensures.items)
          (from_more c.args.first c.loop-entries.entries.items entry c.loop-entries.invariant.next c.loop-entries.invariant.from);
    }

pub returns-clause-points : goal.returns-clause-points
returns-clause-points g c =
    let none = c.in_ok-next_record-2.ensures.end c.if-branch.false in
    let f = point_of c.len-width.result c.in_ok-places.places in
    let done = points_in c.loop-entries.entries.items in
    sym c.loop-entries.invariant.same ∙ ap (λ rows. before done (each_ok f (c.loop-entries.row + 1) rows)) none ∙ each-end f (c.loop-entries.row + 1) done

pub returns-clause-numbers : goal.returns-clause-numbers
returns-clause-numbers g c = c.loop-entries.invariant.from
