use Rattle.std.proofs.Common.{◌≡◌, ◌∙◌, sym, refl, None}
use Rattle.std.specs.Prelude.{slice_get}
use Rattle.csv.specs.Records.{fields_of}
use Rattle.csv_load.proofs.Places.{got, field_at-is}
use Rattle.csv_load.proofs.fields.value_of.Goals as goal

pub returns-in_err-field : goal.returns-in_err-field
returns-in_err-field c =
    let none : slice_get (fields_of c.args.fields.now) c.args.place ≡ None =
    sym (field_at-is (fields_of c.args.fields.now) c.args.place) ∙ sym c.in_err-field.ensures.value in
    rw (c.from_residual.ensures, none) refl

pub returns : goal.returns
returns c =
    rw (c.coordinate.ensures, c.without_blanks.ensures, got (fields_of c.args.fields.now) c.args.place c.in_ok-field.field c.in_ok-field.ensures.value) refl
