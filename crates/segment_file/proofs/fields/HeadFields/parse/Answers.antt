use Rattle.std.proofs.Common.{refl, sym, subst, ◌∙◌, ◌++◌}
use Rattle.std.specs.Prelude.{◌==◌}
use Rattle.byte_cursor.specs.Cursor.{cursor_rest}
use Rattle.segment_file.specs.Heads.{AreFields, numbers_bytes}
use Rattle.segment_file.specs.FieldsSeen.{fields_said}
use Rattle.segment_file.proofs.FieldBytes.{fields_parts, zeros, found, has_fields, differ, agree}
use Rattle.segment_file.proofs.fields.HeadFields.parse.Goals as goal

pub returns-in_err-own_cells-clause-none : goal.returns-in_err-own_cells-clause-none
returns-in_err-own_cells-clause-none c =
    rw c.from_residual.ensures
    (λ f are e. c.in_err-own_cells.ensures.other (f.form == 3) (numbers_bytes f ++ zeros f) (c.new-cursor.ensures ∙ e ∙ fields_parts f (zeros f)))

pub returns-then-own_cells-fields-clause-none : goal.returns-then-own_cells-fields-clause-none
returns-then-own_cells-fields-clause-none c = λ f are e.
    let is = found c.args.payload.now (cursor_rest c.take_magic.new.cursor) (cursor_rest c.take_numbers.new.cursor) c.in_ok-own_cells.own_cells f
    (fields_said c.in_ok-fields.fields) (sym c.new-cursor.ensures ∙ c.in_ok-own_cells.ensures.taken) c.in_ok-fields.ensures.taken c.in_ok-fields.ensures.narrow
    are e in
    differ c.in_ok-own_cells.own_cells (c.in_ok-fields.fields.form == 3) c.if-own_cells-fields.true is.own_is

pub returns-then-not-are_in_range-clause-none : goal.returns-then-not-are_in_range-clause-none
returns-then-not-are_in_range-clause-none c = λ f are e.
    let is = found c.args.payload.now (cursor_rest c.take_magic.new.cursor) (cursor_rest c.take_numbers.new.cursor) c.in_ok-own_cells.own_cells f
    (fields_said c.in_ok-fields.fields) (sym c.new-cursor.ensures ∙ c.in_ok-own_cells.ensures.taken) c.in_ok-fields.ensures.taken c.in_ok-fields.ensures.narrow
    are e in
    let in_range = c.are_in_range.ensures.1 (subst AreFields is.same are) in
    let out_of_range = c.if-not-are_in_range.true in
    cc

pub returns-then-not-is_blank-clause-none : goal.returns-then-not-is_blank-clause-none
returns-then-not-is_blank-clause-none c = λ f are e.
    let is = found c.args.payload.now (cursor_rest c.take_magic.new.cursor) (cursor_rest c.take_numbers.new.cursor) c.in_ok-own_cells.own_cells f
    (fields_said c.in_ok-fields.fields) (sym c.new-cursor.ensures ∙ c.in_ok-own_cells.ensures.taken) c.in_ok-fields.ensures.taken c.in_ok-fields.ensures.narrow
    are e in
    let blank = c.is_blank.ensures.1 (rw c.rest.ensures is.rest) in
    let not_blank = c.if-not-is_blank.true in
    cc

pub returns-clause-some : goal.returns-clause-some
returns-clause-some c =
    let blank = c.if-not-is_blank.ensures.0 refl in
    record {
      are = c.if-not-are_in_range.ensures.0 refl;
      is = has_fields c.args.payload.now (cursor_rest c.take_magic.new.cursor) (cursor_rest c.take_numbers.new.cursor) c.in_ok-own_cells.own_cells
          (fields_said c.in_ok-fields.fields) c.requires (sym c.new-cursor.ensures ∙ c.in_ok-own_cells.ensures.taken) c.in_ok-fields.ensures.taken
          (agree c.in_ok-own_cells.own_cells (c.in_ok-fields.fields.form == 3) c.if-own_cells-fields.false) (rw c.rest.ensures at blank);
    }
