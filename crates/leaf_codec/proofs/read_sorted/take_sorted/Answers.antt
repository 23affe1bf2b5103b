use Rattle.std.proofs.Common.{length, sym, ap, ◌∙◌, arith}
use Rattle.leaf_codec.proofs.SortedBytes.{in_form, sorted_some}
use Rattle.leaf_codec.proofs.read_sorted.take_sorted.Goals as goal

pub returns-in_err-form-clause-only : goal.returns-in_err-form-clause-only
returns-in_err-form-clause-only c bytes tail long e =
    absurd (omega (arith, c.in_err-form.ensures.cases, ap length e, sorted_some bytes tail))

pub returns-in_default-clause-only : goal.returns-in_default-clause-only
returns-in_default-clause-only c bytes tail long e =
    let f = in_form c.in_ok-form.form.now c.in_ok-form.rest.now bytes tail (sym c.in_ok-form.ensures.cases.0 ∙ e) in
    absurd (omega (arith, c.in_default, f.known))
