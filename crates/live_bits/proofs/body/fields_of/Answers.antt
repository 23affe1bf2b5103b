use Rattle.std.proofs.Common.{◌≡◌, ◌++◌, ℕ, List, length, arith, sym, ap, ◌∙◌}
use Rattle.byte_cursor.specs.Cursor.{cursor_rest}
use Rattle.std.proofs.lemmas.List.{append_cancel_left}
use Rattle.live_bits.proofs.Heads.{name, sizes, head-parts}
use Rattle.live_bits.proofs.body.fields_of.Goals as goal

pub returns-then-not-takes_name-clause-none : goal.returns-then-not-takes_name-clause-none
returns-then-not-takes_name-clause-none c = λ base span count bits e.
    c.if-not-takes_name.ensures.other (sizes base span count ++ bits)
    (c.new-cursor.ensures ∙ e ∙ head-parts c.args.segment c.args.generation base span count bits)

pub returns-in_err-sizes-clause-none : goal.returns-in_err-sizes-clause-none
returns-in_err-sizes-clause-none c =
    rw c.from_residual.ensures
    (λ base span count bits e.
    let rest : cursor_rest c.takes_name.new.cursor ≡ sizes base span count ++ bits =
    append_cancel_left (name c.args.segment c.args.generation) (cursor_rest c.takes_name.new.cursor) (sizes base span count ++ bits)
    (sym c.if-not-takes_name.ensures.taken ∙ c.new-cursor.ensures ∙ e ∙ head-parts c.args.segment c.args.generation base span count bits) in
    let short = c.in_err-sizes.ensures.short in
    omega (arith, ap length rest))

pub returns-clause-some : goal.returns-clause-some
returns-clause-some c =
    sym c.new-cursor.ensures ∙ c.if-not-takes_name.ensures.taken
    ∙ ap (λ (r : List ℕ). name c.args.segment c.args.generation ++ r)
    (c.in_ok-sizes.ensures.taken
    ∙ ap (λ (r : List ℕ). sizes c.in_ok-sizes.sizes.base c.in_ok-sizes.sizes.span c.in_ok-sizes.sizes.count ++ r) (sym c.rest.ensures))
    ∙ sym (head-parts c.args.segment c.args.generation c.in_ok-sizes.sizes.base c.in_ok-sizes.sizes.span c.in_ok-sizes.sizes.count c.rest.result.now)
