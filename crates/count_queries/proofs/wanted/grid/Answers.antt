-- Where all four numbers are read, the box says the rest.
use Rattle.std.proofs.Common.{◌≡◌, ◌*◌, length, ap, sym, ◌∙◌, arith}
use Rattle.std.proofs.lemmas.Result.{err_from_is_err_and}
use Rattle.script_lang.specs.Parts.{words_left}
use Rattle.count_queries.specs.Asks.{on_success}
use Rattle.count_queries.proofs.Asking.{grid_from, grid_read, words_four}
use Rattle.count_queries.proofs.wanted.grid.Goals as goal

pub returns-in_err-lo : goal.returns-in_err-lo
returns-in_err-lo g c =
    let p = err_from_is_err_and c.from_residual-in_err-lo.result c.from_residual-in_err-lo.ensures.1 in
    let long : length (words_left c.next-4.new.self) ≡ 2 * g.row.D = sym c.count.ensures ∙ c.if-count.false in
    let six : c.next-4.new.self.place ≡ 6 = omega (
      arith,
      c.requires.second,
      c.in-Some.ensures.word.place,
      c.in-Some-next.ensures.word.place,
      c.in-Some-next-2.ensures.word.place,
      c.in-Some-next-3.ensures.word.place,
    ) in
    rw (p.1, p.2)
    (sym (grid_read g.row.D _ _ _ _ _ _ _ c.in_ok-x.x c.in_ok-step_x.step_x c.in_ok-y.y c.in_ok-step_y.step_y
    (words_four c.in-Some.ensures.word c.in-Some-next.ensures.word c.in-Some-next-2.ensures.word c.in-Some-next-3.ensures.word) long six c.in_ok-x.ensures
    c.in_ok-step_x.ensures
    c.in_ok-y.ensures c.in_ok-step_y.ensures
    ∙ ap (λ box. on_success box (grid_from c.in_ok-x.x c.in_ok-step_x.step_x c.in_ok-y.y c.in_ok-step_y.step_y)) c.in_err-lo.ensures))
