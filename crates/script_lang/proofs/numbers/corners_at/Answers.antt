-- The second point is read behind the first.
use Rattle.std.proofs.Common.{◌≡◌, length, rules, arith}
use Rattle.std.proofs.lemmas.Result.{err_from_is_err_and}
use Rattle.script_lang.proofs.Values.{box_fault, box_whole, fails_later, rest_both}
use Rattle.script_lang.proofs.numbers.corners_at.Goals as goal

pub returns-in_err-lo-clause-ends : goal.returns-in_err-lo-clause-ends
returns-in_err-lo-clause-ends g c = λ two.
    let p = err_from_is_err_and c.from_residual.result c.from_residual.ensures.1 in
    rw (p.1, p.2) (box_fault _ _ _ _ two (c.in_err-lo.ensures.reads (omega arith)))

pub returns-in_err-lo-clause-rest : goal.returns-in_err-lo-clause-rest
returns-in_err-lo-clause-rest g c = c.in_err-lo.ensures.rest

pub returns-in_err-hi-clause-ends : goal.returns-in_err-hi-clause-ends
returns-in_err-hi-clause-ends g c = λ two.
    let long : length c.in_ok-lo.lo.c ≡ g.row.D = search rules in
    let p = err_from_is_err_and c.from_residual-in_err-hi.result c.from_residual-in_err-hi.ensures.1 in
    rw (p.1, p.2)
    (box_fault _ _ _ _ two (fails_later _ c.in_ok-lo.ensures.reads (c.in_err-hi.ensures.reads (omega (arith, c.in_ok-lo.ensures.reads.count)))))

pub returns-in_err-hi-clause-rest : goal.returns-in_err-hi-clause-rest
returns-in_err-hi-clause-rest g c = rest_both c.in_ok-lo.ensures.rest c.in_err-hi.ensures.rest

pub returns-clause-ends : goal.returns-clause-ends
returns-clause-ends g c = λ two.
    box_whole _ _ _ _ _ _ two (search rules) (search rules) c.in_ok-lo.ensures.reads c.in_ok-hi.ensures.reads

pub returns-clause-rest : goal.returns-clause-rest
returns-clause-rest g c = rest_both c.in_ok-lo.ensures.rest c.in_ok-hi.ensures.rest
