-- The number is read, and the point behind it.
use Rattle.std.proofs.Common.{ap, length, rules, arith}
use Rattle.std.proofs.lemmas.Result.{err_from_is_err_and}
use Rattle.script_lang.proofs.Sought.{sought_first, sought_later, sought_whole}
use Rattle.script_lang.proofs.Values.{rest_both}
use Rattle.script_lang.proofs.queries.next_sought.Goals as goal

pub returns-in_default-clause-sought : goal.returns-in_default-clause-sought
returns-in_default-clause-sought g c = λ one. absurd (omega (arith, one, ap length c.in_default.ensures.word))

pub returns-in_default-clause-rest : goal.returns-in_default-clause-rest
returns-in_default-clause-rest g c = c.next.ensures.rest

pub returns-in_err-k-clause-sought : goal.returns-in_err-k-clause-sought
returns-in_err-k-clause-sought g c = λ one.
    let p = err_from_is_err_and c.from_residual.result c.from_residual.ensures.1 in
    rw (p.1, p.2) (sought_first _ _ _ c.in-Some.ensures.word one c.in_err-k.ensures)

pub returns-in_err-k-clause-rest : goal.returns-in_err-k-clause-rest
returns-in_err-k-clause-rest g c = c.next.ensures.rest

pub returns-in_err-at-clause-sought : goal.returns-in_err-at-clause-sought
returns-in_err-at-clause-sought g c = λ one.
    let p = err_from_is_err_and c.from_residual-in_err-at.result c.from_residual-in_err-at.ensures.1 in
    rw (p.1, p.2)
    (sought_later _ _ c.in_ok-k.k _ c.in-Some.ensures.word one c.in_ok-k.ensures
    (c.in_err-at.ensures.reads (omega (arith, one, ap length c.in-Some.ensures.word.words))))

pub returns-in_err-at-clause-rest : goal.returns-in_err-at-clause-rest
returns-in_err-at-clause-rest g c = rest_both c.next.ensures.rest c.in_err-at.ensures.rest

pub returns-clause-sought : goal.returns-clause-sought
returns-clause-sought g c = λ one.
    sought_whole _ _ c.in_ok-k.k _ c.in-Some.ensures.word one c.in_ok-k.ensures c.in_ok-at.ensures.reads (search rules)

pub returns-clause-rest : goal.returns-clause-rest
returns-clause-rest g c = rest_both c.next.ensures.rest c.in_ok-at.ensures.rest
