use Rattle.std.proofs.Common.{ℕ, Ok, ap}
use Rattle.byte_cursor.proofs.cursor.Cursor.take_vint.Goals as goal

-- a vint that is there is no fault
pub returns-in_err-n-clause-taken : goal.returns-in_err-n-clause-taken
returns-in_err-n-clause-taken c = λ n rest lt begins.
    absurd (c.in_err-n.ensures.none (record { number = n; fits = lt; rest = rest; begins = begins }))

pub returns-clause-taken : goal.returns-clause-taken
returns-clause-taken c = λ n rest lt begins.
    let same = c.in_ok-n.ensures.taken n rest lt begins in
    (ap (λ (x : ℕ). Ok x) same.0, same.1)
