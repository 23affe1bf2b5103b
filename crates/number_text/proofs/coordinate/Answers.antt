use Rattle.std.proofs.Common.{arith}
use borrow.Author.Tests.{ltb-true}
use Rattle.number_text.proofs.Digits.{coordinate-minus, coordinate-empty, coordinate-plain}
use Rattle.number_text.proofs.coordinate.Goals as goal
use Rattle.number_text.proofs.coordinate.Goals.{in_default-via-then-b-lt1, in_default-via-else-b-lt1+in_default-1}

pub returns-in-45 : goal.returns-in-45
returns-in-45 c = let e = coordinate-minus c.args.b.now (omega arith) (omega arith) in rw e c.negated.ensures

pub returns-in_default : goal.returns-in_default
returns-in_default c =
    elim c.in_default.branch [
      | in_default-via-then-b-lt1 w ↦ let e = coordinate-empty c.args.b.now (omega (arith, ltb-true)) in cc
      | in_default-via-else-b-lt1+in_default-1 w ↦ let e = coordinate-plain c.args.b.now (λ m. omega arith) in cc
    ]
