use Rattle.std.proofs.Common.{arith, sym, ◌∙◌}
use Rattle.csv_load.proofs.Blanks.{from_first-at}
use Rattle.csv_load.proofs.fields.from_first.Goals as goal

pub returns-then-not-is_blank : goal.returns-then-not-is_blank
returns-then-not-is_blank c =
    from_first-at c.args.field.now c.loop-i.i (omega arith) c.loop-i.invariant (λ h. sym c.is_blank.ensures ∙ c.if-not-is_blank.true)

pub returns : goal.returns
returns c = from_first-at c.args.field.now _ (omega arith) (λ k h. c.loop-i.invariant k (omega arith)) (λ h. absurd (omega arith))
