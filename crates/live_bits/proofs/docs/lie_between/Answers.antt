use Rattle.std.proofs.Common.{◌≤◌, ◌<◌, ℕ, List, All, subst, arith}
use Rattle.std.proofs.lemmas.List.{take_all}
use Rattle.std.proofs.lemmas.List.Elements.{All-more}
use Rattle.live_bits.proofs.docs.lie_between.Goals as goal

pub loop-number-preserved : goal.loop-number-preserved
loop-number-preserved c =
    All-more (λ (n : ℕ). (c.args.low ≤ n) × (n < c.args.end)) c.args.numbers.now c.loop-number.number-index 0 (omega (arith, c.loop-number-test.true))
    c.loop-number.invariant (omega (arith, c.if-number-low.false), omega (arith, c.if-number-end.false))

pub returns : goal.returns
returns c = λ yes.
    subst (λ (xs : List ℕ). All (λ (n : ℕ). (c.args.low ≤ n) × (n < c.args.end)) xs)
    (take_all c.loop-number.number-index c.args.numbers.now (omega (arith, c.loop-number-test.false))) c.loop-number.invariant
