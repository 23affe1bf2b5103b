use Rattle.std.proofs.Common.{◌≡◌, ◌+◌, ◌*◌, ℕ, true, subst, arith}
use Rattle.std.specs.Int.{w64, trailing_zeros}
use Rattle.live_bits.specs.LiveSet.{is_live}
use Rattle.document_checks.proofs.LivePlaces.{dead_above, dead_none, dead_more, dead_before, dead_all, live_there}
use Rattle.document_checks.proofs.placing.first_live.Goals as goal

pub loop-i-init : goal.loop-i-init
loop-i-init c n le lt = dead_none c.args.live.now c.args.from c.base.ensures.set n le (omega (arith, lt, c.max-first.ensures, c.base.ensures.value))

pub loop-i-preserved : goal.loop-i-preserved
loop-i-preserved c n le lt =
    dead_more c.args.live.now c.args.from (c.max-first.result + 64 * c.loop-i.i) c.word-word.result c.loop-i.invariant c.word-word.ensures (omega arith) n le
    (omega (arith, lt))

pub returns-then-word-ne0-clause-before : goal.returns-then-word-ne0-clause-before
returns-then-word-ne0-clause-before c n le lt =
    dead_before c.args.live.now c.args.from (c.max-first.result + 64 * c.loop-i.i) c.word-word.result c.loop-i.invariant c.word-word.ensures (omega arith)
    (omega arith) n le
    (omega (arith, lt, c.min.ensures))

pub returns-then-word-ne0-clause-found : goal.returns-then-word-ne0-clause-found
returns-then-word-ne0-clause-found c lt =
    let at = c.max-first.result + 64 * c.loop-i.i in
    let is : at + trailing_zeros w64 c.word-word.result ≡ c.min.result = omega (arith, lt, c.min.ensures) in (
      omega (arith, is, c.max-first.ensures),
      subst (λ (n : ℕ). is_live c.args.live.now n ≡ true) is (live_there c.args.live.now at c.word-word.result c.word-word.ensures (omega arith) (omega arith)),
    )

pub returns-then-word-ne0-clause-above : goal.returns-then-word-ne0-clause-above
returns-then-word-ne0-clause-above c n high = dead_above c.args.live.now n c.base.ensures.set high

pub returns-clause-before : goal.returns-clause-before
returns-clause-before c =
    dead_all c.args.live.now c.args.from (c.max-first.result + 64 * c.loop-i.i) c.args.limit c.base.ensures.set c.loop-i.invariant
    (omega (arith, c.min-end.ensures, c.base-2.ensures.value, c.span.ensures.value, c.saturating_sub.ensures, c.div_ceil-i-end.ensures))

pub returns-clause-above : goal.returns-clause-above
returns-clause-above c n high = dead_above c.args.live.now n c.base.ensures.set high
