use Rattle.std.proofs.Common.{◌≡◌, sym, Bool, List, ℕ, length, get_or, arith, ltb, ltb-true, lt-ltb, subst}
use Rattle.leaf_codec.proofs.Narrowest.{IsNarrowestBelow, narrowest_none, narrowest_takes, narrowest_keeps, narrowest_is}
use Rattle.leaf_codec.proofs.dimensions.narrowest.Goals as goal
use Rattle.leaf_codec.proofs.dimensions.narrowest.Goals.{then-lengths-d-lt4+then-spreads-d, else-lengths-d-lt4}
use Rattle.leaf_codec.proofs.dimensions.narrowest.Goals.{else-lengths-d-lt4-via-then-lengths-d-lt4+else-spreads-d, else-lengths-d-lt4-via-else-lengths-d-lt4}

abbrev short : List ℕ → ℕ → Bool
short lengths d = ltb (get_or lengths d 0) 4

abbrev number : List ℕ → ℕ → ℕ
number xs d = get_or xs d 0

pub loop-d-init : goal.loop-d-init
loop-d-init c = narrowest_none _ _ _ _ (omega arith)

pub loop-d-preserved : goal.loop-d-preserved
loop-d-preserved c =
    let lengths = c.args.lengths.now in
    let spreads = c.args.spreads.now in
    let d = c.loop-d.d in
    elim c.if-lengths-d-lt4.branch [
      | then-lengths-d-lt4+then-spreads-d w ↦ rw (w.best-is, w.least-is)
          (narrowest_takes d (length lengths) (short lengths) (number spreads) c.loop-d.best c.loop-d.least c.loop-d.invariant c.loop-d-test.true
          (lt-ltb _ _ w.if-lengths-d-lt4.true) w.if-spreads-d.true)
      | else-lengths-d-lt4 w ↦ rw (w.best-is, w.least-is)
          (narrowest_keeps d (length lengths) (short lengths) (number spreads) c.loop-d.best c.loop-d.least c.loop-d.invariant c.loop-d-test.true
          (λ moves. elim w.else-lengths-d-lt4.branch [
            | else-lengths-d-lt4-via-then-lengths-d-lt4+else-spreads-d v ↦ v.if-spreads-d.false
            | else-lengths-d-lt4-via-else-lengths-d-lt4 v ↦ absurd (omega (arith, v.if-lengths-d-lt4.false, ltb-true _ _ moves))
          ])
          (λ moves. c.requires.few d 0 (omega (arith, c.requires.same))))
    ]

pub returns : goal.returns
returns c =
    let lengths = c.args.lengths.now in
    let spreads = c.args.spreads.now in
    let whole : c.loop-d.d ≡ length lengths = omega arith in
    let found = subst (λ (n : ℕ). IsNarrowestBelow n (length lengths) (short lengths) (number spreads) c.loop-d.best c.loop-d.least) whole c.loop-d.invariant in
    sym (narrowest_is (length lengths) (short lengths) (number spreads) c.loop-d.best c.loop-d.least found
    (λ e lt moves. c.requires.few e 0 (omega (arith, c.requires.same))))
