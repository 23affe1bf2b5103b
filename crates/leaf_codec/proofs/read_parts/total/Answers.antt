use Rattle.std.proofs.Common.{◌≡◌, get_or, arith, ap, inl, inr}
use Rattle.std.proofs.lemmas.Bool.{cases_lt}
use Rattle.std.proofs.lemmas.List.{get_or_default}
use Rattle.leaf_codec.proofs.Chunks.{place_more}
use Rattle.leaf_codec.proofs.read_parts.total.Goals as goal

pub loop-d-preserved : goal.loop-d-preserved
loop-d-preserved c =
    let lengths = c.args.lengths.now in
    let l = c.loop-d in
    record {
      value = omega (arith, l.invariant.value, place_more (λ e. get_or lengths e 0) l.d);
      few = omega (arith, l.invariant.few, c.if-lengths-d-gt4.false);
      short = λ k e lt. elim (cases_lt k l.d) [
        | inl under ↦ l.invariant.short k e under
        | inr le ↦
            let same : k ≡ l.d = omega arith in
            omega (arith, ap (λ n. get_or lengths n e) same, get_or_default lengths l.d e 0 (omega (arith, c.loop-d-test.true)), c.if-lengths-d-gt4.false)
      ];
    }
