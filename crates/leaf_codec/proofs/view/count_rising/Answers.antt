use Rattle.std.proofs.Common.{◌≡◌, ◌-◌, ℕ, not, eqb, cond, get_or, length, sym, ap, ◌∙◌, arith}
use Rattle.leaf_codec.proofs.CanonicalNumbers.{AreBytes-from as small}
use Rattle.leaf_codec.proofs.NewValues.{flag_le, values_of, values_all, rising_more, rising_first}
use Rattle.leaf_codec.proofs.Written.{flag_is}
use Rattle.leaf_codec.proofs.view.count_rising.Goals as goal

pub loop-i-init : goal.loop-i-init
loop-i-init c =
    let byte : ℕ → ℕ = λ k. get_or c.args.bytes.now k 0 in
    record {
      some = omega arith;
      few = omega arith;
      counted = sym (rising_first byte (small c.args.bytes.now (λ k. omega (arith, c.type_inv.bytes k)) 0 0 (omega (arith, c.requires.some))));
    }

pub loop-i-preserved : goal.loop-i-preserved
loop-i-preserved c =
    let byte : ℕ → ℕ = λ k. get_or c.args.bytes.now k 0 in
    let l = c.loop-i in
    let is_byte = small c.args.bytes.now (λ k. omega (arith, c.type_inv.bytes k)) l.i 0 (omega (arith, c.loop-i-test.true)) in
    let more = rising_more byte (length c.args.bytes.now) l.i c.requires.rises l.invariant.some (omega (arith, c.loop-i-test.true)) is_byte in
    let new = not (eqb (byte l.i) (byte (l.i - 1))) in
    let flag : c.from-count.result ≡ cond {A = ℕ} new 1 0 = c.from-count.ensures ∙ flag_is new in
    record {
      some = omega (arith, l.invariant.some);
      few = omega (arith, l.invariant.few, flag, flag_le new);
      counted = omega (arith, l.invariant.counted, more, flag);
    }

pub returns-clause-value : goal.returns-clause-value
returns-clause-value c =
    let byte : ℕ → ℕ = λ k. get_or c.args.bytes.now k 0 in
    let end : c.loop-i.i ≡ length c.args.bytes.now = omega (arith, c.loop-i-test.false, c.loop-i.auto.i-end, c.requires.some) in
    c.loop-i.invariant.counted ∙ ap (values_of byte) end ∙ values_all c.args.bytes.now
