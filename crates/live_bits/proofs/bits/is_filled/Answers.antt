use Rattle.std.proofs.Common.{arith, eqb-true, eq-eqb}
use Rattle.live_bits.proofs.SameBits.{past_zero, zero_past}
use Rattle.live_bits.proofs.bits.is_filled.Goals as goal

pub returns : goal.returns
returns c = (
  λ t. (c.if-bits-span.false, past_zero c.args.bits.now c.args.span c.if-bits-span.false c.if-span-eq0.false (eqb-true _ _ t)),
  λ h. eq-eqb _ _ (zero_past c.args.bits.now c.args.span (λ i. omega (arith, c.type_inv.bits i)) h.1),
)
