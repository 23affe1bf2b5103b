use Rattle.std.proofs.Common.{arith, count_ones, get_or, sym, ap, ◌∙◌, ℕ, ◌+◌, ◌≤◌}
use Rattle.std.proofs.lemmas.List.Sums.{sum_by_more}
use Rattle.std.proofs.lemmas.Nat.{ones-le}
use Rattle.live_bits.proofs.bits.count_set.Goals as goal

pub loop-b-preserved : goal.loop-b-preserved
loop-b-preserved c =
    let byte = get_or c.args.bits.now c.loop-b.b-index 0 in
    let few : count_ones byte ≤ 8 = ones-le 8 byte (omega (arith, c.type_inv.bits c.loop-b.b-index)) in
    let more = sum_by_more count_ones c.args.bits.now c.loop-b.b-index 0 c.loop-b-test.true in
    let so_far = c.loop-b.invariant.0 in
    (ap (λ (n : ℕ). n + count_ones byte) so_far ∙ sym more, omega (arith, few))
