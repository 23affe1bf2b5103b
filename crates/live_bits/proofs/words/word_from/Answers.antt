use Rattle.std.proofs.Common.{◌≡◌, ◌+◌, ◌*◌, ◌/◌, ◌%◌, ◌<◌, ◌^◌, ◌-◌, ℕ, get_or, bit_or, ap, ◌∙◌, arith, rules}
use Rattle.live_bits.specs.LiveBody.{has_bit, is_set}
use Rattle.live_bits.proofs.WordBits.{IsEight, low_bit, both_bits}
use Rattle.live_bits.proofs.words.word_from.Goals as goal

pub returns-then-shift-eq0 : goal.returns-then-shift-eq0
returns-then-shift-eq0 c k lt =
    let bytes : (j : ℕ) → get_or c.eight_bytes.result j 0 < 256 = search rules in
    let eight : IsEight c.args.bits.now (c.args.i / 8) c.eight_bytes.result = record { bytes = bytes; same = c.eight_bytes.ensures } in
    let same : 8 * (c.args.i / 8) + k ≡ c.args.i + k = omega arith in
    ap (λ (n : ℕ). has_bit n k) c.from_le_bytes-low.ensures ∙ low_bit c.args.bits.now c.eight_bytes.result (c.args.i / 8) k eight lt
    ∙ ap (is_set c.args.bits.now) same

pub returns : goal.returns
returns c k lt =
    let bytes : (j : ℕ) → get_or c.eight_bytes.result j 0 < 256 = search rules in
    let eight : IsEight c.args.bits.now (c.args.i / 8) c.eight_bytes.result = record { bytes = bytes; same = c.eight_bytes.ensures } in
    let high : c.from.result ≡ get_or c.args.bits.now (c.args.i / 8 + 8) 0 = search rules in
    (λ j. has_bit (bit_or (c.from_le_bytes-low.ensures j / 2 ^ (c.args.i % 8)) (high j * 2 ^ (64 - c.args.i % 8) % 2 ^ 64)) k)
    ∙ both_bits c.args.bits.now c.eight_bytes.result c.args.i k eight lt (omega arith)
