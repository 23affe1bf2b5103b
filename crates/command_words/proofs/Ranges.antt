-- A parser of numbers of 32 bits whose range is narrowed.
use Rattle.std.proofs.Common.{◌≡◌, ◌∙◌, ◌^◌, ◌<◌, ◌||◌, ap, ap₂, ℕ, ℤ, Bool, true, false, Some, refl, subst, arith, cond}
use Rattle.std.specs.Prelude.{pos}
use Rattle.std.specs.Int.{int_max, int_min}
use Rattle.std.proofs.lemmas.Bool.{le-ltb, ltb-false}
use Rattle.clap.specs.Words.{NarrowsTo, signed_between}
use Rattle.clap.specs.declared.builder.value_parser.ValueParser.{ValueParser}
use Rattle.clap.specs.declared.builder.value_parser.ValueParser.TheVariants.{Signed}
use Rattle.std.proofs.Common.{nat_lt}

least_is : (n : ℕ) → int_max (pos 0) (pos n) ≡ pos n
least_is n = ap (λ (b : Bool). cond b (pos 0) (pos n)) (le-ltb n 0 (omega arith))

most_is : (n : ℕ) → n < 2 ^ 32 → int_min (pos 4294967295) (pos n) ≡ pos n
most_is n small = go (nat_lt n 4294967295) refl
  where
    go : (b : Bool) → nat_lt n 4294967295 ≡ b → cond b (pos n) (pos 4294967295) ≡ pos n
    go true below = refl
    go false above =
        let last : 4294967295 ≡ n = omega (arith, ltb-false n 4294967295 above) in
        ap pos last

between_is : (low high : ℕ) → low < 2 ^ 32 → signed_between (pos low) (pos high) ≡ Signed (pos low) (pos high)
between_is low high small =
    ap (λ (b : Bool). cond (b || false) (Signed (pos 1) (pos 0)) (Signed (pos low) (pos high)))
    (le-ltb 9223372036854775807 low (omega arith))

pub narrowed : (low high : ℕ) → low < 2 ^ 32 → high < 2 ^ 32 → (p r : ValueParser) (start end : ℤ) → p ≡ Signed (pos 0) (pos 4294967295)
    → start ≡ pos low → end ≡ pos high → NarrowsTo p (Some start) (Some end) r → r ≡ Signed (pos low) (pos high)
narrowed low high small_low small_high p r start end is_p is_start is_end narrows =
    let one = subst (λ (q : ValueParser). NarrowsTo q (Some start) (Some end) r) is_p narrows in
    let two = subst (λ (s : ℤ). NarrowsTo (Signed (pos 0) (pos 4294967295)) (Some s) (Some end) r) is_start one in
    let three = subst (λ (e : ℤ). NarrowsTo (Signed (pos 0) (pos 4294967295)) (Some (pos low)) (Some e) r) is_end two in
    three ∙ (ap₂ signed_between (least_is low) (most_is high small_high) ∙ between_is low high small_low)
