-- What the code's 128 bits hold: differences of coordinates, their products, and the difference of two products.
use Rattle.std.proofs.Common.{◌≡◌, ℤ, ◌≤◌, ◌^◌, ◌-ℤ◌, ◌*ℤ◌, unsigned_abs, FitsSigned, to_z, of_z, arith, lit<}
use Rattle.std.proofs.lemmas.Int.{ints, to_z-of_z, fits_signed_mul, unsigned_abs-mul}
use Rattle.std.proofs.lemmas.Nat.{mul-le}
use mir.Syntax.{w128}

-- a number as it stands in 128 bits
abbrev pub kept : ℤ → ℤ
kept z = to_z w128 (of_z w128 z)

fits : (z : ℤ) → unsigned_abs z ≤ 2 ^ 64 → FitsSigned w128 z
fits z h = omega (arith, ints)

pub kept_is : (z : ℤ) → unsigned_abs z ≤ 2 ^ 64 → kept z ≡ z
kept_is z h = let f : FitsSigned w128 z = fits z h in simp to_z-of_z

pub product_fits : (a b : ℤ) → unsigned_abs a ≤ 2 ^ 32 → unsigned_abs b ≤ 2 ^ 32 → FitsSigned w128 (a *ℤ b)
product_fits a b p q = fits_signed_mul w128 a b (2 ^ 32) (2 ^ 32) p q (lit< tt)

pub product_small : (a b : ℤ) → unsigned_abs a ≤ 2 ^ 32 → unsigned_abs b ≤ 2 ^ 32 → unsigned_abs (a *ℤ b) ≤ 2 ^ 64
product_small a b p q = simp unsigned_abs-mul (mul-le (unsigned_abs a) (unsigned_abs b) (2 ^ 32) (2 ^ 32) p q)

pub kept-product : (a b : ℤ) → unsigned_abs a ≤ 2 ^ 32 → unsigned_abs b ≤ 2 ^ 32 → kept (kept a *ℤ kept b) ≡ a *ℤ b
kept-product a b p q =
    let a_fits : FitsSigned w128 a = fits a (omega arith) in
    let b_fits : FitsSigned w128 b = fits b (omega arith) in
    let all_fits : FitsSigned w128 (a *ℤ b) = product_fits a b p q in
    simp to_z-of_z

pub kept_product_fits : (a b : ℤ) → unsigned_abs a ≤ 2 ^ 32 → unsigned_abs b ≤ 2 ^ 32 → FitsSigned w128 (kept a *ℤ kept b)
kept_product_fits a b p q =
    let a_fits : FitsSigned w128 a = fits a (omega arith) in
    let b_fits : FitsSigned w128 b = fits b (omega arith) in
    simp to_z-of_z (product_fits a b p q)

pub kept_product_small : (a b : ℤ) → unsigned_abs a ≤ 2 ^ 32 → unsigned_abs b ≤ 2 ^ 32 → unsigned_abs (kept (kept a *ℤ kept b)) ≤ 2 ^ 64
kept_product_small a b p q = rw (kept-product a b p q) (product_small a b p q)

pub difference_fits : (a b : ℤ) → unsigned_abs a ≤ 2 ^ 64 → unsigned_abs b ≤ 2 ^ 64 → FitsSigned w128 (a -ℤ b)
difference_fits a b p q = omega (arith, ints)

pub kept_difference_fits : (a b : ℤ) → unsigned_abs a ≤ 2 ^ 64 → unsigned_abs b ≤ 2 ^ 64 → FitsSigned w128 (kept a -ℤ kept b)
kept_difference_fits a b p q =
    let a_fits : FitsSigned w128 a = fits a p in
    let b_fits : FitsSigned w128 b = fits b q in
    simp to_z-of_z (difference_fits a b p q)

pub kept-difference : (a b : ℤ) → unsigned_abs a ≤ 2 ^ 64 → unsigned_abs b ≤ 2 ^ 64 → kept (kept a -ℤ kept b) ≡ a -ℤ b
kept-difference a b p q =
    let a_fits : FitsSigned w128 a = fits a p in
    let b_fits : FitsSigned w128 b = fits b q in
    let all_fits : FitsSigned w128 (a -ℤ b) = difference_fits a b p q in
    simp to_z-of_z
