-- The order of keys by their bytes is the order of their numbers.
use Rattle.std.proofs.Common.{◌≡◌, ℕ, ◌+◌, ◌*◌, ◌/◌, ◌%◌, ◌^◌, ◌<◌, ℤ, pos, negsuc, FitsSigned, refl, sym, ap, ◌∙◌, arith, [], ◌∷◌}
use Rattle.std.proofs.lemmas.Bool.Decides.{nat_tests}
use Rattle.std.proofs.Math.Nat.{div-div-eq-div-mul}
use Rattle.std.specs.declared.cmp.Ordering.{Ordering}
use Rattle.std.specs.declared.cmp.Ordering.TheVariants.{Less, Equal, Greater}
use Rattle.std.specs.Ordering.{int_cmp, nat_cmp, ordering_then}
use Rattle.std.specs.Cmp.Lexicographic.{slice_cmp}
use Rattle.point_codec.specs.Keys.{rank, key}
use mir.Syntax.{w32}

then_assoc : (a b c : Ordering) → ordering_then (ordering_then a b) c ≡ ordering_then a (ordering_then b c)
then_assoc Less b c = refl
then_assoc Equal b c = refl
then_assoc Greater b c = refl

then_equal : (a : Ordering) → a ≡ ordering_then a Equal
then_equal Less = refl
then_equal Equal = refl
then_equal Greater = refl

-- the higher digits decide, and else the lowest
digit_cmp : (q p r s : ℕ) → r < 256 → s < 256 → nat_cmp (q * 256 + r) (p * 256 + s) ≡ ordering_then (nat_cmp q p) (nat_cmp r s)
digit_cmp q p r s h k = grind (arith, nat_tests)

div_cmp : (m n : ℕ) → nat_cmp m n ≡ ordering_then (nat_cmp (m / 256) (n / 256)) (nat_cmp (m % 256) (n % 256))
div_cmp m n =
    let em : m ≡ m / 256 * 256 + m % 256 = omega arith in
    let en : n ≡ n / 256 * 256 + n % 256 = omega arith in
    let hm : m % 256 < 256 = omega arith in
    let hn : n % 256 < 256 = omega arith in
    ap (λ x. nat_cmp x n) em ∙ ap (λ y. nat_cmp (m / 256 * 256 + m % 256) y) en ∙ digit_cmp _ _ _ _ hm hn

-- four digits are compared in turn, the greatest first
joined : (t a b c3 c2 c1 c0 : Ordering) → t ≡ ordering_then a c0 → a ≡ ordering_then b c1 → b ≡ ordering_then c3 c2
    → ordering_then c3 (ordering_then c2 (ordering_then c1 (ordering_then c0 Equal))) ≡ t
joined t a b c3 c2 c1 c0 e f g =
    ap (λ x. ordering_then c3 (ordering_then c2 (ordering_then c1 x))) (sym (then_equal c0))
    ∙ sym (e ∙ ap (λ x. ordering_then x c0) (f ∙ ap (λ x. ordering_then x c1) g) ∙ then_assoc (ordering_then c3 c2) c1 c0
    ∙ then_assoc c3 c2 (ordering_then c1 c0))

pub bytes_cmp : (m n : ℕ) → m < 2 ^ 32 → n < 2 ^ 32
    → slice_cmp nat_cmp (m / 16777216 % 256 ∷ m / 65536 % 256 ∷ m / 256 % 256 ∷ m % 256 ∷ [])
    (n / 16777216 % 256 ∷ n / 65536 % 256 ∷ n / 256 % 256 ∷ n % 256 ∷ []) ≡ nat_cmp m n
bytes_cmp m n h k =
    let m2 : m / 256 / 256 ≡ m / 65536 = div-div-eq-div-mul m 256 256 in
    let n2 : n / 256 / 256 ≡ n / 65536 = div-div-eq-div-mul n 256 256 in
    let m3 : m / 65536 / 256 ≡ m / 16777216 = div-div-eq-div-mul m 65536 256 in
    let n3 : n / 65536 / 256 ≡ n / 16777216 = div-div-eq-div-mul n 65536 256 in
    let mt : m / 16777216 % 256 ≡ m / 16777216 = omega arith in
    let nt : n / 16777216 % 256 ≡ n / 16777216 = omega arith in
    let tm : m / 65536 / 256 ≡ m / 16777216 % 256 = m3 ∙ sym mt in
    let tn : n / 65536 / 256 ≡ n / 16777216 % 256 = n3 ∙ sym nt in
    joined _ _ _ _ _ _ _
    (div_cmp m n)
    (div_cmp (m / 256) (n / 256) ∙ (λ i. ordering_then (nat_cmp (m2 i) (n2 i)) (nat_cmp (m / 256 % 256) (n / 256 % 256))))
    (div_cmp (m / 65536) (n / 65536) ∙ (λ i. ordering_then (nat_cmp (tm i) (tn i)) (nat_cmp (m / 65536 % 256) (n / 65536 % 256))))

rank_cmp : (x y : ℤ) → FitsSigned w32 x → FitsSigned w32 y → nat_cmp (rank x) (rank y) ≡ int_cmp x y
rank_cmp (pos a) (pos b) f g = grind (arith, nat_tests)
rank_cmp (pos a) (negsuc b) f g = grind (arith, nat_tests, g.sfits)
rank_cmp (negsuc a) (pos b) f g = grind (arith, nat_tests, f.sfits)
rank_cmp (negsuc a) (negsuc b) f g = grind (arith, nat_tests, f.sfits, g.sfits)

rank_below : (x : ℤ) → FitsSigned w32 x → rank x < 2 ^ 32
rank_below (pos a) f = omega (arith, f.sfits)
rank_below (negsuc a) f = omega (arith, f.sfits)

pub keys_cmp : (x y : ℤ) → FitsSigned w32 x → FitsSigned w32 y → slice_cmp nat_cmp (key x) (key y) ≡ int_cmp x y
keys_cmp x y f g = bytes_cmp (rank x) (rank y) (rank_below x f) (rank_below y g) ∙ rank_cmp x y f g

pub rank-lt : (x : ℤ) → FitsSigned w32 x → rank x < 2 ^ 32
rank-lt (pos n) h = omega arith
rank-lt (negsuc n) h = omega arith
