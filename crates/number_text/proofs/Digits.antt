-- Reading digits from the left: what the digits that are left make of the number so far.
use Rattle.std.proofs.Common.{◌≡◌, ℕ, ◌+◌, ◌*◌, ◌-◌, ◌^◌, pos, neg_ℤ, get_or, drop, take, option_map, ◌<◌, ◌≤◌, Bool}
use Rattle.std.proofs.Common.{true, false, cond, ◌&&◌, leb, List, [], ◌∷◌, length, Option, Some, None, refl, arith, rules}
use Rattle.std.specs.Char.{is_ascii_digit, digit_value}
use Rattle.std.specs.Str.{all_ascii_digits}
use Rattle.std.specs.Str.Parse.{digits_value_after}
use Rattle.std.proofs.lemmas.Bool.Decides.{nat_tests}
use Rattle.std.proofs.lemmas.List.{take_rest}
use Rattle.number_text.specs.Number.{number_up_to, coordinate}

-- what digits after those of n write, if they are digits and the value is at most the limit
abbrev pub number_after : ℕ → ℕ → List ℕ → Option ℕ
number_after limit n bs =
    cond (all_ascii_digits bs && leb (digits_value_after 10 n bs) limit) (Some (digits_value_after 10 n bs)) None

-- more digits never make the value less
value_grows : (n : ℕ) (bs : List ℕ) → n ≤ digits_value_after 10 n bs
value_grows n [] = omega arith
value_grows n (c ∷ cs) = omega (arith, value_grows (n * 10 + digit_value c) cs)

above : (limit n : ℕ) → limit < n → leb n limit ≡ false
above limit n h = grind (arith, nat_tests)

none_if : (b : Bool) (x : Option ℕ) → cond (b && false) x None ≡ None
none_if true x = refl
none_if false x = refl

pub number_after-above : (limit n : ℕ) (bs : List ℕ) → limit < n → number_after limit n bs ≡ None
number_after-above limit n bs h =
    let over : leb (digits_value_after 10 n bs) limit ≡ false = above limit _ (omega (arith, value_grows n bs)) in
    rw over (none_if (all_ascii_digits bs) (Some (digits_value_after 10 n bs)))

pub number_after-other : (limit n c : ℕ) (cs : List ℕ) → is_ascii_digit c ≡ false → number_after limit n (c ∷ cs) ≡ None
number_after-other limit n c cs h = rw h refl

digit_minus : (c : ℕ) → is_ascii_digit c ≡ true → digit_value c ≡ c - 48
digit_minus c h = grind (arith, nat_tests)

pub number_after-digit : (limit n c m : ℕ) (cs : List ℕ) → is_ascii_digit c ≡ true → m ≡ n * 10 + (c - 48)
    → number_after limit n (c ∷ cs) ≡ number_after limit m cs
number_after-digit limit n c m cs h e =
    let d : n * 10 + digit_value c ≡ m = omega (arith, digit_minus c h) in
    rw (h, d) refl

pub number_after-end : (limit n : ℕ) → n ≤ limit → number_after limit n [] ≡ Some n
number_after-end limit n h = grind (arith, nat_tests)

pub number_up_to-after : (limit : ℕ) (bs : List ℕ) → 0 < length bs → number_up_to limit bs ≡ number_after limit 0 bs
unfolding number_up_to
number_up_to-after limit [] h = absurd (omega arith)
number_up_to-after limit (c ∷ cs) h = search rules

pub number_up_to-none : (limit : ℕ) (bs : List ℕ) → 0 < length bs → number_after limit 0 bs ≡ None → number_up_to limit bs ≡ None
number_up_to-none limit bs h e = cc (number_up_to-after limit bs h)

pub coordinate-minus : (bs : List ℕ) → 0 < length bs → get_or bs 0 0 ≡ 45
    → coordinate bs ≡ option_map (λ n. neg_ℤ (pos n)) (number_up_to (2 ^ 31) (take (length bs - 1) (drop 1 bs)))
unfolding coordinate
coordinate-minus [] h e = absurd (omega arith)
coordinate-minus (c ∷ cs) h e = rw (e, take_rest (c ∷ cs) 1) refl

pub coordinate-empty : (bs : List ℕ) → length bs < 1 → coordinate bs ≡ option_map pos (number_up_to (2 ^ 31 - 1) bs)
unfolding coordinate number_up_to
coordinate-empty [] h = refl
coordinate-empty (c ∷ cs) h = absurd (omega arith)

pub coordinate-plain : (bs : List ℕ) → (get_or bs 0 0 ≡ 45 → ⊥) → coordinate bs ≡ option_map pos (number_up_to (2 ^ 31 - 1) bs)
unfolding coordinate
coordinate-plain [] h = coordinate-empty [] (omega arith)
coordinate-plain (c ∷ cs) h = grind (arith, nat_tests)

pub number_up_to-empty : (limit : ℕ) (bs : List ℕ) → length bs ≡ 0 → number_up_to limit bs ≡ None
unfolding number_up_to
number_up_to-empty limit [] h = refl
number_up_to-empty limit (c ∷ cs) h = absurd (omega arith)
