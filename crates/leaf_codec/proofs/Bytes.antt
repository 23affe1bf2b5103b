-- Numbers and coordinates in bytes.
use Rattle.std.proofs.Common.{◌≡◌, ◌<◌, ◌≤◌, ◌+◌, ◌-◌, ◌*◌, ◌%◌, ◌^◌, ℕ, zero, suc, ltb, List, [], ◌∷◌, ◌++◌, length, get_or, take, drop, sym}
use Rattle.std.proofs.Common.{ap, subst, ◌∙◌, arith, cond, inl, inr, ℤ, pos, negsuc, length-append, length-drop, length-take, mul-le-mul_right}
use Rattle.std.specs.Prelude.{FitsSigned, bit_and}
use Rattle.std.specs.Int.{w32, to_be_bytes, from_be_bytes}
use Rattle.std.proofs.lemmas.Bool.{cases_lt, lt-ltb, le-ltb, cond-true, cond-false}
use Rattle.std.proofs.lemmas.List.Elements.{All-head, All-tail, All-drop, All-take}
use Rattle.std.proofs.Common.{take-add, drop-drop, take_all}
use Rattle.std.proofs.lemmas.List.{get_or_past}
use Rattle.std.proofs.lemmas.Nat.{and_mask, be_bytes_4, pow-add, mod-mul-add}
use Rattle.std.proofs.Math.Nat.{pow-suc}
use Rattle.point_codec.specs.Keys.{key, rank}
use Rattle.leaf_codec.specs.Words.{number_of, coordinate, AreBytes}
use Rattle.byte_cursor.proofs.Lists.{four_at}
use Rattle.point_codec.proofs.KeyOrder.{rank-lt}

pub number_of-append : (xs ys : List ℕ) → number_of (xs ++ ys) ≡ number_of xs * 256 ^ length ys + number_of ys
number_of-append [] ys = omega arith
number_of-append (x ∷ xs) ys =
    let wide : 256 ^ length (xs ++ ys) ≡ 256 ^ length xs * 256 ^ length ys = ap (λ n. 256 ^ n) (length-append xs ys) ∙ pow-add 256 (length xs) (length ys) in
    (λ i. x * wide i + number_of-append xs ys i) ∙ regroup x (256 ^ length xs) (256 ^ length ys) (number_of xs) (number_of ys)
  where
    regroup : (x p q m n : ℕ) → x * (p * q) + (m * q + n) ≡ (x * p + m) * q + n
    regroup x p q m n = omega arith

pub number_of-lt : (bs : List ℕ) → AreBytes bs → number_of bs < 256 ^ length bs
number_of-lt [] h = omega arith
number_of-lt (b ∷ bs) h =
    let head : b < 256 = All-head (λ (x : ℕ). x < 256) b bs h in
    omega (arith, number_of-lt bs (All-tail (λ (x : ℕ). x < 256) b bs h), mul-le-mul_right (256 ^ length bs) (le-of b head), pow-suc 256 (length bs))
  where
    le-of : (b : ℕ) → b < 256 → b ≤ 255
    le-of b lt = omega arith

-- the number that the last bytes are
pub number_of-low : (xs ys : List ℕ) → AreBytes ys → number_of (xs ++ ys) % 256 ^ length ys ≡ number_of ys
number_of-low xs ys h = ap (λ n. n % 256 ^ length ys) (number_of-append xs ys) ∙ mod-mul-add (number_of xs) (256 ^ length ys) (number_of ys) (number_of-lt ys h)

pub mask_is : (n w : ℕ) → w ≤ 4 → bit_and n (256 ^ w - 1) ≡ n % 256 ^ w
mask_is n zero le = and_mask n 0
mask_is n (suc zero) le = and_mask n 8
mask_is n (suc (suc zero)) le = and_mask n 16
mask_is n (suc (suc (suc zero))) le = and_mask n 24
mask_is n (suc (suc (suc (suc zero)))) le = and_mask n 32
mask_is n (suc (suc (suc (suc (suc w))))) le = absurd (omega arith)

-- the last w bytes of a word
pub word_masked : (bs : List ℕ) (at w : ℕ) → w ≤ 4 → at + 4 ≤ length bs → AreBytes bs
    → bit_and (number_of (take 4 (drop at bs))) (256 ^ w - 1) ≡ number_of (take w (drop (at + (4 - w)) bs))
word_masked bs at w le within bytes =
    let front = take (4 - w) (drop at bs) in
    let back = take w (drop (4 - w) (drop at bs)) in
    let four : 4 ≡ (4 - w) + w = omega arith in
    let split : take 4 (drop at bs) ≡ front ++ back = ap (λ n. take n (drop at bs)) four ∙ take-add (4 - w) w (drop at bs) in
    let long : length back ≡ w = omega (arith, length-take w (drop (4 - w) (drop at bs)), length-drop (4 - w) (drop at bs), length-drop at bs) in
    let small : AreBytes back =
    All-take (λ (x : ℕ). x < 256) w (drop (4 - w) (drop at bs))
    (All-drop (λ (x : ℕ). x < 256) (4 - w) (drop at bs) (All-drop (λ (x : ℕ). x < 256) at bs bytes)) in
    mask_is (number_of (take 4 (drop at bs))) w le
    ∙ ap (λ (t : List ℕ). number_of t % 256 ^ w) split
    ∙ ap (λ n. number_of (front ++ back) % 256 ^ n) (sym long)
    ∙ number_of-low front back small
    ∙ ap (λ (t : List ℕ). number_of (take w t)) (drop-drop (4 - w) at bs)

pub number_of_four : (a b c d : ℕ) → number_of (a ∷ b ∷ c ∷ d ∷ []) ≡ from_be_bytes w32 (a ∷ b ∷ c ∷ d ∷ [])
number_of_four a b c d = omega arith

-- ---- keys

four_cells : (bs : List ℕ) → length bs ≡ 4 → bs ≡ get_or bs 0 0 ∷ get_or bs 1 0 ∷ get_or bs 2 0 ∷ get_or bs 3 0 ∷ []
four_cells bs long = sym (take_all 4 bs (omega (arith, long))) ∙ four_at bs 0 (omega (arith, long))

pub number_of-from_be : (bs : List ℕ) → length bs ≡ 4 → number_of bs ≡ from_be_bytes w32 bs
number_of-from_be bs long =
    ap number_of (four_cells bs long) ∙ number_of_four (get_or bs 0 0) (get_or bs 1 0) (get_or bs 2 0) (get_or bs 3 0)
    ∙ sym (ap (from_be_bytes w32) (four_cells bs long))

byte_at : (bs : List ℕ) → AreBytes bs → (i : ℕ) → get_or bs i 0 < 256
byte_at bs h i = elim (cases_lt i (length bs)) [
  | inl lt ↦ h i 0 lt
  | inr ge ↦ omega (arith, get_or_past bs i 0 ge)
]

-- the number is spelled by its bytes
pub to_be-number_of : (bs : List ℕ) → length bs ≡ 4 → AreBytes bs → to_be_bytes w32 (number_of bs) ≡ bs
to_be-number_of bs long h = be_bytes_4 bs (number_of bs) long (byte_at bs h) (number_of-from_be bs long)

pub number_of-to_be : (n : ℕ) → n < 2 ^ 32 → number_of (to_be_bytes w32 n) ≡ n
number_of-to_be n lt = omega arith

-- the coordinate of a rank
abbrev pub at_rank : ℕ → ℤ
at_rank n = cond (ltb n (2 ^ 31)) (negsuc (2 ^ 31 - 1 - n)) (pos (n - 2 ^ 31))

at_rank-rank : (x : ℤ) → FitsSigned w32 x → at_rank (rank x) ≡ x
at_rank-rank (pos n) h = cond-false (ltb (2 ^ 31 + n) (2 ^ 31)) _ _ (le-ltb (2 ^ 31 + n) (2 ^ 31) (omega arith)) ∙ ap pos (omega arith)
at_rank-rank (negsuc n) h = cond-true (ltb (2 ^ 31 - suc n) (2 ^ 31)) _ _ (lt-ltb (2 ^ 31 - suc n) (2 ^ 31) (omega arith)) ∙ ap negsuc (omega arith)

rank-at_rank : (n : ℕ) → rank (at_rank n) ≡ n
rank-at_rank n = elim (cases_lt n (2 ^ 31)) [
  | inl lt ↦ ap rank (cond-true (ltb n (2 ^ 31)) (negsuc (2 ^ 31 - 1 - n)) (pos (n - 2 ^ 31)) (lt-ltb n (2 ^ 31) lt)) ∙ omega arith
  | inr ge ↦ ap rank (cond-false (ltb n (2 ^ 31)) (negsuc (2 ^ 31 - 1 - n)) (pos (n - 2 ^ 31)) (le-ltb n (2 ^ 31) ge)) ∙ omega arith
]

at_rank-fits : (n : ℕ) → n < 2 ^ 32 → FitsSigned w32 (at_rank n)
at_rank-fits n small = elim (cases_lt n (2 ^ 31)) [
  | inl lt ↦
      subst (λ (x : ℤ). FitsSigned w32 x) (sym (cond-true (ltb n (2 ^ 31)) (negsuc (2 ^ 31 - 1 - n)) (pos (n - 2 ^ 31)) (lt-ltb n (2 ^ 31) lt))) (omega arith)
  | inr ge ↦
      subst (λ (x : ℤ). FitsSigned w32 x) (sym (cond-false (ltb n (2 ^ 31)) (negsuc (2 ^ 31 - 1 - n)) (pos (n - 2 ^ 31)) (le-ltb n (2 ^ 31) ge))) (omega arith)
]

pub coordinate-key : (x : ℤ) → FitsSigned w32 x → coordinate (key x) ≡ x
unfolding coordinate
coordinate-key x h = ap at_rank (number_of-to_be (rank x) (rank-lt x h)) ∙ at_rank-rank x h

pub key-coordinate : (bs : List ℕ) → length bs ≡ 4 → AreBytes bs → key (coordinate bs) ≡ bs
unfolding coordinate
key-coordinate bs long h = ap (to_be_bytes w32) (rank-at_rank (number_of bs)) ∙ to_be-number_of bs long h

pub coordinate-fits : (bs : List ℕ) → length bs ≡ 4 → AreBytes bs → FitsSigned w32 (coordinate bs)
unfolding coordinate
coordinate-fits bs long h = at_rank-fits (number_of bs) (omega (arith, number_of-lt bs h, ap (λ n. 256 ^ n) long))
