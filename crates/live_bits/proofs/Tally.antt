-- How many bits are set: byte by byte, and number by number.
use Rattle.std.proofs.Common.{◌≡◌, ◌<◌, ◌≤◌, ◌+◌, ◌-◌, ◌*◌, ◌/◌, ◌%◌, ◌^◌, ℕ, zero, suc, Bool, true, false, cond, nat_eq}
use Rattle.std.proofs.Common.{List, [], ◌∷◌, length, get_or, refl, sym, ap, ◌∙◌, arith, All, filter, sum_by, add_assoc}
use lib.Count.{ones, ones_in}
use Rattle.std.proofs.lemmas.Bool.{agree_below_at, eqb-true}
use Rattle.std.proofs.lemmas.List.Elements.{All-head, All-tail}
use Rattle.std.proofs.lemmas.List.Sums.{sum_by-cons}
use Rattle.live_bits.specs.LiveBody.{is_set, numbers_from, live_in, AreBits}

-- how many of the n numbers from i on pass
abbrev pub tally : (ℕ → Bool) → ℕ → ℕ → ℕ
tally p i zero = 0
tally p i (suc n) = cond (p i) 1 0 + tally p (i + 1) n

length-kept : (b : Bool) (x : ℕ) (xs : List ℕ) → length (cond b (x ∷ xs) xs) ≡ cond b 1 0 + length xs
length-kept true x xs = omega arith
length-kept false x xs = omega arith

length-filter-numbers : (p : ℕ → Bool) (i n : ℕ) → length (filter p (numbers_from i n)) ≡ tally p i n
length-filter-numbers p i zero = refl
length-filter-numbers p i (suc n) =
    length-kept (p i) i (filter p (numbers_from (i + 1) n)) ∙ ap (λ (m : ℕ). cond (p i) 1 0 + m) (length-filter-numbers p (i + 1) n)

tally_moved : (p q : ℕ → Bool) (by i n : ℕ) → ((j : ℕ) → p (by + j) ≡ q j) → tally p (by + i) n ≡ tally q i n
tally_moved p q by i zero same = refl
tally_moved p q by i (suc n) same =
    ap (λ (b : Bool). cond b 1 0 + tally p (by + i + 1) n) (same i)
    ∙ ap (λ (j : ℕ). cond (q i) 1 0 + tally p j n) (add_assoc by i 1)
    ∙ ap (λ (m : ℕ). cond (q i) 1 0 + m) (tally_moved p q by (i + 1) n same)

tally_parts : (p : ℕ → Bool) (i m n : ℕ) → tally p i (m + n) ≡ tally p i m + tally p (i + m) n
tally_parts p i zero n =
    let none : zero + n ≡ n = omega arith in
    let here : i ≡ i + zero = omega arith in
    ap (λ (k : ℕ). tally p i k) none ∙ ap (λ (j : ℕ). tally p j n) here ∙ omega arith
tally_parts p i (suc m) n =
    let one : suc m + n ≡ suc (m + n) = omega arith in
    let next : i + 1 + m ≡ i + suc m = omega arith in
    let rest = tally_parts p (i + 1) m n in
    ap (λ (k : ℕ). tally p i k) one ∙ ap (λ (k : ℕ). cond (p i) 1 0 + k) (rest ∙ ap (λ (j : ℕ). tally p (i + 1) m + tally p j n) next)
    ∙ sym (add_assoc (cond (p i) 1 0) (tally p (i + 1) m) (tally p (i + suc m) n))

tally_none : (p : ℕ → Bool) (i n : ℕ) → ((j : ℕ) → i ≤ j → p j ≡ false) → tally p i n ≡ 0
tally_none p i zero none = refl
tally_none p i (suc n) none =
    ap (λ (b : Bool). cond b 1 0 + tally p (i + 1) n) (none i (omega arith))
    ∙ (let rest = tally_none p (i + 1) n (λ j le. none j (omega arith)) in omega (arith, rest))

-- ---- bytes

abbrev byte_agrees : ℕ → Bool
byte_agrees b = nat_eq (tally (is_set (b ∷ [])) 0 8) (ones b)

byte_is : (b : ℕ) (bytes : List ℕ) → b < 256 → tally (is_set (b ∷ bytes)) 0 8 ≡ ones b
unfolding ones ones_in
byte_is b bytes small = eqb-true (tally (is_set (b ∷ [])) 0 8) (ones b) (agree_below_at byte_agrees (λ _. true) 256 b refl small)

pub is_set-past : (b j : ℕ) (bytes : List ℕ) → is_set (b ∷ bytes) (8 + j) ≡ is_set bytes j
is_set-past b j bytes =
    let byte : (8 + j) / 8 ≡ suc (j / 8) = omega arith in
    let bit : (8 + j) % 8 ≡ j % 8 = omega arith in
    ap (λ (k : ℕ). nat_eq (get_or (b ∷ bytes) k 0 / 2 ^ ((8 + j) % 8) % 2) 1) byte ∙ ap (λ (k : ℕ). nat_eq (get_or bytes (j / 8) 0 / 2 ^ k % 2) 1) bit

bytes_are : (bits : List ℕ) → All (λ b. b < 256) bits → tally (is_set bits) 0 (8 * length bits) ≡ sum_by ones bits
bytes_are [] all = refl
bytes_are (b ∷ bytes) all =
    let more : 8 * length (b ∷ bytes) ≡ 8 + 8 * length bytes = omega arith in
    ap (λ (n : ℕ). tally (is_set (b ∷ bytes)) 0 n) more
    ∙ tally_parts (is_set (b ∷ bytes)) 0 8 (8 * length bytes)
    ∙ ap (λ (m : ℕ). m + tally (is_set (b ∷ bytes)) 8 (8 * length bytes)) (byte_is b bytes (All-head (λ (x : ℕ). x < 256) b bytes all))
    ∙ ap (λ (m : ℕ). ones b + m) (tally_moved (is_set (b ∷ bytes)) (is_set bytes) 8 0 (8 * length bytes) (λ j. is_set-past b j bytes))
    ∙ ap (λ (m : ℕ). ones b + m) (bytes_are bytes (All-tail (λ (x : ℕ). x < 256) b bytes all))
    ∙ sym (sum_by-cons ones b bytes)

-- the bits of a set are as many as its live numbers
pub sum_ones : (base span : ℕ) (bits : List ℕ) → AreBits base span bits → All (λ b. b < 256) bits → sum_by ones bits ≡ length (live_in base span bits)
unfolding live_in
sum_ones base span bits are all =
    let len = are.len in
    let fill : 8 * length bits ≡ span + (8 * length bits - span) = omega arith in
    let past = tally_none (is_set bits) span (8 * length bits - span) are.past in
    let start : base + 0 ≡ base = omega arith in
    let front : 0 + span ≡ span = omega arith in
    let inside : tally (is_set bits) 0 (8 * length bits) ≡ tally (is_set bits) 0 span =
    ap (λ (n : ℕ). tally (is_set bits) 0 n) fill ∙ tally_parts (is_set bits) 0 span (8 * length bits - span)
    ∙ ap (λ (j : ℕ). tally (is_set bits) 0 span + tally (is_set bits) j (8 * length bits - span)) front ∙ omega (arith, past) in
    sym (bytes_are bits all) ∙ inside
    ∙ sym (tally_moved (λ (n : ℕ). is_set bits (n - base)) (is_set bits) base 0 span (λ j. ap (λ (k : ℕ). is_set bits k) (omega arith)))
    ∙ ap (λ (j : ℕ). tally (λ (n : ℕ). is_set bits (n - base)) j span) start
    ∙ sym (length-filter-numbers (λ (n : ℕ). is_set bits (n - base)) base span)
