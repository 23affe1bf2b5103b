-- Vints: one spelling a number, no spelling in front of another, one to five bytes below 2 ^ 32.
use Rattle.std.proofs.Common.{◌≡◌, ◌<◌, ◌≤◌, ◌+◌, ◌-◌, ◌*◌, ◌^◌, ◌/◌, ◌%◌, ℕ, zero, suc, List}
use Rattle.std.proofs.Common.{[], ◌∷◌, ◌++◌, length, refl, sym, ap, subst, ◌∙◌, arith, inl, inr}
use Rattle.std.proofs.Math.Nat.{pow-suc}
use Rattle.std.proofs.lemmas.Bool.{cases_lt}
use Rattle.std.proofs.lemmas.Nat.{div_below}
use Rattle.byte_cursor.specs.Vint.{IsVint, AppendsVint}

head-is : (a b : ℕ) (x y : List ℕ) → a ∷ x ≡ b ∷ y → a ≡ b
head-is a b x y e = cc

tail-is : (a b : ℕ) (x y : List ℕ) → a ∷ x ≡ b ∷ y → x ≡ y
tail-is a b x y e = cc

pub vint_unique : (a b x y : List ℕ) (m n : ℕ) → IsVint a m → IsVint b n → a ++ x ≡ b ++ y → (a ≡ b) × (m ≡ n) × (x ≡ y)
unfolding IsVint
vint_unique [] b x y m n p q e = absurd p
vint_unique (a ∷ xs) [] x y m n p q e = absurd q
vint_unique (a ∷ []) (b ∷ []) x y m n p q e =
    let head = head-is a b x y e in
    (ap (λ (h : ℕ). h ∷ []) head, omega arith, tail-is a b x y e)
vint_unique (a ∷ []) (b ∷ c ∷ bs) x y m n p q e =
    let head = head-is a b x (c ∷ bs ++ y) e in
    absurd (omega arith)
vint_unique (a ∷ c ∷ xs) (b ∷ []) x y m n p q e =
    let head = head-is a b (c ∷ xs ++ x) y e in
    absurd (omega arith)
vint_unique (a ∷ c ∷ xs) (b ∷ d ∷ bs) x y m n p q e =
    let head = head-is a b (c ∷ xs ++ x) (d ∷ bs ++ y) e in
    let rest = vint_unique (c ∷ xs) (d ∷ bs) x y (m / 128) (n / 128) p.2 q.2 (tail-is a b (c ∷ xs ++ x) (d ∷ bs ++ y) e) in
    (ap (λ (h : ℕ). h ∷ c ∷ xs) head ∙ ap (λ (t : List ℕ). b ∷ t) rest.0, omega arith, rest.2)

-- a group in front of a vint that isn't that of zero
pub vint_cons : (a : List ℕ) (b n m : ℕ) → IsVint a m → 0 < m → b < 256 → 128 ≤ b → n ≡ b - 128 + 128 * m → IsVint (b ∷ a) n
unfolding IsVint
vint_cons [] b n m h pos small marked e = absurd h
vint_cons (c ∷ xs) b n m h pos small marked e =
    let left : m ≡ n / 128 = omega arith in
    (omega arith, omega arith, subst (λ (k : ℕ). IsVint (c ∷ xs) k) left h)

-- each number of k groups of seven bits has a vint
vint_of : (k n : ℕ) → n < 128 ^ suc k → (a : List ℕ) × IsVint a n
unfolding IsVint
vint_of zero n h = (n ∷ [], (omega arith, refl))
vint_of (suc k) n h =
    elim (cases_lt n 128) [
      | inl lt ↦ (n ∷ [], (lt, refl))
      | inr le ↦
          let high = vint_of k (n / 128) (div_below n 128 (128 ^ suc k) (omega arith) (omega (arith, pow-suc 128 (suc k)))) in
          ((128 + n % 128) ∷ high.0, vint_cons high.0 (128 + n % 128) n (n / 128) high.1 (omega arith) (omega arith) (omega arith) (omega arith))
    ]

-- its vint has no more bytes than groups
vint_length : (k n : ℕ) (a : List ℕ) → n < 128 ^ suc k → IsVint a n → (1 ≤ length a) × (length a ≤ suc k)
unfolding IsVint
vint_length k n [] h v = absurd v
vint_length k n (b ∷ []) h v = (omega arith, omega arith)
vint_length zero n (b ∷ c ∷ xs) h v = absurd (omega arith)
vint_length (suc k) n (b ∷ c ∷ xs) h v =
    let high = vint_length k (n / 128) (c ∷ xs) (div_below n 128 (128 ^ suc k) (omega arith) (omega (arith, pow-suc 128 (suc k)))) v.2 in
    (omega arith, omega arith)

pub vint_exists : (n : ℕ) → n < 2 ^ 32 → (a : List ℕ) × IsVint a n
vint_exists n h = vint_of 4 n (omega arith)

pub vint_lengths : (a : List ℕ) (n : ℕ) → n < 2 ^ 32 → IsVint a n → (1 ≤ length a) × (length a ≤ 5)
vint_lengths a n h v = vint_length 4 n a (omega arith) v

pub vint_one : (a b : List ℕ) (n : ℕ) → IsVint a n → IsVint b n → a ≡ b
unfolding IsVint
vint_one [] b n p q = absurd p
vint_one (a ∷ xs) [] n p q = absurd q
vint_one (a ∷ []) (b ∷ []) n p q = ap (λ (h : ℕ). h ∷ []) (p.1 ∙ sym q.1)
vint_one (a ∷ []) (b ∷ d ∷ bs) n p q = absurd (omega arith)
vint_one (a ∷ c ∷ xs) (b ∷ []) n p q = absurd (omega arith)
vint_one (a ∷ c ∷ xs) (b ∷ d ∷ bs) n p q =
    ap (λ (h : ℕ). h ∷ c ∷ xs) (p.1 ∙ sym q.1) ∙ ap (λ (t : List ℕ). b ∷ t) (vint_one (c ∷ xs) (d ∷ bs) (n / 128) p.2 q.2)

-- ---- the spellings that `put_vint` writes

pub appends_vint : (old new spelling : List ℕ) (n : ℕ) → IsVint spelling n → new ≡ old ++ spelling → AppendsVint old new n
appends_vint old new spelling n v e = record { spelling = spelling; is_vint = v; joined = e }

more : (a n high : ℕ) (bytes : List ℕ) → 128 ≤ n → a ≡ 128 + n % 128 → high ≡ n / 128 → IsVint bytes high → IsVint (a ∷ bytes) n
more a n high bytes le e d v = vint_cons bytes a n high v (omega arith) (omega arith) (omega arith) (omega arith)

pub vint_1 : (a n : ℕ) → n < 2 ^ 7 → a ≡ n → IsVint (a ∷ []) n
unfolding IsVint
vint_1 a n lt e = (lt, e)

pub vint_2 : (a b n : ℕ) → 2 ^ 7 ≤ n → n < 2 ^ 14 → a ≡ 128 + n % 128 → b ≡ n / 2 ^ 7 → IsVint (a ∷ b ∷ []) n
vint_2 a b n le lt p q = more a n (n / 2 ^ 7) (b ∷ []) le p refl (vint_1 b (n / 2 ^ 7) (omega arith) q)

pub vint_3 : (a b c n : ℕ) → 2 ^ 14 ≤ n → n < 2 ^ 21 → a ≡ 128 + n % 128 → b ≡ 128 + n / 2 ^ 7 % 128 → c ≡ n / 2 ^ 14 → IsVint (a ∷ b ∷ c ∷ []) n
vint_3 a b c n le lt p q r = more a n (n / 2 ^ 7) (b ∷ c ∷ []) (omega arith) p refl (vint_2 b c (n / 2 ^ 7) (omega arith) (omega arith) q (omega arith))

pub vint_4 : (a b c d n : ℕ) → 2 ^ 21 ≤ n → n < 2 ^ 28 → a ≡ 128 + n % 128 → b ≡ 128 + n / 2 ^ 7 % 128 → c ≡ 128 + n / 2 ^ 14 % 128 → d ≡ n / 2 ^ 21
    → IsVint (a ∷ b ∷ c ∷ d ∷ []) n
vint_4 a b c d n le lt p q r s =
    more a n (n / 2 ^ 7) (b ∷ c ∷ d ∷ []) (omega arith) p refl (vint_3 b c d (n / 2 ^ 7) (omega arith) (omega arith) q (omega arith) (omega arith))

pub vint_5 : (a b c d e n : ℕ) → 2 ^ 28 ≤ n → n < 2 ^ 32 → a ≡ 128 + n % 128 → b ≡ 128 + n / 2 ^ 7 % 128 → c ≡ 128 + n / 2 ^ 14 % 128
    → d ≡ 128 + n / 2 ^ 21 % 128 → e ≡ n / 2 ^ 28 → IsVint (a ∷ b ∷ c ∷ d ∷ e ∷ []) n
vint_5 a b c d e n le lt p q r s t =
    more a n (n / 2 ^ 7) (b ∷ c ∷ d ∷ e ∷ []) (omega arith) p refl
    (vint_4 b c d e (n / 2 ^ 7) (omega arith) (omega arith) q (omega arith) (omega arith) (omega arith))
