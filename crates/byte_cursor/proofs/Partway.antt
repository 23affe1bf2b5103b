-- Inside a vint: what the groups so far say of the bytes as a whole.
use Rattle.std.proofs.Common.{◌≡◌, ◌<◌, ◌≤◌, ◌+◌, ◌-◌, ◌*◌, ◌^◌, ◌/◌, ℕ, List, [], ◌∷◌, ◌++◌, length}
use Rattle.std.proofs.Common.{refl, sym, ap, subst, ◌∙◌, arith, All, add-one, get_or, length-append}
use Rattle.std.proofs.Math.Nat.{pow-suc, mul-le-mul_left, pow-le-pow_right, le-mul_of_pos_right}
use Rattle.std.proofs.lemmas.List.Elements.{All-cons, All-tail}
use Rattle.std.proofs.lemmas.List.{get_or_append_left}
use Rattle.std.proofs.lemmas.Nat.{mul-le}
use Rattle.byte_cursor.specs.Vint.{IsVint, BeginsWithVint, HasVint, IsCutVint}
use Rattle.byte_cursor.proofs.Vints.{vint_cons}

-- the rest begins with the vint of what is left of the number, which isn't zero behind a group
pub record GroupsLeft (rest : List ℕ) (n at value weight : ℕ) (more : List ℕ) : Type 0 where
  pub left : ℕ
  pub begins : BeginsWithVint rest left more
  pub number : n ≡ value + weight * left
  pub positive : 0 < at → 0 < left

-- after `at` groups, which say that another one follows and have this value
pub record IsPartway (bytes rest : List ℕ) (at value weight : ℕ) : Type 0 where
  pub power : weight ≡ 128 ^ at
  pub below : value < weight
  pub len : length bytes ≡ at + length rest
  pub marked : All (λ b. 128 ≤ b) rest → All (λ b. 128 ≤ b) bytes
  pub rest_marked : All (λ b. 128 ≤ b) bytes → All (λ b. 128 ≤ b) rest
  pub grows : (left : ℕ) (more : List ℕ) → BeginsWithVint rest left more → (0 < at → 0 < left) → BeginsWithVint bytes (value + weight * left) more
  pub falls : (n : ℕ) (more : List ℕ) → BeginsWithVint bytes n more → GroupsLeft rest n at value weight more

-- one group more stands in front, which says that others follow
group_grows : (after : List ℕ) (b left : ℕ) (more : List ℕ) → 128 ≤ b → b < 256 → 0 < left → BeginsWithVint after left more
    → BeginsWithVint (b ∷ after) (b - 128 + 128 * left) more
group_grows after b left more marked small pos h = record {
  front = b ∷ h.front;
  is_vint = vint_cons h.front b (b - 128 + 128 * left) left h.is_vint pos small marked refl;
  parts = ap (λ (t : List ℕ). b ∷ t) h.parts;
}

-- what a marked byte leaves of the number
record Falls (after : List ℕ) (b n : ℕ) (more : List ℕ) : Type 0 where
  pub left : ℕ
  pub begins : BeginsWithVint after left more
  pub number : n ≡ b - 128 + 128 * left
  pub positive : 0 < left

group_falls : (after : List ℕ) (b n : ℕ) (front more : List ℕ) → 128 ≤ b → IsVint front n → b ∷ after ≡ front ++ more → Falls after b n more
unfolding IsVint
group_falls after b n [] more marked v e = absurd v
group_falls after b n (x ∷ []) more marked v e = let head : b ≡ x = cc in absurd (omega arith)
group_falls after b n (x ∷ y ∷ xs) more marked v e =
    let head : b ≡ x = cc in
    let tail : after ≡ y ∷ xs ++ more = cc in
    record {
      left = n / 128;
      begins = record { front = y ∷ xs; is_vint = v.2; parts = tail };
      number = omega arith;
      positive = omega arith;
    }

spread : (value weight group left : ℕ) → value + weight * (group + 128 * left) ≡ value + weight * group + weight * 128 * left
spread value weight group left = omega arith

partway_step : (bytes after : List ℕ) (b at value weight : ℕ) → IsPartway bytes (b ∷ after) at value weight → 128 ≤ b → b < 256
    → IsPartway bytes after (at + 1) (value + weight * (b - 128)) (weight * 128)
partway_step bytes after b at value weight h marked small =
    let upto : b - 128 ≤ 127 = omega arith in record {
      power = rw (h.power, add-one, pow-suc) refl;
      below = let most = mul-le-mul_left weight upto in omega arith;
      len = omega (arith, h.len);
      marked = λ all. h.marked (All-cons (λ (x : ℕ). 128 ≤ x) b after marked all);
      rest_marked = λ all. All-tail (λ (x : ℕ). 128 ≤ x) b after (h.rest_marked all);
      grows = λ left more begins pos.
          let e : value + weight * (b - 128 + 128 * left) ≡ value + weight * (b - 128) + weight * 128 * left = spread value weight (b - 128) left in
          subst (λ (n : ℕ). BeginsWithVint bytes n more) e
          (h.grows (b - 128 + 128 * left) more (group_grows after b left more marked small (pos (omega arith)) begins)
          (λ _. let p : 0 < left = pos (omega arith) in omega arith));
      falls = λ n more begins.
          let old = h.falls n more begins in
          let low = group_falls after b old.left old.begins.front more marked old.begins.is_vint old.begins.parts in
          record {
            left = low.left;
            begins = low.begins;
            number = old.number ∙ ap (λ (x : ℕ). value + weight * x) low.number ∙ spread value weight (b - 128) low.left;
            positive = λ _. low.positive;
          };
    }

pub partway_next : (bytes rest after : List ℕ) (b at value weight : ℕ) → IsPartway bytes rest at value weight → rest ≡ b ∷ after → 128 ≤ b → b < 256
    → IsPartway bytes after (at + 1) (value + weight * (b - 128)) (weight * 128)
partway_next bytes rest after b at value weight h e = partway_step bytes after b at value weight (subst (λ (r : List ℕ). IsPartway bytes r at value weight) e h)

-- five groups have 35 bits
pub partway_fits : (bytes rest : List ℕ) (at value weight group : ℕ) → IsPartway bytes rest at value weight → at ≤ 4 → group < 128
    → (weight ≤ 2 ^ 28) × (value < 2 ^ 28) × (weight * group ≤ 2 ^ 28 * 127)
partway_fits bytes rest at value weight group h le small =
    let most : 128 ^ at ≤ 128 ^ 4 = pow-le-pow_right (omega arith) le in
    let heavy : weight ≤ 2 ^ 28 = omega (arith, h.power) in
    (heavy, omega (arith, h.below), mul-le weight group (2 ^ 28) 127 heavy (omega arith))

-- ---- the last byte

pub record IsLast (after : List ℕ) (b at value weight n : ℕ) (more : List ℕ) : Type 0 where
  pub number : n ≡ value + weight * b
  pub rest : more ≡ after
  pub positive : 0 < at → 0 < b

last_vint : (b : ℕ) → b < 128 → IsVint (b ∷ []) b
unfolding IsVint
last_vint b lt = (lt, refl)

-- a byte below 128 ends the vint
pub last_taken : (bytes rest after : List ℕ) (b at value weight : ℕ) → IsPartway bytes rest at value weight → rest ≡ b ∷ after → b < 128 → (0 < at → 0 < b)
    → BeginsWithVint bytes (value + weight * b) after
last_taken bytes rest after b at value weight h e lt pos = h.grows b after (record { front = b ∷ []; is_vint = last_vint b lt; parts = e }) pos

record Ends (after : List ℕ) (b n : ℕ) (more : List ℕ) : Type 0 where
  number : n ≡ b
  rest : more ≡ after

ends : (after : List ℕ) (b n : ℕ) (front more : List ℕ) → b < 128 → IsVint front n → b ∷ after ≡ front ++ more → Ends after b n more
unfolding IsVint
ends after b n [] more lt v e = absurd v
ends after b n (x ∷ []) more lt v e = record { number = let head : b ≡ x = cc in omega arith; rest = cc }
ends after b n (x ∷ y ∷ xs) more lt v e = let head : b ≡ x = cc in absurd (omega arith)

pub last_only : (bytes rest after : List ℕ) (b at value weight n : ℕ) (more : List ℕ) → IsPartway bytes rest at value weight → rest ≡ b ∷ after → b < 128
    → BeginsWithVint bytes n more → IsLast after b at value weight n more
last_only bytes rest after b at value weight n more h whole lt begins =
    let old = h.falls n more begins in
    let e = ends after b old.left old.begins.front more lt old.begins.is_vint (sym whole ∙ old.begins.parts) in
    record {
      number = old.number ∙ ap (λ (x : ℕ). value + weight * x) e.number;
      rest = e.rest;
      positive = λ p. let q = old.positive p in omega (arith, e.number);
    }

pub last_not_cut : (bytes rest after : List ℕ) (b at value weight : ℕ) → IsPartway bytes rest at value weight → rest ≡ b ∷ after → b < 128 → IsCutVint bytes → ⊥
last_not_cut bytes rest after b at value weight h e lt cut =
    let here : 128 ≤ get_or (b ∷ after) 0 0 = subst (All (λ (x : ℕ). 128 ≤ x)) e (h.rest_marked cut.1) 0 0 (omega arith) in
    omega arith

pub too_great : (bytes rest after : List ℕ) (b at value weight : ℕ) → IsPartway bytes rest at value weight → rest ≡ b ∷ after → b < 128
    → 2 ^ 32 ≤ value + weight * b → HasVint bytes → ⊥
too_great bytes rest after b at value weight h e lt great has =
    let last = last_only bytes rest after b at value weight has.number has.rest h e lt has.begins in
    let fits = has.fits in
    omega (arith, last.number)

pub padded : (bytes rest after : List ℕ) (b at value weight : ℕ) → IsPartway bytes rest at value weight → rest ≡ b ∷ after → b ≡ 0 → 0 < at → HasVint bytes → ⊥
padded bytes rest after b at value weight h e z pos has =
    let last = last_only bytes rest after b at value weight has.number has.rest h e (omega arith) has.begins in
    let p = last.positive pos in
    omega arith

pub too_long : (bytes rest : List ℕ) (at value weight : ℕ) → IsPartway bytes rest at value weight → at ≡ 5 → HasVint bytes → ⊥
too_long bytes rest at value weight h five has =
    let more = h.falls has.number has.rest has.begins in
    let pos = more.positive (omega arith) in
    let heavy : weight ≡ 128 ^ 5 = h.power ∙ ap (λ (k : ℕ). 128 ^ k) five in
    let most : weight ≤ weight * more.left = le-mul_of_pos_right weight pos in
    let fits = has.fits in
    omega (arith, more.number)

-- bytes that end inside a vint begin with none
has_last : (front : List ℕ) (n : ℕ) → All (λ b. 128 ≤ b) front → IsVint front n → ⊥
unfolding IsVint
has_last [] n all v = v
has_last (b ∷ []) n all v = let marked : 128 ≤ b = all 0 0 (omega arith) in omega arith
has_last (b ∷ c ∷ bytes) n all v = has_last (c ∷ bytes) (n / 128) (All-tail (λ (x : ℕ). 128 ≤ x) b (c ∷ bytes) all) v.2

All-front : (P : ℕ → Type 0) (xs ys : List ℕ) → All P (xs ++ ys) → All P xs
All-front P xs ys all k d lt =
    let here = get_or_append_left xs ys d k lt in
    let whole : P (get_or (xs ++ ys) k d) = all k d (omega (arith, length-append xs ys)) in
    subst P here whole

pub cut_has_none : (bytes : List ℕ) (n : ℕ) (more : List ℕ) → All (λ b. 128 ≤ b) bytes → BeginsWithVint bytes n more → ⊥
cut_has_none bytes n more all begins =
    has_last begins.front n (All-front (λ (x : ℕ). 128 ≤ x) begins.front more (subst (All (λ (x : ℕ). 128 ≤ x)) begins.parts all)) begins.is_vint

pub ended : (bytes rest : List ℕ) (at value weight : ℕ) → IsPartway bytes rest at value weight → length rest < 1 → HasVint bytes → ⊥
ended bytes rest at value weight h none has =
    cut_has_none bytes has.number has.rest (h.marked (λ k d lt. absurd (omega arith))) has.begins
