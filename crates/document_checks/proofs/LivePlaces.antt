-- The numbers of a set, word by word, and the sets one after another.
use Rattle.std.proofs.Common.{◌≡◌, ◌<◌, ◌≤◌, ◌+◌, ◌-◌, ◌*◌, ◌/◌, ◌%◌, ◌^◌, ℕ, min, max, Bool, true, false, ◌&&◌}
use Rattle.std.proofs.Common.{◌||◌, nat_eq, nat_lt, List, get_or, refl, sym, ap, ◌∙◌, ◌⊎◌, arith, inl, inr}
use Rattle.std.specs.Int.{w64, trailing_zeros}
use Rattle.std.proofs.Math.Bool.{or-false}
use Rattle.std.proofs.lemmas.Bool.{cases_lt, eq-eqb, ne_eqb, lt-ltb, le-ltb, and_right}
use Rattle.std.proofs.lemmas.List.Folds.{list_any_none}
use Rattle.std.proofs.lemmas.Nat.Bits.{bit_at-trailing_zeros, bit_at-zero}
use Rattle.live_bits.specs.LiveSet.{LiveSet, IsLiveSet, is_live}
use Rattle.live_bits.specs.LiveBody.{has_bit}
use Rattle.document_checks.specs.Marks.{is_marked}

-- no number is live before the base or past the span
pub dead : (s : LiveSet) (n : ℕ) → IsLiveSet s → ((n < s.base) ⊎ (s.base + s.span ≤ n)) → is_live s n ≡ false
unfolding is_live
dead s n are out =
    list_any_none (λ (d : ℕ). nat_eq d n) s.live
    (λ k d lt.
    let within = are.within k d lt in
    ne_eqb (get_or s.live k d) n (λ e. elim out [ inl below ↦ omega (arith, within.0, e) | inr past ↦ omega (arith, within.1, e) ]))

-- live numbers have 24 bits, so none above is live
pub dead_above : (s : LiveSet) (n : ℕ) → IsLiveSet s → 2 ^ 24 ≤ n → is_live s n ≡ false
dead_above s n are high = let limit = are.limit in dead s n are (inr (omega arith))

-- ---- words

no_bit : (word k : ℕ) → word ≡ 0 → has_bit word k ≡ false
no_bit word k e = ap (λ (w : ℕ). has_bit w k) e ∙ ap (λ (x : ℕ). nat_eq x 1) (bit_at-zero k)

-- what a word that isn't zero has first
record IsFirstBit (word k : ℕ) : Type 0 where
  pub within : k < 64
  pub is_set : has_bit word k ≡ true
  pub before : (j : ℕ) → j < k → has_bit word j ≡ false

first_bit : (word : ℕ) → 0 < word → word < 2 ^ 64 → IsFirstBit word (trailing_zeros w64 word)
first_bit word some fits =
    let zeros = bit_at-trailing_zeros w64 word some fits in
    record {
      within = zeros.0;
      is_set = ap (λ (x : ℕ). nat_eq x 1) zeros.1;
      before = λ j lt. ap (λ (x : ℕ). nat_eq x 1) (zeros.2 j lt);
    }

-- the word has the live numbers of the 64 from a place on
abbrev pub IsWord : LiveSet → ℕ → ℕ → Type 0
IsWord s first word = (k : ℕ) → k < 64 → has_bit word k ≡ is_live s (first + k)

live_at : (s : LiveSet) (first word n : ℕ) → IsWord s first word → first ≤ n → n < first + 64 → is_live s n ≡ has_bit word (n - first)
live_at s first word n is above below =
    let same : first + (n - first) ≡ n = omega arith in
    sym (is (n - first) (omega arith) ∙ ap (is_live s) same)

-- ---- a set is marked

-- what was marked and the live numbers below a place are marked, and none was marked before
pub record IsMarked (old new : List ℕ) (s : LiveSet) (to : ℕ) : Type 0 where
  pub joined : (n : ℕ) → is_marked new n ≡ (is_marked old n || (nat_lt n to && is_live s n))
  pub once : (n : ℕ) → n < to → (is_marked old n && is_live s n) ≡ false

-- what marking one more word meets and leaves
abbrev Met : List ℕ → ℕ → ℕ → ℕ → Type 0
Met marks at word both = (k : ℕ) → k < 64 → has_bit both k ≡ (is_marked marks (64 * at + k) && has_bit word k)

abbrev Joined : List ℕ → List ℕ → ℕ → ℕ → Type 0
Joined marks new at word = (n : ℕ) → is_marked new n ≡ (is_marked marks n || (nat_eq (n / 64) at && has_bit word (n % 64)))

module _ (old marks : List ℕ) (s : LiveSet) (at : ℕ) (h : IsMarked old marks s (64 * at)) where
  -- the marks from a place on are as before
  still : (n : ℕ) → 64 * at ≤ n → is_marked marks n ≡ is_marked old n
  still n high = h.joined n ∙ ap (λ (b : Bool). is_marked old n || (b && is_live s n)) (le-ltb n (64 * at) high) ∙ or-false (is_marked old n)

  module _ (new : List ℕ) (word both : ℕ) (is : IsWord s (64 * at) word) (were : Met marks at word both) (after : Joined marks new at word) where
    word_of : (n : ℕ) → 64 * at ≤ n → n < 64 * (at + 1) → has_bit word (n % 64) ≡ is_live s n
    word_of n high low =
        let bit : n % 64 ≡ n - 64 * at = omega arith in
        ap (has_bit word) bit ∙ sym (live_at s (64 * at) word n is high (omega arith))

    -- a number of the word is met where it was marked and is live
    met : (n : ℕ) → 64 * at ≤ n → n < 64 * (at + 1) → has_bit both (n - 64 * at) ≡ (is_marked old n && is_live s n)
    met n high low =
        let bit : n - 64 * at ≡ n % 64 = omega arith in
        let same : 64 * at + (n - 64 * at) ≡ n = omega arith in
        were (n - 64 * at) (omega arith)
        ∙ (λ i. is_marked marks (same i) && has_bit word (bit i))
        ∙ (λ i. still n high i && word_of n high low i)

    joined_more : (n : ℕ) → is_marked new n ≡ (is_marked old n || (nat_lt n (64 * (at + 1)) && is_live s n))
    joined_more n =
        after n
        ∙ elim (cases_lt n (64 * at)) [
          | inl low ↦
              let apart : nat_eq (n / 64) at ≡ false = ne_eqb (n / 64) at (λ e. omega (arith, low, e)) in
              (λ i. h.joined n i || (apart i && has_bit word (n % 64)))
              ∙ or-false (is_marked old n || (nat_lt n (64 * at) && is_live s n))
              ∙ ap (λ (b : Bool). is_marked old n || (b && is_live s n)) (lt-ltb n (64 * at) low ∙ sym (lt-ltb n (64 * (at + 1)) (omega arith)))
          | inr high ↦ elim (cases_lt n (64 * (at + 1))) [
            | inl below ↦
                let here : nat_eq (n / 64) at ≡ true = eq-eqb (n / 64) at (omega arith) in
                (λ i. still n high i || (here i && word_of n high below i))
                ∙ sym (ap (λ (b : Bool). is_marked old n || (b && is_live s n)) (lt-ltb n (64 * (at + 1)) below))
            | inr past ↦
                let apart : nat_eq (n / 64) at ≡ false = ne_eqb (n / 64) at (λ e. omega (arith, past, e)) in
                (λ i. still n high i || (apart i && has_bit word (n % 64)))
                ∙ sym (ap (λ (b : Bool). is_marked old n || (b && is_live s n)) (le-ltb n (64 * (at + 1)) past))
          ]
        ]

    pub marked_more : both ≡ 0 → IsMarked old new s (64 * (at + 1))
    marked_more none = record {
      joined = joined_more;
      once = λ n lt. elim (cases_lt n (64 * at)) [
        | inl low ↦ h.once n low
        | inr high ↦ sym (met n high lt) ∙ no_bit both (n - 64 * at) none
      ];
    }

    -- where numbers are met the first of them is answered, if it is below the limit
    module _ (some : 0 < both) (fits : both < 2 ^ 64) where
      first : IsFirstBit both (trailing_zeros w64 both)
      first = first_bit both some fits

      pub once_before : (n : ℕ) → n < 64 * at + trailing_zeros w64 both → (is_marked old n && is_live s n) ≡ false
      once_before n lt = elim (cases_lt n (64 * at)) [
        | inl low ↦ h.once n low
        | inr high ↦
            let within = first.within in
            sym (met n high (omega arith)) ∙ first.before (n - 64 * at) (omega arith)
      ]

      pub found_there : (is_marked old (64 * at + trailing_zeros w64 both) && is_live s (64 * at + trailing_zeros w64 both)) ≡ true
      found_there =
          let within = first.within in
          let back : 64 * at + trailing_zeros w64 both - 64 * at ≡ trailing_zeros w64 both = omega arith in
          sym (met (64 * at + trailing_zeros w64 both) (omega arith) (omega arith)) ∙ ap (has_bit both) back ∙ first.is_set

      pub joined_before : (n : ℕ) → n < 64 * at + trailing_zeros w64 both → is_marked new n ≡ (is_marked old n || is_live s n)
      joined_before n lt =
          let within = first.within in
          joined_more n ∙ ap (λ (b : Bool). is_marked old n || (b && is_live s n)) (lt-ltb n (64 * (at + 1)) (omega arith))

-- before the first word nothing is live
pub marked_none : (old : List ℕ) (s : LiveSet) → IsLiveSet s → IsMarked old old s (64 * (s.base / 64))
marked_none old s are = record {
  joined = λ n. sym (elim (cases_lt n (64 * (s.base / 64))) [
    | inl low ↦ ap (λ (b : Bool). is_marked old n || (nat_lt n (64 * (s.base / 64)) && b)) (dead s n are (inl (omega arith)))
        ∙ none (is_marked old n) (nat_lt n (64 * (s.base / 64)))
    | inr high ↦ ap (λ (b : Bool). is_marked old n || (b && is_live s n)) (le-ltb n (64 * (s.base / 64)) high) ∙ or-false (is_marked old n)
  ]);
  once = λ n lt. and_right (is_marked old n) (is_live s n) (dead s n are (inl (omega arith)));
}
  where
    none : (a b : Bool) → (a || (b && false)) ≡ a
    none true b = refl
    none false true = refl
    none false false = refl

-- and past the last one neither
module _ (old new : List ℕ) (s : LiveSet) (at limit : ℕ) (are : IsLiveSet s) (h : IsMarked old new s (64 * at))
    (end : min limit (s.base + s.span) ≤ 64 * at) where
  pub once_all : (n : ℕ) → n < limit → (is_marked old n && is_live s n) ≡ false
  once_all n lt = elim (cases_lt n (64 * at)) [
    | inl low ↦ h.once n low
    | inr high ↦ and_right (is_marked old n) (is_live s n) (dead s n are (inr (omega arith)))
  ]

  pub joined_all : (n : ℕ) → n < limit → is_marked new n ≡ (is_marked old n || is_live s n)
  joined_all n lt = elim (cases_lt n (64 * at)) [
    | inl low ↦ h.joined n ∙ ap (λ (b : Bool). is_marked old n || (b && is_live s n)) (lt-ltb n (64 * at) low)
    | inr high ↦
        h.joined n ∙ ap (λ (b : Bool). is_marked old n || (b && is_live s n)) (le-ltb n (64 * at) high)
        ∙ sym (ap (λ (b : Bool). is_marked old n || b) (dead s n are (inr (omega arith))))
  ]

-- ---- the first live number from a place on

-- none is live before a place
abbrev pub AreDead : LiveSet → ℕ → ℕ → Type 0
AreDead s from to = (n : ℕ) → from ≤ n → n < to → is_live s n ≡ false

pub dead_none : (s : LiveSet) (from : ℕ) → IsLiveSet s → AreDead s from (max from s.base)
dead_none s from are n le lt = dead s n are (inl (omega arith))

pub dead_more : (s : LiveSet) (from at word : ℕ) → AreDead s from at → IsWord s at word → word ≡ 0 → AreDead s from (at + 64)
dead_more s from at word h is none n le lt = elim (cases_lt n at) [
  | inl low ↦ h n le low
  | inr high ↦ live_at s at word n is high lt ∙ no_bit word (n - at) none
]

pub dead_before : (s : LiveSet) (from at word : ℕ) → AreDead s from at → IsWord s at word → 0 < word → word < 2 ^ 64
    → AreDead s from (at + trailing_zeros w64 word)
dead_before s from at word h is some fits n le lt = elim (cases_lt n at) [
  | inl low ↦ h n le low
  | inr high ↦
      let first = first_bit word some fits in
      let within = first.within in
      live_at s at word n is high (omega arith) ∙ first.before (n - at) (omega arith)
]

pub live_there : (s : LiveSet) (at word : ℕ) → IsWord s at word → 0 < word → word < 2 ^ 64 → is_live s (at + trailing_zeros w64 word) ≡ true
live_there s at word is some fits = let first = first_bit word some fits in sym (is (trailing_zeros w64 word) first.within) ∙ first.is_set

pub dead_all : (s : LiveSet) (from to limit : ℕ) → IsLiveSet s → AreDead s from to → min limit (s.base + s.span) ≤ to → AreDead s from limit
dead_all s from to limit are h end n le lt = elim (cases_lt n to) [
  | inl low ↦ h n le low
  | inr high ↦ dead s n are (inr (omega arith))
]
