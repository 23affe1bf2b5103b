-- Blanks are characters of one byte: a text may be cut beside them.
use Rattle.std.proofs.Common.{◌≡◌, ℕ, zero, suc, ◌<◌, ◌≤◌, true, List, length, get_or, arith, subst, add-one}
use Rattle.std.specs.List.{prefix_len, position_or_len}
use Rattle.std.specs.Str.{IsUtf8, IsCharBoundary}
use Rattle.std.proofs.lemmas.Bool.Decides.{nat_tests}
use Rattle.std.proofs.lemmas.List.Sums.{prefix_len-le-length, prefix_len_passes, passes_at_first}
use Rattle.std.proofs.lemmas.Str.{IsCharBoundary-start, IsCharBoundary-after_ascii}
use Rattle.script_lang.specs.Lines.{is_blank}

blank_small : (b : ℕ) → is_blank b ≡ true → b < 128
blank_small b e = grind (arith, nat_tests)

boundary_at : (text : List ℕ) (n : ℕ) → IsUtf8 text → n ≡ prefix_len is_blank text → IsCharBoundary text n
boundary_at text zero u e = IsCharBoundary-start text u
boundary_at text (suc k) u e =
    let within : prefix_len is_blank text ≤ length text = prefix_len-le-length is_blank text in
    let inside : k < length text = omega arith in
    let blank : is_blank (get_or text k 0) ≡ true = prefix_len_passes is_blank text k 0 (omega arith) in
    subst (λ n. IsCharBoundary text n) (add-one k) (IsCharBoundary-after_ascii text k u inside (blank_small _ blank))

-- behind the blanks at the front
pub boundary_behind : (text : List ℕ) (n : ℕ) → IsUtf8 text → n ≡ prefix_len is_blank text → IsCharBoundary text n
boundary_behind text n u e = boundary_at text n u e

-- the place of the first blank is one between characters
pub boundary_before : (text : List ℕ) (n : ℕ) → n ≡ position_or_len is_blank text → n ≤ length text → IsCharBoundary text n
boundary_before text n e within =
    (within, λ inside high. absurd (not_high text n e inside high))
  where
    not_high : (t : List ℕ) (m : ℕ) → m ≡ position_or_len is_blank t → m < length t → 128 ≤ get_or t m 0 → ⊥
    not_high t m is inside high =
        let blank : is_blank (get_or t (position_or_len is_blank t) 0) ≡ true = passes_at_first is_blank t 0 (omega arith) in
        let small : get_or t (position_or_len is_blank t) 0 < 128 = blank_small _ blank in
        let same = rw (← is) at small in
        omega arith
