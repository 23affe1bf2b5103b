-- The lines of a script, taken off one by one.
use Rattle.std.proofs.Common.{◌≡◌, ℕ, ◌+◌, ◌-◌, ◌<◌, List, [], ◌∷◌, length, take, drop, arith, refl, ap, ◌∙◌}
use Rattle.std.specs.Prelude.{◌==◌, not}
use Rattle.std.proofs.lemmas.List.Sums.{prefix_len-le-length}
use Rattle.std.specs.List.{position_or_len, slice_split, before_first, after_first}
use Rattle.std.proofs.lemmas.List.Splits.{slice_split_first, length-slice_split}
use Rattle.std.proofs.lemmas.List.{take_rest, drop-drop, length-drop}
use Rattle.std.proofs.lemmas.Bool.Decides.{nat_tests}
use Rattle.script_lang.proofs.Pieces.{one_piece, empty}
use Rattle.std.proofs.Math.Seq.{take-length}
use Rattle.script_lang.specs.Lines.{lines_of, without_empty_end}

kept_line : (piece : List ℕ) → 0 < length piece → without_empty_end (piece ∷ []) ≡ piece ∷ []
kept_line piece some = grind (arith, nat_tests)

-- where others follow, the first piece is a line
more : (piece : List ℕ) (others : List (List ℕ)) → 0 < length others → without_empty_end (piece ∷ others) ≡ piece ∷ without_empty_end others
more piece [] some = absurd (omega arith)
more piece (next ∷ others) some = refl

-- the first line ends at the first byte 10
pub line_ended : (bytes : List ℕ) → position_or_len (λ b. b == 10) bytes < length bytes
    → lines_of bytes ≡ take (position_or_len (λ b. b == 10) bytes) bytes ∷ lines_of (drop (position_or_len (λ b. b == 10) bytes + 1) bytes)
unfolding lines_of
line_ended bytes there =
    let rest : List ℕ = after_first (λ b. b == 10) bytes in
    let some : 0 < length (slice_split (λ b. b == 10) rest) = omega (arith, length-slice_split (λ b. b == 10) rest) in
    rw (slice_split_first (λ b. b == 10) bytes 0 there)
    (more (before_first (λ b. b == 10) bytes) (slice_split (λ b. b == 10) rest) some)

-- with no byte 10 a text is one line
last_line : (bytes : List ℕ) → 0 < length bytes → position_or_len (λ b. b == 10) bytes ≡ length bytes → lines_of bytes ≡ bytes ∷ []
unfolding lines_of
last_line [] some all = absurd (omega arith)
last_line (b ∷ bs) some all = rw (one_piece (λ c. c == 10) (b ∷ bs) all) (kept_line (b ∷ bs) some)

-- a text is cut behind n bytes, before its first byte 10
pub line_taken : (bytes line behind : List ℕ) (n : ℕ) → n ≡ position_or_len (λ b. b == 10) bytes → line ≡ take n bytes → behind ≡ drop n bytes
    → 0 < length behind → lines_of bytes ≡ line ∷ lines_of (take (length behind - 1) (drop 1 behind))
line_taken bytes line behind n n-is line-is behind-is some =
    let there : position_or_len (λ b. b == 10) bytes < length bytes = omega (arith, n-is, ap length behind-is, length-drop n bytes) in
    rw (take_rest behind 1, line-is, behind-is, drop-drop 1 n bytes, n-is) (line_ended bytes there)

pub last_taken : (bytes line behind : List ℕ) (n : ℕ) → 0 < length bytes → n ≡ position_or_len (λ b. b == 10) bytes → line ≡ take n bytes
    → behind ≡ drop n bytes → length behind < 1 → lines_of bytes ≡ line ∷ lines_of behind
unfolding lines_of
last_taken bytes line behind n some n-is line-is behind-is none =
    let all : position_or_len (λ b. b == 10) bytes ≡ length bytes =
    omega (arith, prefix_len-le-length (λ b. not (b == 10)) bytes, ap length behind-is, length-drop n bytes) in
    let whole : line ≡ bytes = line-is ∙ ap (λ k. take k bytes) (n-is ∙ all) ∙ take-length bytes in
    rw (whole, empty behind none) (last_line bytes some all)
