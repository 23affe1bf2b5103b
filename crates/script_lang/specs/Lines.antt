-- The lines of a script, their words, and what stands behind a word.
use Rattle.std.specs.Prelude.{ℕ, ◌==◌, ◌||◌, Bool, nat_lt, if◌then◌else◌, List, [], ◌∷◌, length, drop, filter}
use Rattle.std.specs.List.{slice_split, prefix_len, position_or_len}

abbrev pub without_empty_end : List (List ℕ) → List (List ℕ)
without_empty_end [] = []
without_empty_end (piece ∷ []) = if length piece == 0 then [] else piece ∷ []
without_empty_end (piece ∷ next ∷ others) = piece ∷ without_empty_end (next ∷ others)

-- the lines of a script: the pieces between its bytes 10, of which an empty last one is no line
unfoldable pub lines_of : List ℕ → List (List ℕ)
lines_of bytes = without_empty_end (slice_split (λ b. b == 10) bytes)

-- a space or a tab
abbrev pub is_blank : ℕ → Bool
is_blank b = b == 32 || b == 9

-- the words of a line: the pieces between its blanks that are not empty
unfoldable pub words_of : List ℕ → List (List ℕ)
words_of line = filter (λ piece. nat_lt 0 (length piece)) (slice_split is_blank line)

-- a text from its first word on
abbrev pub from_word : List ℕ → List ℕ
from_word text = drop (prefix_len is_blank text) text

-- what stands behind the first word of a text
unfoldable pub after_word : List ℕ → List ℕ
after_word text = drop (position_or_len is_blank (from_word text)) (from_word text)
