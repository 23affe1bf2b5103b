-- A text without bytes has no line.
use Rattle.std.proofs.Common.{◌≡◌, ℕ, List, [], ◌∷◌, length, refl, arith}
use Rattle.script_lang.specs.Lines.{lines_of}

pub no_lines : (bytes : List ℕ) → length bytes ≡ 0 → lines_of bytes ≡ []
unfolding lines_of
no_lines [] h = refl
no_lines (b ∷ bs) h = absurd (omega arith)
