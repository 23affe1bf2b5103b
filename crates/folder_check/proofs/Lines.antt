-- A line, part by part.
use Rattle.std.proofs.Common.{◌≡◌, ℕ, List, ◌++◌, ap, ◌∙◌}
use Rattle.std.specs.Prelude.{decimal}

pub line_more : (before after told words : List ℕ) (m n : ℕ) → after ≡ before ++ words ++ decimal m → m ≡ n → before ≡ told → after ≡ told ++ words ++ decimal n
line_more before after told words m n e number is = e ∙ ap (λ (k : ℕ). before ++ words ++ decimal k) number ∙ ap (λ (xs : List ℕ). xs ++ words ++ decimal n) is
