-- How the first word of a text begins.
use Rattle.std.proofs.Common.{◌≡◌, ℕ, zero, suc, ◌<◌, List, [], ◌∷◌, length, take, arith, refl, ap, sym, subst, ◌∙◌}
use Rattle.std.specs.Prelude.{slice_index, ◌==◌}
use Rattle.std.specs.List.{position_or_len}
use Rattle.script_lang.specs.Lines.{words_of, from_word, is_blank}
use Rattle.script_lang.specs.Parts.{names_view}
use Rattle.script_lang.proofs.WordsOf.{begins, words_first, words_none}

head_taken : (m b : ℕ) (bs : List ℕ) → 0 < m → slice_index (take m (b ∷ bs)) 0 ≡ b
head_taken zero b bs some = absurd (omega arith)
head_taken (suc m) b bs some = refl

-- what stands behind the blanks begins as its first word does
pub view_from : (text : List ℕ) → (slice_index (from_word text) 0 == 64) ≡ names_view (words_of text)
view_from text = by (from_word text) refl
  where
    by : (v : List ℕ) → v ≡ from_word text → (slice_index v 0 == 64) ≡ names_view (words_of text)
    by [] from = sym (ap names_view (words_none text (sym from)))
    by (b ∷ bs) from =
        let some : 0 < length (b ∷ bs) = omega arith in
        let more : 0 < length (from_word text) = subst (λ (v : List ℕ). 0 < length v) from some in
        let cut : 0 < position_or_len is_blank (b ∷ bs) = subst (λ (v : List ℕ). 0 < position_or_len is_blank v) (sym from) (begins text more) in
        let front : slice_index (take (position_or_len is_blank (from_word text)) (from_word text)) 0 ≡ b =
        subst (λ (v : List ℕ). slice_index (take (position_or_len is_blank v) v) 0 ≡ b) from (head_taken (position_or_len is_blank (b ∷ bs)) b bs cut) in
        sym (ap names_view (words_first text more) ∙ ap (λ (c : ℕ). c == 64) front)
