-- What is kept of a line reads as the line does.
use Rattle.std.proofs.Common.{◌≡◌, ◌≤◌, ◌+◌, ◌-◌, ℕ, Bool, true, false, if◌then◌else◌, List, length, take, Option, Err, refl, sym, ap, ◌∙◌, inl, inr, arith}
use Rattle.std.specs.Prelude.{◌==◌, nat_lt, slice_index}
use Rattle.std.specs.Str.Lines.{strip_carriage_return}
use Rattle.std.proofs.lemmas.Bool.Decides.{nat_tests}
use Rattle.std.proofs.lemmas.List.{length-take-le, take_all}
use Rattle.script_lang.specs.Reading.{on_success, read, read_words, text_of}
use Rattle.script_lang.specs.Lines.{words_of}
use Rattle.script_lang.specs.declared.faults.LineFault.TheVariants as fault
use Rattle.line_source.specs.Reader.{kept_bytes}
use Rattle.line_source.proofs.Cuts.{short_or_long}

one_less : (b : Bool) (line : List ℕ) → length line ≤ length (if b then take (length line - 1) line else line) + 1
one_less true line = let all = length-take-le (length line - 1) line (omega arith) in omega (arith, all)
one_less false line = omega arith

too_long : (line : List ℕ) → 4194306 ≤ length line → text_of line ≡ Err fault.TooLong
unfolding text_of
too_long line long =
    let few : length line ≤ length (strip_carriage_return line) + 1 = one_less (slice_index line (length line - 1) == 13) line in
    let above : nat_lt 4194304 (length (strip_carriage_return line)) ≡ true = grind (arith, nat_tests) in
    rw above refl

pub kept_text : (line : List ℕ) → text_of (kept_bytes line) ≡ text_of line
kept_text line = elim (short_or_long (length line) 4194306) as (λ _. text_of (kept_bytes line) ≡ text_of line) [
  | inl short ↦ ap text_of (take_all 4194306 line short)
  | inr long ↦ too_long (kept_bytes line) (let all = length-take-le 4194306 line long in omega (arith, all)) ∙ sym (too_long line long)
]

-- it is too long just where the line is, and else it is the line
pub kept_reads : (dims : Option ℕ) (line : List ℕ) → read dims (kept_bytes line) ≡ read dims line
unfolding read
kept_reads dims line = ap (λ text. on_success text (λ words. read_words dims (words_of words) words)) (kept_text line)
