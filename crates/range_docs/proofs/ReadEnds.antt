-- The ends of a range, read as one point.
use Rattle.std.proofs.Common.{◌≡◌, ℕ, ◌*◌, List, length, Ok, arith, ℤ, take, drop}
use Rattle.std.proofs.lemmas.Bool.Decides.{nat_tests}
use Rattle.number_text.specs.Number.{coordinate}
use Rattle.script_lang.specs.Reading.{values_of, box_of}
use Rattle.script_lang.specs.Parts.{words_left, Writes}
use Rattle.script_lang.specs.declared.words.Words.{Words}
use Rattle.script_lang.proofs.Values.{all_values}

pub ends_whole : (r : ℕ) (ends : List ℤ) (a b : Words) → length (words_left a) ≡ 2 * r → length ends ≡ 2 * r → Writes coordinate ends a b
    → box_of r a.place (words_left a) ≡ Ok (take r ends, drop r ends)
unfolding box_of
ends_whole r ends a b two long w =
    let all : values_of coordinate a.place (words_left a) ≡ Ok ends = all_values coordinate ends a b w (omega (arith, w.count)) in
    rw all (grind (arith, nat_tests))
