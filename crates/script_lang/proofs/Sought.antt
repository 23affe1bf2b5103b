-- What a line looks for nearest documents by: a number, and the coordinates behind it.
use Rattle.std.proofs.Common.{◌≡◌, ℕ, ℤ, ◌+◌, List, [], ◌∷◌, length, Result, Ok, Err, arith, refl, ap, sym, ◌∙◌}
use Rattle.std.proofs.lemmas.Bool.{eq-eqb, ne_eqb}
use Rattle.number_text.specs.Number.{number, coordinate}
use Rattle.script_lang.specs.Reading.{sought_of, value_of, values_of, with_values}
use Rattle.script_lang.specs.Parts.{words_left, Takes, Writes}
use Rattle.script_lang.specs.declared.faults.LineFault.{LineFault}
use Rattle.script_lang.specs.declared.faults.LineFault.TheVariants as fault
use Rattle.script_lang.specs.declared.words.Words.{Words}
use Rattle.script_lang.proofs.Values.{all_values}

-- with another number of words nothing is
pub sought_words : (dims place : ℕ) (words : List (List ℕ)) → (length words ≡ dims + 1 → ⊥) → sought_of dims place words ≡ Err fault.Words
unfolding sought_of
sought_words dims place [] other = refl
sought_words dims place (w ∷ ws) other = rw (ne_eqb (length ws) dims (λ same. other (omega (arith, same)))) refl

sought_cons : (dims place : ℕ) (w : List ℕ) (ws : List (List ℕ)) → length ws ≡ dims
    → sought_of dims place (w ∷ ws) ≡ with_values (value_of number place w) (values_of coordinate (place + 1) ws)
unfolding sought_of
sought_cons dims place w ws same = rw (eq-eqb (length ws) dims same) refl

sought_is : {a b : Words} (dims : ℕ) (word : List ℕ) → Takes word a b → length (words_left a) ≡ dims + 1
    → sought_of dims a.place (words_left a) ≡ with_values (value_of number a.place word) (values_of coordinate b.place (words_left b))
sought_is {a} {b} dims word t one =
    let same : length (words_left b) ≡ dims = omega (arith, one, ap length t.words) in
    ap (sought_of dims a.place) t.words ∙ sought_cons dims a.place word (words_left b) same
    ∙ ap (λ (p : ℕ). with_values (value_of number a.place word) (values_of coordinate p (words_left b))) (sym t.place)

-- the number's fault comes first
pub sought_first : {a b : Words} (dims : ℕ) (word : List ℕ) (f : LineFault) → Takes word a b → length (words_left a) ≡ dims + 1
    → Err f ≡ value_of number a.place word → sought_of dims a.place (words_left a) ≡ Err f
sought_first {a} {b} dims word f t one is =
    sought_is dims word t one ∙ ap (λ (r : Result ℕ LineFault). with_values r (values_of coordinate b.place (words_left b))) (sym is)

pub sought_later : {a b : Words} (dims : ℕ) (word : List ℕ) (k : ℕ) (f : LineFault) → Takes word a b → length (words_left a) ≡ dims + 1
    → Ok k ≡ value_of number a.place word → values_of coordinate b.place (words_left b) ≡ Err f → sought_of dims a.place (words_left a) ≡ Err f
sought_later {a} {b} dims word k f t one is e =
    sought_is dims word t one ∙ ap (λ (r : Result ℕ LineFault). with_values r (values_of coordinate b.place (words_left b))) (sym is)
    ∙ ap (with_values (Ok k)) e

pub sought_whole : {a b d : Words} (dims : ℕ) (word : List ℕ) (k : ℕ) (cs : List ℤ) → Takes word a b → length (words_left a) ≡ dims + 1
    → Ok k ≡ value_of number a.place word → Writes coordinate cs b d → length cs ≡ dims → sought_of dims a.place (words_left a) ≡ Ok (k, cs)
sought_whole {a} {b} {d} dims word k cs t one is w long =
    sought_is dims word t one ∙ ap (λ (r : Result ℕ LineFault). with_values r (values_of coordinate b.place (words_left b))) (sym is)
    ∙ ap (with_values (Ok k)) (all_values coordinate cs b d w (omega (arith, one, long, w.count, ap length t.words)))
