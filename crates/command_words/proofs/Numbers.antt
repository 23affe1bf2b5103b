-- The number that an option gives.
use Rattle.std.proofs.Common.{◌≡◌, ◌∙◌, ◌^◌, ◌<◌, ◌≤◌, ap, ℕ, Bool, true, false, List, [], ◌∷◌, drop}
use Rattle.std.proofs.Common.{Option, Some, None, option_map, refl, sym, subst, inl, inr, arith, cond, ◌==◌, unwrap_or}
use Rattle.std.specs.Prelude.{IfSome, pos, neg_ℤ, ◌≤ℤ◌, Ok, Err, Result}
use Rattle.std.specs.Str.Parse.{IsNumeral, ParsesUnsigned, digits_value, starts_with_minus, without_leading_plus, without_leading_sign}
use Rattle.std.proofs.lemmas.Int.{ints}
use Rattle.std.proofs.lemmas.Str.Parse.{digit_from_value}
use Rattle.std.proofs.lemmas.Bool.{ne_eqb}
use Rattle.clap.specs.Words.{IsSignedIn, ReadsOne, first_of, one_text, rows_of, without_minus}
use Rattle.clap.proofs.WalkLemmas.{first_value-rows}
use Rattle.clap.specs.declared.parser.matches.Found.{Found}
use Rattle.command_words.specs.Commands.{number_of, number_option}
use Rattle.command_words.specs.Found.{IsOptionText}

no_plus : (ds : List ℕ) → IsNumeral 10 ds → without_leading_plus ds ≡ ds
no_plus [] numeral = refl
no_plus (d ∷ ds) numeral =
    let plus : (d == 43) ≡ false = ne_eqb _ _ (λ e. omega (arith, digit_from_value d numeral.1.0)) in
    ap (λ (b : Bool). drop (cond b 1 0) (d ∷ ds)) plus

-- without its minus a text has the digits that it has without its sign
digits_left : (text : List ℕ) → IsNumeral 10 (without_leading_sign text) → without_leading_plus (without_minus text) ≡ without_leading_sign text
digits_left [] numeral = refl
digits_left (x ∷ xs) numeral = go (x == 45) numeral
  where
    go : (b : Bool) → IsNumeral 10 (cond b xs (without_leading_plus (x ∷ xs)))
        → without_leading_plus (unwrap_or (cond b (Some xs) None) (x ∷ xs)) ≡ cond b xs (without_leading_plus (x ∷ xs))
    go true h = no_plus xs h
    go false h = refl

bounds : (b : Bool) (low high n : ℕ) → pos low ≤ℤ cond b (neg_ℤ (pos n)) (pos n) → cond b (neg_ℤ (pos n)) (pos n) ≤ℤ pos high
    → (low ≤ n) × (n ≤ high)
bounds true low high n above below = (omega (arith, ints), omega (arith, ints))
bounds false low high n above below = (omega (arith, ints), omega (arith, ints))

within : (text : List ℕ) (low high : ℕ) → IsSignedIn (pos low) (pos high) text → (low ≤ number_of text) × (number_of text ≤ high)
within text low high passes = bounds (starts_with_minus text) low high (number_of text) passes.2 passes.3

module _ (E : Type 0) (G : List ℕ → Result ℕ E → Type 0) (parses : (u : List ℕ) (x : Result ℕ E) → G u x → ParsesUnsigned 32 10 u x) where
  number_read : (text : List ℕ) (low high : ℕ) → high < 2 ^ 32 → IsSignedIn (pos low) (pos high) text → (r : Option ℕ)
      → ReadsOne G (without_minus text) r → r ≡ Some (number_of text)
  number_read text low high small passes (Some n) h =
      ap Some ((parses (without_minus text) (Ok n) h).1 ∙ ap (digits_value 10) (digits_left text passes.0))
  number_read text low high small passes None h =
      let same = digits_left text passes.0 in
      let fits : number_of text < 2 ^ 32 = omega (arith, (within text low high passes).1) in
      absurd (parses (without_minus text) (Err h.0) h.1 (rw same passes.0, rw same fits))

  -- the number of an option is read from what was found for it, and lies in its range
  pub number_found : (f : Found) (id : List ℕ) (low high : ℕ) → high < 2 ^ 32 → IsOptionText f (number_option id low high) → (r : Option ℕ)
      → (one_text f id ≡ None → r ≡ None) → ((t : List ℕ) → one_text f id ≡ Some t → ReadsOne G t r)
      → (r ≡ option_map number_of (first_of id (rows_of f))) × IfSome r (λ n. (low ≤ n) × (n ≤ high))
  number_found f id low high small (inl none) r absent present =
      let nothing : r ≡ None = absent none.1 in
      let first : first_of id (rows_of f) ≡ None = sym (first_value-rows f id) ∙ none.0 in
      (nothing ∙ ap (option_map number_of) (sym first), subst (λ o. IfSome o (λ n. (low ≤ n) × (n ≤ high))) (sym nothing) tt)
  number_found f id low high small (inr has) r absent present =
      let number : r ≡ Some (number_of has.text) = number_read has.text low high small has.passes r (present _ has.read) in
      let first : first_of id (rows_of f) ≡ Some has.text = sym (first_value-rows f id) ∙ has.first in (
        number ∙ ap (option_map number_of) (sym first),
        subst (λ o. IfSome o (λ n. (low ≤ n) × (n ≤ high))) (sym number) (within has.text low high has.passes),
      )
