-- The names between the commas of an option: which texts are a list of names, and that such a list is read as it is.
use Rattle.std.proofs.Common.{◌≡◌, ◌∙◌, ◌+◌, ◌<◌, ◌≤◌, ◌&&◌, ◌==◌, ap, ap₂, sym, ℕ, Bool, true, false}
use Rattle.std.proofs.Common.{not, List, [], ◌∷◌, ◌++◌, length, map, take, get_or, arith, nat_le, Some, None}
use Rattle.std.specs.List.{All, list_all, slice_split}
use Rattle.std.specs.Borrow.{Bor}
use Rattle.std.proofs.lemmas.Bool.{and_parts, cond-true, cond-false, leb-true, not-true, eqb-false}
use Rattle.std.proofs.lemmas.List.{get_or-map, length-map, take_more}
use Rattle.std.proofs.lemmas.List.Elements.{All-cons, All-nil}
use Rattle.std.proofs.lemmas.List.Folds.{list_all-map}
use Rattle.std.proofs.lemmas.List.Splits.{length-slice_split}
use Rattle.command_words.specs.Commands.{AreColumns, are_names, checked_names, names_of}

abbrev pub texts : List (Bor (List ℕ)) → List (List ℕ)
texts parts = map (λ part. part.now) parts

-- the first texts with one text more
pub texts_more : (parts : List (Bor (List ℕ))) (i : ℕ) (d : Bor (List ℕ)) → i < length parts
    → take (i + 1) (texts parts) ≡ take i (texts parts) ++ (get_or parts i d).now ∷ []
texts_more parts i d lt =
    let within : i < length (texts parts) = omega (arith, length-map parts (λ (p : Bor (List ℕ)). p.now)) in
    take_more (texts parts) i [] within
    ∙ ap (λ x. take i (texts parts) ++ x ∷ []) (get_or-map (λ (p : Bor (List ℕ)). p.now) parts i d [] lt)

-- the test on texts that are lent
pub are_names-texts : (parts : List (Bor (List ℕ))) (every : Bool) → every ≡ list_all (λ part. not (length part.now == 0)) parts
    → (nat_le (length parts) 8 && every) ≡ are_names (texts parts)
unfolding are_names
are_names-texts parts every is =
    ap₂ (λ n e. nat_le n 8 && e) (sym (length-map parts (λ (p : Bor (List ℕ)). p.now)))
    (is ∙ sym (list_all-map (λ (name : List ℕ). not (length name == 0)) (λ (p : Bor (List ℕ)). p.now) parts))

filled : (names : List (List ℕ)) → list_all (λ name. not (length name == 0)) names ≡ true → All (λ name. 1 ≤ length name) names
filled [] all = All-nil _
filled (x ∷ xs) all =
    let parts = and_parts _ _ all in
    let some : 1 ≤ length x = omega (arith, eqb-false (length x) 0 (not-true _ parts.0)) in
    All-cons (λ name. 1 ≤ length name) x xs some (filled xs parts.1)

pub names_taken : (text : List ℕ) (names : List (List ℕ)) → names ≡ slice_split (λ b. b == 44) text → are_names names ≡ true
    → names_of text ≡ Some names
unfolding names_of
names_taken text names is good =
    ap checked_names (sym is) ∙ cond-true (are_names names) (Some names) None good

pub names_refused : (text : List ℕ) (names : List (List ℕ)) → names ≡ slice_split (λ b. b == 44) text → are_names names ≡ false
    → names_of text ≡ None
unfolding names_of
names_refused text names is bad =
    ap checked_names (sym is) ∙ cond-false (are_names names) (Some names) None bad

pub names_within : (text : List ℕ) (names : List (List ℕ)) → names ≡ slice_split (λ b. b == 44) text → are_names names ≡ true
    → AreColumns names
unfolding are_names
names_within text names is good =
    let parts = and_parts _ _ good in
    let some : 1 ≤ length names = omega (arith, ap length is, length-slice_split (λ b. b == 44) text) in
    (some, leb-true _ _ parts.0, filled names parts.1)
