-- A record's fields by their places, and the place of a name.
use Rattle.std.proofs.Common.{◌≡◌, ℕ, zero, suc, ◌<◌, ◌≤◌, Bool, true, false, not, cond, Bor, List}
use Rattle.std.proofs.Common.{[], ◌∷◌, length, get_or, Option, Some, None, refl, sym, ◌∙◌, arith}
use Rattle.std.specs.Prelude.{slice_get, position}
use Rattle.std.specs.List.{prefix_len}
use Rattle.std.proofs.lemmas.Bool.Decides.{nat_tests}
use Rattle.std.proofs.lemmas.List.Sums.{prefix_len_is}
use Rattle.std.proofs.lemmas.Option.{slice_get-get_or}
use Rattle.csv.specs.Records.{field_at}
use Rattle.csv.specs.Reading.{strip_bom, is_bom}

pub field_at-is : (fields : List (List ℕ)) (i : ℕ) → field_at fields i ≡ slice_get fields i
unfolding field_at
field_at-is [] i = refl
field_at-is (f ∷ fs) zero = refl
field_at-is (f ∷ fs) (suc i) = field_at-is fs i

-- `get` gives each field that is there
pub got_none : (fields : List (List ℕ)) (i : ℕ) → i < length fields → ◌≡◌ {A = Option (List ℕ)} None (field_at fields i) → ⊥
got_none fields i h e = let there = slice_get-get_or fields i [] h in let read = field_at-is fields i in cc

-- what `get` says of the field that it gave
pub got : (fields : List (List ℕ)) (i : ℕ) (field : Bor (List ℕ)) → Some field.now ≡ field_at fields i → slice_get fields i ≡ Some field.now
got fields i field e = sym (field_at-is fields i) ∙ sym e

pub position-at : {X : Type 0} (p : X → Bool) (xs : List X) (n : ℕ) (d : X) → ((k : ℕ) → k < n → p (get_or xs k d) ≡ false) → n < length xs
    → p (get_or xs n d) ≡ true → position p xs ≡ Some n
position-at p xs n d before inside passes =
    let place : prefix_len (λ y. not (p y)) xs ≡ n = prefix_len_is (λ y. not (p y)) xs n d (omega arith) (λ k h. rw (before k h) refl) (λ h. rw passes refl) in
    rw place (grind (arith, nat_tests))

pub position-none : {X : Type 0} (p : X → Bool) (xs : List X) (d : X) → ((k : ℕ) → k < length xs → p (get_or xs k d) ≡ false)
    → ◌≡◌ {A = Option ℕ} None (position p xs)
position-none p xs d before =
    let place : prefix_len (λ y. not (p y)) xs ≡ length xs =
    prefix_len_is (λ y. not (p y)) xs (length xs) d (omega arith) (λ k h. rw (before k h) refl) (λ h. absurd (omega arith)) in
    rw place (grind (arith, nat_tests))

pub strip_bom-shorter : (xs : List ℕ) → length (strip_bom xs) ≤ length xs
unfolding strip_bom
strip_bom-shorter [] = omega arith
strip_bom-shorter (a ∷ []) = omega arith
strip_bom-shorter (a ∷ b ∷ []) = omega arith
strip_bom-shorter (a ∷ b ∷ c ∷ rest) = go (is_bom a b c)
  where
    go : (is : Bool) → length (cond is rest (a ∷ b ∷ c ∷ rest)) ≤ length (a ∷ b ∷ c ∷ rest)
    go true = omega arith
    go false = omega arith
