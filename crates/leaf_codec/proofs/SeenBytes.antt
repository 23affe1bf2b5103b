-- Which byte values a list has, in a table of flags.
use Rattle.std.proofs.Common.{◌≡◌, ℕ, ◌<◌, Bool, true, false, eqb, List, [], ◌∷◌, ◌++◌, map, length, get_or}
use Rattle.std.proofs.Common.{set, refl, sym, ap, ◌∙◌, arith, ◌||◌, inl, inr, get_or-set_same, get_or-set_other}
use Rattle.std.specs.List.{list_any}
use Rattle.std.proofs.lemmas.Bool.{cases_eq, eq-eqb, ne_eqb, or_right}
use Rattle.std.proofs.lemmas.List.{length-set}
use Rattle.std.proofs.lemmas.List.Folds.{list_any-append}
use Rattle.leaf_codec.specs.Dimensions.{count_values}
use Rattle.leaf_codec.proofs.Counts.{values_agree}

-- whether v is in the list
abbrev pub has_value : List ℕ → ℕ → Bool
has_value bytes v = list_any (λ b. eqb b v) bytes

pub record HasSeen (seen : List Bool) (bytes : List ℕ) : Type 0 where
  pub long : length seen ≡ 256
  pub at : (v : ℕ) → v < 256 → get_or seen v false ≡ has_value bytes v

pub seen_none : (seen : List Bool) → length seen ≡ 256 → ((v : ℕ) → get_or seen v false ≡ false) → HasSeen seen []
seen_none seen long h = record { long = long; at = λ v lt. h v }

pub seen_more : (seen : List Bool) (bytes : List ℕ) (b : ℕ) → b < 256 → HasSeen seen bytes → HasSeen (set seen b true) (bytes ++ b ∷ [])
seen_more seen bytes b byte h = record {
  long = length-set seen b true ∙ h.long;
  at = λ v lt. step v lt ∙ sym (list_any-append (λ x. eqb x v) bytes (b ∷ []));
}
  where
    or-false : (t : Bool) → (t || false) ≡ t
    or-false true = refl
    or-false false = refl

    step : (v : ℕ) → v < 256 → get_or (set seen b true) v false ≡ (has_value bytes v || (eqb b v || false))
    step v lt = elim (cases_eq v b) [
      | inl same ↦ (
          let here : get_or (set seen b true) v false ≡ true =
          ap (λ (i : ℕ). get_or (set seen b true) i false) same ∙ get_or-set_same seen b true false (omega (arith, h.long)) in
          here ∙ sym (or_right (has_value bytes v) (eqb b v || false) (or-false (eqb b v) ∙ eq-eqb b v (sym same))))
      | inr apart ↦ (
          let there : get_or (set seen b true) v false ≡ get_or seen v false = get_or-set_other seen b v true false apart in
          there ∙ h.at v lt ∙ sym (or-false (has_value bytes v))
          ∙ ap (λ (t : Bool). has_value bytes v || t) (sym (or-false (eqb b v) ∙ ne_eqb b v (λ e. apart (sym e)))))
    ]

pub seen_count : (seen : List Bool) (bytes : List ℕ) → HasSeen seen bytes → count_values (λ v. get_or seen v false) ≡ count_values (has_value bytes)
seen_count seen bytes h = values_agree (λ v. get_or seen v false) (has_value bytes) h.at

-- the values of a function over a list
pub has_value-map : {X : Type 0} (f : X → ℕ) (xs : List X) (v : ℕ) → has_value (map f xs) v ≡ list_any (λ x. eqb (f x) v) xs
has_value-map f [] v = refl
has_value-map f (x ∷ xs) v = ap (λ (t : Bool). eqb (f x) v || t) (has_value-map f xs v)

pub values-map : {X : Type 0} (f : X → ℕ) (xs : List X) → count_values (has_value (map f xs)) ≡ count_values (λ v. list_any (λ x. eqb (f x) v) xs)
values-map f xs = values_agree (has_value (map f xs)) (λ v. list_any (λ x. eqb (f x) v) xs) (λ v lt. has_value-map f xs v)
