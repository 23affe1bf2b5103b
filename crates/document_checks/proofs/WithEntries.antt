-- Numbers that have an entry, and those that are left without one.
use Rattle.std.proofs.Common.{◌≡◌, ℕ, ◌+◌, ◌<◌, Bool, true, false, not, ◌&&◌, ◌||◌, eqb, cond, List}
use Rattle.std.proofs.Common.{[], ◌∷◌, length, take, get_or, refl, sym, ap, ◌∙◌, inl, inr, arith}
use Rattle.std.specs.List.{filter, count_by, list_any}
use Rattle.std.proofs.lemmas.Bool.{cases_eq, eq-eqb, ne_eqb}
use Rattle.std.proofs.lemmas.List.Filters.{length-filter_both}
use Rattle.std.proofs.lemmas.List.Folds.{list_any_more}
use Rattle.std.proofs.lemmas.List.Sums.{length-filter}
use Rattle.point_codec.specs.Seen.{items_of}
use Rattle.point_codec.specs.declared.entries.Entry.{Entry}
use Rattle.documents.specs.Entries.{has_entry}

abbrev pub has : {D : ℕ} → List (Entry D) → ℕ → Bool
has es n = list_any (λ e. eqb e.doc n) es

-- the numbers without an entry
abbrev pub bare : {D : ℕ} → List (Entry D) → List ℕ → List ℕ
bare es numbers = filter (λ n. not (has es n)) numbers

-- where there is no entry, all of them
pub bare_none : (D : ℕ) (numbers : List ℕ) → bare {D = D} [] numbers ≡ numbers
bare_none D [] = refl
bare_none D (n ∷ ns) = ap (λ (ms : List ℕ). n ∷ ms) (bare_none D ns)

filter_twice : (p q r : ℕ → Bool) → ((n : ℕ) → r n ≡ (p n && q n)) → (ns : List ℕ) → filter q (filter p ns) ≡ filter r ns
filter_twice p q r both [] = refl
filter_twice p q r both (n ∷ ns) = step (p n) (both n) (filter_twice p q r both ns)
  where
    kept : Bool → List ℕ
    kept b = cond b (n ∷ filter r ns) (filter r ns)

    step : (b : Bool) → r n ≡ (b && q n) → filter q (filter p ns) ≡ filter r ns → filter q (cond b (n ∷ filter p ns) (filter p ns)) ≡ kept (r n)
    step true is rest = ap (λ (l : List ℕ). cond (q n) (n ∷ l) l) rest ∙ ap kept (sym is)
    step false is rest = rest ∙ ap kept (sym is)

turned : (m n : ℕ) → eqb m n ≡ eqb n m
turned m n = elim (cases_eq m n) [
  | inl e ↦ eq-eqb m n e ∙ sym (eq-eqb n m (sym e))
  | inr ne ↦ ne_eqb m n ne ∙ sym (ne_eqb n m (λ e. ne (sym e)))
]

neither : (a b : Bool) → not (a || b) ≡ (not a && not b)
neither true b = refl
neither false b = refl

-- an entry more takes out its number
pub bare_more : {D : ℕ} (numbers : List ℕ) (es : List (Entry D)) (i : ℕ) (d : Entry D) → i < length es
    → filter (λ n. not (eqb n (get_or es i d).doc)) (bare (take i es) numbers) ≡ bare (take (i + 1) es) numbers
bare_more {D} numbers es i d lt = filter_twice (λ n. not (has (take i es) n)) (λ n. not (eqb n doc)) (λ n. not (has (take (i + 1) es) n)) both numbers
  where
    doc : ℕ
    doc = (get_or es i d).doc

    both : (n : ℕ) → not (has (take (i + 1) es) n) ≡ (not (has (take i es) n) && not (eqb n doc))
    both n =
        ap not (list_any_more (λ (e : Entry D). eqb e.doc n) es i d lt ∙ ap (λ (b : Bool). has (take i es) n || b) (turned doc n))
        ∙ neither (has (take i es) n) (eqb n doc)

has_is : {D : ℕ} (es : List (Entry D)) (n : ℕ) → has es n ≡ has_entry n (items_of es)
has_is [] n = refl
has_is (e ∷ es) n = ap (λ (b : Bool). eqb e.doc n || b) (has_is es n)

-- the numbers that aren't bare have an entry
pub count_found : {D : ℕ} (numbers : List ℕ) (es : List (Entry D))
    → count_by (λ n. has_entry n (items_of es)) numbers + length (bare es numbers) ≡ length numbers
count_found numbers es =
    let told : count_by (has es) numbers ≡ count_by (λ n. has_entry n (items_of es)) numbers = λ i. count_by (λ n. has_is es n i) numbers in
    omega (arith, told, length-filter (has es) numbers, length-filter_both (has es) (λ n. not (has es n)) (λ n. refl) numbers)
