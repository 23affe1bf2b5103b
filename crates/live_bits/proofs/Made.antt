-- The bits that are made of a list of document numbers.
use Rattle.std.proofs.Common.{◌≡◌, ◌<◌, ◌≤◌, ◌+◌, ◌-◌, ◌/◌, ◌%◌, ◌^◌, ℕ, Bool, false, ◌||◌, nat_eq, List}
use Rattle.std.proofs.Common.{[], ◌∷◌, length, get_or, replicate, refl, sym, ap, ◌∙◌, arith, inl, inr, All}
use Rattle.std.proofs.Math.Nat.{zero-div}
use Rattle.std.proofs.lemmas.Bool.{cases_eq, cases_lt, ne_eqb, eq-eqb}
use Rattle.std.proofs.lemmas.List.{get_or-replicate, get_or_past, length-replicate}
use Rattle.std.proofs.lemmas.List.Elements.{All-head, All-tail, All-contains}
use Rattle.std.proofs.lemmas.List.Folds.{list_any_none}
use Rattle.std.specs.List.{list_any}
use Rattle.live_bits.specs.LiveSet.{Spans, is_live}
use Rattle.live_bits.specs.LiveBody.{is_set, live_set, AreBits}
use Rattle.live_bits.proofs.LiveNumbers.{live_inside, live_outside}

-- no bit of zeros is set
pub zeros_unset : (n i : ℕ) → is_set (replicate n 0) i ≡ false
zeros_unset n i =
    let byte : get_or (replicate n 0) (i / 8) 0 ≡ 0 =
    elim (cases_lt (i / 8) n)
    [ inl lt ↦ get_or-replicate n (i / 8) 0 0 lt | inr le ↦ get_or_past (replicate n 0) (i / 8) 0 (omega (arith, length-replicate {A = ℕ} n 0)) ] in
    ap (λ (b : ℕ). nat_eq (b / 2 ^ (i % 8) % 2) 1) byte ∙ ap (λ (x : ℕ). nat_eq (x % 2) 1) (zero-div (2 ^ (i % 8)))

-- a bit for each of the numbers, in bytes enough for the span
pub record IsMade (base span : ℕ) (docs bits : List ℕ) : Type 0 where
  pub len : length bits ≡ (span + 7) / 8
  pub set : (j : ℕ) → is_set bits j ≡ list_any (λ d. nat_eq j (d - base)) docs

-- the numbers lie in the span
within : (base span : ℕ) (docs : List ℕ) → Spans base span docs → All (λ d. (base ≤ d) × (d < base + span)) docs
within base span docs h k d lt =
    let some : 0 < length docs = omega arith in
    let last = h.greatest some in
    let above = (h.least some).1 k d lt in
    let below = last.3 k d lt in
    (above, omega (arith, last.1))

pub span_limit : (base span : ℕ) (docs : List ℕ) → Spans base span docs → All (λ d. d < 16777216) docs → base + span ≤ 16777216
span_limit base span [] h small = let zeros = h.empty refl in omega arith
span_limit base span (d ∷ docs) h small =
    let last = h.greatest (omega arith) in
    let fits = All-contains (λ (x : ℕ). x < 16777216) (d ∷ docs) last.0 small last.2 in
    omega (arith, last.1)

pub made_bits : (base span : ℕ) (docs bits : List ℕ) → Spans base span docs → All (λ d. d < 16777216) docs → IsMade base span docs bits → AreBits base span bits
made_bits base span docs bits h small made = record {
  limit = span_limit base span docs h small;
  len = made.len;
  past = λ i le.
      made.set i ∙ list_any_none (λ (d : ℕ). nat_eq i (d - base)) docs (λ k d lt. let w = within base span docs h k d lt in ne_eqb i _ (λ e. omega arith));
}

any_agree_on : (f g : ℕ → Bool) (xs : List ℕ) → All (λ x. f x ≡ g x) xs → list_any f xs ≡ list_any g xs
any_agree_on f g [] all = refl
any_agree_on f g (x ∷ xs) all =
    ap (λ (b : Bool). b || list_any f xs) (All-head (λ (y : ℕ). f y ≡ g y) x xs all)
    ∙ ap (λ (b : Bool). g x || b) (any_agree_on f g xs (All-tail (λ (y : ℕ). f y ≡ g y) x xs all))

same_from_base : (base n d : ℕ) → base ≤ n → base ≤ d → nat_eq (n - base) (d - base) ≡ nat_eq d n
same_from_base base n d hn hd =
    elim (cases_eq d n) [
      | inl e ↦ eq-eqb (n - base) (d - base) (omega arith) ∙ sym (eq-eqb d n e)
      | inr ne ↦ ne_eqb (n - base) (d - base) (λ e. ne (omega arith)) ∙ sym (ne_eqb d n ne)
    ]

made_at : (base span : ℕ) (docs bits : List ℕ) → Spans base span docs → IsMade base span docs bits → (n : ℕ)
    → is_live (live_set base span bits) n ≡ list_any (λ d. nat_eq d n) docs
made_at base span docs bits h made n =
    elim (cases_lt n base) [
      | inl lt ↦
          live_outside base span bits n (inl lt)
          ∙ sym (list_any_none (λ (d : ℕ). nat_eq d n) docs (λ k d less. let w = within base span docs h k d less in ne_eqb _ n (λ e. omega arith)))
      | inr above ↦
          elim (cases_lt n (base + span)) [
            | inl below ↦
                live_inside base span bits n above below ∙ made.set (n - base)
                ∙ any_agree_on (λ (d : ℕ). nat_eq (n - base) (d - base)) (λ (d : ℕ). nat_eq d n) docs
                (λ k d less. same_from_base base n _ above (within base span docs h k d less).0)
            | inr le ↦
                live_outside base span bits n (inr le)
                ∙ sym (list_any_none (λ (d : ℕ). nat_eq d n) docs (λ k d less. let w = within base span docs h k d less in ne_eqb _ n (λ e. omega arith)))
          ]
    ]

pub made_live : (base span : ℕ) (docs bits : List ℕ) → Spans base span docs → IsMade base span docs bits
    → is_live (live_set base span bits) ≡ (λ n. list_any (λ d. nat_eq d n) docs)
made_live base span docs bits h made = λ i n. made_at base span docs bits h made n i

-- the bytes after `set_docs` on zeros
pub made_of : (base span n : ℕ) (docs old new : List ℕ) → n ≡ (span + 7) / 8 → length new ≡ n → old ≡ replicate n 0
    → ((j : ℕ) → is_set new j ≡ (is_set old j || list_any (λ d. nat_eq j (d - base)) docs)) → IsMade base span docs new
made_of base span n docs old new enough len zeros set = record {
  len = len ∙ enough;
  set = λ j. set j ∙ ap (λ (bits : List ℕ). is_set bits j || list_any (λ (d : ℕ). nat_eq j (d - base)) docs) zeros
      ∙ ap (λ (x : Bool). x || list_any (λ (d : ℕ). nat_eq j (d - base)) docs) (zeros_unset n j);
}
