-- The least crowded number of several segments.
use Rattle.std.proofs.Common.{◌≡◌, ℕ, ◌+◌, ◌≤◌, ◌<◌, min, Option, Some, None, List, [], ◌∷◌, ◌++◌, length, take, get_or, refl, sym, subst, inl, inr, arith}
use Rattle.std.specs.Prelude.{IfNone, IfSome}
use Rattle.std.specs.List.{All}
use Rattle.std.proofs.lemmas.Bool.{cases_lt}
use Rattle.std.proofs.lemmas.List.{take_all, take_more}
use Rattle.std.proofs.lemmas.List.Elements.{All-append, All-cons, All-nil, All-weaker, Contains-append_left, Contains-push}
use Rattle.folder_check.specs.declared.findings.Finding.{Finding}
use Rattle.folder_check.specs.Found.{IsLeastOf, lesser}

abbrev pub IsUncrowded : Finding → Type 0
IsUncrowded f = f.crowded ≡ None

-- this is the least one so far
pub record IsLeastSoFar (findings : List Finding) (least : Option ℕ) : Type 0 where
  pub none : IfNone least (All IsUncrowded findings)
  pub some : IfSome least (IsLeastOf findings)

pub least_none : IsLeastSoFar [] None
least_none = record { none = All-nil IsUncrowded; some = tt }

one_uncrowded : (findings : List Finding) (k : ℕ) → All IsUncrowded findings → All (λ f. IfSome f.crowded (λ n. k ≤ n)) findings
one_uncrowded findings k all =
    All-weaker IsUncrowded (λ (f : Finding). IfSome f.crowded (λ n. k ≤ n)) (λ f e. subst (λ (o : Option ℕ). IfSome o (λ n. k ≤ n)) (sym e) tt) findings all

lower : (o : Option ℕ) (k m : ℕ) → k ≤ m → IfSome o (λ n. m ≤ n) → IfSome o (λ n. k ≤ n)
lower None k m le h = tt
lower (Some n) k m le h = omega (arith, le, h)

least_lower : (findings : List Finding) (k m : ℕ) → k ≤ m → All (λ f. IfSome f.crowded (λ n. m ≤ n)) findings
    → All (λ f. IfSome f.crowded (λ n. k ≤ n)) findings
least_lower findings k m le all =
    All-weaker (λ (f : Finding). IfSome f.crowded (λ n. m ≤ n)) (λ (f : Finding). IfSome f.crowded (λ n. k ≤ n)) (λ f. lower f.crowded k m le) findings all

all_pushed : (P : Finding → Type 0) (findings : List Finding) (f : Finding) → All P findings → P f → All P (findings ++ f ∷ [])
all_pushed P findings f all p = All-append P findings (f ∷ []) all (All-cons P f [] p (All-nil P))

least_pushed : (findings : List Finding) (f : Finding) (least : Option ℕ) → IsLeastSoFar findings least
    → IsLeastSoFar (findings ++ f ∷ []) (lesser least f.crowded)
least_pushed findings f least h = by least h f.crowded refl
  where
    here : (k n : ℕ) → f.crowded ≡ Some n → k ≤ n → IfSome f.crowded (λ m. k ≤ m)
    here k n e le = subst (λ (o : Option ℕ). IfSome o (λ m. k ≤ m)) (sym e) le

    this : (n : ℕ) → f.crowded ≡ Some n → All (λ g. IfSome g.crowded (λ m. n ≤ m)) findings → IsLeastOf (findings ++ f ∷ []) n
    this n e all = record {
      finding = f;
      there = Contains-push findings f;
      is = e;
      least = all_pushed (λ g. IfSome g.crowded (λ m. n ≤ m)) findings f all (here n n e (omega arith));
    }

    that : (n : ℕ) → IsLeastOf findings n → IfSome f.crowded (λ m. n ≤ m) → IsLeastOf (findings ++ f ∷ []) n
    that n l k = record {
      finding = l.finding;
      there = Contains-append_left findings (f ∷ []) l.finding l.there;
      is = l.is;
      least = all_pushed (λ g. IfSome g.crowded (λ m. n ≤ m)) findings f l.least k;
    }

    by : (a : Option ℕ) → IsLeastSoFar findings a → (b : Option ℕ) → f.crowded ≡ b → IsLeastSoFar (findings ++ f ∷ []) (lesser a b)
    by None l None e = record { none = all_pushed IsUncrowded findings f l.none e; some = tt }
    by None l (Some n) e = record { none = tt; some = this n e (one_uncrowded findings n l.none) }
    by (Some m) l None e = record { none = tt; some = that m l.some (subst (λ (o : Option ℕ). IfSome o (λ k. m ≤ k)) (sym e) tt) }
    by (Some m) l (Some n) e = elim (cases_lt n m) [
      | inl lt ↦
          let is : n ≡ min m n = omega (arith, lt) in
          record { none = tt; some = subst (IsLeastOf (findings ++ f ∷ [])) is (this n e (least_lower findings n m (omega (arith, lt)) l.some.least)) }
      | inr le ↦
          let is : m ≡ min m n = omega (arith, le) in
          record { none = tt; some = subst (IsLeastOf (findings ++ f ∷ [])) is (that m l.some (here m n e le)) }
    ]

-- one segment more, as the loop over the list has it
pub least_step : (findings : List Finding) (i : ℕ) (d : Finding) (least new : Option ℕ) → i < length findings → new ≡ lesser least (get_or findings i d).crowded
    → IsLeastSoFar (take i findings) least
    → IsLeastSoFar (take (i + 1) findings) new
least_step findings i d least new lt is h =
    subst (λ (fs : List Finding). IsLeastSoFar fs new) (sym (take_more findings i d lt))
    (subst (IsLeastSoFar (take i findings ++ get_or findings i d ∷ [])) (sym is) (least_pushed (take i findings) (get_or findings i d) least h))

pub least_all : (findings : List Finding) (i : ℕ) (least : Option ℕ) → length findings ≤ i → IsLeastSoFar (take i findings) least → IsLeastSoFar findings least
least_all findings i least le h = subst (λ (fs : List Finding). IsLeastSoFar fs least) (take_all i findings le) h
