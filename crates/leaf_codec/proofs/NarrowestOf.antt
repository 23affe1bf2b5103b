-- The narrowest dimension, by what is so of each other one.
use Rattle.std.proofs.Common.{◌≡◌, ◌≢◌, ◌<◌, ◌≤◌, ◌+◌, ℕ, Bool, true, ltb, refl, sym, ap, ◌∙◌, arith, cond, inl, inr, unwrap_or}
use Rattle.std.proofs.lemmas.Bool.{cases_lt, cases_eq, lt-ltb, le-ltb}
use Rattle.leaf_codec.specs.Dimensions.{narrowest}
use Rattle.leaf_codec.proofs.Narrowest.{narrowest_is}
use Rattle.leaf_codec.proofs.NoneVaries.{ends}

-- each other dimension that varies has no less spread than s, and more where it comes before s
abbrev pub NoneNarrower : (D s : ℕ) (v : ℕ → Bool) (t : ℕ → ℕ) → Type 0
NoneNarrower D s v t = (e : ℕ) → e < D → e ≢ s → v e ≡ true → t s + cond {A = ℕ} (ltb e s) 1 0 ≤ t e

before_one : (e s : ℕ) → e < s → cond {A = ℕ} (ltb e s) 1 0 ≡ 1
before_one e s lt = ap (λ (b : Bool). cond {A = ℕ} b 1 0) (lt-ltb e s lt)

pub none_narrower : (D s : ℕ) (v : ℕ → Bool) (t : ℕ → ℕ) → ((e : ℕ) → t e ≤ 256) → unwrap_or (narrowest D v t) D ≡ s → s < D → NoneNarrower D s v t
none_narrower D s v t small is lt e under apart moves =
    let end = ends D v t small D (omega arith) in
    let same : end.0 ≡ s = sym (narrowest_is D v t end.0 end.1 end.2 (λ k _ _. small k)) ∙ is in
    let spread : t s ≡ end.1 = ap t (sym same) ∙ (end.2.found (omega (arith, same, lt))).2 in
    elim (cases_lt e s) [
      | inl before ↦ omega (arith, before_one e s before, spread, end.2.first e under (omega (arith, before, same)) moves)
      | inr behind ↦ (
          let none : cond {A = ℕ} (ltb e s) 1 0 ≡ 0 = ap (λ (b : Bool). cond {A = ℕ} b 1 0) (le-ltb e s behind) in
          omega (arith, none, spread, end.2.least_of e under moves))
    ]

pub narrowest_from : (D s : ℕ) (v : ℕ → Bool) (t : ℕ → ℕ) → ((e : ℕ) → t e ≤ 256) → s < D → v s ≡ true → NoneNarrower D s v t
    → unwrap_or (narrowest D v t) D ≡ s
narrowest_from D s v t small lt moves wide =
    narrowest_is D v t s (t s)
    (record {
      within = omega arith;
      none = λ e. absurd (omega (arith, e, lt));
      found = λ _. (lt, moves, refl);
      least_of = λ e under also. elim (cases_eq e s) [
        | inl same ↦ (let p : t e ≡ t s = ap t same in omega (arith, p))
        | inr apart ↦ omega (arith, wide e under apart also)
      ];
      first = λ e under before also. omega (arith, before_one e s before, wide e under (λ same. omega (arith, same, before)) also);
    })
    (λ e _ _. small e)

pub narrowest_still : (D : ℕ) (v : ℕ → Bool) (t : ℕ → ℕ) → ((e : ℕ) → t e ≤ 256) → ((e : ℕ) → e < D → v e ≡ true → ⊥)
    → unwrap_or (narrowest D v t) D ≡ D
narrowest_still D v t small still =
    narrowest_is D v t D 257
    (record {
      within = omega arith;
      none = λ e. omega arith;
      found = λ lt. absurd (omega (arith, lt));
      least_of = λ e under also. absurd (still e under also);
      first = λ e under before also. absurd (still e under also);
    })
    (λ e _ _. small e)
