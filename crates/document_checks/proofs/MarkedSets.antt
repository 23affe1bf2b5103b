-- Sets that are marked one after another.
use Rattle.std.proofs.Common.{◌≡◌, ◌<◌, ◌≤◌, ◌+◌, ◌^◌, ℕ, Bool, true, false, cond, List}
use Rattle.std.proofs.Common.{length, get_or, take, sym, ap, subst, ◌∙◌, arith, inl, inr}
use Rattle.std.proofs.lemmas.Bool.{cases_lt}
use Rattle.std.proofs.lemmas.List.Sums.{sum_by_more}
use Rattle.live_bits.specs.LiveSet.{LiveSet, is_live}
use Rattle.stored_index.specs.Segments.{places}
use Rattle.document_checks.specs.Marks.{is_marked}
use Rattle.document_checks.proofs.LivePlaces.{AreDead}

-- ---- sets one after another

abbrev one_if : Bool → ℕ
one_if b = cond b 1 0

pub places_more : (n : ℕ) (sets : List LiveSet) (i : ℕ) (s : LiveSet) → i < length sets → s ≡ get_or sets i s
    → places n (take (i + 1) sets) ≡ places n (take i sets) + cond (is_live s n) 1 0
places_more n sets i s lt is =
    sum_by_more (λ (t : LiveSet). cond (is_live t n) 1 0) sets i s lt
    ∙ ap (λ (t : LiveSet). places n (take i sets) + cond (is_live t n) 1 0) (sym is)

-- below the limit a number is marked where it is live in one set, and none is live in two; the limit is, if it isn't next
pub record IsCounted (sets : List LiveSet) (next limit : ℕ) (marks : List ℕ) : Type 0 where
  pub within : limit ≤ next
  pub counts : (n : ℕ) → n < limit → cond (is_marked marks n) 1 0 ≡ places n sets
  pub found : limit < next → 2 ≤ places limit sets

pub counted_one : (sets : List LiveSet) (next limit n : ℕ) (marks : List ℕ) → IsCounted sets next limit marks → n < limit → places n sets ≤ 1
counted_one sets next limit n marks h lt = subst (λ (m : ℕ). m ≤ 1) (h.counts n lt) (one (is_marked marks n))
  where
    one : (b : Bool) → cond b 1 0 ≤ 1
    one true = omega arith
    one false = omega arith

-- from next on none is live below the limit; the limit is, if it isn't the end of all numbers
pub record IsLeastNotGiven (sets : List LiveSet) (next limit : ℕ) : Type 0 where
  pub within : limit ≤ 2 ^ 24
  pub before : (n : ℕ) → next ≤ n → n < limit → places n sets ≡ 0
  pub found : limit < 2 ^ 24 → (next ≤ limit) × (1 ≤ places limit sets)
  pub above : (n : ℕ) → 2 ^ 24 ≤ n → places n sets ≡ 0

pub not_given_more : (sets : List LiveSet) (i next limit r : ℕ) (s : LiveSet) → i < length sets → s ≡ get_or sets i s → IsLeastNotGiven (take i sets) next limit
    → r ≤ limit → AreDead s next r → (r < limit → (next ≤ r) × (is_live s r ≡ true)) → ((n : ℕ) → 2 ^ 24 ≤ n → is_live s n ≡ false)
    → IsLeastNotGiven (take (i + 1) sets) next r
not_given_more sets i next limit r s lt is h le none found above = record {
  within = let within = h.within in omega arith;
  before = λ n high low. places_more n sets i s lt is ∙ (λ j. h.before n high (omega arith) j + cond (none n high low j) 1 0);
  found = λ under. elim (cases_lt r limit) [
    | inl low ↦
        let there = found low in
        (there.0, omega (arith, places_more r sets i s lt is, ap one_if there.1))
    | inr high ↦
        let same : limit ≡ r = omega arith in
        let before : (next ≤ r) × (1 ≤ places r (take i sets)) = subst (λ (m : ℕ). (next ≤ m) × (1 ≤ places m (take i sets))) same (h.found (omega arith)) in
        (before.0, omega (arith, places_more r sets i s lt is, before.1))
  ];
  above = λ n high. places_more n sets i s lt is ∙ (λ j. h.above n high j + cond (above n high j) 1 0);
}
