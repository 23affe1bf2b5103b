-- A document that goes leaves one less.
use Rattle.std.proofs.Common.{◌≡◌, ◌<◌, ◌+◌, ◌-◌, ◌||◌, ℕ, Bool, true, false, not, cond, nat_eq, List, [], ◌∷◌, length, ap, subst, refl, sym, ◌∙◌, arith, All}
use Rattle.std.proofs.lemmas.Bool.Decides.{nat_tests}
use Rattle.std.proofs.lemmas.List.Elements.{All-head, All-tail}
use Rattle.documents.specs.Documents.{Ascend, Document, docs_without, is_live}
use Rattle.documents.proofs.Lists.{pairs_after, pairs_tail}
use Rattle.index_core.proofs.Changing.{deleted_none}

none_above : (n : ℕ) (docs : List Document) → All (λ (d : Document). n < d.number) docs → is_live n docs ≡ false
none_above n [] above = refl
none_above n (d ∷ ds) above =
    let first = All-head (λ (x : Document). n < x.number) d ds above in
    let other : nat_eq d.number n ≡ false = grind (arith, nat_tests) in
    ap (λ b. b || is_live n ds) other ∙ none_above n ds (All-tail (λ (x : Document). n < x.number) d ds above)

pub one_less : (n : ℕ) (docs : List Document) → Ascend docs → is_live n docs ≡ true → length (docs_without n docs) + 1 ≡ length docs
one_less n [] up live = absurd cc
one_less n (d ∷ ds) up live = by (nat_eq d.number n) refl (one_less n ds (pairs_tail (λ (a b : Document). a.number < b.number) d ds up)) live
  where
    by : (b : Bool) → nat_eq d.number n ≡ b → (is_live n ds ≡ true → length (docs_without n ds) + 1 ≡ length ds) → (b || is_live n ds) ≡ true
        → length (cond (not b) (d ∷ docs_without n ds) (docs_without n ds)) + 1 ≡ length (d ∷ ds)
    by true here rest e =
        let same : d.number ≡ n = grind (arith, nat_tests) in
        let above = subst (λ m. All (λ (x : Document). m < x.number) ds) same (pairs_after (λ (a b : Document). a.number < b.number) d ds up) in
        let gone = ap length (deleted_none n ds (none_above n ds above)) in
        omega (arith, gone)
    by false other rest e = let more = rest e in omega (arith, more)

-- how many are left, counted down
pub left_is : (n live : ℕ) (docs : List Document) (goes : Bool) → Ascend docs → goes ≡ is_live n docs → live ≡ length docs
    → live - cond goes 1 0 ≡ length (docs_without n docs)
left_is n live docs true up is count = let less = one_less n docs up (sym is) in omega (arith, less, count)
left_is n live docs false up is count = let same = ap length (deleted_none n docs (sym is)) in omega (arith, same, count)
