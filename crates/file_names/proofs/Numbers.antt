-- The numbers that a list has in a series of names: no more of them are taken than there are names.
use Rattle.std.proofs.Common.{◌≡◌, ℕ, ◌+◌, ◌<◌, ◌≤◌, max, Bool, true, false, cond, ◌&&◌, ◌||◌, ◌==◌, ◌^◌, eqb, List, [], ◌∷◌}
use Rattle.std.proofs.Common.{length, Option, None, Some, refl, sym, ap, subst, ◌∙◌, ◌⊎◌, inl, inr, ⊎_elim, below_more, arith}
use Rattle.std.specs.List.{list_any, cons_option, fold, reduce}
use Rattle.std.specs.Option.{MatchOption}
use Rattle.std.proofs.lemmas.Bool.{cases_lt, both_ways, eqb-true, eq-eqb, or_cases, or_left, or_right, false_from_ne_true}
use Rattle.std.proofs.lemmas.Bool.Decides.{nat_tests}
use Rattle.std.proofs.lemmas.Map.Steps.{le-length_from_below}
use Rattle.outer_io.specs.declared.file_name.FileName.{FileName}
use Rattle.outer_io.specs.declared.file_name.FileName.TheVariants.{Commit, CommitNew, Segment, Live}
use Rattle.outer_io.specs.Names.{same_name}
use Rattle.file_names.specs.declared.free.Series.{Series}
use Rattle.file_names.specs.declared.free.Series.TheVariants.{Segments, Generations}
use Rattle.file_names.specs.Names.{is_named, IsLeastFree, IsGreatestTaken, IsNextGeneration}
use Rattle.file_names.specs.Series.{name_in, number_in, numbers_in}
use Rattle.file_names.proofs.Listed.{is_named-none, is_named-first}

eqb_sym : (a b : ℕ) → eqb a b ≡ eqb b a
eqb_sym a b = grind (arith, nat_tests)

-- a name is that of a number exactly where the number is the name's
one_named : (series : Series) (n : FileName) (q : ℕ) (rest : List ℕ)
    → (same_name n (name_in series q) || list_any (eqb q) rest) ≡ list_any (eqb q) (cons_option (number_in series n) rest)
unfolding same_name
one_named Segments Commit q rest = refl
one_named Segments CommitNew q rest = refl
one_named Segments (Segment id) q rest = ap (λ b. b || list_any (eqb q) rest) (eqb_sym id q)
one_named Segments (Live of generation) q rest = refl
one_named (Generations segment) Commit q rest = refl
one_named (Generations segment) CommitNew q rest = refl
one_named (Generations segment) (Segment id) q rest = refl
one_named (Generations segment) (Live of generation) q rest = by (of == segment)
  where
    by : (b : Bool) → ((b && eqb generation q) || list_any (eqb q) rest) ≡ list_any (eqb q) (cons_option (cond b (Some generation) None) rest)
    by true = ap (λ b. b || list_any (eqb q) rest) (eqb_sym generation q)
    by false = refl

pub named_number : (series : Series) (names : List FileName) (q : ℕ) → is_named names (name_in series q) ≡ list_any (eqb q) (numbers_in series names)
named_number series [] q = is_named-none (name_in series q)
named_number series (n ∷ ns) q =
    is_named-first n (name_in series q) ns
    ∙ ap (λ b. same_name n (name_in series q) || b) (named_number series ns q)
    ∙ one_named series n q (numbers_in series ns)

few_numbers : (series : Series) (names : List FileName) → length (numbers_in series names) ≤ length names
few_numbers series [] = omega arith
few_numbers series (n ∷ ns) = by (number_in series n) (few_numbers series ns)
  where
    by : (o : Option ℕ) → length (numbers_in series ns) ≤ length ns → length (cons_option o (numbers_in series ns)) ≤ length (n ∷ ns)
    by None few = omega arith
    by (Some q) few = omega arith

-- where the first so many numbers are taken, there are at least as many names
pub few_taken : (series : Series) (names : List FileName) (count : ℕ) → ((q : ℕ) → q < count → is_named names (name_in series q) ≡ true) → count ≤ length names
few_taken series names count taken =
    let first = le-length_from_below (numbers_in series names) count (λ q h. sym (named_number series names q) ∙ taken q h) in
    omega (arith, first, few_numbers series names)

-- where one more is taken, there is one more name
pub one_more : (series : Series) (names : List FileName) (count : ℕ) → ((q : ℕ) → q < count → is_named names (name_in series q) ≡ true)
    → is_named names (name_in series count) ≡ true → count + 1 ≤ length names
one_more series names count taken also =
    few_taken series names (count + 1) (below_more (λ q. is_named names (name_in series q) ≡ true) count taken also)

-- ---- the greatest of some numbers

bounds : (a : ℕ) (xs : List ℕ) → (a ≤ fold max a xs) × ((n : ℕ) → list_any (eqb n) xs ≡ true → n ≤ fold max a xs)
bounds a [] = (omega arith, λ n h. absurd (both_ways false refl h))
bounds a (x ∷ xs) =
    let b = bounds (max a x) xs in
    (omega (arith, b.0), λ n h. ⊎_elim (λ e. omega (arith, b.0, eqb-true n x e)) (λ r. b.1 n r) (or_cases (eqb n x) (list_any (eqb n) xs) h))

reached : (a : ℕ) (xs : List ℕ) → (fold max a xs ≡ a) ⊎ (list_any (eqb (fold max a xs)) xs ≡ true)
reached a [] = inl refl
reached a (x ∷ xs) =
    let f : ℕ = fold max (max a x) xs in
    ⊎_elim
    (λ (e : f ≡ max a x). ⊎_elim
    (λ (lt : a < x). inr (or_left (eqb f x) (list_any (eqb f) xs) (eq-eqb f x (omega (arith, e, lt)))))
    (λ (ge : x ≤ a). inl (omega (arith, e, ge)))
    (cases_lt a x))
    (λ (r : list_any (eqb f) xs ≡ true). inr (or_right (eqb f x) (list_any (eqb f) xs) r))
    (reached (max a x) xs)

greatest_of : (x : ℕ) (xs : List ℕ) → IsGreatestTaken (λ q. list_any (eqb q) (x ∷ xs)) (fold max x xs)
greatest_of x xs = record {
  is_taken = ⊎_elim
      (λ e. or_left (eqb (fold max x xs) x) (list_any (eqb (fold max x xs)) xs) (eq-eqb (fold max x xs) x e))
      (λ r. or_right (eqb (fold max x xs) x) (list_any (eqb (fold max x xs)) xs) r)
      (reached x xs);
  most = λ n h. let b = bounds x xs in ⊎_elim (λ e. omega (arith, b.0, eqb-true n x e)) (λ r. b.1 n r) (or_cases (eqb n x) (list_any (eqb n) xs) h);
}

-- what the greatest of the numbers says of the names
pub greatest_number : (series : Series) (names : List FileName) (r : Option ℕ) → r ≡ reduce max (numbers_in series names)
    → MatchOption r ((q : ℕ) → is_named names (name_in series q) ≡ false) (IsGreatestTaken (λ q. is_named names (name_in series q)))
greatest_number series names r is =
    subst (λ (o : Option ℕ). MatchOption o ((q : ℕ) → is_named names (name_in series q) ≡ false) (IsGreatestTaken (λ q. is_named names (name_in series q))))
    (sym is)
    (go (numbers_in series names) (λ q. named_number series names q))
  where
    go : (xs : List ℕ) → ((q : ℕ) → is_named names (name_in series q) ≡ list_any (eqb q) xs)
        → MatchOption (reduce max xs) ((q : ℕ) → is_named names (name_in series q) ≡ false) (IsGreatestTaken (λ q. is_named names (name_in series q)))
    go [] e = e
    go (x ∷ xs) e =
        let g = greatest_of x xs in
        record { is_taken = e (fold max x xs) ∙ g.is_taken; most = λ n h. g.most n (sym (e n) ∙ h) }

-- ---- the next generation

greatest_once : (taken : ℕ → Bool) (m n : ℕ) → IsGreatestTaken taken m → IsGreatestTaken taken n → m ≡ n
greatest_once taken m n a b = omega (arith, a.most n b.is_taken, b.most m a.is_taken)

-- the first generation is 1, where none is taken
pub next_first : (taken : ℕ → Bool) → ((n : ℕ) → taken n ≡ false) → IsNextGeneration taken 1
next_first taken none = record {
  first = λ _. refl;
  later = λ g is _. absurd (both_ways (taken g) (none g) is.is_taken);
  at_end = λ g is _. absurd (both_ways (taken g) (none g) is.is_taken);
}

-- a later one is one more than the greatest that is taken
pub next_later : (taken : ℕ → Bool) (g : ℕ) → IsGreatestTaken taken g → g + 1 < 2 ^ 64 → IsNextGeneration taken (g + 1)
next_later taken g is fits = record {
  first = λ none. absurd (both_ways (taken g) (none g) is.is_taken);
  later = λ h also _. ap (λ n. n + 1) (greatest_once taken g h is also);
  at_end = λ h also past. absurd (omega (arith, greatest_once taken g h is also, fits, past));
}

pub later_free : (taken : ℕ → Bool) (g : ℕ) → IsGreatestTaken taken g → taken (g + 1) ≡ false
later_free taken g is = false_from_ne_true (taken (g + 1)) (λ h. omega (arith, is.most (g + 1) h))

-- the least that is free, at the end
pub next_at_end : (taken : ℕ → Bool) (g least : ℕ) → IsGreatestTaken taken g → 2 ^ 64 ≤ g + 1 → IsLeastFree taken least → IsNextGeneration taken least
next_at_end taken g least is past free = record {
  first = λ none. absurd (both_ways (taken g) (none g) is.is_taken);
  later = λ h also fits. absurd (omega (arith, greatest_once taken g h is also, fits, past));
  at_end = λ _ _ _. free;
}
