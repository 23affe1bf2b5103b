-- Files that are taken away one after the other: what is counted of them.
use Rattle.std.proofs.Common.{◌≡◌, ◌≢◌, ℕ, zero, suc, ◌+◌, ◌^◌, ◌<◌, ◌≤◌, arith}
use Rattle.std.proofs.Common.{List, [], ◌∷◌, length, get_or, Option, refl, sym, ap, ◌∙◌}
use Rattle.std.specs.Prelude.{sum_by, AllPairs}
use Rattle.std.proofs.lemmas.List.Sums.{sum_by-cons}
use Rattle.outer_io.specs.declared.file_name.FileName.{FileName}
use Rattle.outer_io.specs.Files.{Files, SameBut}

abbrev Measure : Type 0
Measure = Option (List ℕ) → ℕ

abbrev total : Measure → List FileName → Files → ℕ
total g names files = sum_by (λ (name : FileName). g (files name)) names

total-cons : (g : Measure) (n : FileName) (ns : List FileName) (files : Files) → total g (n ∷ ns) files ≡ g (files n) + total g ns files
total-cons g n ns files = sum_by-cons (λ (name : FileName). g (files name)) n ns

abbrev AreApart : List FileName → Type 0
AreApart names = AllPairs (λ (a b : FileName). a ≢ b) names

-- a file of another name counts for nothing
same_total : (g : Measure) (names : List FileName) (old new : Files) (name : FileName)
    → ((j : ℕ) (d : FileName) → j < length names → name ≢ get_or names j d) → SameBut name old new → total g names old ≡ total g names new
same_total g [] old new name apart same = refl
same_total g (n ∷ ns) old new name apart same =
    let here : new n ≡ old n = same n (λ e. apart zero n (omega arith) (sym e)) in
    let rest : total g ns old ≡ total g ns new = same_total g ns old new name (λ j d lt. apart (suc j) d (omega (arith, lt))) same in
    total-cons g n ns old ∙ ap (λ (file : Option (List ℕ)). g file + total g ns old) (sym here) ∙ ap (λ (k : ℕ). g (new n) + k) rest
    ∙ sym (total-cons g n ns new)

-- one of these files was changed
lost_one : (g : Measure) (names : List FileName) (i : ℕ) (d : FileName) (old new : Files) → AreApart names → i < length names
    → SameBut (get_or names i d) old new
    → total g names old + g (new (get_or names i d)) ≡ total g names new + g (old (get_or names i d))
lost_one g [] i d old new apart lt same = absurd (omega (arith, lt))
lost_one g (n ∷ ns) zero d old new apart lt same =
    let rest : total g ns old ≡ total g ns new = same_total g ns old new n (λ j e k. apart zero (suc j) e (omega arith) (omega (arith, k))) same in
    let before = total-cons g n ns old in
    let after = total-cons g n ns new in
    omega (arith, rest, before, after)
lost_one g (n ∷ ns) (suc i) d old new apart lt same =
    by (lost_one g ns i d old new (λ a b e h k. apart (suc a) (suc b) e (omega (arith, h)) (omega (arith, k))) (omega (arith, lt)) same)
    (ap g (same n (apart zero (suc i) d (omega arith) lt)))
  where
    by : total g ns old + g (new (get_or ns i d)) ≡ total g ns new + g (old (get_or ns i d)) → g (new n) ≡ g (old n)
        → total g (n ∷ ns) old + g (new (get_or ns i d)) ≡ total g (n ∷ ns) new + g (old (get_or ns i d))
    by rest here =
        let before = total-cons g n ns old in
        let after = total-cons g n ns new in
        omega (arith, rest, here, before, after)

one_of : (g : Measure) (names : List FileName) (i : ℕ) (d : FileName) (files : Files) → i < length names
    → g (files (get_or names i d)) ≤ total g names files
one_of g [] i d files lt = absurd (omega (arith, lt))
one_of g (n ∷ ns) zero d files lt = let all = total-cons g n ns files in omega (arith, all)
one_of g (n ∷ ns) (suc i) d files lt =
    let rest = one_of g ns i d files (omega (arith, lt)) in
    let all = total-cons g n ns files in
    omega (arith, rest, all)

-- one more file was counted, or stays
pub counts_more : (g : Measure) (names : List FileName) (i : ℕ) (d : FileName) (first old new : Files) (before now : ℕ) → AreApart names
    → i < length names → SameBut (get_or names i d) old new
    → (total g names first < 2 ^ 64 → total g names first ≡ total g names old + before)
    → (before + g (old (get_or names i d)) < 2 ^ 64 → before + g (old (get_or names i d)) ≡ now + g (new (get_or names i d)))
    → total g names first < 2 ^ 64 → total g names first ≡ total g names new + now
counts_more g names i d first old new before now apart lt same so_far keeps few =
    let sum = so_far few in
    let most = one_of g names i d old lt in
    let step = keeps (omega (arith, sum, most, few)) in
    let lost = lost_one g names i d old new apart lt same in
    omega (arith, sum, step, lost)
