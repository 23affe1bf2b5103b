-- Lists in which each edge stands equally often.
use Rattle.std.proofs.Common.{◌≡◌, ℕ, ℤ, ◌+◌, ◌%◌, Bool, true, false, not, cond, eqb, ◌||◌, List, [], ◌∷◌, refl, sym, ap, ◌∙◌, arith}
use Rattle.std.specs.Prelude.{count_by, sum_by}
use Rattle.std.specs.List.{list_any}
use Rattle.std.specs.List.Sorted.{IsPermutation}
use Rattle.std.proofs.lemmas.List.Sums.{sum_by-cons, sum_by-append}
use Rattle.std.proofs.lemmas.List.Sorted.{sum_by-IsPermutation}
use Rattle.std.proofs.lemmas.Bool.Decides.{nat_tests}
use Rattle.point_codec.specs.Points.{Region}
use Rattle.ring_parity.specs.Edges as EdgeSpecs
use Rattle.ring_parity.specs.Edges.{EdgeEnds, counts, misses}
use Rattle.ring_parity.specs.Rings.{is_on_any, is_odd, any_meets}
use Rattle.edge_tree.specs.declared.runs.Run.{Run}
use Rattle.edge_tree.specs.Nodes.{HaveSame, run_in, all_in}

either_more : (b : Bool) (m : ℕ) (r : Bool) → r ≡ not (eqb m 0) → (b || r) ≡ not (eqb (cond b 1 0 + m) 0)
either_more true m r h = grind (arith, nat_tests)
either_more false m r h = let e : 0 + m ≡ m = omega arith in rw e h

-- some element passes a test where not none does
pub any_counted : {X : Type 0} (test : X → Bool) (xs : List X) → list_any test xs ≡ not (eqb (count_by test xs) 0)
any_counted test [] = refl
any_counted test (x ∷ xs) =
    either_more (test x) (count_by test xs) (list_any test xs) (any_counted test xs)
    ∙ ap (λ n. not (eqb n 0)) (sym (sum_by-cons (λ y. cond (test y) 1 0) x xs))

pub same-from : (xs ys : List EdgeEnds) → ((test : EdgeEnds → Bool) → count_by test xs ≡ count_by test ys) → HaveSame xs ys
unfolding HaveSame
same-from xs ys h = h

pub same_count : (xs ys : List EdgeEnds) → HaveSame xs ys → (test : EdgeEnds → Bool) → count_by test xs ≡ count_by test ys
unfolding HaveSame
same_count xs ys h = h

pub same_any : (xs ys : List EdgeEnds) → HaveSame xs ys → (test : EdgeEnds → Bool) → list_any test xs ≡ list_any test ys
same_any xs ys h test = any_counted test xs ∙ ap (λ n. not (eqb n 0)) (same_count xs ys h test) ∙ sym (any_counted test ys)

pub same_on : (xs ys : List EdgeEnds) (p : List ℤ) → HaveSame xs ys → is_on_any xs p ≡ is_on_any ys p
same_on xs ys p h = same_any xs ys h (λ e. EdgeSpecs.on e p)

pub same_odd : (xs ys : List EdgeEnds) (p : List ℤ) → HaveSame xs ys → is_odd xs p ≡ is_odd ys p
same_odd xs ys p h = ap (λ n. eqb (n % 2) 1) (same_count xs ys h (λ e. counts e p))

pub same_meets : (xs ys : List EdgeEnds) (cell : Region) → HaveSame xs ys → any_meets xs cell ≡ any_meets ys cell
same_meets xs ys cell h = same_any xs ys h (λ e. not (misses e cell))

count_all : (edges : List EdgeEnds) (test : EdgeEnds → Bool) (runs : List Run)
    → count_by test (all_in edges runs) ≡ sum_by (λ r. count_by test (run_in edges r)) runs
count_all edges test [] = refl
count_all edges test (r ∷ runs) =
    sum_by-append (λ e. cond (test e) 1 0) (run_in edges r) (all_in edges runs)
    ∙ ap (λ n. count_by test (run_in edges r) + n) (count_all edges test runs)
    ∙ sym (sum_by-cons (λ r'. count_by test (run_in edges r')) r runs)

-- runs in another order have the same edges
pub same_sorted : (edges : List EdgeEnds) (runs sorted : List Run) → IsPermutation runs sorted → HaveSame (all_in edges sorted) (all_in edges runs)
same_sorted edges runs sorted h =
    same-from (all_in edges sorted) (all_in edges runs) (λ test.
    count_all edges test sorted ∙ sum_by-IsPermutation (λ r. count_by test (run_in edges r)) runs sorted h ∙ sym (count_all edges test runs))
