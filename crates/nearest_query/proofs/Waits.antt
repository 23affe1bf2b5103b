-- One that waits in front of the others.
use Rattle.std.proofs.Common.{◌≡◌, ◌≤◌, false, List, [], ◌∷◌, ◌++◌, Option, Some, None, sym, subst, arith}
use Rattle.std.proofs.lemmas.Bool.Decides.{nat_tests}
use Rattle.std.proofs.lemmas.List.Sorted.{All-permutation, IsPermutation-cons, IsPermutation-middle, IsPermutation-trans}
use Rattle.std.proofs.lemmas.List.Elements.{All-cons, All-from_recursion, All-weaker}
use Rattle.std.specs.Prelude.{IfSome, option_to_list}
use Rattle.std.specs.Ordering.{is_lt}
use Rattle.std.specs.BinaryHeap.{IsUpperBound}
use Rattle.std.specs.List.Sorted.{IsPermutation}
use Rattle.nearest_query.specs.declared.frontier.Waiting.{Waiting}
use Rattle.nearest_query.specs.Fronts.{wait_cmp, IsNearestWaiting}

-- the nearer one of two is the least where the farther one is put among the others
pub least_put : (near far : Waiting) (old new : List Waiting) → near.dist2.0 ≤ far.dist2.0 → IsNearestWaiting near old → IsPermutation (far ∷ old) new
    → IsNearestWaiting near new
least_put near far old new le least put =
    All-permutation (λ u. near.dist2.0 ≤ u.dist2.0) (far ∷ old) new put (All-cons (λ u. near.dist2.0 ≤ u.dist2.0) far old le least)

pub least_nearer : (near front : Waiting) (waiting : List Waiting) → near.dist2.0 ≤ front.dist2.0 → IsNearestWaiting front waiting
    → IsNearestWaiting near waiting
least_nearer near front waiting le least =
    All-weaker (λ u. front.dist2.0 ≤ u.dist2.0) (λ u. near.dist2.0 ≤ u.dist2.0) (λ u h. omega (arith, le, h)) waiting least

pub put_behind : (waiting front : Waiting) (old new : List Waiting) → IsPermutation (waiting ∷ old) new → IsPermutation (waiting ∷ (front ∷ old)) (front ∷ new)
put_behind waiting front old new put =
    IsPermutation-trans (waiting ∷ (front ∷ old)) (front ∷ (waiting ∷ old)) (front ∷ new)
    (IsPermutation-middle (waiting ∷ []) front old)
    (IsPermutation-cons front (waiting ∷ old) new put)

not_nearer : (t u : Waiting) → is_lt (wait_cmp t u) ≡ false → t.dist2.0 ≤ u.dist2.0
not_nearer t u h = grind (arith, nat_tests)

least_below : (t : Waiting) (waiting : List Waiting) → IsUpperBound wait_cmp t waiting → IsNearestWaiting t waiting
least_below t waiting h =
    All-weaker (λ u. is_lt (wait_cmp t u) ≡ false) (λ u. t.dist2.0 ≤ u.dist2.0) (not_nearer t) waiting
    (All-from_recursion (λ u. is_lt (wait_cmp t u) ≡ false) waiting h)

-- what a heap gives is the least where nothing stands in front
pub least_popped : (H : Type 0) (next front : Option Waiting) (waiting : List Waiting) → front ≡ None → H
    → IfSome next (λ t. H → IsUpperBound wait_cmp t waiting)
    → IfSome next (λ t. IsNearestWaiting t (option_to_list front ++ waiting))
least_popped H None front waiting none heap h = tt
least_popped H (Some t) front waiting none heap h = subst (λ o. IsNearestWaiting t (option_to_list o ++ waiting)) (sym none) (least_below t waiting (h heap))
