-- There is one list of the nearest numbers.
use Rattle.std.proofs.Common.{◌≡◌, ℕ, ◌+◌, ◌≤◌, ◌<◌, zero, suc, true, List, [], ◌∷◌, ◌++◌}
use Rattle.std.proofs.Common.{length, length-append, get_or, refl, sym, subst, ◌∙◌, ◌⊎◌, inr, ⊎_elim, arith}
use Rattle.std.proofs.lemmas.Map.Keys.{sorted_from_all_adjacent}
use Rattle.std.proofs.lemmas.Map.Views.{Contains-from_any, list_any-from_Contains, tells_apart}
use Rattle.std.proofs.lemmas.List.Elements.{All-contains, All-contains_itself, All-weaker, Contains-push_cases}
use Rattle.std.proofs.lemmas.List.Quantifiers.{all_pairs_push}
use Rattle.std.specs.List.{All, AllPairs, Contains, list_any}
use Rattle.std.specs.List.Sorted.{IsStrictlySortedBy}
use Rattle.std.specs.Ordering.{eq_by_cmp}
use Rattle.std.specs.Cmp.{eq_by_cmp_equiv}
use Rattle.point_codec.proofs.Ordered.{in_order_is}
use Rattle.point_codec.specs.declared.entries.Near.{Near}
use Rattle.documents.specs.NearestEntries.{ComesBefore, HasNumber, IsNearest}
use Rattle.nearest_query.specs.Best.{near_cmp}
use Rattle.nearest_query.proofs.Order.{near_total, near_exact, same_near, less_from_before, before_itself}
use Rattle.nearest_query.proofs.Order.{before_trans}
use Rattle.documents.proofs.Lists.{cons_cases, cons_tail, nil_none, cons_head}
use Rattle.documents.proofs.Kept.{same_tests}

no_near : Near
no_near = record { dist2 = 0; doc = 0 }

pub sorted_from_pairs : (ks : List Near) → AllPairs ComesBefore ks → IsStrictlySortedBy near_cmp ks
sorted_from_pairs ks up =
    sorted_from_all_adjacent near_total ks no_near
    (λ k h. less_from_before (get_or ks k no_near) (get_or ks (k + 1) no_near) (up k (k + 1) no_near (omega arith) h))

pub pairs_tail : (R : Near → Near → Type 0) (x : Near) (xs : List Near) → AllPairs R (x ∷ xs) → AllPairs R xs
pairs_tail R x xs up i j d h k = up (suc i) (suc j) d (omega arith) (omega arith)

pub pairs_head : (R : Near → Near → Type 0) (x : Near) (xs : List Near) → AllPairs R (x ∷ xs) → (y : Near) → Contains xs y → R x y
pairs_head R x xs up y (k, h, e) = subst (λ z. R x z) e (up zero (suc k) y (omega arith) (omega arith))

-- two ascending lists, of which the second has what the first has: without the first element of both
drop_both : (x : Near) (xs : List Near) (y : Near) (ys : List Near) → AllPairs ComesBefore (x ∷ xs) → ((a : Near) → Contains (x ∷ xs) a → Contains (y ∷ ys) a)
    → y ≡ x
    → (a : Near) → Contains xs a → Contains ys a
drop_both x xs y ys up sub e a h =
    ⊎_elim (λ f. absurd (let b = before_itself a (subst (λ z. ComesBefore z a) (sym e ∙ f) (pairs_head ComesBefore x xs up a h)) in omega arith)) (λ k. k)
    (cons_cases y ys a (sub a (cons_tail x xs a h)))

-- and without the first element of the second, which the first doesn't have
drop_one : (x : Near) (xs : List Near) (y : Near) (ys : List Near) → AllPairs ComesBefore (x ∷ xs) → AllPairs ComesBefore (y ∷ ys)
    → ((a : Near) → Contains (x ∷ xs) a → Contains (y ∷ ys) a) → Contains ys x
    → (a : Near) → Contains (x ∷ xs) a → Contains ys a
drop_one x xs y ys up vp sub h a k =
    let first = pairs_head ComesBefore y ys vp x h in
    ⊎_elim (λ e. absurd
    (let b = before_itself y
    (⊎_elim (λ f. subst (λ z. ComesBefore y z) (f ∙ sym e) first)
    (λ m. before_trans y x y first (subst (λ z. ComesBefore x z) (sym e) (pairs_head ComesBefore x xs up a m))) (cons_cases x xs a k)) in omega arith)) (λ m. m)
    (cons_cases y ys a (sub a k))

-- an ascending list within another is no longer
pub no_longer : (xs ys : List Near) → AllPairs ComesBefore xs → AllPairs ComesBefore ys → ((a : Near) → Contains xs a → Contains ys a) → length xs ≤ length ys
no_longer [] ys up vp sub = omega arith
no_longer (x ∷ xs) [] up vp sub = nil_none x _ (sub x (cons_head x xs))
no_longer (x ∷ xs) (y ∷ ys) up vp sub = ⊎_elim
    (λ e. let rest = no_longer xs ys (pairs_tail ComesBefore x xs up) (pairs_tail ComesBefore y ys vp) (drop_both x xs y ys up sub e) in omega (arith, rest))
    (λ h. let rest = no_longer (x ∷ xs) ys up (pairs_tail ComesBefore y ys vp) (drop_one x xs y ys up vp sub h) in omega (arith, rest))
    (cons_cases y ys x (sub x (cons_head x xs)))

-- what one list of the nearest has, the other has too
has_too : (k : ℕ) (entries f g : List Near) → IsNearest k entries f → IsNearest k entries g → (a : Near) → Contains f a → Contains g a
has_too k entries f g isf isg a h = ⊎_elim found (λ out. absurd (full out.0 out.1)) (isg.left_out a (isf.among a h))
  where
    found : HasNumber g a.doc → Contains g a
    found b =
        let l = isf.least a b.0 h (isg.among b.0 b.1) b.2 in
        let m = isg.least b.0 a b.1 (isf.among a h) (sym b.2) in
        subst (λ x. Contains g x) (same_near b.0 a (omega (arith, l, m)) b.2) b.1

    back : All (λ b. ComesBefore b a) g → (b : Near) → Contains g b → Contains f b
    back all b m = ⊎_elim
        (λ c.
        let l = isf.least c.0 b c.1 (isg.among b m) (sym c.2) in
        let r = isg.least b c.0 m (isf.among c.0 c.1) c.2 in
        subst (λ x. Contains f x) (same_near c.0 b (omega (arith, l, r)) c.2) c.1)
        (λ out. absurd
        (let t = before_itself a (before_trans a b a (All-contains (λ c. ComesBefore c b) f a out.1 h) (All-contains (λ c. ComesBefore c a) g b all m)) in
        omega arith))
        (isf.left_out b (isg.among b m))

    full : length g ≡ k → All (λ b. ComesBefore b a) g → ⊥
    full e all =
        let up : AllPairs ComesBefore (g ++ a ∷ []) =
        all_pairs_push ComesBefore g a isg.rises (λ i d m. All-contains (λ b. ComesBefore b a) g (get_or g i d) all (i, m, at_itself g i d m)) in
        let l = no_longer (g ++ a ∷ []) f up isf.rises (λ b m. ⊎_elim (λ n. back all b n) (λ n. subst (λ x. Contains f x) n h) (Contains-push_cases g a b m)) in
        let n = length-append g (a ∷ []) in
        let few = isf.few in
        omega (arith, l, n, few, e)
      where
        at_itself : (xs : List Near) (i : ℕ) (d : Near) → i < length xs → get_or xs i (get_or xs i d) ≡ get_or xs i d
        at_itself [] i d m = absurd (omega arith)
        at_itself (x ∷ xs) zero d m = refl
        at_itself (x ∷ xs) (suc i) d m = at_itself xs i d (omega arith)

any_of : (xs : List Near) (q : Near) → Contains xs q → list_any (eq_by_cmp near_cmp q) xs ≡ true
any_of xs q h = list_any-from_Contains (eq_by_cmp_equiv near_total) q xs h

of_any : (xs : List Near) (q : Near) → list_any (eq_by_cmp near_cmp q) xs ≡ true → Contains xs q
of_any xs q h = Contains-from_any (tells_apart near_exact) q xs h

pub nearest_unique : (k : ℕ) (entries f g : List Near) → IsNearest k entries f → IsNearest k entries g → f ≡ g
nearest_unique k entries f g isf isg =
    in_order_is near_cmp near_total near_exact g f (sorted_from_pairs f isf.rises)
    (λ q. same_tests _ _ (λ h. any_of g q (has_too k entries f g isf isg q (of_any f q h))) (λ h. any_of f q (has_too k entries g f isg isf q (of_any g q h))))
    ∙ sym (in_order_is near_cmp near_total near_exact g g (sorted_from_pairs g isg.rises) (λ q. refl))

-- the nearest among some are those among more, where what was left comes after them
pub nearest_wider : (k : ℕ) (seen all found : List Near) → IsNearest k seen found → ((x : Near) → Contains seen x → Contains all x)
    → ((x : Near) → Contains all x → Contains seen x ⊎ ((length found ≡ k) × ((a : Near) → Contains found a → a.dist2 < x.dist2)))
    → IsNearest k all found
nearest_wider k seen all found is sub out = record {
  rises = is.rises;
  among = λ a h. sub a (is.among a h);
  least = λ a x h m e. ⊎_elim (λ n. is.least a x h n e) (λ o. let l = o.1 a h in omega arith) (out x m);
  few = is.few;
  left_out = λ x m. ⊎_elim (λ n. is.left_out x n)
      (λ o. inr (
        o.0,
        All-weaker (λ a. Contains found a) (λ a. ComesBefore a x) (λ a h. let l = o.1 a h in record { near = omega arith; tie = λ t. absurd (omega arith) })
            found (All-contains_itself found),
      )) (out x m);
}

-- and those among more are those among some that have all of them
pub nearest_narrower : (k : ℕ) (seen all found : List Near) → IsNearest k all found → ((x : Near) → Contains seen x → Contains all x)
    → ((x : Near) → Contains found x → Contains seen x) → IsNearest k seen found
nearest_narrower k seen all found is sub has = record {
  rises = is.rises;
  among = has;
  least = λ a x h m e. is.least a x h (sub x m) e;
  few = is.few;
  left_out = λ x m. is.left_out x (sub x m);
}
