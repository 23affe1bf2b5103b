-- One more entry: the nearest numbers stay so.
use Rattle.std.proofs.Common.{◌≡◌, ℕ, ◌≤◌, List, [], ◌∷◌, length, sym, ap, subst, ◌∙◌, ◌⊎◌, inl, inr, ⊎_elim, arith}
use Rattle.std.proofs.lemmas.List.Elements.{All-contains, All-contains_itself, All-weaker}
use Rattle.std.specs.List.{All, AllPairs, Contains}
use Rattle.point_codec.specs.declared.entries.Near.{Near}
use Rattle.documents.specs.NearestEntries.{ComesBefore, HasNumber, IsNearest}
use Rattle.documents.proofs.Lists.{cons_cases, cons_tail, nil_none, cons_head}

-- no entry, and none found
pub none_nearest : (k : ℕ) (found : List Near) → found ≡ [] → IsNearest k [] found
none_nearest k found e = rw e (record {
  rises = λ i j d h k. absurd (omega arith);
  among = λ a h. nil_none a _ h;
  least = λ a x h k e. nil_none a _ h;
  few = omega arith;
  left_out = λ x h. nil_none x _ h;
})

-- an entry that changes nothing: its number is found as near, or all places are taken by what comes before it
pub nearest_same : (k : ℕ) (entries found : List Near) (n : Near) → IsNearest k entries found
    → ((a : Near) → Contains found a → n.doc ≡ a.doc → a.dist2 ≤ n.dist2)
    → HasNumber found n.doc ⊎ ((length found ≡ k) × All (λ a. ComesBefore a n) found)
    → IsNearest k (n ∷ entries) found
nearest_same k entries found n was low out = record {
  rises = was.rises;
  among = λ a h. cons_tail n entries a (was.among a h);
  least = λ a x h k e. ⊎_elim
      (λ is. let f : n.doc ≡ a.doc = ap (λ y. y.doc) is ∙ e in let l = low a h f in let s : n.dist2 ≡ x.dist2 = ap (λ y. y.dist2) is in omega (arith, l, s))
      (λ in'. was.least a x h in' e) (cons_cases n entries x k);
  few = was.few;
  left_out = λ x h. ⊎_elim (λ is. let f = λ (y : Near). HasNumber found y.doc ⊎ ((length found ≡ k) × All (λ a. ComesBefore a y) found) in subst f is out)
      (λ in'. was.left_out x in') (cons_cases n entries x h);
}

-- an entry that is found now
pub nearest_after : (k : ℕ) (entries old new : List Near) (n : Near) → IsNearest k entries old
    → AllPairs ComesBefore new → length new ≤ k
    → ((a : Near) → Contains new a → (n ≡ a) ⊎ Contains old a)
    → Contains new n
    → ((a : Near) → Contains new a → n.doc ≡ a.doc → a ≡ n)
    → ((x : Near) → Contains entries x → x.doc ≡ n.doc → n.dist2 ≤ x.dist2)
    → ((a : Near) → Contains old a → Contains new a ⊎ ((n.doc ≡ a.doc) ⊎ ((length new ≡ k) × ((b : Near) → Contains new b → ComesBefore b a))))
    → (length old ≡ k → length new ≡ k)
    → ((x : Near) → length old ≡ k → All (λ a. ComesBefore a x) old → ComesBefore n x)
    → IsNearest k (n ∷ entries) new
nearest_after k entries old new n was rises few from has one low kept full first = record {
  rises = rises;
  among = λ a h. ⊎_elim (λ is. subst (λ y. Contains (n ∷ entries) y) is (cons_head n entries)) (λ in'. cons_tail n entries a (was.among a in')) (from a h);
  least = least;
  few = few;
  left_out = λ x h. ⊎_elim (λ is. inl (n, has, ap (λ y. y.doc) is)) (λ in'. left x in') (cons_cases n entries x h);
}
  where
    Left : Near → Type 0
    Left x = HasNumber new x.doc ⊎ ((length new ≡ k) × All (λ a. ComesBefore a x) new)

    every : (x : Near) → ((b : Near) → Contains new b → ComesBefore b x) → All (λ b. ComesBefore b x) new
    every x h = All-weaker (λ b. Contains new b) (λ b. ComesBefore b x) h new (All-contains_itself new)

    least_here : (a x : Near) → Contains new a → n ≡ x → x.doc ≡ a.doc → a.dist2 ≤ x.dist2
    least_here a x h is e =
        let same : a ≡ n = one a h (ap (λ y. y.doc) is ∙ e) in
        let far : a.dist2 ≡ n.dist2 = ap (λ y. y.dist2) same in
        let near : n.dist2 ≡ x.dist2 = ap (λ y. y.dist2) is in
        omega (arith, far, near)

    least_there : (a x : Near) → Contains entries x → x.doc ≡ a.doc → (n ≡ a) ⊎ Contains old a → a.dist2 ≤ x.dist2
    least_there a x k e (inl is) =
        let l = low x k (e ∙ sym (ap (λ y. y.doc) is)) in
        let near : n.dist2 ≡ a.dist2 = ap (λ y. y.dist2) is in
        omega (arith, l, near)
    least_there a x k e (inr in') = was.least a x in' k e

    least : (a x : Near) → Contains new a → Contains (n ∷ entries) x → x.doc ≡ a.doc → a.dist2 ≤ x.dist2
    least a x h k e = ⊎_elim (λ is. least_here a x h is e) (λ in'. least_there a x in' e (from a h)) (cons_cases n entries x k)

    over : (a x b : Near) → a.doc ≡ x.doc → a.dist2 ≤ x.dist2 → ComesBefore b a → ComesBefore b x
    over a x b e l h =
        record { near = omega (arith, l, h.near); tie = λ t. let s : a.dist2 ≤ b.dist2 = omega (arith, l, h.near) in let p = h.tie s in omega (arith, p, e) }

    left_found : (x a : Near) → Contains entries x → Contains old a → a.doc ≡ x.doc
        → Contains new a ⊎ ((n.doc ≡ a.doc) ⊎ ((length new ≡ k) × ((b : Near) → Contains new b → ComesBefore b a))) → Left x
    left_found x a c h e (inl in') = inl (a, in', e)
    left_found x a c h e (inr (inl is)) = inl (n, has, is ∙ e)
    left_found x a c h e (inr (inr gone)) = inr (gone.0, every x (λ b g. over a x b e (was.least a x h c (sym e)) (gone.1 b g)))

    left_old : (x : Near) → length old ≡ k → All (λ a. ComesBefore a x) old → (b : Near) → (n ≡ b) ⊎ Contains old b → ComesBefore b x
    left_old x e all b (inl is) = subst (λ y. ComesBefore y x) is (first x e all)
    left_old x e all b (inr in') = All-contains (λ a. ComesBefore a x) old b all in'

    left : (x : Near) → Contains entries x → Left x
    left x h = ⊎_elim (λ has'. left_found x has'.0 h has'.1 has'.2 (kept has'.0 has'.1))
        (λ out. inr (full out.0, every x (λ b g. left_old x out.0 out.1 b (from b g)))) (was.left_out x h)
