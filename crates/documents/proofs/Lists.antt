-- Members of lists, and lists that ascend.
use Rattle.std.proofs.Common.{◌++◌, ◌≡◌, ℕ, ◌+◌, ◌≤◌, zero, suc, Bool, true, false, ◌&&◌, cond, List, [], ◌∷◌}
use Rattle.std.proofs.Common.{length, map, take, refl, sym, ap, subst, ◌∙◌, ◌⊎◌, inl, inr, ⊎_elim, arith}
use Rattle.std.specs.List.{All, AllPairs, Contains, filter, flat_map}
use Rattle.std.proofs.lemmas.List.{take_all}
use Rattle.std.proofs.lemmas.List.Kept.{AllPairs-cons}
use Rattle.std.proofs.lemmas.List.Elements.{All-append, All-contains_itself, All-map, All-weaker}
use Rattle.std.proofs.lemmas.List.Elements.{Contains-append_left, Contains-append_right, Contains-append_cases}

-- ---- members

pub cons_head : {X : Type 0} (x : X) (xs : List X) → Contains (x ∷ xs) x
cons_head x xs = (zero, omega arith, refl)

pub cons_tail : {X : Type 0} (x : X) (xs : List X) (y : X) → Contains xs y → Contains (x ∷ xs) y
cons_tail x xs y (k, h, e) = (suc k, omega arith, e)

pub cons_cases : {X : Type 0} (x : X) (xs : List X) (y : X) → Contains (x ∷ xs) y → (x ≡ y) ⊎ Contains xs y
cons_cases x xs y (zero, h, e) = inl e
cons_cases x xs y (suc k, h, e) = inr (k, omega arith, e)

pub nil_none : {X : Type 0} (y : X) (P : Type 0) → Contains {X = X} [] y → P
nil_none y P (k, h, e) = absurd (omega arith)

cons_here : {X : Type 0} (x : X) (xs : List X) (y : X) → x ≡ y → Contains (x ∷ xs) y
cons_here x xs y e = subst (λ z. Contains (x ∷ xs) z) e (cons_head x xs)

pub in_map : {X Y : Type 0} (f : X → Y) (xs : List X) (x : X) → Contains xs x → Contains (map f xs) (f x)
in_map f [] x h = nil_none x _ h
in_map f (y ∷ ys) x h =
    ⊎_elim (λ e. cons_here (f y) (map f ys) (f x) (ap f e)) (λ k. cons_tail (f y) (map f ys) (f x) (in_map f ys x k)) (cons_cases y ys x h)

pub of_map : {X Y : Type 0} (f : X → Y) (xs : List X) (y : Y) → Contains (map f xs) y → (x : X) × Contains xs x × (f x ≡ y)
of_map f [] y h = nil_none y _ h
of_map f (x ∷ xs) y h = ⊎_elim
    (λ e. (x, cons_head x xs, e))
    (λ k. let r = of_map f xs y k in (r.0, cons_tail x xs r.0 r.1, r.2))
    (cons_cases (f x) (map f xs) y h)

pub in_filter : {X : Type 0} (p : X → Bool) (xs : List X) (x : X) → Contains xs x → p x ≡ true → Contains (filter p xs) x
in_filter p [] x h t = nil_none x _ h
in_filter p (y ∷ ys) x h t = ⊎_elim
    (λ e. subst (λ b. Contains (cond b (y ∷ filter p ys) (filter p ys)) x) (sym (ap p e ∙ t)) (cons_here y (filter p ys) x e))
    (λ k. by (p y) (in_filter p ys x k t))
    (cons_cases y ys x h)
  where
    by : (b : Bool) → Contains (filter p ys) x → Contains (cond b (y ∷ filter p ys) (filter p ys)) x
    by true k = cons_tail y (filter p ys) x k
    by false k = k

pub of_filter : {X : Type 0} (p : X → Bool) (xs : List X) (x : X) → Contains (filter p xs) x → Contains xs x × (p x ≡ true)
of_filter p [] x h = nil_none x _ h
of_filter p (y ∷ ys) x h = by (p y) refl (λ m. of_filter p ys x m) h
  where
    by : (b : Bool) → p y ≡ b → (Contains (filter p ys) x → Contains ys x × (p x ≡ true)) → Contains (cond b (y ∷ filter p ys) (filter p ys)) x
        → Contains (y ∷ ys) x × (p x ≡ true)
    by true e more k = ⊎_elim
        (λ s. (cons_here y ys x s, ap p (sym s) ∙ e))
        (λ m. let r = more m in (cons_tail y ys x r.0, r.1))
        (cons_cases y (filter p ys) x k)
    by false e more k = let r = more k in (cons_tail y ys x r.0, r.1)

pub in_flat_map : {X Y : Type 0} (f : X → List Y) (xs : List X) (x : X) (y : Y) → Contains xs x → Contains (f x) y → Contains (flat_map f xs) y
in_flat_map f [] x y h k = nil_none x _ h
in_flat_map f (z ∷ zs) x y h k = ⊎_elim
    (λ e. Contains-append_left (f z) (flat_map f zs) y (subst (λ w. Contains (f w) y) (sym e) k))
    (λ m. Contains-append_right (f z) (flat_map f zs) y (in_flat_map f zs x y m k))
    (cons_cases z zs x h)

pub of_flat_map : {X Y : Type 0} (f : X → List Y) (xs : List X) (y : Y) → Contains (flat_map f xs) y → (x : X) × Contains xs x × Contains (f x) y
of_flat_map f [] y h = nil_none y _ h
of_flat_map f (x ∷ xs) y h = ⊎_elim
    (λ k. (x, cons_head x xs, k))
    (λ k. let r = of_flat_map f xs y k in (r.0, cons_tail x xs r.0 r.1, r.2))
    (Contains-append_cases (f x) (flat_map f xs) y h)

-- ---- filters

-- tests that agree on the members keep the same
pub filter_alike : {X : Type 0} (p q : X → Bool) (xs : List X) → ((x : X) → Contains xs x → p x ≡ q x) → filter p xs ≡ filter q xs
filter_alike p q [] same = refl
filter_alike p q (x ∷ xs) same =
    let rest = filter_alike p q xs (λ y h. same y (cons_tail x xs y h)) in
    let here = same x (cons_head x xs) in
    λ i. cond (here i) (x ∷ rest i) (rest i)

-- one filter after another keeps what passes both
pub filter_twice : {X : Type 0} (p q : X → Bool) (xs : List X) → filter p (filter q xs) ≡ filter (λ x. q x && p x) xs
filter_twice p q [] = refl
filter_twice p q (x ∷ xs) = by (q x) (filter_twice p q xs)
  where
    by : (b : Bool) → filter p (filter q xs) ≡ filter (λ y. q y && p y) xs
        → filter p (cond b (x ∷ filter q xs) (filter q xs)) ≡ cond (b && p x) (x ∷ filter (λ y. q y && p y) xs) (filter (λ y. q y && p y) xs)
    by true e = ap (λ ys. cond (p x) (x ∷ ys) ys) e
    by false e = e

-- ---- pairs in order

pub pairs_tail : {X : Type 0} (R : X → X → Type 0) (x : X) (xs : List X) → AllPairs R (x ∷ xs) → AllPairs R xs
pairs_tail R x xs up i j d h k = up (suc i) (suc j) d (omega arith) (omega arith)

pub pairs_head : {X : Type 0} (R : X → X → Type 0) (x : X) (xs : List X) → AllPairs R (x ∷ xs) → (y : X) → Contains xs y → R x y
pairs_head R x xs up y (k, h, e) = subst (λ z. R x z) e (up zero (suc k) y (omega arith) (omega arith))

pub pairs_after : {X : Type 0} (R : X → X → Type 0) (x : X) (xs : List X) → AllPairs R (x ∷ xs) → All (R x) xs
pairs_after R x xs up k d h = up zero (suc k) d (omega arith) (omega arith)

pub pairs_none : {X : Type 0} (R : X → X → Type 0) → AllPairs R []
pairs_none R i j d h k = absurd (omega arith)

pub pairs_append : {X : Type 0} (R : X → X → Type 0) (xs ys : List X) → AllPairs R xs → AllPairs R ys → ((x y : X) → Contains xs x → Contains ys y → R x y)
    → AllPairs R (xs ++ ys)
pairs_append R [] ys up vp apart = vp
pairs_append {X} R (x ∷ xs) ys up vp apart =
    AllPairs-cons R x (xs ++ ys)
    (All-append (R x) xs ys (pairs_after R x xs up)
    (All-weaker (λ (y : X). Contains ys y) (R x) (λ y h. apart x y (cons_head x xs) h) ys (All-contains_itself ys)))
    (pairs_append R xs ys (pairs_tail R x xs up) vp (λ y z h k. apart y z (cons_tail x xs y h) k))

-- what f reads of them is in order
pub pairs_map : {X Y : Type 0} (R : Y → Y → Type 0) (f : X → Y) (xs : List X) → AllPairs (λ a b. R (f a) (f b)) xs → AllPairs R (map f xs)
pairs_map R f [] up = λ i j d h k. absurd (omega arith)
pairs_map {X} R f (x ∷ xs) up =
    AllPairs-cons R (f x) (map f xs)
    (All-map (R (f x)) f xs
    (All-weaker (λ (y : X). Contains xs y) (λ y. R (f x) (f y)) (λ y h. pairs_head (λ a b. R (f a) (f b)) x xs up y h) xs (All-contains_itself xs)))
    (pairs_map R f xs (pairs_tail (λ a b. R (f a) (f b)) x xs up))

-- ---- lists that ascend by an order

module _ {X : Type 0} (R : X → X → Type 0) (never : (x : X) → R x x → ⊥) (trans : (x y z : X) → R x y → R y z → R x z) where
  -- Of a list that ascends, the first k are those that ascend, are of the list and at most k, and leave out only what comes
  -- after k of them.
  pub first_ones : (k : ℕ) (fs ds : List X) → AllPairs R fs → AllPairs R ds → ((x : X) → Contains fs x → Contains ds x) → length fs ≤ k
      → ((x : X) → Contains ds x → Contains fs x ⊎ ((length fs ≡ k) × ((a : X) → Contains fs a → R a x))) → fs ≡ take k ds
  first_ones zero [] [] up vp sub few out = refl
  first_ones (suc k) [] [] up vp sub few out = refl
  first_ones zero [] (d ∷ ds) up vp sub few out = refl
  first_ones (suc k) [] (d ∷ ds) up vp sub few out = ⊎_elim (λ h. nil_none d _ h) (λ h. absurd (omega (arith, h.0))) (out d (cons_head d ds))
  first_ones k (f ∷ fs) [] up vp sub few out = nil_none f _ (sub f (cons_head f fs))
  first_ones zero (f ∷ fs) (d ∷ ds) up vp sub few out = absurd (omega (arith, few))
  first_ones (suc k) (f ∷ fs) (d ∷ ds) up vp sub few out =
      let rest : fs ≡ take k ds = first_ones k fs ds (pairs_tail R f fs up) (pairs_tail R d ds vp) under (omega (arith, few)) left in
      λ i. same i ∷ rest i
    where
      same : f ≡ d
      same = ⊎_elim
          (λ e. sym e)
          (λ m.
          let later : R d f = pairs_head R d ds vp f m in
          ⊎_elim
          (λ h. ⊎_elim (λ e. e) (λ n. absurd (never d (trans d f d later (pairs_head R f fs up d n)))) (cons_cases f fs d h))
          (λ h. absurd (never d (trans d f d later (h.1 f (cons_head f fs)))))
          (out d (cons_head d ds)))
          (cons_cases d ds f (sub f (cons_head f fs)))

      under : (x : X) → Contains fs x → Contains ds x
      under x h = ⊎_elim
          (λ e. absurd (never f (subst (λ z. R f z) (sym (same ∙ e)) (pairs_head R f fs up x h))))
          (λ m. m)
          (cons_cases d ds x (sub x (cons_tail f fs x h)))

      left : (x : X) → Contains ds x → Contains fs x ⊎ ((length fs ≡ k) × ((a : X) → Contains fs a → R a x))
      left x h = ⊎_elim
          (λ m. ⊎_elim (λ e. absurd (never d (subst (λ z. R d z) (sym (sym same ∙ e)) (pairs_head R d ds vp x h)))) (λ n. inl n) (cons_cases f fs x m))
          (λ m. inr (omega (arith, m.0), λ a n. m.1 a (cons_tail f fs a n)))
          (out x (cons_tail d ds x h))

  -- lists that ascend and have the same members are one
  pub same_members : (xs ys : List X) → AllPairs R xs → AllPairs R ys → ((x : X) → Contains xs x → Contains ys x) → ((x : X) → Contains ys x → Contains xs x)
      → xs ≡ ys
  same_members xs ys up vp to from =
      first_ones (length xs + length ys) xs ys up vp to (omega arith) (λ x h. inl (from x h))
      ∙ take_all (length xs + length ys) ys (omega arith)
