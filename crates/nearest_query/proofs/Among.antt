-- One more entry, where the nearest numbers stand in one list.
use Rattle.std.proofs.Common.{◌≡◌, ◌≢◌, ℕ, suc, ◌+◌, ◌-◌, ◌≤◌, ◌<◌, false, List, [], ◌∷◌, ◌++◌, length, length-append}
use Rattle.std.proofs.Common.{get_or, take, drop, refl, sym, ap, subst, ◌∙◌, ◌⊎◌, inl, inr, ⊎_elim, arith}
use Rattle.std.proofs.lemmas.Bool.{cases_eq}
use Rattle.std.proofs.Math.ListN.{get_or-append}
use Rattle.std.proofs.Math.Seq.{drop-cons}
use Rattle.std.proofs.lemmas.List.{get_or_default, take-append-drop}
use Rattle.std.proofs.lemmas.List.Kept.{AllPairs-cons}
use Rattle.std.proofs.lemmas.List.Elements.{All-contains, All-contains_itself, All-weaker, Contains-append_left}
use Rattle.std.proofs.lemmas.List.Elements.{Contains-append_right, Contains-append_cases, Contains-get_or}
use Rattle.std.specs.declared.cmp.Ordering.TheVariants.{Less}
use Rattle.std.specs.List.{All, AllPairs, Contains}
use Rattle.std.specs.Ordering.{is_lt}
use Rattle.point_codec.specs.declared.entries.Near.{Near}
use Rattle.documents.proofs.Lists.{pairs_append, pairs_head, pairs_tail, cons_cases, cons_tail, cons_head}
use Rattle.documents.specs.NearestEntries.{ComesBefore, HasNumber, IsNearest}
use Rattle.nearest_query.specs.Best.{near_cmp, IsInsertedAmong}
use Rattle.nearest_query.proofs.Order.{behind, before_from_less, before_trans}
use Rattle.nearest_query.proofs.Offers.{nearest_same, nearest_after}

-- ---- lists in two parts

pub pairs_left : {X : Type 0} (R : X → X → Type 0) (xs ys : List X) → AllPairs R (xs ++ ys) → AllPairs R xs
pairs_left R xs ys up i j d h k =
    let long : j < length (xs ++ ys) = omega (arith, length-append xs ys) in
    let at_i : get_or (xs ++ ys) i d ≡ get_or xs i d = get_or-append xs ys d i (omega arith) in
    let at_j : get_or (xs ++ ys) j d ≡ get_or xs j d = get_or-append xs ys d j k in
    subst (λ z. R z (get_or xs j d)) at_i (subst (R (get_or (xs ++ ys) i d)) at_j (up i j d h long))

pub pairs_right : {X : Type 0} (R : X → X → Type 0) (xs ys : List X) → AllPairs R (xs ++ ys) → AllPairs R ys
pairs_right R [] ys up = up
pairs_right R (x ∷ xs) ys up = pairs_right R xs ys (pairs_tail R x (xs ++ ys) up)

pub pairs_across : {X : Type 0} (R : X → X → Type 0) (xs ys : List X) → AllPairs R (xs ++ ys) → (x y : X) → Contains xs x → Contains ys y → R x y
pairs_across R [] ys up x y h k = absurd (let lt = h.1 in omega arith)
pairs_across R (z ∷ xs) ys up x y h k = ⊎_elim
    (λ e. subst (λ w. R w y) e (pairs_head R z (xs ++ ys) up y (Contains-append_right xs ys y k)))
    (λ m. pairs_across R xs ys (pairs_tail R z (xs ++ ys) up) x y m k)
    (cons_cases z xs x h)

-- an element at a place, and those around it
pub parted : (xs : List Near) (p : ℕ) (d : Near) → p < length xs → xs ≡ take p xs ++ get_or xs p d ∷ drop (p + 1) xs
parted xs p d lt = sym (take-append-drop p xs) ∙ ap (λ (ys : List Near). take p xs ++ ys) (drop-cons xs p d lt ∙ ap (λ (k : ℕ). get_or xs p d ∷ drop k xs) next)
  where
    next : suc p ≡ p + 1
    next = omega arith

-- ---- the last one

abbrev pub last_of : List Near → Near → Near
last_of found d = get_or found (length found - 1) d

pub up_to_last : (found : List Near) (d a : Near) → AllPairs ComesBefore found → 0 < length found → Contains found a
    → (a ≡ last_of found d) ⊎ ComesBefore a (last_of found d)
up_to_last found d a up some (i, lt, e) =
    let is : get_or found i d ≡ a = get_or_default found i d a lt ∙ e in
    elim (cases_eq i (length found - 1)) [
      | inl same ↦ inl (sym is ∙ ap (λ (k : ℕ). get_or found k d) same)
      | inr ne ↦ inr (subst (λ z. ComesBefore z (last_of found d)) is (up i (length found - 1) d (omega arith) (omega arith)))
    ]

-- all places are taken by what the entry doesn't come before
pub skip_few : (k : ℕ) (entries found : List Near) (n : Near) → IsNearest k entries found → k ≤ length found → 0 < length found
    → is_lt (near_cmp n (last_of found n)) ≡ false → IsNearest k (n ∷ entries) found
skip_few k entries found n was full some off = nearest_same k entries found n was (λ a h e. low a h) out
  where
    last : Near
    last = last_of found n

    parts : (last.dist2 ≤ n.dist2) × (n.dist2 ≤ last.dist2 → last.doc ≤ n.doc)
    parts = behind n last off

    low : (a : Near) → Contains found a → a.dist2 ≤ n.dist2
    low a h =
        let p = parts.0 in
        ⊎_elim (λ e. let s : a.dist2 ≡ last.dist2 = ap (λ (y : Near). y.dist2) e in omega arith) (λ b. let q = b.near in omega arith)
        (up_to_last found n a was.rises some h)

    last_in : Contains found last
    last_in = Contains-get_or found (length found - 1) n (omega arith)

    before : last.doc ≢ n.doc → (a : Near) → Contains found a → ComesBefore a n
    before ne a h =
        let first : ComesBefore last n = record { near = parts.0; tie = λ t. let le = parts.1 t in omega arith } in
        ⊎_elim (λ e. subst (λ z. ComesBefore z n) (sym e) first) (λ b. before_trans a last n b first) (up_to_last found n a was.rises some h)

    out : HasNumber found n.doc ⊎ ((length found ≡ k) × All (λ a. ComesBefore a n) found)
    out = elim (cases_eq last.doc n.doc) [
      | inl e ↦ inl (last, last_in, e)
      | inr ne ↦
          inr ((let few = was.few in omega arith), All-weaker (λ a. Contains found a) (λ a. ComesBefore a n) (before ne) found (All-contains_itself found))
    ]

-- its number stands there, as near
pub stay_few : (k : ℕ) (entries found : List Near) (n : Near) (p : ℕ) → IsNearest k entries found → p < length found → (get_or found p n).doc ≡ n.doc
    → (get_or found p n).dist2 ≤ n.dist2 → IsNearest k (n ∷ entries) found
stay_few k entries found n p was lt e near =
    let w : Near = get_or found p n in
    let there : Contains found w = Contains-get_or found p n lt in
    nearest_same k entries found n was (λ a h f. let l = was.least a w h (was.among w there) (e ∙ f) in omega (arith, l, near)) (inl (w, there, e))

-- ---- an entry that is put among the others

module _ (k : ℕ) (entries old mid new : List Near) (n : Near) (was : IsNearest k entries old) (up : AllPairs ComesBefore mid) (put : IsInsertedAmong n mid new)
    (no : (a : Near) → Contains mid a → n.doc ≡ a.doc → ⊥) (sub : (a : Near) → Contains mid a → Contains old a) where
  mid_up : AllPairs ComesBefore (put.front ++ put.back)
  mid_up = subst (AllPairs ComesBefore) put.before up

  in_mid : (a : Near) → Contains (put.front ++ put.back) a → Contains mid a
  in_mid a h = subst (λ (xs : List Near). Contains xs a) (sym put.before) h

  length_put : length new ≡ length mid + 1
  length_put =
      let a = ap length put.before ∙ length-append put.front put.back in
      let b = ap length put.after ∙ length-append put.front (n ∷ put.back) in
      let c : length (n ∷ put.back) ≡ length put.back + 1 = omega arith in
      omega (arith, a, b, c)

  from_parts : (a : Near) → Contains (put.front ++ n ∷ put.back) a → (n ≡ a) ⊎ Contains mid a
  from_parts a h = ⊎_elim
      (λ l. inr (in_mid a (Contains-append_left put.front put.back a l)))
      (λ r. ⊎_elim (λ e. inl e) (λ m. inr (in_mid a (Contains-append_right put.front put.back a m))) (cons_cases n put.back a r))
      (Contains-append_cases put.front (n ∷ put.back) a h)

  from : (a : Near) → Contains new a → (n ≡ a) ⊎ Contains mid a
  from a h = from_parts a (subst (λ (xs : List Near). Contains xs a) put.after h)

  to_new : (a : Near) → Contains (put.front ++ n ∷ put.back) a → Contains new a
  to_new a h = subst (λ (xs : List Near). Contains xs a) (sym put.after) h

  holds : Contains new n
  holds = to_new n (Contains-append_right put.front (n ∷ put.back) n (cons_head n put.back))

  stays : (a : Near) → Contains mid a → Contains new a
  stays a h = to_new a (⊎_elim
      (λ l. Contains-append_left put.front (n ∷ put.back) a l)
      (λ r. Contains-append_right put.front (n ∷ put.back) a (cons_tail n put.back a r))
      (Contains-append_cases put.front put.back a (subst (λ (xs : List Near). Contains xs a) put.before h)))

  back_up : AllPairs ComesBefore put.back
  back_up = pairs_right ComesBefore put.front put.back mid_up

  not_behind : (xs : List Near) → AllPairs ComesBefore xs → ((x : Near) (ys : List Near) → xs ≡ x ∷ ys → is_lt (near_cmp x n) ≡ false) → (a : Near)
      → Contains xs a → (n.dist2 ≤ a.dist2) × (a.dist2 ≤ n.dist2 → n.doc ≤ a.doc)
  not_behind [] u f a h = absurd (let lt = h.1 in omega arith)
  not_behind (x ∷ xs) u f a h =
      let p = behind x n (f x xs refl) in
      ⊎_elim
      (λ e. subst (λ (z : Near). (n.dist2 ≤ z.dist2) × (z.dist2 ≤ n.dist2 → n.doc ≤ z.doc)) e p)
      (λ m. let c = pairs_head ComesBefore x xs u a m in
      (omega (arith, p.0, c.near), λ t. let q = p.1 (omega (arith, c.near, t)) in let r = c.tie (omega (arith, p.0, t)) in omega arith))
      (cons_cases x xs a h)

  before_back : (a : Near) → Contains put.back a → ComesBefore n a
  before_back a h =
      let p = not_behind put.back back_up put.others a h in
      let other : n.doc ≢ a.doc = no a (in_mid a (Contains-append_right put.front put.back a h)) in
      record { near = p.0; tie = λ t. let le = p.1 t in omega arith }

  front_before : (a : Near) → Contains put.front a → ComesBefore a n
  front_before a h = before_from_less a n (All-contains (λ q. near_cmp q n ≡ Less) put.front a put.nearer h)

  rises : AllPairs ComesBefore new
  rises = subst (AllPairs ComesBefore) (sym put.after)
      (pairs_append ComesBefore put.front (n ∷ put.back) (pairs_left ComesBefore put.front put.back mid_up)
      (AllPairs-cons ComesBefore n put.back (All-weaker (λ a. Contains put.back a) (ComesBefore n) before_back put.back (All-contains_itself put.back)) back_up)
      (λ a b h g. ⊎_elim (λ e. subst (ComesBefore a) e (front_before a h)) (λ m. pairs_across ComesBefore put.front put.back mid_up a b h m)
      (cons_cases n put.back b g)))

  pub put_nearest : length mid + 1 ≤ k
      → ((x : Near) → Contains entries x → x.doc ≡ n.doc → n.dist2 ≤ x.dist2)
      → ((a : Near) → Contains old a
      → Contains mid a ⊎ ((n.doc ≡ a.doc) ⊎ ((length mid + 1 ≡ k) × (ComesBefore n a) × ((b : Near) → Contains mid b → ComesBefore b a))))
      → (length old ≡ k → length mid + 1 ≡ k)
      → ((x : Near) → length old ≡ k → All (λ a. ComesBefore a x) old → ComesBefore n x)
      → IsNearest k (n ∷ entries) new
  put_nearest fits low kept full first = nearest_after k entries old new n was rises
      (let l = length_put in omega arith)
      (λ a h. ⊎_elim (λ e. inl e) (λ m. inr (sub a m)) (from a h))
      holds
      (λ a h e. ⊎_elim (λ is. sym is) (λ m. absurd (no a m e)) (from a h))
      low
      (λ a h. ⊎_elim (λ m. inl (stays a m)) (λ r. inr (⊎_elim (λ e. inl e) (λ gone. inr (all_before a gone)) r)) (kept a h))
      (λ e. let l = length_put in let f = full e in omega arith)
      first
    where
      all_before : (a : Near) → (length mid + 1 ≡ k) × (ComesBefore n a) × ((b : Near) → Contains mid b → ComesBefore b a)
          → (length new ≡ k) × ((b : Near) → Contains new b → ComesBefore b a)
      all_before a gone = (
        (let l = length_put in let f = gone.0 in omega arith),
        λ b h. ⊎_elim (λ is. subst (λ y. ComesBefore y a) is gone.1) (λ m. gone.2 b m) (from b h),
      )
