-- The ways in which one more entry stands among the nearest.
use Rattle.std.proofs.Common.{◌≡◌, ◌≢◌, ℕ, ◌+◌, ◌-◌, ◌≤◌, ◌<◌, true, List, [], ◌∷◌, ◌++◌, length, length-append}
use Rattle.std.proofs.Common.{get_or, take, drop, refl, sym, ap, subst, ◌∙◌, ◌⊎◌, inl, inr, ⊎_elim, arith}
use Rattle.std.proofs.lemmas.List.{append-nil, get_or_default, drop_all}
use Rattle.std.proofs.lemmas.List.Elements.{All-contains, Contains-append_left, Contains-append_right, Contains-append_cases, Contains-get_or}
use Rattle.std.specs.declared.cmp.Ordering.{Ordering}
use Rattle.std.specs.declared.cmp.Ordering.TheVariants.{Less, Equal, Greater}
use Rattle.std.specs.List.{All, AllPairs, Contains}
use Rattle.std.specs.Ordering.{is_lt}
use Rattle.point_codec.specs.declared.entries.Near.{Near}
use Rattle.documents.proofs.Lists.{pairs_append, pairs_head, pairs_tail, cons_cases, cons_tail, cons_head}
use Rattle.documents.specs.NearestEntries.{ComesBefore, IsNearest}
use Rattle.nearest_query.specs.Best.{near_cmp, IsInsertedAmong}
use Rattle.nearest_query.proofs.Order.{before_from_less, before_trans}
use Rattle.nearest_query.proofs.Among.{pairs_left, pairs_right, pairs_across, parted, last_of, put_nearest}

-- ---- the three ways

-- an entry that comes before the last found comes before all that come after all found
abbrev Leads : ℕ → List Near → Near → Type 0
Leads k found n = k ≤ length found → near_cmp n (last_of found n) ≡ Less

leads : (k : ℕ) (found : List Near) (n : Near) → 1 ≤ k → Leads k found n → length found ≡ k → (last : Near) × Contains found last × ComesBefore n last
leads k found n some lead e =
    (last_of found n, Contains-get_or found (length found - 1) n (omega arith), before_from_less n (last_of found n) (lead (omega arith)))

leads_all : (k : ℕ) (found : List Near) (n x : Near) → 1 ≤ k → Leads k found n → length found ≡ k → All (λ a. ComesBefore a x) found → ComesBefore n x
leads_all k found n x some lead e all =
    let l = leads k found n some lead e in
    before_trans n l.0 x l.2 (All-contains (λ a. ComesBefore a x) found l.0 all l.1)

-- no entry of its number was nearer
module _ (k : ℕ) (entries found : List Near) (n : Near) (was : IsNearest k entries found) (some : 1 ≤ k) (lead : Leads k found n) where
  first_of_number : ((a : Near) → Contains found a → a.doc ≡ n.doc → n.dist2 ≤ a.dist2) → (x : Near) → Contains entries x → x.doc ≡ n.doc → n.dist2 ≤ x.dist2
  first_of_number low x h e = ⊎_elim
      (λ has. let l = was.least has.0 x has.1 h (sym has.2) in let m = low has.0 has.1 (has.2 ∙ e) in omega (arith, l, m))
      (λ out. let b = leads_all k found n x some lead out.0 out.1 in b.near)
      (was.left_out x h)

pub add_few : (k : ℕ) (entries old new : List Near) (n : Near) → 1 ≤ k → IsNearest k entries old → All (λ a. a.doc ≢ n.doc) old → length old < k
    → IsInsertedAmong n old new → IsNearest k (n ∷ entries) new
add_few k entries old new n some was none short put =
    put_nearest k entries old old new n was was.rises put (λ a h e. All-contains (λ x. x.doc ≢ n.doc) old a none h (sym e)) (λ a h. h)
    (omega arith)
    (first_of_number k entries old n was some (λ full. absurd (omega arith)) (λ a h e. absurd (All-contains (λ x. x.doc ≢ n.doc) old a none h e)))
    (λ a h. inl h)
    (λ e. absurd (omega arith))
    (λ x e all. absurd (omega arith))

-- one is taken out first
module _ (old mid : List Near) (w : Near) (xs ys : List Near) (up : AllPairs ComesBefore old) (is : old ≡ xs ++ w ∷ ys) (without : mid ≡ xs ++ ys) where
  whole_up : AllPairs ComesBefore (xs ++ w ∷ ys)
  whole_up = subst (AllPairs ComesBefore) is up

  left_up : AllPairs ComesBefore mid
  left_up = subst (AllPairs ComesBefore) (sym without)
      (pairs_append ComesBefore xs ys (pairs_left ComesBefore xs (w ∷ ys) whole_up) (pairs_tail ComesBefore w ys (pairs_right ComesBefore xs (w ∷ ys) whole_up))
      (λ a b h g. pairs_across ComesBefore xs (w ∷ ys) whole_up a b h (cons_tail w ys b g)))

  -- each other one comes before it or behind it
  sides : (a : Near) → Contains mid a → ComesBefore a w ⊎ ComesBefore w a
  sides a h = ⊎_elim
      (λ l. inl (pairs_across ComesBefore xs (w ∷ ys) whole_up a w l (cons_head w ys)))
      (λ r. inr (pairs_head ComesBefore w ys (pairs_right ComesBefore xs (w ∷ ys) whole_up) a r))
      (Contains-append_cases xs ys a (subst (λ (zs : List Near). Contains zs a) without h))

  in_old : (a : Near) → Contains mid a → Contains old a
  in_old a h = subst (λ (zs : List Near). Contains zs a) (sym is) (⊎_elim
      (λ l. Contains-append_left xs (w ∷ ys) a l)
      (λ r. Contains-append_right xs (w ∷ ys) a (cons_tail w ys a r))
      (Contains-append_cases xs ys a (subst (λ (zs : List Near). Contains zs a) without h)))

  or_it : (a : Near) → Contains old a → Contains mid a ⊎ (w ≡ a)
  or_it a h = ⊎_elim
      (λ l. inl (subst (λ (zs : List Near). Contains zs a) (sym without) (Contains-append_left xs ys a l)))
      (λ r. ⊎_elim (λ e. inr e) (λ m. inl (subst (λ (zs : List Near). Contains zs a) (sym without) (Contains-append_right xs ys a m))) (cons_cases w ys a r))
      (Contains-append_cases xs (w ∷ ys) a (subst (λ (zs : List Near). Contains zs a) is h))

  one_fewer : length mid + 1 ≡ length old
  one_fewer =
      let a = ap length is ∙ length-append xs (w ∷ ys) in
      let b = ap length without ∙ length-append xs ys in
      let c : length (w ∷ ys) ≡ length ys + 1 = omega arith in
      omega (arith, a, b, c)

  it_there : Contains old w
  it_there = subst (λ (zs : List Near). Contains zs w) (sym is) (Contains-append_right xs (w ∷ ys) w (cons_head w ys))

-- two of one number can't stand behind each other
no_two : (k : ℕ) (entries found : List Near) (a b : Near) → IsNearest k entries found → Contains found a → Contains found b → a.doc ≡ b.doc → ComesBefore a b
    → ⊥
no_two k entries found a b was h g e before =
    let l = was.least b a g (was.among a h) e in
    let lt = before.tie l in
    omega arith

pub improve_few : (k : ℕ) (entries old mid new : List Near) (n : Near) (p : ℕ) → IsNearest k entries old → p < length old → (get_or old p n).doc ≡ n.doc
    → n.dist2 < (get_or old p n).dist2 → Leads k old n
    → mid ≡ take p old ++ drop (p + 1) old → IsInsertedAmong n mid new → IsNearest k (n ∷ entries) new
improve_few k entries old mid new n p was lt e nearer lead without put =
    let w : Near = get_or old p n in
    let is : old ≡ take p old ++ w ∷ drop (p + 1) old = parted old p n lt in
    let there : Contains old w = Contains-get_or old p n lt in
    let few = was.few in
    let fewer : length mid + 1 ≡ length old = one_fewer old mid w (take p old) (drop (p + 1) old) was.rises is without in
    let sub : (a : Near) → Contains mid a → Contains old a = in_old old mid w (take p old) (drop (p + 1) old) was.rises is without in
    let some : 1 ≤ k = omega arith in
    put_nearest k entries old mid new n was (left_up old mid w (take p old) (drop (p + 1) old) was.rises is without) put
    (λ a h f. ⊎_elim (no_two k entries old a w was (sub a h) there (sym (e ∙ f))) (no_two k entries old w a was there (sub a h) (e ∙ f))
    (sides old mid w (take p old) (drop (p + 1) old) was.rises is without a h))
    sub
    (omega arith)
    (first_of_number k entries old n was some lead (λ a h f. let l = was.least w a there (was.among a h) (f ∙ sym e) in omega (arith, l, nearer)))
    (λ a h.
    ⊎_elim (λ m. inl m) (λ f. inr (inl (sym e ∙ ap (λ (y : Near). y.doc) f))) (or_it old mid w (take p old) (drop (p + 1) old) was.rises is without a h))
    (λ f. omega arith)
    (λ x f all. leads_all k old n x some lead f all)

pub replace_few : (k : ℕ) (entries old mid new : List Near) (n : Near) → 1 ≤ k → IsNearest k entries old → All (λ a. a.doc ≢ n.doc) old → k ≤ length old
    → Leads k old n
    → mid ≡ take (length old - 1) old → IsInsertedAmong n mid new → IsNearest k (n ∷ entries) new
replace_few k entries old mid new n some was none full lead cut put =
    let w : Near = last_of old n in
    let p : ℕ = length old - 1 in
    let lt : p < length old = omega arith in
    let nothing : drop (p + 1) old ≡ [] = drop_all (p + 1) old (omega arith) in
    let is : old ≡ take p old ++ w ∷ [] = parted old p n lt ∙ ap (λ (zs : List Near). take p old ++ w ∷ zs) nothing in
    let without : mid ≡ take p old ++ [] = cut ∙ sym (append-nil (take p old)) in
    let few = was.few in
    let fewer : length mid + 1 ≡ length old = one_fewer old mid w (take p old) [] was.rises is without in
    let sub : (a : Near) → Contains mid a → Contains old a = in_old old mid w (take p old) [] was.rises is without in
    put_nearest k entries old mid new n was (left_up old mid w (take p old) [] was.rises is without) put
    (λ a h f. All-contains (λ x. x.doc ≢ n.doc) old a none (sub a h) (sym f))
    sub
    (omega arith)
    (first_of_number k entries old n was some lead (λ a h f. absurd (All-contains (λ x. x.doc ≢ n.doc) old a none h f)))
    (λ a h. ⊎_elim (λ m. inl m)
    (λ f. inr (inr (omega arith, subst (ComesBefore n) f (before_from_less n w (lead full)), λ b m. subst (ComesBefore b) f (behind_last b m is))))
    (or_it old mid w (take p old) [] was.rises is without a h))
    (λ f. omega arith)
    (λ x f all. leads_all k old n x some lead f all)
  where
    behind_last : (b : Near) → Contains mid b → old ≡ take (length old - 1) old ++ last_of old n ∷ [] → ComesBefore b (last_of old n)
    behind_last b m is =
        pairs_across ComesBefore (take (length old - 1) old) (last_of old n ∷ []) (subst (AllPairs ComesBefore) is was.rises) b (last_of old n)
        (subst (λ (zs : List Near). Contains zs b) cut m) (cons_head (last_of old n) [])

-- an element read by another default
pub same_place : (xs : List Near) (p : ℕ) (a d : Near) → p < length xs → a ≡ get_or xs p a → a ≡ get_or xs p d
same_place xs p a d lt e = e ∙ get_or_default xs p a d lt

pub less_from_lt : (o : Ordering) → is_lt o ≡ true → o ≡ Less
less_from_lt Less h = refl
less_from_lt Equal h = cc
less_from_lt Greater h = cc
