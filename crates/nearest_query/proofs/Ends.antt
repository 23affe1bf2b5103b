-- Where a search ends: those that were found are then the nearest of all.
use Rattle.std.proofs.Common.{◌≡◌, ℕ, ◌≤◌, ◌<◌, Bool, true, false, ◌&&◌, cond, eqb, List, [], ◌∷◌, length}
use Rattle.std.proofs.Common.{get_or, Option, Some, None, refl, sym, ap, subst, ◌∙◌, inl, inr, ⊎_elim, arith}
use Rattle.std.proofs.lemmas.Bool.Decides.{nat_tests}
use Rattle.std.proofs.lemmas.Map.Views.{exact_unsigned_eq}
use Rattle.std.proofs.lemmas.List.Sums.{sum_by-cons, get_or-le-sum_by}
use Rattle.std.proofs.lemmas.List.Elements.{All-cons, All-head, All-tail, All-contains}
use Rattle.std.specs.List.{sum_by, All, AllPairs, Contains}
use Rattle.std.specs.Prelude.{nat_lt, nat_le}
use Rattle.point_codec.specs.declared.entries.Near.{Near}
use Rattle.inner_pack.specs.declared.node.NodeAt.{NodeAt}
use Rattle.nearest_query.specs.declared.candidates.Candidates.{Candidates}
use Rattle.nearest_query.specs.declared.frontier.Waiting.{Waiting}
use Rattle.documents.specs.NearestEntries.{ComesBefore, IsNearest}
use Rattle.nearest_query.specs.Best.{found_of}
use Rattle.nearest_query.specs.Segments.{is_within, bound_of, last_of}
use Rattle.nearest_query.specs.Fronts.{leaf_sum, sum_below}
use Rattle.nearest_query.specs.Search.{World, IsNode, IsSought, nears_at}
use Rattle.nearest_query.proofs.Order.{same_near}
use Rattle.nearest_query.proofs.Links.{by_test}
use Rattle.nearest_query.proofs.Distances.{zero_node}
use Rattle.nearest_query.proofs.Unique.{pairs_head, pairs_tail, nearest_unique, nearest_wider, nearest_narrower}
use Rattle.documents.proofs.Lists.{cons_cases, cons_tail, nil_none, cons_head}

-- ---- membership by totals

abbrev is_same : Near → Near → Bool
is_same x y = eqb x.dist2 y.dist2 && eqb x.doc y.doc

abbrev one_if : Near → Near → ℕ
one_if x y = cond (is_same x y) 1 0

same_itself : (x : Near) → is_same x x ≡ true
same_itself x = grind (arith, nat_tests)

same_is : (x y : Near) → is_same x y ≡ true → x ≡ y
same_is x y h =
    let p = both (eqb x.dist2 y.dist2) (eqb x.doc y.doc) h in
    same_near x y (exact_unsigned_eq x.dist2 y.dist2 p.0) (exact_unsigned_eq x.doc y.doc p.1)
  where
    both : (a b : Bool) → (a && b) ≡ true → (a ≡ true) × (b ≡ true)
    both true b h = (refl, h)
    both false b h = cc

counts_some : (x : Near) (xs : List Near) → Contains xs x → 1 ≤ sum_by (one_if x) xs
counts_some x xs (k, h, e) =
    let l = get_or-le-sum_by (one_if x) xs k x h in
    let o : one_if x (get_or xs k x) ≡ 1 = ap (λ y. one_if x y) e ∙ ap (λ b. cond b 1 0) (same_itself x) in
    omega (arith, l, o)

some_counted : (x : Near) (xs : List Near) → 1 ≤ sum_by (one_if x) xs → Contains xs x
some_counted x [] h = absurd (omega arith)
some_counted x (y ∷ ys) h = by_test _ (is_same x y)
    (λ s. subst (λ z. Contains (y ∷ ys) z) (sym (same_is x y s)) (cons_head y ys))
    (λ o.
    let c = sum_by-cons (one_if x) y ys in
    let z : one_if x y ≡ 0 = ap (λ b. cond b 1 0) o in
    cons_tail y ys x (some_counted x ys (omega (arith, c, z, h))))

-- ---- the nodes that wait are far

zero_waiting : {D : ℕ} (w : World) (d : ℕ) (f : Near → ℕ) → ((y : Near) → d ≤ y.dist2 → f y ≡ 0) → (nodes : List (NodeAt D)) (waiting : List Waiting)
    → All (IsNode D w nodes) waiting → All (λ t. d ≤ t.dist2.0) waiting
    → sum_by (sum_below (λ i n. sum_by f (nears_at w i n))) waiting ≡ 0
zero_waiting w d f none nodes [] all far = refl
zero_waiting {D} w d f none nodes (t ∷ ts) all far =
    let n = All-head (IsNode D w nodes) t ts all in
    let h = All-head (λ u. d ≤ u.dist2.0) t ts far in
    let e = n.dist in
    let z = zero_node f d none D w t.segment t.first n.spot n.path n.tree n.dims n.dims_too n.cells n.leaves (omega (arith, h, e)) in
    let s : sum_below (λ i k. sum_by f (nears_at w i k)) t ≡ 0 = ap (λ k. leaf_sum (λ i j. sum_by f (nears_at w i j)) t.segment t.first k) n.count ∙ z in
    let r = zero_waiting w d f none nodes ts (All-tail (IsNode D w nodes) t ts all) (All-tail (λ u. d ≤ u.dist2.0) t ts far) in
    let c = sum_by-cons (sum_below (λ i k. sum_by f (nears_at w i k))) t ts in
    omega (arith, s, r, c)

-- the last is the farthest
last_greatest : (ns : List Near) (b : ℕ) → AllPairs ComesBefore ns → last_of ns ≡ Some b → (a : Near) → Contains ns a → a.dist2 ≤ b
last_greatest [] b up e a h = cc
last_greatest (n ∷ []) b up e a h =
    ⊎_elim (λ same. let d : n.dist2 ≡ a.dist2 = ap (λ y. y.dist2) same in let f : n.dist2 ≡ b = cc in omega (arith, d, f)) (λ k. nil_none a _ k)
    (cons_cases n [] a h)
last_greatest (n ∷ (m ∷ ns)) b up e a h =
    let rest = last_greatest (m ∷ ns) b (pairs_tail ComesBefore n (m ∷ ns) up) e in
    ⊎_elim
    (λ same.
    let d : n.dist2 ≡ a.dist2 = ap (λ y. y.dist2) same in
    let f = (pairs_head ComesBefore n (m ∷ ns) up m (cons_head m ns)).near in
    let l = rest m (cons_head m ns) in omega (arith, d, f, l))
    (λ k. rest a k)
    (cons_cases n (m ∷ ns) a h)

module _ {D : ℕ} (w : World) (all : List Near) (waiting : List Waiting) (nodes : List (NodeAt D)) (found : Candidates)
    (s : IsSought D w all waiting nodes found) where
  pub seen_in : (x : Near) → Contains s.seen x → Contains all x
  seen_in x h = let c = counts_some x s.seen h in let t = s.totals (one_if x) in some_counted x all (omega (arith, c, t))

  -- what is nearer than all that wait was seen
  pub near_seen : (d : ℕ) → All (λ t. d ≤ t.dist2.0) waiting → (x : Near) → Contains all x → x.dist2 < d → Contains s.seen x
  near_seen d far x h lt =
      let c = counts_some x all h in
      let t = s.totals (one_if x) in
      let z = zero_waiting w d (one_if x) (λ y le. ap (λ b. cond b 1 0) (other y le)) nodes waiting s.nodes_are far in
      some_counted x s.seen (omega (arith, c, t, z))
    where
      other : (y : Near) → d ≤ y.dist2 → is_same x y ≡ false
      other y le =
          by_test _ (is_same x y) (λ e. let p = same_is x y e in let q : x.dist2 ≡ y.dist2 = ap (λ z. z.dist2) p in absurd (omega (arith, q, le, lt))) (λ e. e)

  pub stop_nearest : (d : ℕ) → All (λ t. d ≤ t.dist2.0) waiting → found.many.room ≤ length (found_of found) → All (λ a. a.dist2 < d) (found_of found)
      → IsNearest found.many.room all (found_of found)
  stop_nearest d far full before = nearest_wider found.many.room s.seen all (found_of found) s.best.nearest seen_in
      (λ x h. by_test _ (nat_lt x.dist2 d)
      (λ lt. inl (near_seen d far x h (grind (arith, nat_tests))))
      (λ ge. inr (
        let few = s.best.nearest.few in omega (arith, few, full),
        λ a m. let l = All-contains (λ b. b.dist2 < d) (found_of found) a before m in let g : d ≤ x.dist2 = grind (arith, nat_tests) in omega (arith, l, g),
      )))

  pub end_nearest : waiting ≡ [] → IsNearest found.many.room all (found_of found)
  end_nearest e = nearest_wider found.many.room s.seen all (found_of found) s.best.nearest seen_in
      (λ x h. inl (let c = counts_some x all h in
      let t = s.totals (one_if x) in
      let z : sum_by (sum_below (λ i n. sum_by (one_if x) (nears_at w i n))) waiting ≡ 0 =
      ap (λ ts. sum_by (sum_below (λ i n. sum_by (one_if x) (nears_at w i n))) ts) e in some_counted x s.seen (omega (arith, c, t, z))))

  last_within : (d : ℕ) (nearest : List Near) → All (λ t. d ≤ t.dist2.0) waiting → IsNearest found.many.room all nearest
      → (found.many.room ≤ length (found_of found) → (a : Near) × Contains (found_of found) a × (d ≤ a.dist2))
      → nat_lt (length nearest) found.many.room ≡ false → is_within (last_of nearest) d ≡ true
  last_within d nearest far is not_ended enough = within (last_of nearest) refl
    where
      length_is : nat_lt (length nearest) found.many.room ≡ false → found.many.room ≤ length nearest
      length_is h = grind (arith, nat_tests)

      too_near : (b : ℕ) → last_of nearest ≡ Some b → b < d → ⊥
      too_near b e lt =
          let narrow = nearest_narrower found.many.room s.seen all nearest is seen_in
          (λ a h. let l = last_greatest nearest b is.rises e a h in near_seen d far a (is.among a h) (omega (arith, l, lt))) in
          let same = nearest_unique found.many.room s.seen nearest (found_of found) narrow s.best.nearest in
          let after = not_ended (let l = ap length same in let m = full in omega (arith, l, m)) in
          let l = last_greatest nearest b is.rises e after.0 (subst (λ ns. Contains ns after.0) (sym same) after.1) in
          let m = after.2 in
          omega (arith, l, m, lt)
        where
          full : found.many.room ≤ length nearest
          full = length_is enough

      within : (o : Option ℕ) → last_of nearest ≡ o → is_within o d ≡ true
      within None e = refl
      within (Some b) e = by_test _ (nat_le d b) (λ h. h) (λ h. absurd (too_near b e (grind (arith, nat_tests))))

  -- where the search goes on at a node, the node is within the bound of the nearest of all
  pub goes_on : (d : ℕ) (nearest : List Near) → All (λ t. d ≤ t.dist2.0) waiting → IsNearest found.many.room all nearest
      → (found.many.room ≤ length (found_of found) → (a : Near) × Contains (found_of found) a × (d ≤ a.dist2))
      → is_within (bound_of found.many.room nearest) d ≡ true
  goes_on d nearest far is not_ended = by_test _ (nat_lt (length nearest) found.many.room)
      (λ fewer. ap (λ b. is_within (cond b None (last_of nearest)) d) fewer)
      (λ enough. ap (λ b. is_within (cond b None (last_of nearest)) d) enough ∙ last_within d nearest far is not_ended enough)

-- the next node is one of the world
pub next_node : {D : ℕ} (w : World) (all : List Near) (next : Waiting) (waiting : List Waiting) (nodes nodes' : List (NodeAt D)) (found : Candidates)
    → IsSought D w all (next ∷ waiting) nodes found → nodes' ≡ nodes → IsNode D w nodes' next
next_node {D} w all next waiting nodes nodes' found s e = subst (λ ns. IsNode D w ns next) (sym e) (All-head (IsNode D w nodes) next waiting s.nodes_are)

-- and within the bound, where the search hasn't ended
pub next_within : {D : ℕ} (w : World) (all : List Near) (next : Waiting) (waiting : List Waiting) (nodes : List (NodeAt D)) (found : Candidates)
    → IsSought D w all (next ∷ waiting) nodes found
    → (room : ℕ) (nearest : List Near) → found.many.room ≡ room → IsNearest room all nearest → All (λ t. next.dist2.0 ≤ t.dist2.0) waiting
    → (1 ≤ found.many.room → found.many.room ≤ length (found_of found) → (a : Near) × Contains (found_of found) a × (next.dist2.0 ≤ a.dist2))
    → is_within (bound_of room nearest) next.dist2.0 ≡ true
next_within w all next waiting nodes found s room nearest e is least not_ended =
    subst (λ k. is_within (bound_of k nearest) next.dist2.0 ≡ true) e
    (goes_on w all (next ∷ waiting) nodes found s next.dist2.0 nearest (All-cons (λ t. next.dist2.0 ≤ t.dist2.0) next waiting (omega arith) least)
    (subst (λ k. IsNearest k all nearest) (sym e) is) (not_ended s.best.some))
