-- Of the entries of documents there are always those nearest to a point: the first of the documents in order.
use Rattle.std.proofs.Common.{◌≡◌, ℕ, zero, suc, ◌<◌, ◌≤◌, List, [], ◌∷◌, length, map, take, refl, sym, ap, subst, ◌∙◌, ◌⊎◌, inl, inr, ⊎_elim, arith, Less, ℤ}
use Rattle.std.specs.List.{All, AllPairs, Contains}
use Rattle.std.specs.Ordering.{nat_cmp, ordering_then}
use Rattle.std.proofs.lemmas.Bool.Decides.{nat_tests}
use Rattle.std.proofs.lemmas.List.{length-map, length-take}
use Rattle.std.proofs.lemmas.List.Elements.{All-contains_itself, All-weaker}
use Rattle.std.proofs.lemmas.List.Kept.{AllPairs-cons}
use Rattle.point_codec.specs.Points.{Item, dist2}
use Rattle.point_codec.specs.Order.{in_order}
use Rattle.point_codec.specs.declared.entries.Near.{Near}
use Rattle.documents.specs.Documents.{Document}
use Rattle.documents.specs.Entries.{AreDocs, entry_of}
use Rattle.documents.specs.Nearest.{distance, distances, found_of, nearer, nearest}
use Rattle.documents.specs.NearestEntries.{ComesBefore, HasNumber, IsNearest, near_of, nears_of}
use Rattle.documents.proofs.InOrder.{in_order_ascends, in_order_has, in_order_of}
use Rattle.documents.proofs.Lists.{cons_cases, cons_head, cons_tail, in_map, nil_none, of_map, pairs_head, pairs_map, pairs_none, pairs_tail}
use Rattle.documents.proofs.Members.{doc_of, has_entry_in, one_number, some_point}
use Rattle.documents.proofs.NearestDocs.{distance_le, distance_reached}
use Rattle.documents.proofs.Ranking.{nearer_exact, nearer_total}

-- ---- the first of a list in order

of_take : {X : Type 0} (k : ℕ) (xs : List X) (y : X) → Contains (take k xs) y → Contains xs y
of_take zero xs y h = nil_none y _ h
of_take (suc k) [] y h = nil_none y _ h
of_take (suc k) (x ∷ xs) y h =
    ⊎_elim (λ here. subst (Contains (x ∷ xs)) here (cons_head x xs)) (λ later. cons_tail x xs y (of_take k xs y later)) (cons_cases x (take k xs) y h)

pairs_take : {X : Type 0} (R : X → X → Type 0) (k : ℕ) (xs : List X) → AllPairs R xs → AllPairs R (take k xs)
pairs_take R zero xs up = pairs_none R
pairs_take R (suc k) [] up = pairs_none R
pairs_take R (suc k) (x ∷ xs) up =
    AllPairs-cons R x (take k xs)
    (All-weaker (Contains (take k xs)) (R x) (λ y h. pairs_head R x xs up y (of_take k xs y h)) (take k xs) (All-contains_itself (take k xs)))
    (pairs_take R k xs (pairs_tail R x xs up))

-- what is not among the first comes after all of them
first_or_after : {X : Type 0} (R : X → X → Type 0) (k : ℕ) (xs : List X) (y : X) → AllPairs R xs → Contains xs y
    → Contains (take k xs) y ⊎ ((k ≤ length xs) × ((z : X) → Contains (take k xs) z → R z y))
first_or_after R zero xs y up h = inr (omega arith, λ z k. nil_none z _ k)
first_or_after R (suc k) [] y up h = nil_none y _ h
first_or_after R (suc k) (x ∷ xs) y up h = ⊎_elim
    (λ here. inl (subst (Contains (x ∷ take k xs)) here (cons_head x (take k xs))))
    (λ later. ⊎_elim
    (λ first. inl (cons_tail x (take k xs) y first))
    (λ after. inr (
      omega (arith, after.0),
      λ z g. ⊎_elim
          (λ here. subst (λ w. R w y) here (pairs_head R x xs up y later))
          (λ there. after.1 z there)
          (cons_cases x (take k xs) z g),
    ))
    (first_or_after R k xs y (pairs_tail R x xs up) later))
    (cons_cases x xs y h)

-- ---- documents as what is found

abbrev pub near_at : ℕ × ℕ → Near
near_at p = record { dist2 = p.0; doc = p.1 }

abbrev Nearer : ℕ × ℕ → ℕ × ℕ → Type 0
Nearer a b = nearer a b ≡ Less

parts_of : (m n p q : ℕ) → ordering_then (nat_cmp m n) (nat_cmp p q) ≡ Less → (m ≤ n) × (n ≤ m → p < q)
parts_of m n p q h = (grind (arith, nat_tests), λ le. grind (arith, nat_tests))

comes_from : (a b : ℕ × ℕ) → Nearer a b → ComesBefore (near_at a) (near_at b)
comes_from a b h = let parts = parts_of a.0 b.0 a.1 b.1 h in record { near = parts.0; tie = parts.1 }

module _ (n k : ℕ) (xs : List Item) (docs : List Document) (at : List ℤ) (are : AreDocs n xs docs) where
  abbrev far_of : Document → ℕ × ℕ
  far_of d = (distance at d.points, d.number)

  abbrev order : List (ℕ × ℕ)
  order = in_order nearer (distances at docs)

  up : AllPairs Nearer order
  up = in_order_ascends nearer nearer_total nearer_exact (distances at docs)

  abbrev pub there : List Near
  there = map near_at (nearest k at docs)

  -- what is found is a document with its distance
  found_doc : (a : Near) → Contains there a → (d : Document) × Contains docs d × (near_at (far_of d) ≡ a)
  found_doc a h =
      let p = of_map near_at (take k order) a h in
      let d = of_map far_of docs p.0 (in_order_of nearer nearer_total nearer_exact (distances at docs) p.0 (of_take k order p.0 p.1)) in
      (d.0, d.1, ap near_at d.2 ∙ p.2)

  -- the document of an entry
  entry_doc : (x : Near) → Contains (nears_of at xs) x → (d : Document) × Contains docs d × (d.number ≡ x.doc) × (distance at d.points ≤ x.dist2)
  entry_doc x h =
      let item = of_map (near_of at) xs x h in
      let doc = doc_of n xs docs are item.0 item.1 in
      let over = distance_le at doc.0.points item.0.at doc.3 in
      let far : dist2 item.0.at at ≡ x.dist2 = ap (λ (m : Near). m.dist2) item.2 in
      (doc.0, doc.1, doc.2 ∙ ap (λ (m : Near). m.doc) item.2, omega (arith, over, far))

  among_entries : (d : Document) → Contains docs d → Contains (nears_of at xs) (near_at (far_of d))
  among_entries d h =
      let some = some_point n xs docs are d h in
      let q = distance_reached at d.points some.0 some.1 in
      subst (Contains (nears_of at xs)) (λ i. record { dist2 = q.2 i; doc = d.number })
      (in_map (near_of at) xs (entry_of d.number q.0) (has_entry_in n xs docs are d q.0 h q.1))

  least : (a x : Near) → Contains there a → Contains (nears_of at xs) x → x.doc ≡ a.doc → a.dist2 ≤ x.dist2
  least a x h m same =
      let d = found_doc a h in
      let e = entry_doc x m in
      let one : e.0 ≡ d.0 = one_number docs e.0 d.0 are.ascend e.1 d.1 (e.2 ∙ same ∙ sym (ap (λ (z : Near). z.doc) d.2)) in
      let far : distance at d.0.points ≡ a.dist2 = ap (λ (z : Near). z.dist2) d.2 in
      let near : distance at e.0.points ≡ distance at d.0.points = ap (λ (z : Document). distance at z.points) one in
      let under = e.3 in
      omega (arith, far, near, under)

  over : (a x : Near) (d : Document) → ComesBefore a (near_at (far_of d)) → d.number ≡ x.doc → distance at d.points ≤ x.dist2 → ComesBefore a x
  over a x d before same far = record {
    near = let near = before.near in omega (arith, near, far);
    tie = λ le.
        let near = before.near in
        let back : distance at d.points ≤ a.dist2 = omega (arith, far, le) in
        let lt = before.tie back in
        omega (arith, lt, same);
  }

  left_out : (x : Near) → Contains (nears_of at xs) x → HasNumber there x.doc ⊎ ((length there ≡ k) × All (λ a. ComesBefore a x) there)
  left_out x m =
      let e = entry_doc x m in
      ⊎_elim
      (λ first. inl (near_at (far_of e.0), in_map near_at (take k order) (far_of e.0) first, e.2))
      (λ after. inr (
        let long = length-map (take k order) near_at in let cut = length-take k order in let most = after.0 in omega (arith, long, cut, most),
        All-weaker (Contains there) (λ a. ComesBefore a x)
            (λ a h. let p = of_map near_at (take k order) a h in
            subst (λ (z : Near). ComesBefore z x) p.2 (over (near_at p.0) x e.0 (comes_from p.0 (far_of e.0) (after.1 p.0 p.1)) e.2 e.3))
            there (All-contains_itself there),
      ))
      (first_or_after Nearer k order (far_of e.0) up
      (in_order_has nearer nearer_total nearer_exact (distances at docs) (far_of e.0) (in_map far_of docs e.0 e.1)))

  pub are_nearest : IsNearest k (nears_of at xs) there
  are_nearest = record {
    rises = pairs_map ComesBefore near_at (take k order) (λ i j d h l. comes_from _ _ (pairs_take Nearer k order up i j d h l));
    among = λ a h. let d = found_doc a h in subst (Contains (nears_of at xs)) d.2 (among_entries d.0 d.1);
    least = least;
    few = let long = length-map (take k order) near_at in let cut = length-take k order in omega (arith, long, cut);
    left_out = left_out;
  }

  pairs_back : (ps : List (ℕ × ℕ)) → found_of (map near_at ps) ≡ ps
  pairs_back [] = refl
  pairs_back (p ∷ ps) = ap (λ qs. p ∷ qs) (pairs_back ps)

  pub there_found : found_of there ≡ nearest k at docs
  there_found = pairs_back (nearest k at docs)
