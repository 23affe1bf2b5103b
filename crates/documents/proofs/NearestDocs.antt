-- The numbers nearest among the entries are the nearest documents.
use Rattle.std.proofs.Common.{◌≡◌, ℕ, ◌<◌, ◌≤◌, List, [], ◌∷◌, length, map, fold, min, refl, sym, ap, subst, ◌∙◌, ◌⊎◌, inl, inr, ⊎_elim, arith, Less, ℤ}
use Rattle.std.specs.List.{All, Contains}
use Rattle.std.specs.Ordering.{nat_cmp, ordering_then}
use Rattle.std.specs.Cmp.{tied_itself}
use Rattle.std.proofs.lemmas.Bool.{cases_lt}
use Rattle.std.proofs.lemmas.Bool.Decides.{nat_tests}
use Rattle.std.proofs.lemmas.List.{length-map}
use Rattle.std.proofs.lemmas.List.Elements.{All-contains}
use Rattle.point_codec.specs.Points.{Item, dist2}
use Rattle.point_codec.specs.Order.{in_order}
use Rattle.point_codec.specs.declared.entries.Near.{Near}
use Rattle.documents.specs.Documents.{Document}
use Rattle.documents.specs.Entries.{AreDocs, entry_of}
use Rattle.documents.specs.Nearest.{distance, distances, nearer, nearest, found_of}
use Rattle.documents.specs.NearestEntries.{ComesBefore, IsNearest, near_of, nears_of}
use Rattle.documents.proofs.InOrder.{in_order_ascends, in_order_has, in_order_of}
use Rattle.documents.proofs.Lists.{cons_cases, cons_head, cons_tail, first_ones, in_map, nil_none, of_map, pairs_map}
use Rattle.documents.proofs.Members.{doc_of, has_entry_in, one_number, some_point}
use Rattle.documents.proofs.Ranking.{nearer_total, nearer_exact}

-- ---- the least of some numbers

least_le : (a : ℕ) (xs : List ℕ) → (fold min a xs ≤ a) × ((x : ℕ) → Contains xs x → fold min a xs ≤ x)
least_le a [] = (omega arith, λ x h. nil_none x _ h)
least_le a (y ∷ ys) =
    let rest = least_le (min a y) ys in
    let le = rest.0 in (
      omega (arith, le),
      λ x h. ⊎_elim (λ e. omega (arith, le, e)) (λ k. rest.1 x k) (cons_cases y ys x h),
    )

least_reached : (a : ℕ) (xs : List ℕ) → (fold min a xs ≡ a) ⊎ Contains xs (fold min a xs)
least_reached a [] = inl refl
least_reached a (y ∷ ys) = ⊎_elim
    (λ e. ⊎_elim
    (λ lt. inr (subst (λ z. Contains (y ∷ ys) z) (let same : y ≡ fold min (min a y) ys = omega (arith, e, lt) in same) (cons_head y ys)))
    (λ le. inl (omega (arith, e, le)))
    (cases_lt y a))
    (λ k. inr (cons_tail y ys (fold min (min a y) ys) k))
    (least_reached (min a y) ys)

pub distance_le : (at : List ℤ) (ps : List (List ℤ)) (q : List ℤ) → Contains ps q → distance at ps ≤ dist2 q at
distance_le at [] q h = nil_none q _ h
distance_le at (p ∷ ps) q h =
    let least = least_le (dist2 p at) (map (λ r. dist2 r at) ps) in
    ⊎_elim
    (λ e. subst (λ r. distance at (p ∷ ps) ≤ dist2 r at) e least.0)
    (λ k. least.1 (dist2 q at) (in_map (λ r. dist2 r at) ps q k))
    (cons_cases p ps q h)

pub distance_reached : (at : List ℤ) (ps : List (List ℤ)) (p : List ℤ) → Contains ps p → (q : List ℤ) × Contains ps q × (dist2 q at ≡ distance at ps)
distance_reached at [] p h = nil_none p _ h
distance_reached at (p ∷ ps) q h = ⊎_elim
    (λ e. (p, cons_head p ps, sym e))
    (λ k. let r = of_map (λ r. dist2 r at) ps (distance at (p ∷ ps)) k in (r.0, cons_tail p ps r.0 r.1, r.2))
    (least_reached (dist2 p at) (map (λ r. dist2 r at) ps))

-- ---- found numbers and documents

abbrev pair_of : Near → ℕ × ℕ
pair_of a = (a.dist2, a.doc)

abbrev Nearer : ℕ × ℕ → ℕ × ℕ → Type 0
Nearer a b = nearer a b ≡ Less

parts_less : (m n p q : ℕ) → m ≤ n → (n ≤ m → p < q) → ordering_then (nat_cmp m n) (nat_cmp p q) ≡ Less
parts_less m n p q h k = grind (arith, nat_tests)

nearer_from : (a b : Near) → ComesBefore a b → Nearer (pair_of a) (pair_of b)
nearer_from a b h = parts_less a.dist2 b.dist2 a.doc b.doc h.near h.tie

never_nearer : (a : ℕ × ℕ) → Nearer a a → ⊥
never_nearer a h = let tied = tied_itself nearer_total a in cc

module _ (n k : ℕ) (xs : List Item) (docs : List Document) (at : List ℤ) (found : List Near) (are : AreDocs n xs docs)
    (is : IsNearest k (nears_of at xs) found) where
  abbrev far_of : Document → ℕ × ℕ
  far_of d = (distance at d.points, d.number)

  same_pair : (a : Near) (d : Document) → d.number ≡ a.doc → distance at d.points ≡ a.dist2 → far_of d ≡ pair_of a
  same_pair a d e f = λ i. (f i, e i)

  -- the entry of a document that is nearest
  nearest_entry : (d : Document) → Contains docs d
      → (x : Item) × Contains (nears_of at xs) (near_of at x) × (x.doc ≡ d.number) × (dist2 x.at at ≡ distance at d.points)
  nearest_entry d h =
      let some = some_point n xs docs are d h in
      let q = distance_reached at d.points some.0 some.1 in
      let x : Item = entry_of d.number q.0 in
      (x, in_map (near_of at) xs x (has_entry_in n xs docs are d q.0 h q.1), refl, q.2)

  -- what is found is a document with its distance
  found_doc : (a : Near) → Contains found a → (d : Document) × Contains docs d × (d.number ≡ a.doc) × (distance at d.points ≡ a.dist2)
  found_doc a h =
      let x = of_map (near_of at) xs a (is.among a h) in
      let doc = doc_of n xs docs are x.0 x.1 in
      let number : doc.0.number ≡ a.doc = doc.2 ∙ ap (λ (m : Near). m.doc) x.2 in
      let over = distance_le at doc.0.points x.0.at doc.3 in
      let far : dist2 x.0.at at ≡ a.dist2 = ap (λ (m : Near). m.dist2) x.2 in
      let y = nearest_entry doc.0 doc.1 in
      let under = is.least a (near_of at y.0) h y.1 (y.2 ∙ number) in
      let near = y.3 in
      (doc.0, doc.1, number, omega (arith, over, far, under, near))

  sub : (p : ℕ × ℕ) → Contains (found_of found) p → Contains (in_order nearer (distances at docs)) p
  sub p h = let a = of_map pair_of found p h in let doc = found_doc a.0 a.1 in with_doc a.0 doc.0 doc.1 (same_pair a.0 doc.0 doc.2 doc.3) a.2
    where
      with_doc : (a : Near) (d : Document) → Contains docs d → far_of d ≡ pair_of a → pair_of a ≡ p → Contains (in_order nearer (distances at docs)) p
      with_doc a d k e f =
          in_order_has nearer nearer_total nearer_exact (distances at docs) p (subst (λ q. Contains (distances at docs) q) (e ∙ f) (in_map far_of docs d k))

  -- it is found, or comes after k found ones
  abbrev FoundOrAfter : ℕ × ℕ → Type 0
  FoundOrAfter p = Contains (found_of found) p ⊎ ((length (found_of found) ≡ k) × ((b : ℕ × ℕ) → Contains (found_of found) b → Nearer b p))

  found_or_after : (d : Document) (x : Item) → Contains docs d → Contains (nears_of at xs) (near_of at x) → x.doc ≡ d.number → far_of d ≡ pair_of (near_of at x)
      → FoundOrAfter (far_of d)
  found_or_after d x h near number far = ⊎_elim
      (λ m. let other = found_doc m.0 m.1 in inl (this m.0 other.0 m.1 other.1 (other.2 ∙ m.2 ∙ number) (same_pair m.0 other.0 other.2 other.3)))
      (λ out. inr (length-map found pair_of ∙ out.0, λ b m. let a = of_map pair_of found b m in after a.0 b out.1 a.1 a.2))
      (is.left_out (near_of at x) near)
    where
      this : (a : Near) (e : Document) → Contains found a → Contains docs e → e.number ≡ d.number → far_of e ≡ pair_of a → Contains (found_of found) (far_of d)
      this a e m l same is_it =
          subst (λ (q : ℕ × ℕ). Contains (found_of found) q) (sym is_it ∙ ap far_of (one_number docs e d are.ascend l h same)) (in_map pair_of found a m)

      after : (a : Near) (b : ℕ × ℕ) → All (λ c. ComesBefore c (near_of at x)) found → Contains found a → pair_of a ≡ b → Nearer b (far_of d)
      after a b all m e =
          let less : Nearer (pair_of a) (pair_of (near_of at x)) =
          nearer_from a (near_of at x) (All-contains (λ (c : Near). ComesBefore c (near_of at x)) found a all m) in
          subst (λ (q : ℕ × ℕ). Nearer q (far_of d)) e (subst (λ (q : ℕ × ℕ). Nearer (pair_of a) q) (sym far) less)

  left : (p : ℕ × ℕ) → Contains (in_order nearer (distances at docs)) p → FoundOrAfter p
  left p h =
      let doc = of_map far_of docs p (in_order_of nearer nearer_total nearer_exact (distances at docs) p h) in
      let x = nearest_entry doc.0 doc.1 in
      subst FoundOrAfter doc.2 (found_or_after doc.0 x.0 doc.1 x.1 x.2 (same_pair (near_of at x.0) doc.0 (sym x.2) (sym x.3)))

  pub nearest_are : found_of found ≡ nearest k at docs
  nearest_are =
      first_ones Nearer never_nearer nearer_total.trans k (found_of found) (in_order nearer (distances at docs))
      (pairs_map Nearer pair_of found (λ i j d h l. nearer_from _ _ (is.rises i j d h l)))
      (in_order_ascends nearer nearer_total nearer_exact (distances at docs))
      sub
      (let few = is.few in let long = length-map found pair_of in omega (arith, few, long))
      left
