-- Entries of a leaf offered outwards from a point's place: what is left out changes nothing.
use Rattle.std.proofs.Common.{◌≡◌, ℕ, zero, suc, ◌+◌, ◌-◌, ◌≤◌, ◌<◌, Bool, true, false, cond, List, [], ◌∷◌, length, take, drop}
use Rattle.std.proofs.Common.{get_or, ℤ, ◌-ℤ◌, pos, int_le, int_lt, unsigned_abs, Option, Some, refl, sym, ap, subst, ◌∙◌, inr, arith}
use Rattle.std.proofs.Math.Nat.{mul-le-mul}
use Rattle.std.proofs.lemmas.Int.{ints}
use Rattle.std.proofs.lemmas.List.{get_or-map, get_or-take, get_or-drop, length-take-le, length-drop, take-take}
use Rattle.std.proofs.lemmas.List.Sums.{sum_by-cons, sum_by_more, sum_by-take-drop}
use Rattle.std.proofs.lemmas.List.Elements.{All-cons, All-contains, All-head, All-nil, All-tail, All-weaker}
use Rattle.std.specs.Prelude.{IsSomeAnd}
use Rattle.std.specs.List.{sum_by, All}
use Rattle.point_codec.specs.Points.{Item, dist2, square}
use Rattle.point_codec.specs.declared.entries.Near.{Near}
use Rattle.leaf_codec.specs.Ascending.{coordinate}
use Rattle.live_bits.specs.LiveSet.{LiveSet, is_live}
use Rattle.documents.specs.NearestEntries.{ComesBefore, near_of, nears_of}
use Rattle.nearest_query.specs.declared.candidates.Candidates.{Candidates}
use Rattle.nearest_query.specs.Best.{AreBest, AreAdded, AreNearer, found_of}
use Rattle.nearest_query.specs.Parted.{AreParted, gap2}
use Rattle.nearest_query.specs.Segments.{live_items}
use Rattle.nearest_query.proofs.Added.{added_none, added_same}
use Rattle.nearest_query.proofs.Offers.{nearest_same}

-- ---- entries that change nothing

-- an entry that is farther than all of full candidates
pub far_best : (entries : List Near) (c : Candidates) (n : Near) → AreBest entries c → AreNearer n.dist2 c → AreBest (n ∷ entries) c
far_best entries c n best near = record {
  some = best.some;
  linked = best.linked;
  nearest = nearest_same c.many.room entries (found_of c) n best.nearest
      (λ a h e. let l = All-contains (λ b. b.dist2 < n.dist2) (found_of c) a near.1 h in omega (arith, l))
      (inr (
        (let few = best.nearest.few in let full = near.0 in omega (arith, few, full)),
        All-weaker (λ a. a.dist2 < n.dist2) (λ a. ComesBefore a n) (λ a l. record { near = omega (arith, l); tie = λ t. absurd (omega (arith, l, t)) })
            (found_of c) near.1,
      ));
}

pub nearer_than : (d e : ℕ) (c : Candidates) → AreNearer d c → d ≤ e → AreNearer e c
nearer_than d e c near le = (near.0, All-weaker (λ a. a.dist2 < d) (λ a. a.dist2 < e) (λ a l. omega (arith, l, le)) (found_of c) near.1)

-- the live ones of entries that are all that far
pub far_added : (at : List ℤ) (live : LiveSet) (c : Candidates) (d : ℕ) → AreNearer d c → (xs : List Item) → All (λ x. d ≤ dist2 x.at at) xs
    → (seen : List Near) → AreBest seen c → AreAdded seen (nears_of at (live_items live xs)) c
far_added at live c d near [] far seen best = added_none seen c best
far_added at live c d near (x ∷ xs) far seen best =
    by_live (is_live live x.doc) (far_added at live c d near xs (All-tail (λ y. d ≤ dist2 y.at at) x xs far) seen best)
  where
    here : AreNearer (dist2 x.at at) c
    here = nearer_than d (dist2 x.at at) c near (All-head (λ y. d ≤ dist2 y.at at) x xs far)

    by_live : (b : Bool) → AreAdded seen (nears_of at (live_items live xs)) c
        → AreAdded seen (nears_of at (cond b (x ∷ live_items live xs) (live_items live xs))) c
    by_live false was = was
    by_live true was = record {
      after = near_of at x ∷ was.after;
      best = far_best was.after c (near_of at x) was.best here;
      totals = λ f.
          let a = sum_by-cons f (near_of at x) was.after in
          let b = sum_by-cons f (near_of at x) (nears_of at (live_items live xs)) in
          let t = was.totals f in
          omega (arith, a, b, t);
    }

-- one that is that far, live or dead
pub one_far : (at : List ℤ) (live : LiveSet) (c : Candidates) (d : ℕ) (x : Item) → d ≡ dist2 x.at at → AreNearer d c
    → (seen : List Near) → AreBest seen c → AreAdded seen (nears_of at (live_items live (x ∷ []))) c
one_far at live c d x is near seen best =
    far_added at live c d near (x ∷ []) (All-cons (λ y. d ≤ dist2 y.at at) x [] (omega (arith, is)) (All-nil (λ y. d ≤ dist2 y.at at))) seen best

-- ---- one after another

pub added_both : (seen entries more whole : List Near) (c d : Candidates) (first : AreAdded seen entries c) → AreAdded first.after more d
    → ((f : Near → ℕ) → sum_by f whole ≡ sum_by f entries + sum_by f more) → AreAdded seen whole d
added_both seen entries more whole c d first next total = record {
  after = next.after;
  best = next.best;
  totals = λ f. let a = first.totals f in let b = next.totals f in let t = total f in omega (arith, a, b, t);
}

pub one_dead : (at : List ℤ) (live : LiveSet) (x : Item) (seen : List Near) (c : Candidates) → is_live live x.doc ≡ false → AreBest seen c
    → AreAdded seen (nears_of at (live_items live (x ∷ []))) c
one_dead at live x seen c dead best = added_same seen [] _ c (added_none seen c best) (ap (λ b. nears_of at (cond b (x ∷ []) [])) dead)

pub one_live : (at : List ℤ) (live : LiveSet) (x : Item) (n : Near) (seen : List Near) (c : Candidates) → is_live live x.doc ≡ true → n ≡ near_of at x
    → AreBest (n ∷ seen) c
    → AreAdded seen (nears_of at (live_items live (x ∷ []))) c
one_live at live x n seen c alive is best =
    added_same seen (n ∷ []) _ c
    (record { after = n ∷ seen; best = best; totals = λ f. let a = sum_by-cons f n seen in let b = sum_by-cons f n [] in omega (arith, a, b) })
    (ap (λ b. nears_of at (cond b (x ∷ []) [])) alive ∙ ap (λ y. y ∷ []) (sym is))

-- what is known of the entry that is there
pub said_of : (P : Item → Type 0) (o : Option Item) (x : Item) → o ≡ Some x → IsSomeAnd o P → P x
said_of P o x is h = subst (λ p. IsSomeAnd p P) is h

-- ---- sums over the live ones of parts of a list

module _ (at : List ℤ) (live : LiveSet) (f : Near → ℕ) where
  -- what an entry adds to the sum, 0 where its number isn't live
  abbrev part : Item → ℕ
  part x = cond (is_live live x.doc) (f (near_of at x)) 0

  -- what the entries with live numbers add to the sum
  abbrev pub live_sum : List Item → ℕ
  live_sum xs = sum_by f (nears_of at (live_items live xs))

  by_parts : (xs : List Item) → live_sum xs ≡ sum_by part xs
  by_parts [] = refl
  by_parts (x ∷ xs) = by_live (is_live live x.doc) (by_parts xs) ∙ sym (sum_by-cons part x xs)
    where
      by_live : (b : Bool) → live_sum xs ≡ sum_by part xs
          → sum_by f (nears_of at (cond b (x ∷ live_items live xs) (live_items live xs))) ≡ cond b (f (near_of at x)) 0 + sum_by part xs
      by_live true h = let c = sum_by-cons f (near_of at x) (nears_of at (live_items live xs)) in omega (arith, c, h)
      by_live false h = omega (arith, h)

  pub sum_halves : (xs : List Item) (p : ℕ) → live_sum xs ≡ live_sum (drop p xs) + live_sum (take p xs)
  sum_halves xs p =
      let a = by_parts xs in
      let b = by_parts (drop p xs) in
      let c = by_parts (take p xs) in
      let s = sum_by-take-drop part xs p in
      omega (arith, a, b, c, s)

  between : (xs : List Item) (p i : ℕ) → p ≤ i → live_sum (take p xs) + live_sum (drop p (take i xs)) ≡ live_sum (take i xs)
  between xs p i le =
      let s = sum_halves (take i xs) p in
      let t : live_sum (take p (take i xs)) ≡ live_sum (take p xs) = ap live_sum (take-take p i xs le) in
      omega (arith, s, t)

  one_more : (xs : List Item) (i : ℕ) (x : Item) → i < length xs → get_or xs i x ≡ x → live_sum (take (i + 1) xs) ≡ live_sum (take i xs) + live_sum (x ∷ [])
  one_more xs i x lt is =
      let a = by_parts (take (i + 1) xs) in
      let b = by_parts (take i xs) in
      let c = by_parts (x ∷ []) in
      let s = sum_by_more part xs i x lt in
      let e : part (get_or xs i x) ≡ part x = ap part is in
      let t = sum_by-cons part x [] in
      omega (arith, a, b, c, s, e, t)

  pub up_more : (xs : List Item) (p i : ℕ) (x : Item) → p ≤ i → i < length xs → get_or xs i x ≡ x
      → live_sum (drop p (take (i + 1) xs)) ≡ live_sum (drop p (take i xs)) + live_sum (x ∷ [])
  up_more xs p i x le lt is =
      let a = between xs p i le in
      let b = between xs p (i + 1) (omega (arith, le)) in
      let s = one_more xs i x lt is in
      omega (arith, a, b, s)

  pub up_rest : (xs : List Item) (p i : ℕ) → p ≤ i → live_sum (drop p xs) ≡ live_sum (drop p (take i xs)) + live_sum (drop i xs)
  up_rest xs p i le =
      let a = between xs p i le in
      let s = sum_halves xs p in
      let t = sum_halves xs i in
      omega (arith, a, s, t)

  pub down_more : (xs : List Item) (p i : ℕ) (x : Item) → i < p → i < length xs → get_or xs i x ≡ x
      → live_sum (drop i (take p xs)) ≡ live_sum (drop (i + 1) (take p xs)) + live_sum (x ∷ [])
  down_more xs p i x le lt is =
      let a = between xs i p (omega (arith, le)) in
      let b = between xs (i + 1) p (omega (arith, le)) in
      let s = one_more xs i x lt is in
      omega (arith, a, b, s)

  pub down_rest : (xs : List Item) (p i : ℕ) → i ≤ p → live_sum (take p xs) ≡ live_sum (drop i (take p xs)) + live_sum (take i xs)
  down_rest xs p i le = let a = between xs i p le in omega (arith, a)

-- ---- how far entries are

-- a distance is no less than the square of the gap in one dimension
gap_within : (d : ℕ) (p q : List ℤ) → d < length p → d < length q → square (get_or p d (pos 0) -ℤ get_or q d (pos 0)) ≤ dist2 p q
gap_within d [] q h k = absurd (omega arith)
gap_within d (x ∷ xs) [] h k = absurd (omega arith)
gap_within zero (x ∷ xs) (y ∷ ys) h k = omega arith
gap_within (suc d) (x ∷ xs) (y ∷ ys) h k = let r = gap_within d xs ys (omega arith) (omega arith) in omega (arith, r)

farther_above : (t x y : ℤ) → int_le t x ≡ true → int_le x y ≡ true → unsigned_abs (x -ℤ t) ≤ unsigned_abs (y -ℤ t)
farther_above t x y h k = grind (arith, ints)

farther_below : (t x y : ℤ) → int_lt x t ≡ true → int_le y x ≡ true → unsigned_abs (x -ℤ t) ≤ unsigned_abs (y -ℤ t)
farther_below t x y h k = grind (arith, ints)

module _ (D d : ℕ) (at : List ℤ) (place : ℕ) (xs : List Item) (parted : AreParted D d at place xs) where
  abbrev target : ℤ
  target = get_or at d (pos 0)

  far_one : (k : ℕ) (x e : Item) → k < length xs → unsigned_abs (coordinate d x -ℤ target) ≤ unsigned_abs (coordinate d (get_or xs k e) -ℤ target)
      → gap2 d at x ≤ dist2 (get_or xs k e).at at
  far_one k x e lt le =
      let long : length (get_or xs k e).at ≡ D = parted.points k e lt in
      let dim = parted.dimension in
      let dims = parted.dims in
      let squares = mul-le-mul le le in
      let g = gap_within d (get_or xs k e).at at (omega (arith, long, dim)) (omega (arith, dims, dim)) in
      omega (arith, squares, g)

  rises : (i k : ℕ) (x e : Item) → get_or xs i e ≡ x → i ≤ k → k < length xs → int_le (coordinate d x) (coordinate d (get_or xs k e)) ≡ true
  rises i k x e is le lt =
      (λ j. int_le (sym (get_or-map (coordinate d) xs i e (pos 0) (omega (arith, le, lt)) ∙ ap (coordinate d) is) j)
      (sym (get_or-map (coordinate d) xs k e (pos 0) lt) j))
      ∙ parted.ascend i k le lt

  -- from an entry on that is not below the point, none is nearer than it is in dimension d
  pub far_above : (i : ℕ) (x : Item) → place ≤ i → i < length xs → ((e : Item) → get_or xs i e ≡ x) → All (λ y. gap2 d at x ≤ dist2 y.at at) (drop i xs)
  far_above i x from lt is k e h =
      let at_k : get_or (drop i xs) k e ≡ get_or xs (i + k) e = get_or-drop i xs k e in
      let under : i + k < length xs = omega (arith, h, length-drop i xs) in
      let low : int_le target (coordinate d x) ≡ true =
      ap (λ y. int_le target (coordinate d y)) (sym here) ∙ parted.above (i - place) x (omega (arith, from, lt, length-drop place xs)) in
      subst (λ y. gap2 d at x ≤ dist2 y.at at) (sym at_k)
      (far_one (i + k) x e under
      (farther_above target (coordinate d x) (coordinate d (get_or xs (i + k) e)) low (rises i (i + k) x e (is e) (omega arith) under)))
    where
      back : place + (i - place) ≡ i
      back = omega (arith, from)

      here : get_or (drop place xs) (i - place) x ≡ x
      here = get_or-drop place xs (i - place) x ∙ ap (λ n. get_or xs n x) back ∙ is x

  -- and up to one that is below the point
  pub far_below : (i : ℕ) (x : Item) → i < place → ((e : Item) → get_or xs i e ≡ x) → All (λ y. gap2 d at x ≤ dist2 y.at at) (take (i + 1) xs)
  far_below i x to is k e h =
      let within = parted.within in
      let under : k < i + 1 = omega (arith, h, length-take-le (i + 1) xs (omega (arith, to, within))) in
      let at_k : get_or (take (i + 1) xs) k e ≡ get_or xs k e = get_or-take (i + 1) xs k e under in
      let high : int_lt (coordinate d x) target ≡ true =
      ap (λ y. int_lt (coordinate d y) target) (sym (get_or-take place xs i x to ∙ is x))
      ∙ parted.below i x (omega (arith, to, length-take-le place xs within)) in
      let up : int_le (coordinate d (get_or xs k e)) (coordinate d x) ≡ true =
      subst (λ y. int_le (coordinate d (get_or xs k e)) (coordinate d y) ≡ true) (is e)
      (rises k i (get_or xs k e) e refl (omega (arith, under)) (omega (arith, to, within))) in
      subst (λ y. gap2 d at x ≤ dist2 y.at at) (sym at_k)
      (far_one k x e (omega (arith, under, to, within)) (farther_below target (coordinate d x) (coordinate d (get_or xs k e)) high up))
