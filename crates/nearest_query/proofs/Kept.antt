-- One more entry offered to the candidates.
use Rattle.std.proofs.Common.{◌≡◌, ◌≢◌, ℕ, ◌+◌, ◌≤◌, ◌<◌, Bool, true, false, not, cond, eqb, List, [], ◌∷◌, ◌++◌, length}
use Rattle.std.proofs.Common.{length-append, Option, Some, None, refl, sym, ap, subst, ◌∙◌, ◌⊎◌, inl, inr, ⊎_elim, arith}
use Rattle.std.proofs.lemmas.Map.Views.{btree_set_contains_iff}
use Rattle.std.proofs.lemmas.List.Elements.{All-contains, All-contains_itself, All-weaker, Contains-push_cases, Contains-push}
use Rattle.std.specs.declared.cmp.Ordering.TheVariants.{Less}
use Rattle.std.specs.List.{All, Contains}
use Rattle.std.specs.Ordering.{is_lt}
use Rattle.std.specs.BTreeMap.{is_at}
use Rattle.std.specs.BTreeSet as sorted
use Rattle.std.specs.BTreeSet.{BTreeSet}
use Rattle.std.specs.HashMap as hash
use Rattle.point_codec.specs.declared.entries.Near.{Near}
use Rattle.nearest_query.specs.declared.many.Many.{Many}
use Rattle.documents.specs.NearestEntries.{ComesBefore, IsNearest}
use Rattle.nearest_query.specs.Best.{near_cmp, AreLinked, AreKept, IsInserted}
use Rattle.nearest_query.proofs.Order.{near_total, near_exact, same_near, behind, before_from_less, before_trans, pairs_from_sorted}
use Rattle.nearest_query.proofs.Offers.{none_nearest, nearest_same, nearest_after}
use Rattle.nearest_query.proofs.Links.{Linked, LinkedBut, at_one, at_itself, by_test, link_put, but_none, was_in, but_improved, but_replaced}

abbrev given : Many → ℕ → Option ℕ
given c d = hash.get eqb c.distances d

abbrev has : BTreeSet Near → Near → Bool
has s n = sorted.contains near_cmp s n

in_keys : (s : BTreeSet Near) (a : Near) → has s a ≡ true → Contains s.keys a
in_keys s a h = (btree_set_contains_iff near_total near_exact s a).0 h

from_keys : (s : BTreeSet Near) (a : Near) → Contains s.keys a → has s a ≡ true
from_keys s a h = (btree_set_contains_iff near_total near_exact s a).1 h

links : (c : Many) → AreLinked c → Linked (given c) (has c.in_order)
unfolding AreLinked
links c h = h

linked : (c : Many) → Linked (given c) (has c.in_order) → AreLinked c
unfolding AreLinked
linked c h = h

none_linked : (c : Many) → c.in_order.keys ≡ [] → c.distances.entries ≡ [] → AreLinked c
unfolding AreLinked
none_linked c e f = λ n. (λ h. let g = rw f at h in cc, λ h. let g = rw e at h in cc)

pub none_best : (c : Many) → 1 ≤ c.room → c.in_order.keys ≡ [] → c.distances.entries ≡ [] → AreKept [] c
none_best c some e f = record { some = some; linked = none_linked c e f; nearest = none_nearest c.room c.in_order.keys e }

-- all places are taken by numbers that are not behind the entry
pub skip_best : (entries : List Near) (c : Many) (n : Near) → AreKept entries c → c.room ≤ length c.in_order.keys
    → All (λ a. is_lt (near_cmp n a) ≡ false) c.in_order.keys → AreKept (n ∷ entries) c
skip_best entries c n best full all = record {
  some = best.some;
  linked = best.linked;
  nearest = nearest_same c.room entries c.in_order.keys n best.nearest
      (λ a h e. (not_behind a h).0)
      (by_test _ (has c.in_order n)
      (λ h. inl (n, in_keys c.in_order n h, refl))
      (λ h. inr (
        length_is,
        All-weaker (λ a. Contains c.in_order.keys a) (λ a. ComesBefore a n) (λ a k. before a k h) c.in_order.keys (All-contains_itself c.in_order.keys),
      )));
}
  where
    length_is : length c.in_order.keys ≡ c.room
    length_is = let few = best.nearest.few in omega arith

    not_behind : (a : Near) → Contains c.in_order.keys a → (a.dist2 ≤ n.dist2) × (n.dist2 ≤ a.dist2 → a.doc ≤ n.doc)
    not_behind a h = behind n a (All-contains (λ x. is_lt (near_cmp n x) ≡ false) c.in_order.keys a all h)

    before : (a : Near) → Contains c.in_order.keys a → has c.in_order n ≡ false → ComesBefore a n
    before a h off =
        let parts = not_behind a h in
        record {
          near = parts.0;
          tie = λ t.
              let le = parts.1 t in
              let far : a.dist2 ≡ n.dist2 = let p = parts.0 in omega arith in
              let other : a.doc ≢ n.doc = λ e.
              let on : has c.in_order n ≡ true = subst (λ y. has c.in_order y ≡ true) (same_near a n far e) (from_keys c.in_order a h) in cc in
              omega arith;
        }

-- a candidate that is as near already
pub stay_best : (entries : List Near) (c : Many) (n : Near) (d : ℕ) → AreKept entries c → hash.get eqb c.distances n.doc ≡ Some d → d ≤ n.dist2
    → AreKept (n ∷ entries) c
stay_best entries c n d best e near = record {
  some = best.some;
  linked = best.linked;
  nearest = nearest_same c.room entries c.in_order.keys n best.nearest low
      (inl (record { dist2 = d; doc = n.doc }, in_keys c.in_order _ ((links c best.linked (record { dist2 = d; doc = n.doc })).0 e), refl));
}
  where
    low : (a : Near) → Contains c.in_order.keys a → n.doc ≡ a.doc → a.dist2 ≤ n.dist2
    low a h f =
        let g = (links c best.linked a).1 (from_keys c.in_order a h) in
        let s : given c n.doc ≡ given c a.doc = ap (given c) f in
        let is : d ≡ a.dist2 = cc in
        omega arith

-- how many more there are after a put: one where it was new
abbrev one_more : Bool → ℕ
one_more b = cond (not b) 1 0

added : (b : Bool) → b ≡ false → one_more b ≡ 1
added true h = cc
added false h = refl

module _ (entries : List Near) (old : BTreeSet Near) (mid new : Many) (n : Near) (some : 1 ≤ mid.room) (was : IsNearest mid.room entries old.keys)
    (but : LinkedBut n (given mid) (has mid.in_order)) (put : IsInserted n mid new) (sub : (a : Near) → has mid.in_order a ≡ true → has old a ≡ true) where
  no_number : has mid.in_order n ≡ false
  no_number = by_test _ (has mid.in_order n) (λ h. absurd (but.none n h refl)) (λ h. h)

  length_put : length new.in_order.keys ≡ length mid.in_order.keys + 1
  length_put = let a = added (has mid.in_order n) no_number in let p = put.counted in omega arith

  from : (a : Near) → has new.in_order a ≡ true → (n ≡ a) ⊎ (has mid.in_order a ≡ true)
  from a h = by_test _ (is_at (near_cmp n) a)
      (λ at. inl (at_one n a at))
      (λ off. inr (sym (put.placed.0 a ∙ ap (λ b. cond b true (has mid.in_order a)) off) ∙ h))

  stays : (a : Near) → has mid.in_order a ≡ true → has new.in_order a ≡ true
  stays a h = put.placed.0 a ∙ either (is_at (near_cmp n) a) (has mid.in_order a) h
    where
      either : (b c : Bool) → c ≡ true → cond b true c ≡ true
      either true c h = refl
      either false c h = h

  holds : has new.in_order n ≡ true
  holds = put.placed.0 n ∙ ap (λ b. cond b true (has mid.in_order n)) (at_itself n n refl)

  one : (a : Near) → Contains new.in_order.keys a → n.doc ≡ a.doc → a ≡ n
  one a h e = ⊎_elim (λ is. sym is) (λ k. absurd (but.none a k e)) (from a (from_keys new.in_order a h))

  pub put_best : length mid.in_order.keys + 1 ≤ mid.room
      → ((x : Near) → Contains entries x → x.doc ≡ n.doc → n.dist2 ≤ x.dist2)
      → ((a : Near) → has old a ≡ true
      → (has mid.in_order a ≡ true)
      ⊎ ((n.doc ≡ a.doc) ⊎ ((length mid.in_order.keys + 1 ≡ mid.room) × (ComesBefore n a) × ((b : Near) → has mid.in_order b ≡ true → ComesBefore b a))))
      → (length old.keys ≡ mid.room → length mid.in_order.keys + 1 ≡ mid.room)
      → ((x : Near) → length old.keys ≡ mid.room → All (λ a. ComesBefore a x) old.keys → ComesBefore n x)
      → AreKept (n ∷ entries) new
  put_best fits low kept full first = record {
    some = let r = put.room in omega arith;
    linked = linked new (link_put n (given mid) (given new) (has mid.in_order) (has new.in_order) but put.placed.0 put.kept.0);
    nearest = subst (λ k. IsNearest k (n ∷ entries) new.in_order.keys) (sym put.room) (nearest_after mid.room entries old.keys new.in_order.keys n was
        (pairs_from_sorted new.in_order.keys put.ordered)
        (let l = length_put in omega arith)
        (λ a h. ⊎_elim (λ is. inl is) (λ k. inr (in_keys old a (sub a k))) (from a (from_keys new.in_order a h)))
        (in_keys new.in_order n holds)
        one
        low
        (λ a h. ⊎_elim (λ k. inl (in_keys new.in_order a (stays a k))) (λ k. inr (⊎_elim (λ e. inl e) (λ gone. inr (all_before a gone)) k))
        (kept a (from_keys old a h)))
        (λ e. let l = length_put in let f = full e in omega arith)
        first);
  }
    where
      all_before : (a : Near) → (length mid.in_order.keys + 1 ≡ mid.room) × (ComesBefore n a) × ((b : Near) → has mid.in_order b ≡ true → ComesBefore b a)
          → (length new.in_order.keys ≡ mid.room) × ((b : Near) → Contains new.in_order.keys b → ComesBefore b a)
      all_before a gone = (
        let l = length_put in let f = gone.0 in omega arith,
        λ b h. ⊎_elim (λ is. subst (λ y. ComesBefore y a) is gone.1) (λ k. gone.2 b k) (from b (from_keys new.in_order b h)),
      )

-- a number among the candidates comes nearer
pub improved_best : (entries : List Near) (old mid new : Many) (n : Near) (d : ℕ) → AreKept entries old → hash.get eqb old.distances n.doc ≡ Some d
    → n.dist2 < d
    → mid.room ≡ old.room → mid.distances ≡ old.distances
    → sorted.UpdatesBy near_cmp (near_cmp (record { dist2 = d; doc = n.doc })) old.in_order mid.in_order false
    → length mid.in_order.keys + cond (sorted.contains_by (near_cmp (record { dist2 = d; doc = n.doc })) old.in_order) 1 0 ≡ length old.in_order.keys
    → IsInserted n mid new → AreKept (n ∷ entries) new
improved_best entries old mid new n d best e near room same gone len put =
    put_best entries old.in_order mid new n (let s = best.some in omega arith) (subst (λ k. IsNearest k entries old.in_order.keys) (sym room) best.nearest) but
    put sub
    (let f = best.nearest.few in let l = length_mid in omega arith) low kept (λ f. let l = length_mid in omega arith)
    (λ x f all.
    let p = All-contains (λ a. ComesBefore a x) old.in_order.keys w all w_in in
    record { near = let q = p.near in omega arith; tie = λ t. let q = p.near in absurd (omega arith) })
  where
    w : Near
    w = record { dist2 = d; doc = n.doc }

    is : Linked (given old) (has old.in_order)
    is = links old best.linked

    w_has : has old.in_order w ≡ true
    w_has = (is w).0 e

    w_in : Contains old.in_order.keys w
    w_in = in_keys old.in_order w w_has

    length_mid : length mid.in_order.keys + 1 ≡ length old.in_order.keys
    length_mid = ap (λ b. length mid.in_order.keys + cond b 1 0) (sym w_has) ∙ len

    but : LinkedBut n (given mid) (has mid.in_order)
    but = subst (λ m. LinkedBut n (λ k. hash.get eqb m k) (has mid.in_order)) (sym same)
        (but_improved w (given old) (has old.in_order) (has mid.in_order) is e gone.0 n refl)

    sub : (a : Near) → has mid.in_order a ≡ true → has old.in_order a ≡ true
    sub a h = was_in w (given old) (has old.in_order) (has mid.in_order) is e gone.0 a h

    low : (x : Near) → Contains entries x → x.doc ≡ n.doc → n.dist2 ≤ x.dist2
    low x h f = let l = best.nearest.least w x w_in h f in omega arith

    kept : (a : Near) → has old.in_order a ≡ true
        → (has mid.in_order a ≡ true)
        ⊎ ((n.doc ≡ a.doc) ⊎ ((length mid.in_order.keys + 1 ≡ mid.room) × (ComesBefore n a) × ((b : Near) → has mid.in_order b ≡ true → ComesBefore b a)))
    kept a h = by_test _ (is_at (near_cmp w) a)
        (λ at. inr (inl (ap (λ y. y.doc) (at_one w a at))))
        (λ off. inl (gone.0 a ∙ ap (λ b. cond b false (has old.in_order a)) off ∙ h))

-- a number more, where there is a place
pub added_best : (entries : List Near) (old new : Many) (n : Near) → AreKept entries old → hash.get eqb old.distances n.doc ≡ None
    → length old.in_order.keys < old.room
    → IsInserted n old new → AreKept (n ∷ entries) new
added_best entries old new n best e room put =
    put_best entries old.in_order old new n best.some best.nearest (but_none n (given old) (has old.in_order) is e) put (λ a h. h)
    (omega arith) low (λ a h. inl h) (λ f. omega arith) (λ x f all. absurd (omega arith))
  where
    is : Linked (given old) (has old.in_order)
    is = links old best.linked

    low : (x : Near) → Contains entries x → x.doc ≡ n.doc → n.dist2 ≤ x.dist2
    low x h f = ⊎_elim
        (λ a. let g = (is a.0).1 (from_keys old.in_order a.0 a.1) in let s : given old n.doc ≡ given old a.0.doc = ap (given old) (sym (a.2 ∙ f)) in cc)
        (λ out. let l = out.0 in absurd (omega arith))
        (best.nearest.left_out x h)

-- a number in place of the last
pub replaced_best : (entries : List Near) (old mid new : Many) (n w : Near) → AreKept entries old → hash.get eqb old.distances n.doc ≡ None
    → old.room ≤ length old.in_order.keys → (a : Near) × Contains old.in_order.keys a × (near_cmp n a ≡ Less)
    → mid.room ≡ old.room → old.in_order.keys ≡ mid.in_order.keys ++ w ∷ [] → All (λ q. near_cmp q w ≡ Less) mid.in_order.keys
    → sorted.Updates near_cmp old.in_order mid.in_order w false
    → hash.UpdatesBy eqb (eqb w.doc) old.distances mid.distances None
    → IsInserted n mid new → AreKept (n ∷ entries) new
replaced_best entries old mid new n w best e full after room cut below gone lost put =
    put_best entries old.in_order mid new n (let s = best.some in omega arith) (subst (λ k. IsNearest k entries old.in_order.keys) (sym room) best.nearest) but
    put sub
    (let l = length_mid in omega arith) low kept (λ f. let l = length_mid in omega arith)
    (λ x f all. before_trans n after.0 x n_before (All-contains (λ a. ComesBefore a x) old.in_order.keys after.0 all after.1))
  where
    is : Linked (given old) (has old.in_order)
    is = links old best.linked

    w_in : Contains old.in_order.keys w
    w_in = subst (λ ks. Contains ks w) (sym cut) (Contains-push mid.in_order.keys w)

    w_given : given old w.doc ≡ Some w.dist2
    w_given = (is w).1 (from_keys old.in_order w w_in)

    n_before : ComesBefore n after.0
    n_before = before_from_less n after.0 after.2

    mid_before : (a : Near) → Contains mid.in_order.keys a → ComesBefore a w
    mid_before a h = before_from_less a w (All-contains (λ q. near_cmp q w ≡ Less) mid.in_order.keys a below h)

    w_after : ComesBefore n w
    w_after = ⊎_elim (λ h. before_trans n after.0 w n_before (mid_before after.0 h)) (λ same. subst (λ y. ComesBefore n y) (sym same) n_before)
        (Contains-push_cases mid.in_order.keys w after.0 (subst (λ ks. Contains ks after.0) cut after.1))

    length_mid : length mid.in_order.keys + 1 ≡ mid.room
    length_mid =
        let l : length old.in_order.keys ≡ length mid.in_order.keys + 1 = ap length cut ∙ length-append mid.in_order.keys (w ∷ []) in
        let f = best.nearest.few in omega arith

    but : LinkedBut n (given mid) (has mid.in_order)
    but = but_replaced w (given old) (has old.in_order) (has mid.in_order) is w_given gone.0 n (given mid) e lost.0

    sub : (a : Near) → has mid.in_order a ≡ true → has old.in_order a ≡ true
    sub a h = was_in w (given old) (has old.in_order) (has mid.in_order) is w_given gone.0 a h

    low : (x : Near) → Contains entries x → x.doc ≡ n.doc → n.dist2 ≤ x.dist2
    low x h f = ⊎_elim
        (λ a. let g = (is a.0).1 (from_keys old.in_order a.0 a.1) in let s : given old n.doc ≡ given old a.0.doc = ap (given old) (sym (a.2 ∙ f)) in cc)
        (λ out. let p = All-contains (λ a. ComesBefore a x) old.in_order.keys after.0 out.1 after.1 in let q = n_before.near in let r = p.near in omega arith)
        (best.nearest.left_out x h)

    kept : (a : Near) → has old.in_order a ≡ true
        → (has mid.in_order a ≡ true)
        ⊎ ((n.doc ≡ a.doc) ⊎ ((length mid.in_order.keys + 1 ≡ mid.room) × (ComesBefore n a) × ((b : Near) → has mid.in_order b ≡ true → ComesBefore b a)))
    kept a h = by_test _ (is_at (near_cmp w) a)
        (λ at. inr (inr (
          length_mid,
          subst (λ y. ComesBefore n y) (at_one w a at) w_after,
          λ b k. subst (λ y. ComesBefore b y) (at_one w a at) (mid_before b (in_keys mid.in_order b k)),
        )))
        (λ off. inl (gone.0 a ∙ ap (λ b. cond b false (has old.in_order a)) off ∙ h))
