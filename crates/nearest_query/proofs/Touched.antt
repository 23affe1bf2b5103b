-- How many leaves a search takes out.
use Rattle.std.proofs.Common.{◌≡◌, ℕ, ◌+◌, ◌-◌, ◌≤◌, ◌<◌, zero, suc, Bool, true, false, cond, List, [], ◌∷◌, length, get_or}
use Rattle.std.proofs.Common.{Option, Some, None, Result, Err, refl, sym, ap, subst, ◌∙◌, arith, length-append, ℤ, slice_get}
use Rattle.std.proofs.lemmas.Bool.Decides.{nat_tests}
use Rattle.std.proofs.lemmas.List.Sums.{sum_by-cons}
use Rattle.std.proofs.lemmas.List.Sorted.{All-permutation, length_permutation}
use Rattle.std.proofs.lemmas.List.Elements.{All-head, All-tail, All-weaker}
use Rattle.std.specs.Prelude.{nat_lt, nat_le, nat_eq}
use Rattle.std.specs.List.{sum_by, All, range_with_len}
use Rattle.std.specs.List.Sorted.{IsPermutation}
use Rattle.point_codec.specs.Points.{Region}
use Rattle.point_codec.specs.declared.entries.Near.{Near}
use Rattle.live_bits.specs.LiveSet.{LiveSet}
use Rattle.inner_pack.proofs.OneTree.{one_index}
use Rattle.inner_pack.specs.Places.{Spot, front}
use Rattle.inner_pack.specs.Trees.{IndexTree, Leaf, Split, leaf_count}
use Rattle.inner_pack.specs.Bodies.{HasTree, right_begin}
use Rattle.inner_pack.specs.declared.node.NodeAt.{NodeAt}
use Rattle.page_cache.specs.declared.faults.PageFault.{PageFault}
use Rattle.segment_file.specs.Heads.{Head}
use Rattle.nearest_query.specs.declared.frontier.Waiting.{Waiting}
use Rattle.nearest_query.specs.Segments.{is_within, near_leaves, bound_of, last_of, no_head, AreNearLeaves}
use Rattle.nearest_query.specs.Fronts.{Front, IsOpened, IsWaiting, leaf_sum, one_leaf, sum_below}
use Rattle.nearest_query.specs.Search.{World, AreInside, IsInside, IsNode, HasLeaves, HasRoot, is_dead, one_within, head_at, live_at, sum_of}
use Rattle.nearest_query.specs.Search.{sum_of_live, sum_of_dead}
use Rattle.nearest_query.proofs.Links.{by_test}
use Rattle.nearest_query.proofs.Narrower.{none_near}
use Rattle.nearest_query.proofs.Roots.{HasNear, shaped_count}
use Rattle.nearest_query.proofs.WaitingNodes.{inside_put, span_one, span_split, waiting_of}

-- ---- leaves and other nodes

pub one_most : (t : Waiting) → one_leaf t ≤ 1
one_most t = by (nat_eq t.leaves 1)
  where
    by : (b : Bool) → cond b 1 0 ≤ 1
    by true = omega arith
    by false = omega arith

pub is_leaf : (t : Waiting) → t.leaves ≡ 1 → one_leaf t ≡ 1
is_leaf t h = ap (λ n. cond (nat_eq n 1) 1 0) h

pub no_leaf : (t : Waiting) → (t.leaves ≡ 1 → ⊥) → one_leaf t ≡ 0
no_leaf t h = ap (λ b. cond b 1 0) (other t.leaves h)
  where
    other : (n : ℕ) → (n ≡ 1 → ⊥) → nat_eq n 1 ≡ false
    other n k = by_test _ (nat_eq n 1) (λ e. absurd (k (same n e))) (λ e. e)
      where
        same : (m : ℕ) → nat_eq m 1 ≡ true → m ≡ 1
        same m e = grind (arith, nat_tests)

-- a call that failed counts nothing
pub opened_failed : {T : Type 0} (g : ℕ → ℕ → ℕ) (next : Waiting) (old new : List Waiting) (before now : ℕ) (r : Result T PageFault) (fault : PageFault)
    → r ≡ Err fault → now + sum_by (sum_below g) new ≤ before + sum_below g next + sum_by (sum_below g) old → IsOpened g next old new before now r
opened_failed g next old new before now r fault is reads = subst (IsOpened g next old new before now) (sym is) (record { reads = reads; rest = tt })

-- ---- those that wait have places of their own

module _ {D : ℕ} (n : ℕ) where
  pub inside_less : (a b : ℕ) (f : Front D) → b ≤ a → AreInside n a f → AreInside n b f
  inside_less a b f le h = record { each = h.each; few = (let few = h.few in omega (arith, le, few)) }

  pub front_put : (at : List ℤ) (seg : ℕ) (node : NodeAt D) (taken : ℕ) (old new : Front D) → seg < n → IsWaiting at seg node old new
      → AreInside n taken old → AreInside n taken new
  front_put at seg node taken old new lt h was = record {
    each = inside_put n at seg node old new lt h was.each;
    few =
        let a = length_permutation (waiting_of h.dist seg node (length old.nodes) ∷ old.waiting) new.waiting h.moved in
        let b = ap length h.grown in
        let c = length-append old.nodes (node ∷ []) in
        let few = was.few in
        omega (arith, a, b, c, few);
  }

  -- one was taken out
  pub front_popped : (taken : ℕ) (next : Waiting) (old new : Front D) → IsPermutation old.waiting (next ∷ new.waiting) → new.nodes ≡ old.nodes
      → AreInside n taken old → AreInside n (taken + 1) new
  front_popped taken next old new moved same was = record {
    each = subst (λ ns. All (IsInside n ns) new.waiting) (sym same)
        (All-tail (IsInside n old.nodes) next new.waiting (All-permutation (IsInside n old.nodes) old.waiting (next ∷ new.waiting) moved was.each));
    few =
        let a = length_permutation old.waiting (next ∷ new.waiting) moved in
        let b = ap length same in
        let few = was.few in
        omega (arith, a, b, few);
  }

  pub next_inside : (taken : ℕ) (next : Waiting) (old new : Front D) → IsPermutation old.waiting (next ∷ new.waiting) → new.nodes ≡ old.nodes
      → AreInside n taken old → IsInside n new.nodes next
  next_inside taken next old new moved same was = subst (λ ns. IsInside n ns next) (sym same)
      (All-head (IsInside n old.nodes) next new.waiting (All-permutation (IsInside n old.nodes) old.waiting (next ∷ new.waiting) moved was.each))

-- ---- below nodes that are too far nothing is near

pub near_span : (D : ℕ) (w : World) (bound : Option ℕ) (i first : ℕ) (s : Spot) (t : IndexTree) → HasLeaves D w i first s t
    → leaf_sum (one_within w bound) i first (leaf_count t) ≡ near_leaves w.at bound t
unfolding near_leaves
near_span D w bound i first s (Leaf len own) leaves = span_one (one_within w bound) i first ∙ ap (λ d. cond (is_within bound d) 1 0) leaves.1
near_span D w bound i first s (Split d x l r) leaves =
    let a = near_span D w bound i first s l leaves.0 in
    let b = near_span D w bound i (first + leaf_count l) (right_begin s l r) r leaves.1 in
    let c = span_split (one_within w bound i) first (leaf_count l) (leaf_count r) in
    omega (arith, a, b, c)

far_waiting : {D : ℕ} (w : World) (bound : Option ℕ) (nodes : List (NodeAt D)) (waiting : List Waiting) → All (IsNode D w nodes) waiting
    → All (λ t. is_within bound t.dist2.0 ≡ false) waiting
    → sum_by (sum_below (one_within w bound)) waiting ≡ 0
far_waiting w bound nodes [] all far = refl
far_waiting {D} w bound nodes (t ∷ ts) all far =
    let n = All-head (IsNode D w nodes) t ts all in
    let h = All-head (λ u. is_within bound u.dist2.0 ≡ false) t ts far in
    let z = none_near D w.at bound n.path n.tree n.cells (ap (is_within bound) (sym n.dist) ∙ h) in
    let s : sum_below (one_within w bound) t ≡ near_leaves w.at bound n.tree =
    ap (λ k. leaf_sum (one_within w bound) t.segment t.first k) n.count ∙ near_span D w bound t.segment t.first n.spot n.tree n.leaves in
    let r = far_waiting w bound nodes ts (All-tail (IsNode D w nodes) t ts all) (All-tail (λ u. is_within bound u.dist2.0 ≡ false) t ts far) in
    let c = sum_by-cons (sum_below (one_within w bound)) t ts in
    omega (arith, z, s, r, c)

last_below : (d e : ℕ) (ns : List Near) → d ≤ e → 1 ≤ length ns → All (λ a. a.dist2 < d) ns → is_within (last_of ns) e ≡ false
last_below d e [] le some all = absurd (omega (arith, some))
last_below d e (n ∷ []) le some all = let h = All-head (λ a. a.dist2 < d) n [] all in beyond n.dist2 (omega (arith, le, h))
  where
    beyond : (b : ℕ) → b < e → nat_le e b ≡ false
    beyond b lt = grind (arith, nat_tests)
last_below d e (n ∷ (m ∷ ns)) le some all = last_below d e (m ∷ ns) le (omega arith) (All-tail (λ a. a.dist2 < d) n (m ∷ ns) all)

-- where all places are taken by numbers that are nearer than what waits
pub stopped : {D : ℕ} (w : World) (d room : ℕ) (ns : List Near) (nodes : List (NodeAt D)) (waiting : List Waiting) → All (IsNode D w nodes) waiting
    → All (λ t. d ≤ t.dist2.0) waiting → 1 ≤ room → room ≤ length ns → All (λ a. a.dist2 < d) ns
    → sum_by (sum_below (one_within w (bound_of room ns))) waiting ≡ 0
stopped w d room ns nodes waiting all far some full nearer = far_waiting w (bound_of room ns) nodes waiting all
    (All-weaker (λ t. d ≤ t.dist2.0) (λ t. is_within (bound_of room ns) t.dist2.0 ≡ false)
    (λ t le. ap (λ b. is_within (cond b None (last_of ns)) t.dist2.0) (enough (length ns) full)
    ∙ last_below d t.dist2.0 ns le (omega (arith, some, full)) nearer) waiting far)
  where
    enough : (m : ℕ) → room ≤ m → nat_lt m room ≡ false
    enough m le = grind (arith, nat_tests)

-- ---- over all segments

pub one_more : (h : ℕ → ℕ) (i : ℕ) → sum_by h (range_with_len 0 (i + 1)) ≡ sum_by h (range_with_len 0 i) + h i
one_more h i =
    let q = span_split h 0 i 1 in
    let z : zero + i ≡ i = omega arith in
    let c = sum_by-cons h (zero + i) [] in
    let e : h (zero + i) ≡ h i = ap h z in
    omega (arith, q, c, e)

-- whether it has a live number, by how many it has
pub counted_dead : (w : World) (i : ℕ) (live : LiveSet) (n : ℕ) → live_at w i ≡ live → n ≡ length live.live → n ≡ 0 → is_dead w i ≡ true
counted_dead w i live n is counted none =
    let long : length (live_at w i).live ≡ 0 = ap (λ (s : LiveSet). length s.live) is ∙ sym counted ∙ none in
    ap (λ m. nat_eq m 0) long

pub counted_live : (w : World) (i : ℕ) (live : LiveSet) (n : ℕ) → live_at w i ≡ live → n ≡ length live.live → 1 ≤ n → is_dead w i ≡ false
counted_live w i live n is counted some = by (length (live_at w i).live) (ap (λ (s : LiveSet). length s.live) is ∙ sym counted)
  where
    zero_is : (m : ℕ) → nat_eq m 0 ≡ true → m ≡ 0
    zero_is m e = grind (arith, nat_tests)

    by : (m : ℕ) → m ≡ n → nat_eq m 0 ≡ false
    by m e = by_test _ (nat_eq m 0) (λ z. let none = zero_is m z in absurd (omega (arith, e, some, none))) (λ z. z)

-- a segment without a live number
pub live_passed : (w : World) (g : ℕ → ℕ → ℕ) (i n : ℕ) → is_dead w i ≡ true → n ≡ sum_of_live w g i → n ≡ sum_of_live w g (i + 1)
live_passed w g i n dead was =
    let m = one_more (λ j. cond (is_dead w j) 0 (sum_of w g j)) i in
    let z = ap (λ b. cond b 0 (sum_of w g i)) dead in
    omega (arith, m, z, was)

pub live_more : (w : World) (g : ℕ → ℕ → ℕ) (i n m : ℕ) → is_dead w i ≡ false → n ≡ sum_of_live w g i → m ≡ sum_of w g i + n
    → m ≡ sum_of_live w g (i + 1)
live_more w g i n m live was more =
    let s = one_more (λ j. cond (is_dead w j) 0 (sum_of w g j)) i in
    let z = ap (λ b. cond b 0 (sum_of w g i)) live in
    omega (arith, s, z, was, more)

pub dead_passed : (w : World) (g : ℕ → ℕ → ℕ) (i k n : ℕ) → is_dead w i ≡ false → n ≡ k + sum_of_dead w g i → n ≡ k + sum_of_dead w g (i + 1)
dead_passed w g i k n live was =
    let m = one_more (λ j. cond (is_dead w j) (sum_of w g j) 0) i in
    let z = ap (λ b. cond b (sum_of w g i) 0) live in
    omega (arith, m, z, was)

pub dead_more : (w : World) (g : ℕ → ℕ → ℕ) (i k n m : ℕ) → is_dead w i ≡ true → n ≡ k + sum_of_dead w g i → m ≡ n + sum_of w g i
    → m ≡ k + sum_of_dead w g (i + 1)
dead_more w g i k n m dead was more =
    let s = one_more (λ j. cond (is_dead w j) (sum_of w g j) 0) i in
    let z = ap (λ b. cond b (sum_of w g i) 0) dead in
    omega (arith, s, z, was, more)

both_sum : (b : ℕ → Bool) (h : ℕ → ℕ) (xs : List ℕ) → sum_by (λ i. cond (b i) 0 (h i)) xs + sum_by (λ i. cond (b i) (h i) 0) xs ≡ sum_by h xs
both_sum b h [] = refl
both_sum b h (x ∷ xs) =
    let p = sum_by-cons (λ i. cond (b i) 0 (h i)) x xs in
    let q = sum_by-cons (λ i. cond (b i) (h i) 0) x xs in
    let r = sum_by-cons h x xs in
    let rest = both_sum b h xs in
    let here = either (b x) in
    omega (arith, p, q, r, rest, here)
  where
    either : (c : Bool) → cond c 0 (h x) + cond c (h x) 0 ≡ h x
    either true = omega arith
    either false = omega arith

pub live_and_dead : (w : World) (g : ℕ → ℕ → ℕ) (count : ℕ) → sum_of_live w g count + sum_of_dead w g count ≡ sum_by (sum_of w g) (range_with_len 0 count)
live_and_dead w g count = both_sum (is_dead w) (sum_of w g) (range_with_len 0 count)

-- what a segment's tree tells of its leaves
pub root_near : (D : ℕ) (w : World) (bound : Option ℕ) (i : ℕ) (r : HasRoot D w i) → sum_of w (one_within w bound) i ≡ near_leaves w.at bound r.tree
root_near D w bound i r =
    ap (λ n. leaf_sum (one_within w bound) i 0 n) (shaped_count (head_at w i).index.leaves r.tree r.has.tree.shaped)
    ∙ near_span D w bound i 0 front r.tree r.leaves

-- an index has one tree
one_near : (D : ℕ) (at : List ℤ) (bound : Option ℕ) (h : Head) (n : ℕ) → HasNear D at bound h n → (root : Region) (t : IndexTree) → HasTree D h.index root t
    → n ≡ near_leaves at bound t
one_near D at bound h n k root t has =
    k.is ∙ ap (near_leaves at bound) (one_index D h.index.form h.index.leaves h.index.bytes k.root root k.tree t k.has has).1

pub near_out : (D : ℕ) (at : List ℤ) (bound : Option ℕ) (heads : List Head) (a : ℕ) (h : ℕ → ℕ)
    → ((i : ℕ) → i < length heads → HasNear D at bound (get_or heads i no_head) (h (a + i)))
    → AreNearLeaves D at bound heads (sum_by h (range_with_len a (length heads)))
near_out D at bound [] a h each = refl
near_out D at bound (x ∷ xs) a h each = (
  h a,
  sum_by h (range_with_len (a + 1) (length xs)),
  one_near D at bound x (h a) (subst (λ k. HasNear D at bound x (h k)) z (each zero (omega arith))),
  near_out D at bound xs (a + 1) h
      (λ i lt. let e : a + 1 + i ≡ a + suc i = omega arith in subst (λ m. HasNear D at bound (get_or xs i no_head) (h m)) (sym e) (each (suc i) (omega arith))),
  sum_by-cons h a (range_with_len (a + 1) (length xs)),
)
  where
    z : a + zero ≡ a
    z = omega arith

some_inj : (x y : Near) → Some x ≡ Some y → x ≡ y
some_inj x y e = cc

-- the last of those found
last_at : (found : List Near) (i : ℕ) (last : Near) → length found ≡ i + 1 → slice_get found i ≡ Some last → last_of found ≡ Some last.dist2
last_at [] i last long is = absurd (omega (arith, long))
last_at (n ∷ []) zero last long is = ap (λ (m : Near). Some m.dist2) (some_inj n last is)
last_at (n ∷ []) (suc i) last long is = absurd (omega (arith, long))
last_at (n ∷ (m ∷ ns)) zero last long is = absurd (omega (arith, long))
last_at (n ∷ (m ∷ ns)) (suc i) last long is = last_at (m ∷ ns) i last (omega (arith, long)) is

-- how far a search goes that found as many as are asked for
pub reaches : (k : ℕ) (found : List Near) (last : Near) → 1 ≤ length found → k ≤ length found → slice_get found (length found - 1) ≡ Some last
    → Some last.dist2 ≡ bound_of k found
reaches k found last some enough is =
    sym (ap (λ b. cond b None (last_of found)) (not_less (length found) enough) ∙ last_at found (length found - 1) last (omega (arith, some)) is)
  where
    not_less : (m : ℕ) → k ≤ m → nat_lt m k ≡ false
    not_less m le = grind (arith, nat_tests)
