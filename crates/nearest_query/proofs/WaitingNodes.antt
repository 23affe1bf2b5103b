-- Nodes that wait: what they cover together, and where they stand.
use Rattle.std.proofs.Common.{◌≡◌, ℕ, ◌+◌, ◌-◌, ◌*◌, ◌<◌, zero, suc, List, [], ◌∷◌, ◌++◌, length, get_or, ℤ, refl, sym, ap, subst, ◌∙◌, arith, length-append}
use Rattle.std.proofs.Math.ListN.{get_or-append}
use Rattle.std.proofs.Math.Seq.{get_or-append_seam}
use Rattle.std.proofs.lemmas.List.Sums.{sum_by-cons}
use Rattle.std.proofs.lemmas.List.Sorted.{sum_by_pushed, All-permutation}
use Rattle.std.proofs.lemmas.List.Elements.{All-weaker, All-cons}
use Rattle.std.proofs.lemmas.Option.{slice_get_read, get_or_from_slice_get}
use Rattle.std.specs.List.{sum_by, All, range_with_len}
use Rattle.std.specs.List.Sorted.{IsPermutation}
use Rattle.inner_pack.specs.declared.node.NodeAt.{NodeAt}
use Rattle.nearest_query.specs.declared.frontier.Waiting.{Waiting}
use Rattle.nearest_query.specs.Fronts.{Front, IsWaiting, leaf_sum, sum_below, work}
use Rattle.nearest_query.specs.Search.{IsNthNode, IsInside}

pub span_split : (h : ℕ → ℕ) (a m n : ℕ) → sum_by h (range_with_len a (m + n)) ≡ sum_by h (range_with_len a m) + sum_by h (range_with_len (a + m) n)
span_split h a zero n =
    let e : zero + n ≡ n = omega arith in
    let f : a + zero ≡ a = omega arith in
    let p : sum_by h (range_with_len a (zero + n)) ≡ sum_by h (range_with_len a n) = ap (λ k. sum_by h (range_with_len a k)) e in
    let q : sum_by h (range_with_len (a + zero) n) ≡ sum_by h (range_with_len a n) = ap (λ k. sum_by h (range_with_len k n)) f in
    let z : sum_by h (range_with_len a zero) ≡ 0 = refl in
    omega (arith, p, q, z)
span_split h a (suc m) n =
    let e : suc m + n ≡ suc (m + n) = omega arith in
    let f : a + suc m ≡ a + 1 + m = omega arith in
    let p : sum_by h (range_with_len a (suc m + n)) ≡ h a + sum_by h (range_with_len (a + 1) (m + n)) =
    ap (λ k. sum_by h (range_with_len a k)) e ∙ sum_by-cons h a (range_with_len (a + 1) (m + n)) in
    let q : sum_by h (range_with_len (a + suc m) n) ≡ sum_by h (range_with_len (a + 1 + m) n) = ap (λ k. sum_by h (range_with_len k n)) f in
    let r : sum_by h (range_with_len a (suc m)) ≡ h a + sum_by h (range_with_len (a + 1) m) = sum_by-cons h a (range_with_len (a + 1) m) in
    let i = span_split h (a + 1) m n in
    omega (arith, p, q, r, i)

pub span_one : (g : ℕ → ℕ → ℕ) (i first : ℕ) → leaf_sum g i first 1 ≡ g i first
span_one g i first = let p = sum_by-cons (g i) first [] in omega (arith, p)

pub same_waiting : (waiting new : List Waiting) (d seg f f' l l' p p' : ℕ) → f ≡ f' → l ≡ l' → p ≡ p'
    → IsPermutation (record { dist2 = record { 0 = d }; segment = seg; first = f; leaves = l; place = p } ∷ waiting) new
    → IsPermutation (record { dist2 = record { 0 = d }; segment = seg; first = f'; leaves = l'; place = p' } ∷ waiting) new
same_waiting waiting new d seg f f' l l' p p' a b c h =
    subst (λ x. IsPermutation (record { dist2 = record { 0 = d }; segment = seg; first = f'; leaves = l'; place = x } ∷ waiting) new) c
    (subst (λ x. IsPermutation (record { dist2 = record { 0 = d }; segment = seg; first = f'; leaves = x; place = p } ∷ waiting) new) b
    (subst (λ x. IsPermutation (record { dist2 = record { 0 = d }; segment = seg; first = x; leaves = l; place = p } ∷ waiting) new) a h))

-- the node that waits of a node, by its distance, segment and place
abbrev pub waiting_of : {D : ℕ} → ℕ → ℕ → NodeAt D → ℕ → Waiting
waiting_of d seg node place = record { dist2 = record { 0 = d }; segment = seg; first = node.first; leaves = node.leaves; place = place }

pub waiting_sum : {D : ℕ} (at : List ℤ) (seg : ℕ) (node : NodeAt D) (old new : Front D) → IsWaiting at seg node old new
    → (g : ℕ → ℕ → ℕ) → sum_by (sum_below g) new.waiting ≡ leaf_sum g seg node.first node.leaves + sum_by (sum_below g) old.waiting
waiting_sum at seg node old new h g = sum_by_pushed (sum_below g) (waiting_of h.dist seg node (length old.nodes)) old.waiting new.waiting h.moved

pub waiting_work : {D : ℕ} (at : List ℤ) (seg : ℕ) (node : NodeAt D) (old new : Front D) → IsWaiting at seg node old new
    → sum_by work new.waiting ≡ 2 * node.leaves - 1 + (1 - node.leaves) + sum_by work old.waiting
waiting_work at seg node old new h = sum_by_pushed work (waiting_of h.dist seg node (length old.nodes)) old.waiting new.waiting h.moved

pub stands_new : {D : ℕ} (nodes new : List (NodeAt D)) (node : NodeAt D) → new ≡ nodes ++ node ∷ [] → IsNthNode new (length nodes) node
stands_new nodes new node e =
    subst (λ ns. IsNthNode ns (length nodes) node) (sym e)
    (record { within = (let l = length-append nodes (node ∷ []) in omega (arith, l)); is = λ d. get_or-append_seam nodes node [] d })

pub stands_still : {D : ℕ} (nodes new : List (NodeAt D)) (more node : NodeAt D) (place : ℕ) → new ≡ nodes ++ more ∷ [] → IsNthNode nodes place node
    → IsNthNode new place node
stands_still nodes new more node place e h =
    subst (λ ns. IsNthNode ns place node) (sym e)
    (record {
      within = (let l = length-append nodes (more ∷ []) in let w = h.within in omega (arith, l, w));
      is = λ d. get_or-append nodes (more ∷ []) d place h.within ∙ h.is d;
    })

pub inside_put : {D : ℕ} (n : ℕ) (at : List ℤ) (seg : ℕ) (node : NodeAt D) (old new : Front D) → seg < n → IsWaiting at seg node old new
    → All (IsInside n old.nodes) old.waiting → All (IsInside n new.nodes) new.waiting
inside_put n at seg node old new lt h all =
    All-permutation (IsInside n new.nodes) (waiting_of h.dist seg node (length old.nodes) ∷ old.waiting) new.waiting h.moved
    (All-cons (IsInside n new.nodes) (waiting_of h.dist seg node (length old.nodes)) old.waiting
    (record { inside = lt; node = node; stands = stands_new old.nodes new.nodes node h.grown; leaves_are = refl })
    (All-weaker (IsInside n old.nodes) (IsInside n new.nodes)
    (λ t k. record {
      inside = k.inside;
      node = k.node;
      stands = stands_still old.nodes new.nodes node k.node t.place h.grown k.stands;
      leaves_are = k.leaves_are;
    }) old.waiting all))

-- an element read is the one that any default gives
pub read_any : {X : Type 0} (xs : List X) (i : ℕ) (x d : X) → i < length xs → x ≡ get_or xs i x → get_or xs i d ≡ x
read_any xs i x d h e = get_or_from_slice_get xs i x d (slice_get_read xs (length xs) i x refl h e)
