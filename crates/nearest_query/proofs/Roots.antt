-- The roots of the segments, and what they cover.
use Rattle.std.proofs.Common.{◌≡◌, ℕ, ◌+◌, ◌-◌, ◌/◌, ◌≤◌, ◌<◌, zero, suc, Bool, true, false, cond, List}
use Rattle.std.proofs.Common.{[], ◌∷◌, length, get_or, ℤ, Option, refl, sym, ap, subst, ◌∙◌, arith}
use Rattle.std.proofs.lemmas.List.{map-append}
use Rattle.std.proofs.lemmas.List.Sums.{sum_by-cons, sum_by-append}
use Rattle.std.proofs.lemmas.List.Elements.{filter-append}
use Rattle.std.specs.Prelude.{nat_lt, nat_eq}
use Rattle.std.specs.List.{sum_by, All, range_with_len, list_any}
use Rattle.std.proofs.lemmas.Bool.Decides.{nat_tests}
use Rattle.outer_io.specs.Files.{bytes_of}
use Rattle.outer_io.specs.declared.file_name.FileName.TheVariants.{Segment}
use Rattle.point_codec.specs.Points.{Item, Region}
use Rattle.point_codec.specs.declared.entries.Near.{Near}
use Rattle.live_bits.specs.LiveSet.{LiveSet, is_live}
use Rattle.inner_pack.specs.Places.{Spot, front}
use Rattle.inner_pack.specs.Trees.{IndexTree, Leaf, Split, IsShaped, leaf_count}
use Rattle.inner_pack.specs.Bodies.{HasTree, right_begin}
use Rattle.inner_pack.specs.Nodes.{IsAt}
use Rattle.inner_pack.specs.declared.node.NodeAt.{NodeAt}
use Rattle.segment_file.specs.Heads.{Head}
use Rattle.segment_file.specs.Segments.{HoldsTree, HoldsLeaf}
use Rattle.nearest_query.specs.declared.frontier.Waiting.{Waiting}
use Rattle.documents.specs.NearestEntries.{near_of, nears_of}
use Rattle.nearest_query.specs.Segments.{live_items, live_in, least_dist2, is_within, near_leaves, AreNearLeaves}
use Rattle.nearest_query.specs.Fronts.{Front, IsWaiting, leaf_sum, sum_below}
use Rattle.nearest_query.specs.Search.{World, IsNode, HasLeaves, HasRoots, head_at, live_at, nears_at, one_within, no_live}
use Rattle.nearest_query.specs.Segments.{no_head}
use Rattle.nearest_query.proofs.WaitingNodes.{span_split, span_one, waiting_sum}
use Rattle.nearest_query.proofs.Steps.{nodes_put}
use Rattle.segment_file.proofs.Subtrees.{some_leaf}

pub shaped_count : (n : ℕ) (t : IndexTree) → IsShaped n t → n ≡ leaf_count t
shaped_count n (Leaf len own) h = h
shaped_count n (Split d x l r) h = let a = shaped_count (n - n / 2) l h.1 in let b = shaped_count (n / 2) r h.2 in omega (arith, a, b)

-- ---- roots that wait

pub root_nodes : {D : ℕ} (w : World) (at : List ℤ) (i : ℕ) (node : NodeAt D) (old new : Front D) → HasRoots D w → w.at ≡ at → i < length w.heads
    → ((root : Region) (t : IndexTree) → HasTree D (head_at w i).index root t → IsAt node 0 front root t)
    → IsWaiting at i node old new → All (IsNode D w old.nodes) old.waiting → All (IsNode D w new.nodes) new.waiting
root_nodes w at i node old new roots at_is lt walk put all =
    let r = roots i lt in
    nodes_put w at i node old new 0 front r.root r.tree put at_is lt (walk r.root r.tree r.has) r.has.tree.root_cell.hi_dims r.has.tree.root_cell.lo_dims
    r.has.tree.cells r.leaves all

-- what the segments have up to one, and with it
one_segment : (w : World) (g : ℕ → ℕ → ℕ) (i : ℕ)
    → sum_by (λ j. leaf_sum g j 0 (head_at w j).index.leaves) (range_with_len 0 (i + 1))
    ≡ sum_by (λ j. leaf_sum g j 0 (head_at w j).index.leaves) (range_with_len 0 i) + leaf_sum g i 0 (head_at w i).index.leaves
one_segment w g i =
    let q = span_split (λ j. leaf_sum g j 0 (head_at w j).index.leaves) 0 i 1 in
    let z : zero + i ≡ i = omega arith in
    let c = sum_by-cons (λ j. leaf_sum g j 0 (head_at w j).index.leaves) (zero + i) [] in
    let e : leaf_sum g (zero + i) 0 (head_at w (zero + i)).index.leaves ≡ leaf_sum g i 0 (head_at w i).index.leaves =
    ap (λ k. leaf_sum g k 0 (head_at w k).index.leaves) z in
    omega (arith, q, c, e)

-- a root that waits adds what its segment has
pub root_adds : {D : ℕ} (w : World) (at : List ℤ) (i : ℕ) (node : NodeAt D) (old new : Front D) → HasRoots D w → i < length w.heads
    → ((root : Region) (t : IndexTree) → HasTree D (head_at w i).index root t → IsAt node 0 front root t)
    → IsWaiting at i node old new → (g : ℕ → ℕ → ℕ)
    → sum_by (sum_below g) new.waiting ≡ leaf_sum g i 0 (head_at w i).index.leaves + sum_by (sum_below g) old.waiting
root_adds w at i node old new roots lt walk put g =
    let r = roots i lt in
    let facts = put.is 0 front r.root r.tree (walk r.root r.tree r.has) in
    let count : node.leaves ≡ (head_at w i).index.leaves = facts.2 ∙ sym (shaped_count (head_at w i).index.leaves r.tree r.has.tree.shaped) in
    let s = waiting_sum at i node old new put g in
    let p : leaf_sum g i node.first node.leaves ≡ leaf_sum g i 0 (head_at w i).index.leaves =
    ap (λ k. leaf_sum g i k node.leaves) facts.1 ∙ ap (λ k. leaf_sum g i 0 k) count in
    omega (arith, s, p)

pub root_totals : {D : ℕ} (w : World) (at : List ℤ) (i : ℕ) (node : NodeAt D) (old new : Front D) → HasRoots D w → i < length w.heads
    → ((root : Region) (t : IndexTree) → HasTree D (head_at w i).index root t → IsAt node 0 front root t)
    → IsWaiting at i node old new → (g : ℕ → ℕ → ℕ)
    → sum_by (sum_below g) old.waiting ≡ sum_by (λ j. leaf_sum g j 0 (head_at w j).index.leaves) (range_with_len 0 i)
    → sum_by (sum_below g) new.waiting ≡ sum_by (λ j. leaf_sum g j 0 (head_at w j).index.leaves) (range_with_len 0 (i + 1))
root_totals w at i node old new roots lt walk put g was =
    let a = root_adds w at i node old new roots lt walk put g in
    let b = one_segment w g i in
    omega (arith, a, b, was)

pub root_most : {D : ℕ} (w : World) (at : List ℤ) (i : ℕ) (node : NodeAt D) (old new : Front D) → HasRoots D w → i < length w.heads
    → ((root : Region) (t : IndexTree) → HasTree D (head_at w i).index root t → IsAt node 0 front root t)
    → IsWaiting at i node old new → (g : ℕ → ℕ → ℕ)
    → sum_by (sum_below g) old.waiting ≤ sum_by (λ j. leaf_sum g j 0 (head_at w j).index.leaves) (range_with_len 0 i)
    → sum_by (sum_below g) new.waiting ≤ sum_by (λ j. leaf_sum g j 0 (head_at w j).index.leaves) (range_with_len 0 (i + 1))
root_most w at i node old new roots lt walk put g was =
    let a = root_adds w at i node old new roots lt walk put g in
    let b = one_segment w g i in
    omega (arith, a, b, was)

-- a segment that has nothing of it may be passed over
span_none : (h : ℕ → ℕ) (first count : ℕ) → ((n : ℕ) → h n ≡ 0) → sum_by h (range_with_len first count) ≡ 0
span_none h first zero none = refl
span_none h first (suc n) none =
    let a = sum_by-cons h first (range_with_len (first + 1) n) in
    let b = none first in
    let c = span_none h (first + 1) n none in
    omega (arith, a, b, c)

pub passed_totals : (w : World) (i : ℕ) (waiting : List Waiting) (g : ℕ → ℕ → ℕ) → ((n : ℕ) → g i n ≡ 0)
    → sum_by (sum_below g) waiting ≡ sum_by (λ j. leaf_sum g j 0 (head_at w j).index.leaves) (range_with_len 0 i)
    → sum_by (sum_below g) waiting ≡ sum_by (λ j. leaf_sum g j 0 (head_at w j).index.leaves) (range_with_len 0 (i + 1))
passed_totals w i waiting g none was =
    let a = span_none (g i) 0 (head_at w i).index.leaves none in
    let b = one_segment w g i in
    omega (arith, a, b, was)

pub passed_most : (w : World) (i : ℕ) (waiting : List Waiting) (g : ℕ → ℕ → ℕ)
    → sum_by (sum_below g) waiting ≤ sum_by (λ j. leaf_sum g j 0 (head_at w j).index.leaves) (range_with_len 0 i)
    → sum_by (sum_below g) waiting ≤ sum_by (λ j. leaf_sum g j 0 (head_at w j).index.leaves) (range_with_len 0 (i + 1))
passed_most w i waiting g was = let b = one_segment w g i in omega (arith, b, was)

-- where no number is live there is no live entry
never_live : (live : LiveSet) (n : ℕ) → live.live ≡ [] → is_live live n ≡ false
unfolding is_live
never_live live n none = ap (λ (ns : List ℕ). list_any (λ d. nat_eq d n) ns) none

no_live_items : (live : LiveSet) (xs : List Item) → live.live ≡ [] → live_items live xs ≡ []
no_live_items live [] none = refl
no_live_items live (x ∷ xs) none =
    ap (λ (b : Bool). cond b (x ∷ live_items live xs) (live_items live xs)) (never_live live x.doc none) ∙ no_live_items live xs none

pub no_nears : (w : World) (f : Near → ℕ) (i n : ℕ) → (live_at w i).live ≡ [] → sum_by f (nears_at w i n) ≡ 0
no_nears w f i n none = ap (λ xs. sum_by f (nears_of w.at xs)) (no_live_items (live_at w i) (w.table i n) none)

-- ---- the leaves of a segment, told by their numbers

abbrev pub leaves_of : (D : ℕ) (bytes : List ℕ) (head : Head) (first : ℕ) (s : Spot) (t : IndexTree) (items : List Item)
    → HoldsTree D bytes head first s t items → ℕ → List Item
leaves_of D bytes head first s (Leaf len own) items h n = items
leaves_of D bytes head first s (Split d x l r) items h n =
    cond (nat_lt n (first + leaf_count l)) (leaves_of D bytes head first s l h.front_items h.front_holds n)
    (leaves_of D bytes head (first + leaf_count l) (right_begin s l r) r h.back_items h.back_holds n)

abbrev pub least_of : List ℤ → ℕ → IndexTree → ℕ → ℕ
least_of at first (Leaf len own) n = least_dist2 at own
least_of at first (Split d x l r) n = cond (nat_lt n (first + leaf_count l)) (least_of at first l n) (least_of at (first + leaf_count l) r n)

in_left : (n m : ℕ) → n < m → nat_lt n m ≡ true
in_left n m h = grind (arith, nat_tests)

in_right : (n m : ℕ) → m ≤ n → nat_lt n m ≡ false
in_right n m h = grind (arith, nat_tests)

module _ (D : ℕ) (w : World) (i : ℕ) (bytes : List ℕ) (bytes_are : bytes_of (w.files (Segment (head_at w i).id)) ≡ bytes) where
  -- they are those of the world, where that says so
  pub has_leaves : (first : ℕ) (s : Spot) (t : IndexTree) (items : List Item) (h : HoldsTree D bytes (head_at w i) first s t items)
      → ((n : ℕ) → first ≤ n → n < first + leaf_count t → w.table i n ≡ leaves_of D bytes (head_at w i) first s t items h n)
      → ((n : ℕ) → first ≤ n → n < first + leaf_count t → w.least i n ≡ least_of w.at first t n)
      → HasLeaves D w i first s t
  has_leaves first s (Leaf len own) items h table least =
      let here = table first (omega arith) (omega arith) in (
        subst (λ xs. HoldsLeaf D (bytes_of (w.files (Segment (head_at w i).id))) (head_at w i) first s len own xs) (sym here)
            (subst (λ b. HoldsLeaf D b (head_at w i) first s len own items) (sym bytes_are) h),
        least first (omega arith) (omega arith),
      )
  has_leaves first s (Split d x l r) items h table least = (
    has_leaves first s l h.front_items h.front_holds
        (λ n a b.
        let c = some_leaf r in
        table n a (omega (arith, b, c))
        ∙ ap (λ t. cond t (leaves_of D bytes (head_at w i) first s l h.front_items h.front_holds n)
        (leaves_of D bytes (head_at w i) (first + leaf_count l) (right_begin s l r) r h.back_items h.back_holds n)) (in_left n (first + leaf_count l) b))
        (λ n a b.
        let c = some_leaf r in
        least n a (omega (arith, b, c))
        ∙ ap (λ t. cond t (least_of w.at first l n) (least_of w.at (first + leaf_count l) r n)) (in_left n (first + leaf_count l) b)),
    has_leaves (first + leaf_count l) (right_begin s l r) r h.back_items h.back_holds
        (λ n a b. table n (omega (arith, a)) (omega (arith, b))
        ∙ ap (λ t. cond t (leaves_of D bytes (head_at w i) first s l h.front_items h.front_holds n)
        (leaves_of D bytes (head_at w i) (first + leaf_count l) (right_begin s l r) r h.back_items h.back_holds n)) (in_right n (first + leaf_count l) a))
        (λ n a b. least n (omega (arith, a)) (omega (arith, b))
        ∙ ap (λ t. cond t (least_of w.at first l n) (least_of w.at (first + leaf_count l) r n)) (in_right n (first + leaf_count l) a)),
  )

  -- the live entries of all of them are those of the items
  pub leaf_totals : (f : Near → ℕ) (first : ℕ) (s : Spot) (t : IndexTree) (items : List Item) (h : HoldsTree D bytes (head_at w i) first s t items)
      → ((n : ℕ) → first ≤ n → n < first + leaf_count t → w.table i n ≡ leaves_of D bytes (head_at w i) first s t items h n)
      → leaf_sum (λ j n. sum_by f (nears_at w j n)) i first (leaf_count t) ≡ sum_by f (nears_of w.at (live_items (live_at w i) items))
  leaf_totals f first s (Leaf len own) items h table =
      span_one (λ j n. sum_by f (nears_at w j n)) i first
      ∙ ap (λ xs. sum_by f (nears_of w.at (live_items (live_at w i) xs))) (table first (omega arith) (omega arith))
  leaf_totals f first s (Split d x l r) items h table =
      let a = leaf_totals f first s l h.front_items h.front_holds
      (λ n a b.
      let c = some_leaf r in
      table n a (omega (arith, b, c))
      ∙ ap (λ t. cond t (leaves_of D bytes (head_at w i) first s l h.front_items h.front_holds n)
      (leaves_of D bytes (head_at w i) (first + leaf_count l) (right_begin s l r) r h.back_items h.back_holds n)) (in_left n (first + leaf_count l) b)) in
      let b = leaf_totals f (first + leaf_count l) (right_begin s l r) r h.back_items h.back_holds
      (λ n a b. table n (omega (arith, a)) (omega (arith, b))
      ∙ ap (λ t. cond t (leaves_of D bytes (head_at w i) first s l h.front_items h.front_holds n)
      (leaves_of D bytes (head_at w i) (first + leaf_count l) (right_begin s l r) r h.back_items h.back_holds n)) (in_right n (first + leaf_count l) a)) in
      let c = span_split (λ n. sum_by f (nears_at w i n)) first (leaf_count l) (leaf_count r) in
      let joined : sum_by f (nears_of w.at (live_items (live_at w i) items))
      ≡ sum_by f (nears_of w.at (live_items (live_at w i) h.front_items)) + sum_by f (nears_of w.at (live_items (live_at w i) h.back_items)) =
      ap (λ xs. sum_by f (nears_of w.at (live_items (live_at w i) xs))) h.joined
      ∙ ap (λ xs. sum_by f (nears_of w.at xs)) (filter-append (λ y. is_live (live_at w i) y.doc) h.front_items h.back_items)
      ∙ ap (sum_by f) (map-append (near_of w.at) (live_items (live_at w i) h.front_items) (live_items (live_at w i) h.back_items))
      ∙ sum_by-append f (nears_of w.at (live_items (live_at w i) h.front_items)) (nears_of w.at (live_items (live_at w i) h.back_items)) in
      omega (arith, a, b, c, joined)

-- how many of them are within a bound
pub near_totals : (w : World) (i : ℕ) (bound : Option ℕ) (first : ℕ) (t : IndexTree)
    → ((n : ℕ) → first ≤ n → n < first + leaf_count t → w.least i n ≡ least_of w.at first t n)
    → leaf_sum (one_within w bound) i first (leaf_count t) ≡ near_leaves w.at bound t
unfolding near_leaves
near_totals w i bound first (Leaf len own) least =
    span_one (one_within w bound) i first ∙ ap (λ d. cond (is_within bound d) 1 0) (least first (omega arith) (omega arith))
near_totals w i bound first (Split d x l r) least =
    let a = near_totals w i bound first l
    (λ n a b.
    let c = some_leaf r in
    least n a (omega (arith, b, c))
    ∙ ap (λ t. cond t (least_of w.at first l n) (least_of w.at (first + leaf_count l) r n)) (in_left n (first + leaf_count l) b)) in
    let b = near_totals w i bound (first + leaf_count l) r
    (λ n a b. least n (omega (arith, a)) (omega (arith, b))
    ∙ ap (λ t. cond t (least_of w.at first l n) (least_of w.at (first + leaf_count l) r n)) (in_right n (first + leaf_count l) a)) in
    let c = span_split (one_within w bound i) first (leaf_count l) (leaf_count r) in
    omega (arith, a, b, c)

-- ---- sums over positions are sums over lists

pub sum_in : (f : Near → ℕ) (at : List ℤ) (contents : ℕ → List Item) (heads : List Head) (lives : List LiveSet) (a : ℕ) (h : ℕ → ℕ)
    → length lives ≡ length heads
    → ((i : ℕ) → i < length heads → h (a + i) ≡ sum_by f (nears_of at (live_items (get_or lives i no_live) (contents (get_or heads i no_head).id))))
    → sum_by h (range_with_len a (length heads)) ≡ sum_by f (nears_of at (live_in contents heads lives))
sum_in f at contents [] lives a h same each = refl
sum_in f at contents (x ∷ xs) [] a h same each = absurd (omega arith)
sum_in f at contents (x ∷ xs) (l ∷ ls) a h same each =
    let c = sum_by-cons h a (range_with_len (a + 1) (length xs)) in
    let z : a + zero ≡ a = omega arith in
    let first : h a ≡ sum_by f (nears_of at (live_items l (contents x.id))) = ap h (sym z) ∙ each zero (omega arith) in
    let rest =
    sum_in f at contents xs ls (a + 1) h (omega arith) (λ i lt. let e : a + 1 + i ≡ a + suc i = omega arith in ap h e ∙ each (suc i) (omega arith)) in
    let joined = ap (sum_by f) (map-append (near_of at) (live_items l (contents x.id)) (live_in contents xs ls))
    ∙ sum_by-append f (nears_of at (live_items l (contents x.id))) (nears_of at (live_in contents xs ls)) in
    omega (arith, c, first, rest, joined)

-- a tree of the index has so many leaves within the bound
pub record HasNear (D : ℕ) (at : List ℤ) (bound : Option ℕ) (head : Head) (n : ℕ) : Type 0 where
  pub root : Region
  pub tree : IndexTree
  pub has : HasTree D head.index root tree
  pub is : n ≡ near_leaves at bound tree

pub near_in : (D : ℕ) (at : List ℤ) (bound : Option ℕ) (heads : List Head) (a : ℕ) (h : ℕ → ℕ) (n : ℕ) → AreNearLeaves D at bound heads n
    → ((i : ℕ) → i < length heads → HasNear D at bound (get_or heads i no_head) (h (a + i)))
    → sum_by h (range_with_len a (length heads)) ≡ n
near_in D at bound [] a h n all each = sym all
near_in D at bound (x ∷ xs) a h n all each =
    let c = sum_by-cons h a (range_with_len (a + 1) (length xs)) in
    let z : a + zero ≡ a = omega arith in
    let k = each zero (omega arith) in
    let first : h a ≡ all.0 = ap h (sym z) ∙ k.is ∙ sym (all.2 k.root k.tree k.has) in
    let rest = near_in D at bound xs (a + 1) h all.1 all.3
    (λ i lt. let e : a + 1 + i ≡ a + suc i = omega arith in subst (λ m. HasNear D at bound (get_or xs i no_head) (h m)) (sym e) (each (suc i) (omega arith))) in
    let t = all.4 in
    omega (arith, c, first, rest, t)
