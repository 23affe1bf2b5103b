-- The steps of a search.
use Rattle.std.proofs.Common.{◌≡◌, ℕ, ◌+◌, ◌<◌, true, cond, List, ◌∷◌, length, ℤ, Option, Result, refl, sym, ap, subst, ◌∙◌, arith}
use Rattle.std.proofs.lemmas.List.{length-set}
use Rattle.std.proofs.lemmas.List.Sums.{sum_by-cons}
use Rattle.std.proofs.lemmas.List.Sorted.{All-permutation, sum_by-IsPermutation}
use Rattle.std.proofs.lemmas.List.Elements.{All-cons, All-head, All-tail, All-weaker}
use Rattle.std.specs.Prelude.{OnOk}
use Rattle.std.specs.List.{sum_by, All}
use Rattle.std.specs.List.Sorted.{IsPermutation}
use Rattle.page_cache.specs.Evidence.{NotDamaged}
use Rattle.page_cache.specs.declared.faults.PageFault.{PageFault}
use Rattle.outer_io.specs.Files.{Files, bytes_of}
use Rattle.outer_io.specs.declared.file_name.FileName.TheVariants.{Segment}
use Rattle.point_codec.specs.Points.{Item, Region}
use Rattle.point_codec.specs.Cells.{left_of, right_of}
use Rattle.point_codec.specs.declared.entries.Near.{Near}
use Rattle.live_bits.specs.LiveSet.{LiveSet}
use Rattle.inner_pack.specs.Places.{Spot}
use Rattle.inner_pack.specs.Trees.{IndexTree, Leaf, Split, HasCells, cell_of, leaf_count}
use Rattle.inner_pack.specs.Bodies.{right_begin}
use Rattle.inner_pack.specs.Nodes.{IsAt, AreChildren}
use Rattle.inner_pack.specs.declared.node.NodeAt.{NodeAt}
use Rattle.segment_file.specs.Heads.{Head}
use Rattle.segment_file.specs.Segments.{HoldsLeaf}
use Rattle.nearest_query.specs.declared.candidates.Candidates.{Candidates}
use Rattle.nearest_query.specs.declared.frontier.Waiting.{Waiting}
use Rattle.documents.specs.NearestEntries.{nears_of}
use Rattle.nearest_query.specs.Best.{AreBest, AreAdded}
use Rattle.nearest_query.specs.Segments.{live_items, least_dist2, is_within}
use Rattle.nearest_query.specs.Fronts.{Front, IsWaiting, leaf_sum, sum_below}
use Rattle.nearest_query.specs.Search.{World, IsNode, IsSought, HasLeaves, head_at, live_at, nears_at, one_within}
use Rattle.nearest_query.proofs.WaitingNodes.{span_split, span_one, waiting_of, waiting_sum, stands_new, stands_still}
use Rattle.segment_file.proofs.Subtrees.{only_leaf, on_ok}

-- a node that is put is one of its segment's tree, and those that waited stay so
pub nodes_put : {D : ℕ} (w : World) (at : List ℤ) (seg : ℕ) (node : NodeAt D) (old new : Front D) (first : ℕ) (s : Spot) (path : Region) (t : IndexTree)
    → IsWaiting at seg node old new → w.at ≡ at
    → seg < length w.heads → IsAt node first s path t → length path.hi ≡ D → length path.lo ≡ D → HasCells D path t → HasLeaves D w seg first s t
    → All (IsNode D w old.nodes) old.waiting → All (IsNode D w new.nodes) new.waiting
nodes_put {D} w at seg node old new first s path t put at_is inside is hi lo cells leaves all =
    let facts = put.is first s path t is in
    All-permutation (IsNode D w new.nodes) (waiting_of put.dist seg node (length old.nodes) ∷ old.waiting) new.waiting put.moved
    (All-cons (IsNode D w new.nodes) (waiting_of put.dist seg node (length old.nodes)) old.waiting
    (record {
      inside = inside;
      node = node;
      stands = stands_new old.nodes new.nodes node put.grown;
      spot = s;
      path = path;
      tree = t;
      is = subst (λ k. IsAt node k s path t) (sym facts.1) is;
      count = facts.2;
      node_count = facts.2;
      dims = hi;
      dims_too = lo;
      cells = cells;
      leaves = subst (λ k. HasLeaves D w seg k s t) (sym facts.1) leaves;
      dist = facts.0 ∙ ap (λ a. least_dist2 a (cell_of path t)) (sym at_is);
    })
    (All-weaker (IsNode D w old.nodes) (IsNode D w new.nodes)
    (λ u k. record {
      inside = k.inside;
      node = k.node;
      stands = stands_still old.nodes new.nodes node k.node u.place put.grown k.stands;
      spot = k.spot;
      path = k.path;
      tree = k.tree;
      is = k.is;
      count = k.count;
      node_count = k.node_count;
      dims = k.dims;
      dims_too = k.dims_too;
      cells = k.cells;
      leaves = k.leaves;
      dist = k.dist;
    }) old.waiting all))

-- both children cover what the node does
pub children_span : {D : ℕ} (w : World) (nodes : List (NodeAt D)) (next : Waiting) (n : IsNode D w nodes next) (left right : NodeAt D)
    → AreChildren left right next.first n.spot n.path n.tree
    → (leaves : (left.leaves ≡ left.leaves)) → (g : ℕ → ℕ → ℕ) → left.leaves + right.leaves ≡ n.node.leaves
    → ((first : ℕ) (s : Spot) (path : Region) (t : IndexTree) → IsAt left first s path t → left.leaves ≡ leaf_count t)
    → leaf_sum g next.segment left.first left.leaves + leaf_sum g next.segment right.first right.leaves ≡ sum_below g next
children_span w nodes next n left right kids leaves g sum counted =
    let lc = counted next.first n.spot (left_of n.path kids.dimension kids.value) kids.l kids.left_is in
    let a : left.first ≡ next.first = kids.left_is.first_is in
    let b : right.first ≡ next.first + left.leaves = kids.right_is.first_is ∙ ap (λ k. next.first + k) (sym lc) in
    let c : next.leaves ≡ left.leaves + right.leaves = n.count ∙ sym n.node_count ∙ sym sum in
    let p : leaf_sum g next.segment left.first left.leaves ≡ leaf_sum g next.segment next.first left.leaves =
    ap (λ k. leaf_sum g next.segment k left.leaves) a in
    let q : leaf_sum g next.segment right.first right.leaves ≡ leaf_sum g next.segment (next.first + left.leaves) right.leaves =
    ap (λ k. leaf_sum g next.segment k right.leaves) b in
    let r : sum_below g next ≡ leaf_sum g next.segment next.first (left.leaves + right.leaves) = ap (λ k. leaf_sum g next.segment next.first k) c in
    let s = span_split (g next.segment) next.first left.leaves right.leaves in
    omega (arith, p, q, r, s)

-- the parts of a forked node
record Parts (D : ℕ) (w : World) (i first : ℕ) (s : Spot) (path : Region) (dim : ℕ) (x : ℤ) (l r : IndexTree) : Type 0 where
  left_hi : length (left_of path dim x).hi ≡ D
  left_lo : length (left_of path dim x).lo ≡ D
  right_hi : length (right_of path dim x).hi ≡ D
  right_lo : length (right_of path dim x).lo ≡ D
  left_cells : HasCells D (left_of path dim x) l
  right_cells : HasCells D (right_of path dim x) r
  left_leaves : HasLeaves D w i first s l
  right_leaves : HasLeaves D w i (first + leaf_count l) (right_begin s l r) r

parts : (D : ℕ) (w : World) (i first : ℕ) (s : Spot) (path : Region) (t : IndexTree) (dim : ℕ) (x : ℤ) (l r : IndexTree) → t ≡ Split dim x l r
    → length path.hi ≡ D → length path.lo ≡ D → HasCells D path t → HasLeaves D w i first s t
    → Parts D w i first s path dim x l r
parts D w i first s path t dim x l r e hi lo cells leaves =
    let cells' : HasCells D path (Split dim x l r) = subst (λ u. HasCells D path u) e cells in
    let leaves' : HasLeaves D w i first s (Split dim x l r) = subst (λ u. HasLeaves D w i first s u) e leaves in
    record {
      left_hi = length-set path.hi dim x ∙ hi;
      left_lo = lo;
      right_hi = hi;
      right_lo = length-set path.lo dim x ∙ lo;
      left_cells = cells'.1;
      right_cells = cells'.2;
      left_leaves = leaves'.0;
      right_leaves = leaves'.1;
    }

-- after a fork both children of the node wait
pub fork_step : {D : ℕ} (w : World) (all : List Near) (at : List ℤ) (next : Waiting) (old mid new : Front D) (left right : NodeAt D) (found : Candidates)
    → w.at ≡ at
    → (s : IsSought D w all (next ∷ old.waiting) old.nodes found)
    → ((n : IsNode D w old.nodes next) → AreChildren left right next.first n.spot n.path n.tree × (left.leaves + right.leaves ≡ n.node.leaves))
    → IsWaiting at next.segment left old mid → IsWaiting at next.segment right mid new → IsSought D w all new.waiting new.nodes found
fork_step {D} w all at next old mid new left right found at_is s kids_of put_left put_right = record {
  seen = s.seen;
  best = s.best;
  nodes_are = nodes_put w at next.segment right mid new (next.first + leaf_count kids.l) (right_begin n.spot kids.l kids.r)
      (right_of n.path kids.dimension kids.value) kids.r put_right at_is n.inside kids.right_is
      pieces.right_hi pieces.right_lo pieces.right_cells pieces.right_leaves
      (nodes_put w at next.segment left old mid next.first n.spot (left_of n.path kids.dimension kids.value) kids.l put_left at_is n.inside kids.left_is
      pieces.left_hi pieces.left_lo pieces.left_cells pieces.left_leaves (All-tail (IsNode D w old.nodes) next old.waiting s.nodes_are));
  totals = λ f.
      let g : ℕ → ℕ → ℕ = λ i k. sum_by f (nears_at w i k) in
      let t = s.totals f in
      let c = sum_by-cons (sum_below g) next old.waiting in
      let a = waiting_sum at next.segment left old mid put_left g in
      let b = waiting_sum at next.segment right mid new put_right g in
      let d = children_span w old.nodes next n left right kids refl g (kids_of n).1 (λ first sp path tr is. (put_left.is first sp path tr is).2) in
      omega (arith, t, c, a, b, d);
}
  where
    n : IsNode D w old.nodes next
    n = All-head (IsNode D w old.nodes) next old.waiting s.nodes_are

    kids : AreChildren left right next.first n.spot n.path n.tree
    kids = (kids_of n).0

    pieces : Parts D w next.segment next.first n.spot n.path kids.dimension kids.value kids.l kids.r
    pieces = parts D w next.segment next.first n.spot n.path n.tree kids.dimension kids.value kids.l kids.r kids.is n.dims n.dims_too n.cells n.leaves

-- what opening a leaf promises of the candidates
abbrev pub Opens : {D : ℕ} {T E : Type 0} → List ℤ → Files → Head → LiveSet → NodeAt D → Result T E → Candidates → Candidates → Type 0
Opens {D} at files head live node r old new =
    (first : ℕ) (s : Spot) (path : Region) (len : ℕ) (own : Region) (items : List Item) (seen : List Near)
    → IsAt node first s path (Leaf len own) → HoldsLeaf D (bytes_of (files (Segment head.id))) head first s len own items
    → AreBest seen old → OnOk r (AreAdded seen (nears_of at (live_items live items)) new)

-- the entries of a leaf were seen now
pub leaf_step : {D : ℕ} {T E : Type 0} (w : World) (all : List Near) (next : Waiting) (waiting : List Waiting) (nodes : List (NodeAt D)) (node : NodeAt D)
    (old new : Candidates) (r : Result T E)
    → IsSought D w all (next ∷ waiting) nodes old → node.leaves ≡ 1 → ((n : IsNode D w nodes next) → node ≡ n.node)
    → Opens w.at w.files (head_at w next.segment) (live_at w next.segment) node r old new
    → OnOk r (IsSought D w all waiting nodes new)
leaf_step {D} w all next waiting nodes node old new r s single node_is opens =
    (only_leaf (λ t. IsAt node next.first n.spot n.path t → HasLeaves D w next.segment next.first n.spot t → OnOk r (IsSought D w all waiting nodes new))
    n.tree is_one
    (λ len own is leaves. on_ok (AreAdded s.seen (nears_at w next.segment next.first) new) (IsSought D w all waiting nodes new) r after
    (opens next.first n.spot n.path len own (w.table next.segment next.first) s.seen is leaves.0 s.best)))
    (subst (λ m. IsAt m next.first n.spot n.path n.tree) (sym (node_is n)) n.is) n.leaves
  where
    n : IsNode D w nodes next
    n = All-head (IsNode D w nodes) next waiting s.nodes_are

    is_one : leaf_count n.tree ≡ 1
    is_one = sym n.node_count ∙ ap (λ m. m.leaves) (sym (node_is n)) ∙ single

    after : AreAdded s.seen (nears_at w next.segment next.first) new → IsSought D w all waiting nodes new
    after added = record {
      seen = added.after;
      best = added.best;
      nodes_are = All-tail (IsNode D w nodes) next waiting s.nodes_are;
      totals = λ f.
          let g : ℕ → ℕ → ℕ = λ i k. sum_by f (nears_at w i k) in
          let t = s.totals f in
          let a = added.totals f in
          let c = sum_by-cons (sum_below g) next waiting in
          let e : sum_below g next ≡ g next.segment next.first =
          ap (λ k. leaf_sum g next.segment next.first k) (n.count ∙ is_one) ∙ span_one g next.segment next.first in
          omega (arith, t, a, c, e);
    }

-- a leaf within the bound counts as one
pub leaf_counts : {D : ℕ} (w : World) (bound : Option ℕ) (nodes : List (NodeAt D)) (next : Waiting) → (n : IsNode D w nodes next) → n.node.leaves ≡ 1
    → is_within bound next.dist2.0 ≡ true
    → sum_below (one_within w bound) next ≡ 1
leaf_counts {D} w bound nodes next n single in' =
    ap (λ k. leaf_sum (one_within w bound) next.segment next.first k) (n.count ∙ sym n.node_count ∙ single)
    ∙ span_one (one_within w bound) next.segment next.first
    ∙ ap (λ b. cond b 1 0)
    (only_leaf
    (λ t. HasLeaves D w next.segment next.first n.spot t → next.dist2.0 ≡ least_dist2 w.at (cell_of n.path t)
    → is_within bound (w.least next.segment next.first) ≡ true) n.tree (sym n.node_count ∙ single)
    (λ len own leaves dist. ap (is_within bound) (leaves.1 ∙ sym dist) ∙ in') n.leaves n.dist)

pub sought_moved : {D : ℕ} (w : World) (all : List Near) (waiting waiting' : List Waiting) (nodes : List (NodeAt D)) (found : Candidates)
    → IsPermutation waiting waiting' → IsSought D w all waiting nodes found → IsSought D w all waiting' nodes found
sought_moved {D} w all waiting waiting' nodes found moved s = record {
  seen = s.seen;
  best = s.best;
  nodes_are = All-permutation (IsNode D w nodes) waiting waiting' moved s.nodes_are;
  totals = λ f. let t = s.totals f in let p = sum_by-IsPermutation (sum_below (λ i n. sum_by f (nears_at w i n))) waiting waiting' moved in omega (arith, t, p);
}

-- what opening a leaf promises of damages
abbrev pub OpensWhole : {D : ℕ} {T : Type 0} → Files → Head → NodeAt D → Result T PageFault → Type 0
OpensWhole {D} files head node r =
    (first : ℕ) (s : Spot) (path : Region) (len : ℕ) (own : Region) (items : List Item)
    → IsAt node first s path (Leaf len own) → HoldsLeaf D (bytes_of (files (Segment head.id))) head first s len own items → NotDamaged r

pub leaf_whole : {D : ℕ} {T : Type 0} (w : World) (next : Waiting) (nodes : List (NodeAt D)) (node : NodeAt D) (r : Result T PageFault)
    → (n : IsNode D w nodes next) → node.leaves ≡ 1 → node ≡ n.node
    → OpensWhole w.files (head_at w next.segment) node r → NotDamaged r
leaf_whole {D} w next nodes node r n single same opens =
    (only_leaf (λ t. IsAt node next.first n.spot n.path t → HasLeaves D w next.segment next.first n.spot t → NotDamaged r) n.tree
    (sym n.node_count ∙ ap (λ m. m.leaves) (sym same) ∙ single)
    (λ len own is leaves. opens next.first n.spot n.path len own (w.table next.segment next.first) is leaves.0))
    (subst (λ m. IsAt m next.first n.spot n.path n.tree) (sym same) n.is) n.leaves
