-- How far the entries below a node are.
use Rattle.std.proofs.Common.{◌≡◌, ℕ, ◌+◌, ◌*◌, ◌≤◌, ◌<◌, Bool, true, false, cond, List, [], ◌∷◌}
use Rattle.std.proofs.Common.{length, get_or, ℤ, ◌-ℤ◌, ◌≤ℤ◌, unsigned_abs, pos, refl, sym, ◌∙◌, arith}
use Rattle.std.proofs.lemmas.Int.{ints}
use Rattle.std.proofs.lemmas.List.{length-set}
use Rattle.std.proofs.lemmas.List.Sums.{sum_by-cons}
use Rattle.std.proofs.lemmas.List.Elements.{All-head, All-tail}
use Rattle.std.specs.List.{sum_by, All}
use Rattle.point_codec.specs.Points.{Item, Region, dist2, in_box, all_le}
use Rattle.point_codec.specs.Cells.{left_of, right_of, within}
use Rattle.point_codec.proofs.Corners.{both_true, all_le-trans, left_keeps, right_keeps}
use Rattle.point_codec.proofs.Distances.{nearest_is_least}
use Rattle.point_codec.specs.declared.entries.Near.{Near}
use Rattle.leaf_codec.specs.Leaves.{IsPoint}
use Rattle.live_bits.specs.LiveSet.{LiveSet, is_live}
use Rattle.inner_pack.specs.Places.{Spot}
use Rattle.inner_pack.specs.Trees.{IndexTree, Leaf, Split, HasCells, cell_of, leaf_count}
use Rattle.inner_pack.specs.Bodies.{right_begin}
use Rattle.segment_file.specs.Heads.{Head}
use Rattle.segment_file.specs.Segments.{HoldsLeaf}
use Rattle.documents.specs.NearestEntries.{near_of, nears_of}
use Rattle.nearest_query.specs.Segments.{live_items, least_dist2}
use Rattle.nearest_query.specs.Fronts.{leaf_sum}
use Rattle.nearest_query.specs.Search.{World, HasLeaves, nears_at, live_at}
use Rattle.nearest_query.proofs.WaitingNodes.{span_split, span_one}

gap_sym : (x y : ℤ) → unsigned_abs (x -ℤ y) ≡ unsigned_abs (y -ℤ x)
gap_sym x y = omega (arith, ints)

pub dist2_sym : (p q : List ℤ) → dist2 p q ≡ dist2 q p
dist2_sym [] [] = refl
dist2_sym [] (y ∷ ys) = refl
dist2_sym (x ∷ xs) [] = refl
dist2_sym (x ∷ xs) (y ∷ ys) = (λ i. square_of (gap_sym x y i) + dist2_sym xs ys i)
  where
    square_of : ℕ → ℕ
    square_of a = a * a

-- d is at most the distance of each point of the cell
abbrev pub IsFar : ℕ → List ℤ → ℕ → Region → Type 0
IsFar D at d r = (p : List ℤ) → length p ≡ D → in_box r p ≡ true → d ≤ dist2 p at

pub far_cell : (D : ℕ) (at : List ℤ) (d : ℕ) (r : Region) → d ≤ least_dist2 at r → IsFar D at d r
far_cell D at d r h p e k = let l = nearest_is_least r at p k in let s = dist2_sym at p in omega (arith, h, l, s)

far_within : (D : ℕ) (at : List ℤ) (d : ℕ) (inner outer : Region) → within inner outer ≡ true → IsFar D at d outer → IsFar D at d inner
far_within D at d inner outer h far p e k =
    let w = both_true (all_le outer.lo inner.lo) (all_le inner.hi outer.hi) h in
    let b = both_true (all_le inner.lo p) (all_le p inner.hi) k in
    far p e (rw (all_le-trans outer.lo inner.lo p w.0 b.0, all_le-trans p inner.hi outer.hi b.1 w.1) refl)

module _ (D : ℕ) (at : List ℤ) (d : ℕ) (path : Region) (dim : ℕ) (x : ℤ) (hi : length path.hi ≡ D) (lo : length path.lo ≡ D) (inside : dim < D)
    (from : get_or path.lo dim (pos 0) ≤ℤ x) (to : x ≤ℤ get_or path.hi dim (pos 0)) (far : IsFar D at d path) where
  pub far_left : IsFar D at d (left_of path dim x)
  far_left p e k = far p e (both_true _ _ (sym (left_keeps path dim x (lo ∙ sym hi) (omega (arith, inside, hi)) from to p (e ∙ sym hi)) ∙ k)).0

  pub far_right : IsFar D at d (right_of path dim x)
  far_right p e k = far p e (both_true _ _ (sym (right_keeps path dim x (lo ∙ sym hi) (omega (arith, inside, hi)) from to p (e ∙ sym hi)) ∙ k)).0

-- ---- a sum that is nothing over what is far

module _ (f : Near → ℕ) (d : ℕ) (none : (y : Near) → d ≤ y.dist2 → f y ≡ 0) (D : ℕ) where
  zero_items : (at : List ℤ) (live : LiveSet) (own : Region) (items : List Item) → IsFar D at d own → All (λ y. in_box own y.at ≡ true) items
      → All (λ y. IsPoint D y.at) items
      → sum_by f (nears_of at (live_items live items)) ≡ 0
  zero_items at live own [] far inside points = refl
  zero_items at live own (y ∷ ys) far inside points =
      by_live (is_live live y.doc)
      (zero_items at live own ys far (All-tail (λ y. in_box own y.at ≡ true) y ys inside) (All-tail (λ y. IsPoint D y.at) y ys points))
    where
      here : f (near_of at y) ≡ 0
      here = none (near_of at y) (far y.at (All-head (λ y. IsPoint D y.at) y ys points).dims (All-head (λ y. in_box own y.at ≡ true) y ys inside))

      by_live : (b : Bool) → sum_by f (nears_of at (live_items live ys)) ≡ 0 → sum_by f (nears_of at (cond b (y ∷ live_items live ys) (live_items live ys))) ≡ 0
      by_live true h = let c = sum_by-cons f (near_of at y) (nears_of at (live_items live ys)) in let p = here in omega (arith, c, p, h)
      by_live false h = h

  zero_leaf : (bytes : List ℕ) (head : Head) (number : ℕ) (s : Spot) (len : ℕ) (own : Region) (at : List ℤ) (live : LiveSet) (items : List Item)
      → HoldsLeaf D bytes head number s len own items → IsFar D at d own
      → sum_by f (nears_of at (live_items live items)) ≡ 0
  unfolding HoldsLeaf
  zero_leaf bytes head number s len own at live items h far = zero_items at live own items far h.spells.inside h.spells.spells.are_leaf.points

  zero_below : (w : World) (i first : ℕ) (s : Spot) (path : Region) (t : IndexTree) → length path.hi ≡ D → length path.lo ≡ D → HasCells D path t
      → HasLeaves D w i first s t → IsFar D w.at d path
      → leaf_sum (λ j n. sum_by f (nears_at w j n)) i first (leaf_count t) ≡ 0
  zero_below w i first s path (Leaf len own) hi lo cells leaves far =
      span_one (λ j n. sum_by f (nears_at w j n)) i first
      ∙ zero_leaf _ _ first s len own w.at (live_at w i) (w.table i first) leaves.0 (far_within D w.at d own path cells.1 far)
  zero_below w i first s path (Split dim x l r) hi lo cells leaves far =
      let cut = cells.0 in
      let hi' : length (left_of path dim x).hi ≡ D = length-set path.hi dim x ∙ hi in
      let lo' : length (right_of path dim x).lo ≡ D = length-set path.lo dim x ∙ lo in
      let a = zero_below w i first s (left_of path dim x) l hi' lo cells.1 leaves.0 (far_left D w.at d path dim x hi lo cut.dimension cut.from cut.to far) in
      let b = zero_below w i (first + leaf_count l) (right_begin s l r) (right_of path dim x) r hi lo' cells.2 leaves.1
      (far_right D w.at d path dim x hi lo cut.dimension cut.from cut.to far) in
      let c = span_split (λ n. sum_by f (nears_at w i n)) first (leaf_count l) (leaf_count r) in
      omega (arith, a, b, c)

  -- nothing that counts is below a node that is far
  pub zero_node : (w : World) (i first : ℕ) (s : Spot) (path : Region) (t : IndexTree) → length path.hi ≡ D → length path.lo ≡ D → HasCells D path t
      → HasLeaves D w i first s t → d ≤ least_dist2 w.at (cell_of path t)
      → leaf_sum (λ j n. sum_by f (nears_at w j n)) i first (leaf_count t) ≡ 0
  zero_node w i first s path (Leaf len own) hi lo cells leaves h =
      span_one (λ j n. sum_by f (nears_at w j n)) i first
      ∙ zero_leaf _ _ first s len own w.at (live_at w i) (w.table i first) leaves.0 (far_cell D w.at d own h)
  zero_node w i first s path (Split dim x l r) hi lo cells leaves h =
      zero_below w i first s path (Split dim x l r) hi lo cells leaves (far_cell D w.at d path h)
