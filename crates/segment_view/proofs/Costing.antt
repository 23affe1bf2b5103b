-- What the walk of a segment counts, told of any tree that its index spells.
use Rattle.std.proofs.Common.{ℕ, ◌≡◌, ◌≤◌, ◌*◌, Bool, List, [], ◌∷◌, ℤ, Result, Ok, Err, arith}
use Rattle.std.specs.Prelude.{IfOk}
use Rattle.point_codec.specs.Points.{Region}
use Rattle.inner_pack.specs.Trees.{IndexTree}
use Rattle.inner_pack.specs.Bodies.{Body, HasTree, IsSpelled}
use Rattle.page_cache.specs.declared.faults.PageFault.{PageFault}
use Rattle.segment_file.specs.Heads.{Head, HasRanges, count_of}
use Rattle.bkd_reader.specs.Counts.{IsCost, tested_entries, touched_leaves}
use Rattle.bkd_reader.specs.declared.walk.Cost.{Cost}
use Rattle.bkd_reader.proofs.Trees.{tree_count}
use Rattle.segment_view.specs.Costs.{AreTested, AreTouched}
use Rattle.segment_view.proofs.Counting.{counted_one, count-le, le_by_tree, tested-le, touched-le}

-- what a call tells of each tree of an index
abbrev pub Tells : (D : ℕ) → Head → (List ℤ → Bool) → (Region → Bool) → Result Cost PageFault → Type 0
Tells D head has crosses r = (root : Region) (t : IndexTree) → HasTree D head.index root t → IfOk r (IsCost head has crosses t)

module _ (D : ℕ) (has : List ℤ → Bool) (crosses : Region → Bool) (head : Head) where
  pub one_tested : (r : Result Cost PageFault) → Tells D head has crosses r → IfOk r (λ n. AreTested D crosses (head ∷ []) n.tested)
  one_tested (Ok n) tells =
      counted_one D (λ (h : Head) (t : IndexTree). tested_entries crosses (count_of h) 0 t) head n.tested (λ root t is. (tells root t is).0)
  one_tested (Err f) tells = tt

  pub one_touched : (r : Result Cost PageFault) → Tells D head has crosses r → IfOk r (λ n. AreTouched D has crosses (head ∷ []) n.touched)
  one_touched (Ok n) tells =
      counted_one D (λ (h : Head) (t : IndexTree). touched_leaves has crosses t) head n.touched (λ root t is. (tells root t is).1)
  one_touched (Err f) tells = tt

  pub few_tested : (seen : Body) → HasRanges D head → seen ≡ head.index → ∥ IsSpelled D seen ∥₁ → (r : Result Cost PageFault)
      → Tells D head has crosses r → IfOk r (λ n. n.tested ≤ 4000 * 8388608)
  few_tested seen ranges e spelled (Ok n) tells =
      le_by_tree D head.index seen e spelled n.tested (4000 * 8388608)
      (λ root t is.
      let counts = (tells root t is).0 in
      let most = tested-le crosses (count_of head) 4000 (λ m. count-le D head m ranges) 0 t in
      let leaves = tree_count D head.index root t is in
      omega (arith, counts, most, leaves, is.tree.few))
  few_tested seen ranges e spelled (Err f) tells = tt

  pub few_touched : (seen : Body) → seen ≡ head.index → ∥ IsSpelled D seen ∥₁ → (r : Result Cost PageFault)
      → Tells D head has crosses r → IfOk r (λ n. n.touched ≤ 8388608)
  few_touched seen e spelled (Ok n) tells =
      le_by_tree D head.index seen e spelled n.touched 8388608
      (λ root t is.
      let counts = (tells root t is).1 in
      let most = touched-le has crosses t in
      let leaves = tree_count D head.index root t is in
      omega (arith, counts, most, leaves, is.tree.few))
  few_touched seen e spelled (Err f) tells = tt
