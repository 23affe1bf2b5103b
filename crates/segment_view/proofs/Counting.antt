-- Sums over the trees of segments.
use Rattle.std.proofs.Common.{◌≡◌, ℕ, ◌+◌, ◌*◌, ◌≤◌, Bool, true, false, cond, Option, List, [], ◌∷◌, ◌++◌, ℤ, refl, subst, ◌∙◌, arith}
use Rattle.std.proofs.Math.Bridge.{le_prop}
use Rattle.std.proofs.Props.{props}
use Rattle.std.proofs.Math.Logic.{∥∥₁_elim}
use Rattle.std.proofs.Math.Nat.{div-le_self}
use Rattle.point_codec.specs.Points.{Region}
use Rattle.cell_relate.specs.Relations.{is_outside}
use Rattle.inner_pack.specs.Trees.{IndexTree, Leaf, Split, leaf_count}
use Rattle.inner_pack.specs.Bodies.{Body, HasTree, IsSpelled}
use Rattle.segment_file.specs.Heads.{Head, HasRanges, count_of}
use Rattle.bkd_reader.specs.Counts.{tested_entries, touched_leaves}
use Rattle.nearest_query.specs.Segments.{AreNearLeaves, near_leaves, is_within, least_dist2}
use Rattle.segment_view.specs.Costs.{AreCounted}

-- a count of two lists is that of both
pub record Halves (D : ℕ) (count : Head → IndexTree → ℕ) (xs ys : List Head) (n : ℕ) : Type 0 where
  pub left : ℕ
  pub right : ℕ
  pub of_left : AreCounted D count xs left
  pub of_right : AreCounted D count ys right
  pub sum : n ≡ left + right

pub halves : (D : ℕ) (count : Head → IndexTree → ℕ) (xs ys : List Head) (n : ℕ) → AreCounted D count (xs ++ ys) n → Halves D count xs ys n
halves D count [] ys n h = record { left = 0; right = n; of_left = refl; of_right = h; sum = omega arith }
halves D count (x ∷ xs) ys n h =
    let r = halves D count xs ys h.1 h.3 in
    record { left = h.0 + r.left; right = r.right; of_left = (h.0, r.left, h.2, r.of_left, refl); of_right = r.of_right; sum = h.4 ∙ omega (arith, r.sum) }

pub counted_push : (D : ℕ) (count : Head → IndexTree → ℕ) (xs : List Head) (y : Head) (a m : ℕ) → AreCounted D count xs a → AreCounted D count (y ∷ []) m
    → AreCounted D count (xs ++ y ∷ []) (a + m)
counted_push D count [] y a m h k = subst (AreCounted D count (y ∷ [])) (omega (arith, h)) k
counted_push D count (x ∷ xs) y a m h k = (h.0, h.1 + m, h.2, counted_push D count xs y h.1 m h.3 k, omega (arith, h.4))

pub near_push : (D : ℕ) (at : List ℤ) (bound : Option ℕ) (xs : List Head) (y : Head) (a m : ℕ) → AreNearLeaves D at bound xs a
    → AreNearLeaves D at bound (y ∷ []) m → AreNearLeaves D at bound (xs ++ y ∷ []) (a + m)
near_push D at bound [] y a m h k = subst (AreNearLeaves D at bound (y ∷ [])) (omega (arith, h)) k
near_push D at bound (x ∷ xs) y a m h k = (h.0, h.1 + m, h.2, near_push D at bound xs y h.1 m h.3 k, omega (arith, h.4))

-- what is counted of one segment alone is its own count
pub counted_one : (D : ℕ) (count : Head → IndexTree → ℕ) (h : Head) (n : ℕ) → ((root : Region) (t : IndexTree) → HasTree D h.index root t → n ≡ count h t)
    → AreCounted D count (h ∷ []) n
counted_one D count h n is = (n, 0, is, refl, omega arith)

pub one_counted : (D : ℕ) (count : Head → IndexTree → ℕ) (h : Head) (n : ℕ) (root : Region) (t : IndexTree) → AreCounted D count (h ∷ []) n
    → HasTree D h.index root t → n ≡ count h t
one_counted D count h n root t c has = let e = c.2 root t has in omega (arith, e, c.3, c.4)

-- ---- an index has a tree

-- what each tree tells of an index holds
pub le_by_tree : (D : ℕ) (index seen : Body) → seen ≡ index → ∥ IsSpelled D seen ∥₁ → (a b : ℕ)
    → ((root : Region) (t : IndexTree) → HasTree D index root t → a ≤ b) → a ≤ b
le_by_tree D index seen e spelled a b f = ∥∥₁_elim spelled le_prop (λ q. f q.root q.tree (subst (λ i. HasTree D i q.root q.tree) e q.has))

pub same_by_tree : (D : ℕ) (index seen : Body) → seen ≡ index → ∥ IsSpelled D seen ∥₁ → (a b : ℕ)
    → ((root : Region) (t : IndexTree) → HasTree D index root t → a ≡ b) → a ≡ b
same_by_tree D index seen e spelled a b f = ∥∥₁_elim spelled (hlevel props) (λ q. f q.root q.tree (subst (λ i. HasTree D i q.root q.tree) e q.has))

-- ---- no more than all leaves

pub touched-le : (has : List ℤ → Bool) (crosses : Region → Bool) (t : IndexTree) → touched_leaves has crosses t ≤ leaf_count t
touched-le has crosses (Leaf len own) = by (is_outside has crosses own)
  where
    by : (b : Bool) → cond b 0 1 ≤ 1
    by true = omega arith
    by false = omega arith
touched-le has crosses (Split d x l r) = omega (arith, touched-le has crosses l, touched-le has crosses r)

pub tested-le : (crosses : Region → Bool) (count : ℕ → ℕ) (most : ℕ) → ((n : ℕ) → count n ≤ most) → (first : ℕ) (t : IndexTree)
    → tested_entries crosses count first t ≤ most * leaf_count t
tested-le crosses count most few first (Leaf len own) = by (crosses own)
  where
    by : (b : Bool) → cond b (count first) 0 ≤ most * 1
    by true = omega (arith, few first)
    by false = omega arith
tested-le crosses count most few first (Split d x l r) =
    omega (arith, tested-le crosses count most few first l, tested-le crosses count most few (first + leaf_count l) r)

-- a leaf has no more entries than fit into a page
pub count-le : (D : ℕ) (head : Head) (n : ℕ) → HasRanges D head → count_of head n ≤ 4000
count-le D head n r = omega (arith, r.greatest_leaf, div-le_self 4000 (4 + 4 * D))

pub near-le : (at : List ℤ) (bound : Option ℕ) (t : IndexTree) → near_leaves at bound t ≤ leaf_count t
unfolding near_leaves
near-le at bound (Leaf len own) = by (is_within bound (least_dist2 at own))
  where
    by : (b : Bool) → cond b 1 0 ≤ 1
    by true = omega arith
    by false = omega arith
near-le at bound (Split d x l r) = omega (arith, near-le at bound l, near-le at bound r)
