use Rattle.std.proofs.Common.{rules, ◌≡◌, ◌+◌, ℕ, Bool, true, false, List, ℤ, Option, cond, ap, sym, refl, subst, ◌∙◌, arith}
use Rattle.point_codec.specs.Points.{Region}
use Rattle.inner_pack.specs.Trees.{IndexTree, Leaf, Split, HasCells, cell_of}
use Rattle.nearest_query.specs.Segments.{is_within, near_leaves, least_dist2}
use Rattle.nearest_query.proofs.Narrower.{none_near}
use Rattle.nearest_query.proofs.survey.+near_below.Goals as goal
use Rattle.segment_file.proofs.Subtrees.{count_shaped, only_leaf}

near_split : (at : List ℤ) (bound : Option ℕ) (t : IndexTree) (d : ℕ) (x : ℤ) (l r : IndexTree) → t ≡ Split d x l r
    → near_leaves at bound l + near_leaves at bound r ≡ near_leaves at bound t
unfolding near_leaves
near_split at bound t d x l r e = sym (ap (near_leaves at bound) e)

near_leaf : (at : List ℤ) (bound : Option ℕ) (path : Region) (len : ℕ) (own : Region)
    → cond (is_within bound (least_dist2 at (cell_of path (Leaf len own)))) 1 0 ≡ near_leaves at bound (Leaf len own)
unfolding near_leaves
near_leaf at bound path len own = refl

no_one : (b : Bool) (n : ℕ) → n ≡ cond b 1 0 → n ≡ 0 → b ≡ false
no_one true n h k = absurd (omega (arith, h, k))
no_one false n h k = refl

-- the node is too far
pub returns-then-one-eq0-clause-value : goal.returns-then-one-eq0-clause-value
returns-then-one-eq0-clause-value g t c = λ first s path tree is cells.
    let at = c.args.at.now.c in
    let same = c.least_dist2.ensures.value ∙ ap (λ r. least_dist2 at r) (c.cell.ensures first s path tree is) in
    none_near g.row.D at c.args.bound path tree cells
    (ap (is_within c.args.bound) (sym same)
    ∙ no_one (is_within c.args.bound c.least_dist2.result) c.one_within-one.result c.one_within-one.ensures.value c.if-one-eq0.true)

pub returns-in-Some-clause-value : goal.returns-in-Some-clause-value
returns-in-Some-clause-value g t c = λ first s path tree is cells.
    let kids = c.in-Some.ensures.some first s path tree is in
    let both : HasCells g.row.D path (Split kids.dimension kids.value kids.l kids.r) = subst (λ u. HasCells g.row.D path u) kids.is cells in
    let a = c.near_below.ensures.value _ _ _ kids.l kids.left_is both.1 in
    let b = c.near_below-in-Some.ensures.value _ _ _ kids.r kids.right_is both.2 in
    let e = near_split c.args.at.now.c c.args.bound tree kids.dimension kids.value kids.l kids.r kids.is in
    omega (arith, a, b, e)

-- a leaf that is near
pub returns-in-None-clause-value : goal.returns-in-None-clause-value
returns-in-None-clause-value g t c = λ first s path tree is cells.
    let single : c.args.node.now.leaves ≡ 1 = search rules in
    c.one_within-one.ensures.value
    ∙ ap (λ d. cond (is_within c.args.bound d) 1 0)
    (c.least_dist2.ensures.value ∙ ap (λ r. least_dist2 c.args.at.now.c r) (c.cell.ensures first s path tree is))
    ∙ only_leaf (λ u. cond (is_within c.args.bound (least_dist2 c.args.at.now.c (cell_of path u))) 1 0 ≡ near_leaves c.args.at.now.c c.args.bound u) tree
    (count_shaped c.args.node.now.leaves tree is.is.shaped ∙ single)
    (λ len own. near_leaf c.args.at.now.c c.args.bound path len own)

pub returns-in-None-clause-fits : goal.returns-in-None-clause-fits
returns-in-None-clause-fits g t c =
    let single : c.args.node.now.leaves ≡ 1 = search rules in
    let small = c.one_within-one.ensures.small in
    omega (arith, single, small)
