use Rattle.leaf_codec.specs.Dimensions.{sorted_dimension}
use Rattle.leaf_codec.proofs.order.arrange_by.Given.{Over}
use Rattle.std.proofs.Common.{ℕ, Option, unwrap_or, ◌≡◌, ap, ◌∙◌, rules, subst, is_lt}
use Rattle.std.specs.List.Sorted.{IsPermutation, IsSorted, IsStrictlySortedBy}
use Rattle.std.proofs.lemmas.Fn.{always_returns_same}
use Rattle.std.proofs.lemmas.List.Sorted.{ranks_by, IsPermutation-map}
use Rattle.point_codec.specs.Points.{Item}
use Rattle.point_codec.specs.Seen.{items_of}
use Rattle.point_codec.specs.declared.entries.Entry.{Entry}
use Rattle.leaf_codec.specs.LeafOrder.{leaf_cmp, item_of}
use Rattle.leaf_codec.proofs.OrderLemmas.{leaf_total, sorted-map, strictly, NoneTwice-IsPermutation}
use Rattle.leaf_codec.proofs.Permuted.{sorted_dimension-IsPermutation}
use Rattle.leaf_codec.proofs.order.arrange_by.Goals as goal

-- the new items ascend by the dimension that led the old ones, which leads the new ones too
ascending : (g : Over) (c : goal.After-entries-1 g) → IsSorted (leaf_cmp c.leading_dimension-d.result) (items_of c.sort_unstable_by.new.self)
ascending g c =
    let d = c.leading_dimension-d.result in
    let f = λ (e : Entry g.row.D). item_of e in
    let by_entry = c.sort_unstable_by.ensures.sorted (λ (a b : Entry g.row.D). is_lt (leaf_cmp d (f a) (f b))) (ranks_by (leaf_total d) f)
    (always_returns_same _ _ _ (λ a r h k. search rules)) in
    sorted-map (λ (x y : Item). is_lt (leaf_cmp d x y)) f c.sort_unstable_by.new.self by_entry

moved : (g : Over) (c : goal.After-entries-1 g) → IsPermutation (items_of c.args.entries.now) (items_of c.sort_unstable_by.new.self)
moved g c = IsPermutation-map (λ (e : Entry g.row.D). item_of e) c.args.entries.now c.sort_unstable_by.new.self c.sort_unstable_by.ensures.permutation

leading : (g : Over) (c : goal.After-entries-1 g) → c.leading_dimension-d.result ≡ unwrap_or (sorted_dimension g.row.D (items_of c.sort_unstable_by.new.self)) 0
leading g c =
    c.leading_dimension-d.ensures.value (items_of c.args.entries.now) c.requires.sorted
    ∙ ap (λ (o : Option ℕ). unwrap_or o 0)
    (sorted_dimension-IsPermutation g.row.D (items_of c.args.entries.now) (items_of c.sort_unstable_by.new.self) (moved g c))

pub returns-clause-ordered : goal.returns-clause-ordered
returns-clause-ordered g c =
    subst (λ (d : ℕ). IsSorted (leaf_cmp d) (items_of c.sort_unstable_by.new.self)) (leading g c) (ascending g c)

pub returns-clause-strictly : goal.returns-clause-strictly
returns-clause-strictly g c once =
    let items = items_of c.sort_unstable_by.new.self in
    let still = NoneTwice-IsPermutation (items_of c.args.entries.now) items (moved g c) once in
    subst (λ (d : ℕ). IsStrictlySortedBy (leaf_cmp d) items) (leading g c) (strictly c.leading_dimension-d.result items (ascending g c) still)
