-- A segment has as many entries as its head says.
use Rattle.std.proofs.Common.{◌≡◌, ◌≤◌, ◌+◌, ◌-◌, ◌*◌, ℕ, List, length, min, sym, ap, subst, ◌∙◌, arith, length-append}
use Rattle.std.proofs.Math.Nat.{add-mul, mod-add-div', mod-lt}
use Rattle.point_codec.specs.Points.{Item, Region}
use Rattle.inner_pack.specs.Places.{Spot, front}
use Rattle.inner_pack.specs.Trees.{IndexTree, Leaf, Split, leaf_count}
use Rattle.inner_pack.specs.Bodies.{right_begin}
use Rattle.segment_file.specs.Heads.{Head, HasRanges, count_of, leaves_for}
use Rattle.segment_file.specs.Segments.{IsHeadOf, HoldsLeaf, HoldsTree, IsSegment}
use Rattle.segment_file.proofs.Subtrees.{count_shaped}

leaf_counted : (D : ℕ) (bytes : List ℕ) (head : Head) (number : ℕ) (s : Spot) (len : ℕ) (own : Region) (items : List Item)
    → HoldsLeaf D bytes head number s len own items → length items ≡ count_of head number
unfolding HoldsLeaf
leaf_counted D bytes head number s len own items h = h.spells.counted

-- taking a from x and then b is taking both
mins_add : (a b x y n : ℕ) → y ≡ x - a → n ≡ a + b → min a x + min b y ≡ min n x
mins_add a b x y n rest sum = omega (arith, rest, sum)

-- the leaves from this number on, all full as long as entries are left
tree_counted : (D : ℕ) (bytes : List ℕ) (head : Head) (first : ℕ) (s : Spot) (t : IndexTree) (items : List Item) → HoldsTree D bytes head first s t items
    → length items ≡ min (leaf_count t * head.leaf_size) (head.entries - first * head.leaf_size)
tree_counted D bytes head first s (Leaf len own) items h =
    leaf_counted D bytes head first s len own items h ∙ ap (λ (n : ℕ). min n (head.entries - first * head.leaf_size)) (omega arith)
tree_counted D bytes head first s (Split d x l r) items h =
    let left = tree_counted D bytes head first s l h.front_items h.front_holds in
    let right = tree_counted D bytes head (first + leaf_count l) (right_begin s l r) r h.back_items h.back_holds in
    ap length h.joined
    ∙ length-append h.front_items h.back_items
    ∙ ap (λ (n : ℕ). n + length h.back_items) left
    ∙ ap (λ (n : ℕ). min (leaf_count l * head.leaf_size) (head.entries - first * head.leaf_size) + n) right
    ∙ mins_add (leaf_count l * head.leaf_size) (leaf_count r * head.leaf_size) (head.entries - first * head.leaf_size)
    (head.entries - (first + leaf_count l) * head.leaf_size)
    ((leaf_count l + leaf_count r) * head.leaf_size)
    (omega (arith, add-mul first (leaf_count l) head.leaf_size)) (add-mul (leaf_count l) (leaf_count r) head.leaf_size)

-- so many leaves have room for all entries
room_for_all : (entries leaf_size : ℕ) → 1 ≤ leaf_size → entries ≤ leaves_for entries leaf_size * leaf_size
room_for_all entries leaf_size some = omega (arith, mod-add-div' (entries + leaf_size - 1) leaf_size, mod-lt (entries + leaf_size - 1) some)

ranges_of : (D : ℕ) (bytes : List ℕ) (head : Head) → IsHeadOf D bytes head → HasRanges D head
unfolding IsHeadOf
ranges_of D bytes head h = h.spells.ranges

all_counted : (D : ℕ) (bytes : List ℕ) (head : Head) (items : List Item) (t : IndexTree) → leaf_count t ≡ head.index.leaves
    → HoldsTree D bytes head 0 front t items → HasRanges D head → length items ≡ head.entries
all_counted D bytes head items t leaves h ranges =
    let enough : head.entries ≤ leaf_count t * head.leaf_size =
    subst (λ (n : ℕ). head.entries ≤ n * head.leaf_size) (sym (leaves ∙ ranges.leaves_are))
    (room_for_all head.entries head.leaf_size (omega (arith, ranges.least_leaf))) in
    tree_counted D bytes head 0 front t items h ∙ omega (arith, enough)

pub segment_counted : (D : ℕ) (bytes : List ℕ) (head : Head) (items : List Item) → IsSegment D bytes head items → length items ≡ head.entries
unfolding IsSegment
segment_counted D bytes head items h =
    let leaves : leaf_count h.tree ≡ head.index.leaves = count_shaped head.index.leaves h.tree h.has.tree.shaped in
    all_counted D bytes head items h.tree leaves h.holds (ranges_of D bytes head h.head_is)

pub segment_ranges : (D : ℕ) (bytes : List ℕ) (head : Head) (items : List Item) → IsSegment D bytes head items → HasRanges D head
unfolding IsSegment
segment_ranges D bytes head items h = ranges_of D bytes head h.head_is
