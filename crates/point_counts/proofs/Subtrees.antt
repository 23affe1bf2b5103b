-- Subtrees: the entries of one leaf, those in a node's cell, how many there are below a node, and which leaves are read.
use Rattle.std.proofs.Common.{◌≡◌, ℕ, ◌+◌, ◌-◌, ◌*◌, Bool, true, false, cond, min, List, length, ℤ, refl, sym, ap}
use Rattle.std.proofs.Common.{subst, ◌∙◌, arith, length-append}
use Rattle.std.proofs.Math.Nat.{add-mul}
use Rattle.std.specs.Bool.{OnTrue, OnFalse}
use Rattle.std.specs.List.{All}
use Rattle.std.proofs.lemmas.Bool.{true≢false}
use Rattle.std.proofs.lemmas.List.Elements.{All-append, All-weaker}
use Rattle.point_codec.specs.Points.{Item, Region, in_box}
use Rattle.point_codec.specs.Cells.{left_of, right_of}
use Rattle.leaf_codec.proofs.ReadLeaf.{one_leaf}
use Rattle.cell_relate.specs.Boxes.{crosses}
use Rattle.cell_relate.specs.Relations.{AllAnswer, is_outside}
use Rattle.inner_pack.specs.Places.{Spot}
use Rattle.inner_pack.specs.Trees.{IndexTree, Leaf, Split, HasCells, cell_of, leaf_count}
use Rattle.inner_pack.specs.Bodies.{right_begin}
use Rattle.inner_pack.specs.Nodes.{IsAt, IsPlaceOf}
use Rattle.inner_pack.specs.declared.node.NodeAt.{NodeAt}
use Rattle.inner_pack.specs.declared.place.LeafPlace.{LeafPlace}
use Rattle.segment_file.specs.Heads.{Head, count_of}
use Rattle.segment_file.specs.Segments.{HoldsLeaf, HoldsTree}
use Rattle.bkd_reader.proofs.Cells.{all_left, all_right, all_cell}
use Rattle.bkd_reader.proofs.Trees.{count_at}
use Rattle.point_counts.specs.Costs.{opened_below}
use Rattle.segment_file.proofs.Subtrees.{only_leaf}

-- ---- one leaf

one_spelled : (D : ℕ) (bytes : List ℕ) (head : Head) (first : ℕ) (s : Spot) (len : ℕ) (own : Region) (xs ys : List Item)
    → HoldsLeaf D bytes head first s len own xs → HoldsLeaf D bytes head first s len own ys → xs ≡ ys
unfolding HoldsLeaf
one_spelled D bytes head first s len own xs ys h k = one_leaf D _ xs ys h.spells.spells k.spells.spells

-- what is seen of a leaf are its entries
pub same_items : {D : ℕ} (bytes : List ℕ) (head : Head) (node : NodeAt D) (place : LeafPlace) (first : ℕ) (s : Spot)
    (path : Region) (t : IndexTree) (items seen : List Item)
    → IsAt node first s path t → IsPlaceOf place s t → HoldsTree D bytes head first s t items
    → ((len : ℕ) (own : Region) → IsAt node first s path (Leaf len own) → IsPlaceOf place s (Leaf len own)
    → HoldsLeaf D bytes head first s len own seen) → seen ≡ items
same_items {D} bytes head node place first s path (Leaf len own) items seen is at holds sees =
    one_spelled D bytes head first s len own seen items (sees len own is at) holds
same_items bytes head node place first s path (Split d x l r) items seen is at holds sees = let f = at.is in cc

-- ---- the entries below a node

leaf_inside : (D : ℕ) (bytes : List ℕ) (head : Head) (first : ℕ) (s : Spot) (len : ℕ) (own : Region) (items : List Item)
    → HoldsLeaf D bytes head first s len own items → All (λ e. in_box own e.at ≡ true) items
unfolding HoldsLeaf
leaf_inside D bytes head first s len own items h = h.spells.inside

-- those of a leaf, in its own cell
pub leaf_in_cell : (D : ℕ) (bytes : List ℕ) (head : Head) (place : LeafPlace) (first : ℕ) (s : Spot) (path : Region)
    (t : IndexTree) (items : List Item) → IsPlaceOf place s t → HoldsTree D bytes head first s t items
    → All (λ e. in_box (cell_of path t) e.at ≡ true) items
leaf_in_cell D bytes head place first s path (Leaf len own) items at holds =
    leaf_inside D bytes head first s len own items holds
leaf_in_cell D bytes head place first s path (Split d x l r) items at holds = let f = at.is in cc

-- they lie in its cell
pub all_inside : (D : ℕ) (bytes : List ℕ) (head : Head) (first : ℕ) (s : Spot) (path : Region) (t : IndexTree)
    (items : List Item) → HoldsTree D bytes head first s t items → HasCells D path t
    → All (λ e. in_box (cell_of path t) e.at ≡ true) items
all_inside D bytes head first s path (Leaf len own) items h cells = leaf_inside D bytes head first s len own items h
all_inside D bytes head first s path (Split d x l r) items h cells =
    let left : AllAnswer (in_box path) true (cell_of (left_of path d x) l) =
    all_cell D (in_box path) true (left_of path d x) l cells.1
    (all_left D (in_box path) true path d x l r cells (λ p here. here)) in
    let right : AllAnswer (in_box path) true (cell_of (right_of path d x) r) =
    all_cell D (in_box path) true (right_of path d x) r cells.2
    (all_right D (in_box path) true path d x l r cells (λ p here. here)) in
    subst (All (λ e. in_box path e.at ≡ true)) (sym h.joined)
    (All-append (λ e. in_box path e.at ≡ true) h.front_items h.back_items
    (All-weaker (λ e. in_box (cell_of (left_of path d x) l) e.at ≡ true) (λ e. in_box path e.at ≡ true)
    (λ e here. left e.at here) h.front_items
    (all_inside D bytes head first s (left_of path d x) l h.front_items h.front_holds cells.1))
    (All-weaker (λ e. in_box (cell_of (right_of path d x) r) e.at ≡ true) (λ e. in_box path e.at ≡ true)
    (λ e here. right e.at here) h.back_items
    (all_inside D bytes head (first + leaf_count l) (right_begin s l r) (right_of path d x) r h.back_items h.back_holds
    cells.2)))

-- ---- how many there are

leaf_counted : (D : ℕ) (bytes : List ℕ) (head : Head) (number : ℕ) (s : Spot) (len : ℕ) (own : Region)
    (items : List Item) → HoldsLeaf D bytes head number s len own items → length items ≡ count_of head number
unfolding HoldsLeaf
leaf_counted D bytes head number s len own items h = h.spells.counted

-- taking a from x and then b is taking both
mins_add : (a b x y n : ℕ) → y ≡ x - a → n ≡ a + b → min a x + min b y ≡ min n x
mins_add a b x y n rest sum = omega (arith, rest, sum)

-- the leaves from this number on, all full as long as entries are left
pub tree_counted : (D : ℕ) (bytes : List ℕ) (head : Head) (first : ℕ) (s : Spot) (t : IndexTree) (items : List Item)
    → HoldsTree D bytes head first s t items
    → length items ≡ min (leaf_count t * head.leaf_size) (head.entries - first * head.leaf_size)
tree_counted D bytes head first s (Leaf len own) items h = leaf_counted D bytes head first s len own items h
    ∙ ap (λ (n : ℕ). min n (head.entries - first * head.leaf_size)) (omega arith)
tree_counted D bytes head first s (Split d x l r) items h =
    let left = tree_counted D bytes head first s l h.front_items h.front_holds in
    let right = tree_counted D bytes head (first + leaf_count l) (right_begin s l r) r h.back_items h.back_holds in
    ap length h.joined
    ∙ length-append h.front_items h.back_items
    ∙ ap (λ (n : ℕ). n + length h.back_items) left
    ∙ ap (λ (n : ℕ). min (leaf_count l * head.leaf_size) (head.entries - first * head.leaf_size) + n) right
    ∙ mins_add (leaf_count l * head.leaf_size) (leaf_count r * head.leaf_size) (head.entries - first * head.leaf_size)
    (head.entries - (first + leaf_count l) * head.leaf_size) ((leaf_count l + leaf_count r) * head.leaf_size)
    (omega (arith, add-mul first (leaf_count l) head.leaf_size)) (add-mul (leaf_count l) (leaf_count r) head.leaf_size)

-- by what is known of the node alone
pub node_counted : {D : ℕ} (bytes : List ℕ) (head : Head) (node : NodeAt D) (first : ℕ) (s : Spot) (path : Region)
    (t : IndexTree) (items : List Item) (n : ℕ) → IsAt node first s path t
    → HoldsTree D bytes head first s t items → n ≡ min (node.leaves * head.leaf_size) (head.entries - node.first * head.leaf_size)
    → length items ≡ n
node_counted {D} bytes head node first s path t items n is holds said =
    tree_counted D bytes head first s t items holds
    ∙ ap (λ (m : ℕ). min (m * head.leaf_size) (head.entries - first * head.leaf_size)) (count_at node first s path t is)
    ∙ ap (λ (m : ℕ). min (node.leaves * head.leaf_size) (head.entries - m * head.leaf_size)) (sym is.first_is)
    ∙ sym said

-- ---- which leaves are read

pub opened_split : (clean : Bool) (box : Region) (test : Region → Bool) (d : ℕ) (x : ℤ) (l r : IndexTree)
    → opened_below clean box test (Split d x l r) ≡ opened_below clean box test l + opened_below clean box test r
opened_split true box test d x l r = refl
opened_split false box test d x l r = refl

-- a leaf that is not settled is one of them
pub one_opened : {D : ℕ} (clean : Bool) (box : Region) (test : Region → Bool) (node : NodeAt D) (first : ℕ) (s : Spot)
    (path : Region) (t : IndexTree) → node.leaves ≡ 1 → IsAt node first s path t
    → (clean ≡ true → test (cell_of path t) ≡ true) → is_outside (in_box box) (crosses box) (cell_of path t) ≡ false
    → opened_below clean box test t ≡ 1
one_opened clean box test node first s path t one is parted touches =
    only_leaf (λ u. (clean ≡ true → test (cell_of path u) ≡ true)
    → is_outside (in_box box) (crosses box) (cell_of path u) ≡ false → opened_below clean box test u ≡ 1) t
    (count_at node first s path t is ∙ one) (λ len own. by clean len own) parted touches
  where
    by : (b : Bool) (len : ℕ) (own : Region) → (b ≡ true → test own ≡ true)
        → is_outside (in_box box) (crosses box) own ≡ false → opened_below b box test (Leaf len own) ≡ 1
    by true len own p o = ap (λ c. cond c 1 0) (p refl)
    by false len own p o = ap (λ c. cond c 0 1) o

-- ---- what holds by an answer

pub on_true : (b : Bool) (P : Type 0) → b ≡ true → OnTrue b P → P
on_true true P e h = h
on_true false P e h = absurd (true≢false (sym e))

pub on_false : (b : Bool) (P : Type 0) → b ≡ false → OnFalse b P → P
on_false true P e h = absurd (true≢false e)
on_false false P e h = h
