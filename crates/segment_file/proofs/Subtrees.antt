-- What is said of a node's children, said of the node.
use Rattle.std.proofs.Common.{◌≡◌, ◌+◌, ◌-◌, ◌/◌, ℕ, List, ◌++◌, refl, sym, subst, arith, inl, inr, Result, Ok, Err, ◌≤◌}
use Rattle.std.specs.Prelude.{OnOk, ℤ}
use Rattle.point_codec.specs.Points.{Item, Region}
use Rattle.inner_pack.specs.Places.{Spot}
use Rattle.inner_pack.specs.Trees.{IndexTree, Leaf, Split, leaf_count, IsShaped}
use Rattle.inner_pack.specs.Bodies.{right_begin}
use Rattle.page_cache.specs.declared.faults.Damage.{Damage}
use Rattle.page_cache.specs.declared.faults.Damage.TheVariants as damage
use Rattle.segment_file.specs.Heads.{Head, page_of}
use Rattle.outer_io.specs.declared.file_name.FileName.TheVariants.{Segment}
use Rattle.inner_pack.specs.Nodes.{IsAt}
use Rattle.inner_pack.specs.declared.node.NodeAt.{NodeAt}
use Rattle.page_cache.specs.FilePages.{IsFilePage}
use Rattle.segment_file.specs.Segments.{HoldsLeaf, HoldsTree}
use Rattle.segment_file.specs.Damages.{IsNoLeaf, IsLeafPage, IsLeafDamage}
use Rattle.segment_file.specs.Gathers.{AreLeavesWith}

pub count_shaped : (n : ℕ) (t : IndexTree) → IsShaped n t → leaf_count t ≡ n
count_shaped n (Leaf len own) h = sym h
count_shaped n (Split d x l r) h =
    let left = count_shaped (n - n / 2) l h.1 in
    let right = count_shaped (n / 2) r h.2 in
    omega (arith, left, right)

pub OnOk-weaker : {A E : Type 0} (r : Result A E) (P Q : Type 0) → (P → Q) → OnOk r P → OnOk r Q
OnOk-weaker (Ok a) P Q f h = f h
OnOk-weaker (Err e) P Q f h = tt

no_leaf_left : (D : ℕ) (head : Head) (first : ℕ) (s : Spot) (l r : IndexTree) (k : ℕ) (x : ℤ) (page offset len : ℕ) (part : List ℕ)
    → IsNoLeaf D head first s l page offset len part → IsNoLeaf D head first s (Split k x l r) page offset len part
no_leaf_left D head first s l r k x page offset len part h =
    record { number = h.number; spot = h.spot; own = h.own; is = inl h.is; page_is = h.page_is; offset_is = h.offset_is; none = h.none }

no_leaf_right : (D : ℕ) (head : Head) (first : ℕ) (s : Spot) (l r : IndexTree) (k : ℕ) (x : ℤ) (page offset len : ℕ) (part : List ℕ)
    → IsNoLeaf D head (first + leaf_count l) (right_begin s l r) r page offset len part → IsNoLeaf D head first s (Split k x l r) page offset len part
no_leaf_right D head first s l r k x page offset len part h =
    record { number = h.number; spot = h.spot; own = h.own; is = inr h.is; page_is = h.page_is; offset_is = h.offset_is; none = h.none }

leaf_page_left : (head : Head) (first : ℕ) (s : Spot) (l r : IndexTree) (k : ℕ) (x : ℤ) (needed : ℕ) → IsLeafPage head first s l needed
    → IsLeafPage head first s (Split k x l r) needed
leaf_page_left head first s l r k x needed h = record { number = h.number; spot = h.spot; len = h.len; own = h.own; is = inl h.is; needs = h.needs }

leaf_page_right : (head : Head) (first : ℕ) (s : Spot) (l r : IndexTree) (k : ℕ) (x : ℤ) (needed : ℕ)
    → IsLeafPage head (first + leaf_count l) (right_begin s l r) r needed → IsLeafPage head first s (Split k x l r) needed
leaf_page_right head first s l r k x needed h = record { number = h.number; spot = h.spot; len = h.len; own = h.own; is = inr h.is; needs = h.needs }

-- a damage of a leaf below a child is one of a leaf below the node
pub left_damage : (D : ℕ) (head : Head) (first : ℕ) (s : Spot) (l r : IndexTree) (k : ℕ) (x : ℤ) (d : Damage) → IsLeafDamage D head first s l d
    → IsLeafDamage D head first s (Split k x l r) d
left_damage D head first s l r k x (damage.Page file number bytes) h = h
left_damage D head first s l r k x (damage.Size file size needed) h = (h.0, h.1, leaf_page_left head first s l r k x needed h.2)
left_damage D head first s l r k x (damage.Leaf file number offset len bytes) h = (h.0, h.1, no_leaf_left D head first s l r k x number offset len _ h.2)
left_damage D head first s l r k x (damage.Body file bytes) h = h
left_damage D head first s l r k x (damage.Missing file) h = h
left_damage D head first s l r k x (damage.Unequal file said found) h = h
left_damage D head first s l r k x (damage.NotGiven doc next) h = h
left_damage D head first s l r k x (damage.Doubled doc) h = h

pub right_damage : (D : ℕ) (head : Head) (first : ℕ) (s : Spot) (l r : IndexTree) (k : ℕ) (x : ℤ) (d : Damage)
    → IsLeafDamage D head (first + leaf_count l) (right_begin s l r) r d
    → IsLeafDamage D head first s (Split k x l r) d
right_damage D head first s l r k x (damage.Page file number bytes) h = h
right_damage D head first s l r k x (damage.Size file size needed) h = (h.0, h.1, leaf_page_right head first s l r k x needed h.2)
right_damage D head first s l r k x (damage.Leaf file number offset len bytes) h = (h.0, h.1, no_leaf_right D head first s l r k x number offset len _ h.2)
right_damage D head first s l r k x (damage.Body file bytes) h = h
right_damage D head first s l r k x (damage.Missing file) h = h
right_damage D head first s l r k x (damage.Unequal file said found) h = h
right_damage D head first s l r k x (damage.NotGiven doc next) h = h
right_damage D head first s l r k x (damage.Doubled doc) h = h

-- where what is said of entries holds of two lists joined, it is said of the leaves of both children
pub leaves_join : (D : ℕ) (bytes : List ℕ) (head : Head) (first : ℕ) (s : Spot) (l r : IndexTree) (k : ℕ) (x : ℤ) (P Q R : List Item → Type 0)
    → ((xs ys : List Item) → P xs → Q ys → R (xs ++ ys)) → AreLeavesWith D bytes head first s l P
    → AreLeavesWith D bytes head (first + leaf_count l) (right_begin s l r) r Q → AreLeavesWith D bytes head first s (Split k x l r) R
leaves_join D bytes head first s l r k x P Q R join a b = record {
  items = a.items ++ b.items;
  holds = record { front_items = a.items; back_items = b.items; front_holds = a.holds; back_holds = b.holds; joined = refl };
  so = join a.items b.items a.so b.so;
}

-- the page of a leaf whose file has it
pub leaf_page : (D : ℕ) (bytes : List ℕ) (head : Head) (first : ℕ) (s : Spot) (len : ℕ) (own : Region) (items : List Item)
    → HoldsLeaf D bytes head first s len own items → IsFilePage (Segment head.id) bytes (page_of head s.page)
unfolding HoldsLeaf
leaf_page D bytes head first s len own items h = h.page

alone : (D : ℕ) (bytes : List ℕ) (head : Head) (first : ℕ) (s : Spot) (t : IndexTree) (items : List Item) → IsShaped 1 t
    → HoldsTree D bytes head first s t items → IsFilePage (Segment head.id) bytes (page_of head s.page)
alone D bytes head first s (Leaf len own) items shaped h = leaf_page D bytes head first s len own items h
alone D bytes head first s (Split d x l r) items shaped h = absurd (let two = shaped.0 in omega arith)

pub page_of_leaf : (D : ℕ) (bytes : List ℕ) (head : Head) (node : NodeAt D) (first : ℕ) (s : Spot) (path : Region) (t : IndexTree) (items : List Item)
    → IsAt node first s path t → node.leaves ≡ 1
    → HoldsTree D bytes head first s t items → IsFilePage (Segment head.id) bytes (page_of head s.page)
page_of_leaf D bytes head node first s path t items at one holds = alone D bytes head first s t items (subst (λ (n : ℕ). IsShaped n t) one at.is.shaped) holds

pub some_leaf : (t : IndexTree) → 1 ≤ leaf_count t
some_leaf (Leaf len own) = omega arith
some_leaf (Split d x l r) = let a = some_leaf l in omega (arith, a)

-- a tree of one leaf is one
pub only_leaf : (P : IndexTree → Type 0) (t : IndexTree) → leaf_count t ≡ 1 → ((len : ℕ) (own : Region) → P (Leaf len own)) → P t
only_leaf P (Leaf len own) h f = f len own
only_leaf P (Split d x l r) h f = let a = some_leaf l in let b = some_leaf r in absurd (omega (arith, a, b, h))

pub on_ok : {T E : Type 0} (P Q : Type 0) (r : Result T E) → (P → Q) → OnOk r P → OnOk r Q
on_ok P Q (Ok x) f h = f h
on_ok P Q (Err e) f h = h
