-- Subtrees: how many leaves they have, what is found below, and what a damage of theirs is to the tree above.
use Rattle.std.proofs.Common.{◌≡◌, ℕ, ◌+◌, ◌-◌, ◌/◌, inl, inr, Bool, true, false, cond, ◌&&◌, List, []}
use Rattle.std.proofs.Common.{◌∷◌, ◌++◌, map, filter, ℤ, Result, Ok, Err, refl, sym, ap, subst, ◌∙◌, arith}
use Rattle.std.proofs.lemmas.List.{append_assoc}
use Rattle.std.proofs.lemmas.List.Elements.{All-head, All-tail}
use Rattle.std.specs.Prelude.{IsErrAnd}
use Rattle.std.specs.List.{All}
use Rattle.outer_io.specs.declared.file_name.FileName.TheVariants.{Segment}
use Rattle.point_codec.specs.Points.{Item, Region, in_box}
use Rattle.leaf_codec.proofs.ReadLeaf.{one_leaf}
use Rattle.live_bits.specs.LiveSet.{LiveSet, is_live}
use Rattle.cell_relate.specs.Relations.{AllAnswer}
use Rattle.inner_pack.specs.Places.{Spot, front}
use Rattle.inner_pack.specs.Trees.{IndexTree, Leaf, Split, IsShaped, HasCells, cell_of, leaf_count}
use Rattle.inner_pack.specs.Bodies.{Body, HasTree, right_begin}
use Rattle.inner_pack.specs.Nodes.{IsAt, AreChildren, IsPlaceOf}
use Rattle.inner_pack.specs.declared.node.NodeAt.{NodeAt}
use Rattle.inner_pack.specs.declared.place.LeafPlace.{LeafPlace}
use Rattle.point_codec.specs.Cells.{left_of, right_of}
use Rattle.page_cache.specs.FilePages.{IsFilePage}
use Rattle.page_cache.specs.declared.faults.Damage.{Damage}
use Rattle.page_cache.specs.declared.faults.Damage.TheVariants as damage
use Rattle.page_cache.specs.declared.faults.PageFault.{PageFault}
use Rattle.page_cache.specs.Evidence.{OnDamage, FaultShows}
use Rattle.page_cache.proofs.Damages.{on_damage_weaker}
use Rattle.segment_file.specs.Heads.{Head, page_of}
use Rattle.segment_file.specs.Segments.{HoldsLeaf, HoldsTree, SegmentParts, IsSegment}
use Rattle.segment_file.specs.Damages.{IsLeafDamage}
use Rattle.bkd_reader.specs.Below.{IsRoot}
use Rattle.bkd_reader.specs.Counts.{tested_entries}
use Rattle.bkd_reader.specs.Hits.{is_hit, hits_in, AreHits, JoinsHits, Appends}
use Rattle.bkd_reader.proofs.HitLemmas.{hits_join, all_hit}
use Rattle.bkd_reader.proofs.Cells.{all_left, all_right, all_cell}
use Rattle.segment_file.proofs.Subtrees.{leaf_page}

-- ---- how many leaves

shaped_count : (n : ℕ) (t : IndexTree) → IsShaped n t → leaf_count t ≡ n
shaped_count n (Leaf len own) h = sym h
shaped_count n (Split d x l r) h =
    let a = shaped_count (n - n / 2) l h.1 in
    let b = shaped_count (n / 2) r h.2 in
    omega (arith, a, b)

-- a node has as many leaves as its subtree
pub count_at : {D : ℕ} (node : NodeAt D) (first : ℕ) (s : Spot) (path : Region) (t : IndexTree) → IsAt node first s path t → leaf_count t ≡ node.leaves
count_at node first s path t h = shaped_count node.leaves t h.is.shaped

-- and an index as its tree
pub tree_count : (D : ℕ) (index : Body) (root : Region) (t : IndexTree) → HasTree D index root t → leaf_count t ≡ index.leaves
tree_count D index root t h = shaped_count index.leaves t h.tree.shaped

-- ---- what is found

-- below a node that has no point of the shape there is no hit
pub none_below : (D : ℕ) (bytes : List ℕ) (head : Head) (has : List ℤ → Bool) (live : LiveSet) (first : ℕ) (s : Spot) (path : Region) (t : IndexTree)
    → HasCells D path t → AllAnswer has false (cell_of path t) → AreHits D bytes head has live first s t []
none_below D bytes head has live first s path (Leaf len own) cells all = inl (all, refl)
none_below D bytes head has live first s path (Split d x l r) cells all = record {
  front_hits = [];
  back_hits = [];
  front_are = none_below D bytes head has live first s (left_of path d x) l cells.1
      (all_cell D has false (left_of path d x) l cells.1 (all_left D has false path d x l r cells all));
  back_are = none_below D bytes head has live (first + leaf_count l) (right_begin s l r) (right_of path d x) r cells.2
      (all_cell D has false (right_of path d x) r cells.2 (all_right D has false path d x l r cells all));
  joined = refl;
}

-- the hits below the left child, and behind them those below the right one
pub joins_hits : (left right : List ℕ → Type 0) (old mid new : List ℕ) → Appends old mid left → Appends mid new right → Appends old new (JoinsHits left right)
joins_hits left right old mid new p q = record {
  out = p.out ++ q.out;
  grew = q.grew ∙ ap (λ z. z ++ q.out) p.grew ∙ append_assoc old p.out q.out;
  holds = record { front_hits = p.out; back_hits = q.out; front_are = p.holds; back_are = q.holds; joined = refl };
}

no_hits : (has : List ℤ → Bool) (live : LiveSet) (cell : Region) (xs : List Item) → AllAnswer has false cell → All (λ x. in_box cell x.at ≡ true) xs
    → hits_in has live xs ≡ []
unfolding hits_in
no_hits has live cell [] all inside = refl
no_hits has live cell (x ∷ xs) all inside =
    let here : has x.at ≡ false = all x.at (All-head (λ y. in_box cell y.at ≡ true) x xs inside) in
    let rest : map (λ y. y.doc) (filter (is_hit has live) xs) ≡ [] = no_hits has live cell xs all (All-tail (λ y. in_box cell y.at ≡ true) x xs inside) in
    one (is_live live x.doc) (has x.at) here rest
  where
    one : (a b : Bool) → b ≡ false → map (λ y. y.doc) (filter (is_hit has live) xs) ≡ []
        → map (λ y. y.doc) (cond (a && b) (x ∷ filter (is_hit has live) xs) (filter (is_hit has live) xs)) ≡ []
    one true true e rest = cc
    one true false e rest = rest
    one false b e rest = rest

leaf_hits : (D : ℕ) (bytes : List ℕ) (head : Head) (has : List ℤ → Bool) (live : LiveSet) (first : ℕ) (s : Spot) (len : ℕ) (own : Region) (items : List Item)
    (out : List ℕ)
    → HoldsLeaf D bytes head first s len own items → AreHits D bytes head has live first s (Leaf len own) out → out ≡ hits_in has live items
unfolding HoldsLeaf
leaf_hits D bytes head has live first s len own items out h (inl (none, e)) = e ∙ sym (no_hits has live own items none h.spells.inside)
leaf_hits D bytes head has live first s len own items out h (inr (seen, k, e)) =
    e ∙ ap (hits_in has live) (one_leaf D _ seen items k.spells.spells h.spells.spells)

-- the hits of a subtree all of whose leaves are spelled are those of its entries
pub tree_hits : (D : ℕ) (bytes : List ℕ) (head : Head) (has : List ℤ → Bool) (live : LiveSet) (first : ℕ) (s : Spot) (t : IndexTree) (items : List Item)
    (out : List ℕ)
    → HoldsTree D bytes head first s t items → AreHits D bytes head has live first s t out → out ≡ hits_in has live items
tree_hits D bytes head has live first s (Leaf len own) items out h k = leaf_hits D bytes head has live first s len own items out h k
tree_hits D bytes head has live first s (Split d x l r) items out h k =
    let a = tree_hits D bytes head has live first s l h.front_items k.front_hits h.front_holds k.front_are in
    let b = tree_hits D bytes head has live (first + leaf_count l) (right_begin s l r) r h.back_items k.back_hits h.back_holds k.back_are in
    k.joined ∙ ap (λ z. z ++ k.back_hits) a ∙ ap (λ z. hits_in has live h.front_items ++ z) b
    ∙ sym (hits_join has live h.front_items h.back_items) ∙ ap (hits_in has live) (sym h.joined)

pub first_page : (D : ℕ) (bytes : List ℕ) (head : Head) (first : ℕ) (s : Spot) (t : IndexTree) (items : List Item) → HoldsTree D bytes head first s t items
    → IsFilePage (Segment head.id) bytes (page_of head s.page)
first_page D bytes head first s (Leaf len own) items h = leaf_page D bytes head first s len own items h
first_page D bytes head first s (Split d x l r) items h = first_page D bytes head first s l h.front_items h.front_holds

-- ---- a damage below a child is one below the node

pub damage_left : (D : ℕ) (head : Head) (first : ℕ) (s : Spot) (d : ℕ) (x : ℤ) (l r : IndexTree) (e : Damage) → IsLeafDamage D head first s l e
    → IsLeafDamage D head first s (Split d x l r) e
damage_left D head first s d x l r (damage.Page file number bytes) h = h
damage_left D head first s d x l r (damage.Size file size needed) h =
    let k = h.2 in
    (h.0, h.1, record { number = k.number; spot = k.spot; len = k.len; own = k.own; is = inl k.is; needs = k.needs })
damage_left D head first s d x l r (damage.Leaf file number offset len bytes) h =
    let k = h.2 in
    (h.0, h.1, record { number = k.number; spot = k.spot; own = k.own; is = inl k.is; page_is = k.page_is; offset_is = k.offset_is; none = k.none })
damage_left D head first s d x l r (damage.Body file bytes) h = h
damage_left D head first s d x l r (damage.Missing file) h = h
damage_left D head first s d x l r (damage.Unequal file said found) h = h
damage_left D head first s d x l r (damage.NotGiven doc next) h = h
damage_left D head first s d x l r (damage.Doubled doc) h = h

pub damage_right : (D : ℕ) (head : Head) (first : ℕ) (s : Spot) (d : ℕ) (x : ℤ) (l r : IndexTree) (e : Damage)
    → IsLeafDamage D head (first + leaf_count l) (right_begin s l r) r e → IsLeafDamage D head first s (Split d x l r) e
damage_right D head first s d x l r (damage.Page file number bytes) h = h
damage_right D head first s d x l r (damage.Size file size needed) h =
    let k = h.2 in
    (h.0, h.1, record { number = k.number; spot = k.spot; len = k.len; own = k.own; is = inr k.is; needs = k.needs })
damage_right D head first s d x l r (damage.Leaf file number offset len bytes) h =
    let k = h.2 in
    (h.0, h.1, record { number = k.number; spot = k.spot; own = k.own; is = inr k.is; page_is = k.page_is; offset_is = k.offset_is; none = k.none })
damage_right D head first s d x l r (damage.Body file bytes) h = h
damage_right D head first s d x l r (damage.Missing file) h = h
damage_right D head first s d x l r (damage.Unequal file said found) h = h
damage_right D head first s d x l r (damage.NotGiven doc next) h = h
damage_right D head first s d x l r (damage.Doubled doc) h = h

-- a fault that is handed on shows what it showed
pub handed_on : {T : Type 0} (r : Result T PageFault) (f : PageFault) (P : Damage → Type 0) → IsErrAnd r (λ e. e ≡ f) → FaultShows P f → OnDamage r P
handed_on (Ok x) f P h k = tt
handed_on (Err e) f P h k = subst (FaultShows P) (sym h) k

-- ---- the same by the children that a node gives

pub left_damage : {T : Type 0} {D : ℕ} (res : Result T PageFault) (head : Head) (left right : NodeAt D) (first : ℕ) (s : Spot) (path : Region) (t : IndexTree)
    (k : AreChildren left right first s path t)
    → OnDamage res (IsLeafDamage D head first s k.l) → OnDamage res (IsLeafDamage D head first s t)
left_damage {T} {D} res head left right first s path t k h =
    subst (λ u. OnDamage res (IsLeafDamage D head first s u)) (sym k.is)
    (on_damage_weaker res (IsLeafDamage D head first s k.l) (IsLeafDamage D head first s (Split k.dimension k.value k.l k.r))
    (damage_left D head first s k.dimension k.value k.l k.r) h)

pub right_damage : {T : Type 0} {D : ℕ} (res : Result T PageFault) (head : Head) (left right : NodeAt D) (first : ℕ) (s : Spot) (path : Region) (t : IndexTree)
    (k : AreChildren left right first s path t)
    → OnDamage res (IsLeafDamage D head (first + leaf_count k.l) (right_begin s k.l k.r) k.r) → OnDamage res (IsLeafDamage D head first s t)
right_damage {T} {D} res head left right first s path t k h =
    subst (λ u. OnDamage res (IsLeafDamage D head first s u)) (sym k.is)
    (on_damage_weaker res (IsLeafDamage D head (first + leaf_count k.l) (right_begin s k.l k.r) k.r)
    (IsLeafDamage D head first s (Split k.dimension k.value k.l k.r)) (damage_right D head first s k.dimension k.value k.l k.r) h)

-- the leaves of both children are spelled where those of the node are
pub held : {D : ℕ} (bytes : List ℕ) (head : Head) (left right : NodeAt D) (first : ℕ) (s : Spot) (path : Region) (t : IndexTree)
    (k : AreChildren left right first s path t) (items : List Item)
    → HoldsTree D bytes head first s t items → HoldsTree D bytes head first s (Split k.dimension k.value k.l k.r) items
held {D} bytes head left right first s path t k items h = subst (λ u. HoldsTree D bytes head first s u items) k.is h

pub left_root : {D : ℕ} (left right : NodeAt D) (first : ℕ) (s : Spot) (path : Region) (t : IndexTree) (k : AreChildren left right first s path t)
    → HasCells D path t
    → IsRoot left first s (left_of path k.dimension k.value) k.l
left_root {D} left right first s path t k cells =
    let c : HasCells D path (Split k.dimension k.value k.l k.r) = subst (λ u. HasCells D path u) k.is cells in
    record { is = k.left_is; cells = c.1 }

pub right_root : {D : ℕ} (left right : NodeAt D) (first : ℕ) (s : Spot) (path : Region) (t : IndexTree) (k : AreChildren left right first s path t)
    → HasCells D path t
    → IsRoot right (first + leaf_count k.l) (right_begin s k.l k.r) (right_of path k.dimension k.value) k.r
right_root {D} left right first s path t k cells =
    let c : HasCells D path (Split k.dimension k.value k.l k.r) = subst (λ u. HasCells D path u) k.is cells in
    record { is = k.right_is; cells = c.2 }

-- ---- one leaf, by its place

-- a place of which it is known that no leaf is spelled there is not one of a subtree whose leaves are spelled
pub never_bad : {D : ℕ} (bytes : List ℕ) (head : Head) (node : NodeAt D) (place : LeafPlace) (first : ℕ) (s : Spot) (path : Region) (t : IndexTree)
    (items : List Item)
    → IsAt node first s path t → IsPlaceOf place s t → HoldsTree D bytes head first s t items
    → ((len : ℕ) (own : Region) → IsAt node first s path (Leaf len own) → IsPlaceOf place s (Leaf len own) → HoldsLeaf D bytes head first s len own items → ⊥)
    → ⊥
never_bad bytes head node place first s path (Leaf len own) items is at holds none = none len own is at holds
never_bad bytes head node place first s path (Split d x l r) items is at holds none = let e = at.is in cc

leaf_inside : (D : ℕ) (bytes : List ℕ) (head : Head) (first : ℕ) (s : Spot) (len : ℕ) (own : Region) (items : List Item)
    → HoldsLeaf D bytes head first s len own items → All (λ x. in_box own x.at ≡ true) items
unfolding HoldsLeaf
leaf_inside D bytes head first s len own items h = h.spells.inside

-- the live entries of a leaf that lies in the shape are its hits
pub taken_hits : {D : ℕ} (bytes : List ℕ) (head : Head) (has : List ℤ → Bool) (live : LiveSet) (node : NodeAt D) (place : LeafPlace) (first : ℕ) (s : Spot)
    (path : Region) (t : IndexTree) (items : List Item) (old new : List ℕ)
    → IsAt node first s path t → IsPlaceOf place s t → AllAnswer has true (cell_of path t)
    → ((len : ℕ) (own : Region) → IsAt node first s path (Leaf len own) → IsPlaceOf place s (Leaf len own) → HoldsLeaf D bytes head first s len own items)
    → new ≡ old ++ hits_in (λ _. true) live items → Appends old new (AreHits D bytes head has live first s t)
taken_hits {D} bytes head has live node place first s path (Leaf len own) items old new is at all holds e = record {
  out = hits_in has live items;
  grew = e ∙ ap (λ z. old ++ z) (all_hit has live own items all (leaf_inside D bytes head first s len own items (holds len own is at)));
  holds = inr (items, holds len own is at, refl);
}
taken_hits bytes head has live node place first s path (Split d x l r) items old new is at all holds e = let f = at.is in cc

pub tested_hits : {D : ℕ} (bytes : List ℕ) (head : Head) (has : List ℤ → Bool) (live : LiveSet) (node : NodeAt D) (place : LeafPlace) (first : ℕ) (s : Spot)
    (path : Region) (t : IndexTree) (items : List Item) (old new : List ℕ)
    → IsAt node first s path t → IsPlaceOf place s t
    → ((len : ℕ) (own : Region) → IsAt node first s path (Leaf len own) → IsPlaceOf place s (Leaf len own) → HoldsLeaf D bytes head first s len own items)
    → new ≡ old ++ hits_in has live items → Appends old new (AreHits D bytes head has live first s t)
tested_hits {D} bytes head has live node place first s path (Leaf len own) items old new is at holds e = record {
  out = hits_in has live items;
  grew = e;
  holds = inr (items, holds len own is at, refl);
}
tested_hits bytes head has live node place first s path (Split d x l r) items old new is at holds e = let f = at.is in cc

-- all entries of a crossed leaf may be tested
pub tested_leaf : (crosses : Region → Bool) (count : ℕ → ℕ) (place : LeafPlace) (first : ℕ) (s : Spot) (path : Region) (t : IndexTree) → IsPlaceOf place s t
    → crosses (cell_of path t) ≡ true → tested_entries crosses count first t ≡ count first
tested_leaf crosses count place first s path (Leaf len own) at e = rw e refl
tested_leaf crosses count place first s path (Split d x l r) at e = let f = at.is in cc

pub children_hits : {D : ℕ} (bytes : List ℕ) (head : Head) (has : List ℤ → Bool) (live : LiveSet) (left right : NodeAt D) (first : ℕ) (s : Spot) (path : Region)
    (t : IndexTree) (k : AreChildren left right first s path t) (old mid new : List ℕ)
    → Appends old mid (AreHits D bytes head has live first s k.l)
    → Appends mid new (AreHits D bytes head has live (first + leaf_count k.l) (right_begin s k.l k.r) k.r)
    → Appends old new (AreHits D bytes head has live first s t)
children_hits {D} bytes head has live left right first s path t k old mid new a b =
    subst (λ u. Appends old new (AreHits D bytes head has live first s u)) (sym k.is)
    (joins_hits (AreHits D bytes head has live first s k.l) (AreHits D bytes head has live (first + leaf_count k.l) (right_begin s k.l k.r) k.r) old mid new a
    b)

-- what the shape answers on all of a node's cell, it answers on those of both children
pub children_all : {D : ℕ} (has : List ℤ → Bool) (b : Bool) (left right : NodeAt D) (first : ℕ) (s : Spot) (path : Region) (t : IndexTree)
    (k : AreChildren left right first s path t) → HasCells D path t → AllAnswer has b (cell_of path t)
    → AllAnswer has b (cell_of (left_of path k.dimension k.value) k.l) × AllAnswer has b (cell_of (right_of path k.dimension k.value) k.r)
children_all {D} has b left right first s path t k cells all =
    let c : HasCells D path (Split k.dimension k.value k.l k.r) = subst (λ u. HasCells D path u) k.is cells in
    let a : AllAnswer has b path = subst (λ u. AllAnswer has b (cell_of path u)) k.is all in (
      all_cell D has b (left_of path k.dimension k.value) k.l c.1 (all_left D has b path k.dimension k.value k.l k.r c a),
      all_cell D has b (right_of path k.dimension k.value) k.r c.2 (all_right D has b path k.dimension k.value k.l k.r c a),
    )

-- ---- the whole segment

pub root_of : {D : ℕ} (node : NodeAt D) (index : Body) (root : Region) (t : IndexTree) → HasTree D index root t → IsAt node 0 front root t
    → IsRoot node 0 front root t
root_of node index root t h is = record { is = is; cells = h.tree.cells }

pub parts_of : (D : ℕ) (bytes : List ℕ) (head : Head) (items : List Item) → IsSegment D bytes head items → SegmentParts D bytes head items
unfolding IsSegment
parts_of D bytes head items h = h
