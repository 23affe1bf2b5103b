-- Nodes that wait, as parts of their segments' trees.
use Rattle.std.proofs.Common.{◌≡◌, ℕ, ◌<◌, List, ◌∷◌, length, get_or, ℤ, Result, Ok, Err, sym, subst, inl, inr}
use Rattle.std.proofs.lemmas.List.Sorted.{All-permutation}
use Rattle.std.proofs.lemmas.List.Elements.{All-cons, All-weaker}
use Rattle.std.specs.List.{All}
use Rattle.page_cache.specs.Evidence.{OnDamage}
use Rattle.page_cache.specs.declared.faults.Damage.{Damage}
use Rattle.page_cache.specs.declared.faults.Damage.TheVariants.{Page, Leaf, Body, Missing, Size, Unequal, NotGiven, Doubled}
use Rattle.page_cache.specs.declared.faults.PageFault.{PageFault}
use Rattle.page_cache.specs.declared.faults.PageFault.TheVariants.{Failed, Damaged, Memory}
use Rattle.point_codec.specs.Points.{Region}
use Rattle.inner_pack.specs.Places.{Spot, front}
use Rattle.inner_pack.specs.Trees.{IndexTree}
use Rattle.inner_pack.specs.Nodes.{IsAt, AreChildren}
use Rattle.inner_pack.specs.declared.node.NodeAt.{NodeAt}
use Rattle.segment_file.specs.Heads.{Head}
use Rattle.segment_file.specs.Segments.{IsLeafOf}
use Rattle.segment_file.specs.Damages.{IsLeafDamage}
use Rattle.nearest_query.specs.declared.frontier.Waiting.{Waiting}
use Rattle.nearest_query.specs.Segments.{IsSegmentDamage, no_head}
use Rattle.nearest_query.specs.Fronts.{Front, IsWaiting}
use Rattle.nearest_query.specs.Search.{IsNodeBelow}
use Rattle.nearest_query.proofs.WaitingNodes.{waiting_of, stands_new, stands_still}

pub on_damage : {T : Type 0} (P Q : Damage → Type 0) (r : Result T PageFault) → ((d : Damage) → P d → Q d) → OnDamage r P → OnDamage r Q
on_damage P Q (Ok x) f h = h
on_damage P Q (Err Failed) f h = h
on_damage P Q (Err (Damaged d)) f h = f d h
on_damage P Q (Err Memory) f h = h

-- a damage of a leaf of a subtree is one of a leaf of the tree
pub of_whole : (D : ℕ) (head : Head) (first : ℕ) (s : Spot) (t : IndexTree) (root : IndexTree)
    → ((number : ℕ) (at : Spot) (len : ℕ) (own : Region) → IsLeafOf first s t number at len own → IsLeafOf 0 front root number at len own)
    → (d : Damage) → IsLeafDamage D head first s t d → IsLeafDamage D head 0 front root d
of_whole D head first s t root part (Page file number bytes) h = h
of_whole D head first s t root part (Size file size needed) h =
    let n = h.2 in
    (h.0, h.1, record { number = n.number; spot = n.spot; len = n.len; own = n.own; is = part n.number n.spot n.len n.own n.is; needs = n.needs })
of_whole D head first s t root part (Leaf file number offset len bytes) h =
    let n = h.2 in (
      h.0,
      h.1,
      record {
        number = n.number;
        spot = n.spot;
        own = n.own;
        is = part n.number n.spot len n.own n.is;
        page_is = n.page_is;
        offset_is = n.offset_is;
        none = n.none;
      },
    )
of_whole D head first s t root part (Body file bytes) h = h
of_whole D head first s t root part (Missing file) h = h
of_whole D head first s t root part (Unequal file said found) h = h
of_whole D head first s t root part (NotGiven doc next) h = h
of_whole D head first s t root part (Doubled doc) h = h

pub parts_put : {D : ℕ} (heads : List Head) (trees : ℕ → IndexTree) (at : List ℤ) (seg : ℕ) (node : NodeAt D) (old new : Front D) (first : ℕ) (s : Spot)
    (path : Region) (t : IndexTree) → IsWaiting at seg node old new
    → seg < length heads → IsAt node first s path t
    → ((number : ℕ) (at : Spot) (len : ℕ) (own : Region) → IsLeafOf first s t number at len own → IsLeafOf 0 front (trees seg) number at len own)
    → All (IsNodeBelow heads trees old.nodes) old.waiting → All (IsNodeBelow heads trees new.nodes) new.waiting
parts_put heads trees at seg node old new first s path t put lt is part all =
    let e = (put.is first s path t is).1 in
    All-permutation (IsNodeBelow heads trees new.nodes) (waiting_of put.dist seg node (length old.nodes) ∷ old.waiting) new.waiting put.moved
    (All-cons (IsNodeBelow heads trees new.nodes) (waiting_of put.dist seg node (length old.nodes)) old.waiting
    (record {
      inside = lt;
      node = node;
      stands = stands_new old.nodes new.nodes node put.grown;
      spot = s;
      path = path;
      tree = t;
      is = subst (λ k. IsAt node k s path t) (sym e) is;
      part = subst (λ k. (number : ℕ) (at : Spot) (len : ℕ) (own : Region) → IsLeafOf k s t number at len own → IsLeafOf 0 front (trees seg) number at len own)
          (sym e) part;
    })
    (All-weaker (IsNodeBelow heads trees old.nodes) (IsNodeBelow heads trees new.nodes)
    (λ u k. record {
      inside = k.inside;
      node = k.node;
      stands = stands_still old.nodes new.nodes node k.node u.place put.grown k.stands;
      spot = k.spot;
      path = k.path;
      tree = k.tree;
      is = k.is;
      part = k.part;
    }) old.waiting all))

pub parts_fork : {D : ℕ} (heads : List Head) (trees : ℕ → IndexTree) (at : List ℤ) (next : Waiting) (old mid new : Front D) (left right : NodeAt D)
    → (n : IsNodeBelow heads trees old.nodes next)
    → AreChildren left right next.first n.spot n.path n.tree → IsWaiting at next.segment left old mid → IsWaiting at next.segment right mid new
    → All (IsNodeBelow heads trees old.nodes) old.waiting → All (IsNodeBelow heads trees new.nodes) new.waiting
parts_fork heads trees at next old mid new left right n kids put_left put_right all =
    let part = subst
    (λ t. (number : ℕ) (at : Spot) (len : ℕ) (own : Region) → IsLeafOf next.first n.spot t number at len own
    → IsLeafOf 0 front (trees next.segment) number at len own) kids.is n.part in
    parts_put heads trees at next.segment right mid new _ _ _ kids.r put_right n.inside kids.right_is (λ number sp len own h. part number sp len own (inr h))
    (parts_put heads trees at next.segment left old mid _ _ _ kids.l put_left n.inside kids.left_is (λ number sp len own h. part number sp len own (inl h)) all)

-- what a leaf shows is shown of its segment
pub leaf_shown : {D : ℕ} {T : Type 0} (heads : List Head) (trees : ℕ → IndexTree) (nodes : List (NodeAt D)) (next : Waiting) (node : NodeAt D)
    (r : Result T PageFault) → (n : IsNodeBelow heads trees nodes next) → node ≡ n.node
    → ((first : ℕ) (s : Spot) (path : Region) (t : IndexTree) → IsAt node first s path t
    → OnDamage r (IsLeafDamage D (get_or heads next.segment no_head) first s t))
    → OnDamage r (IsSegmentDamage D heads trees)
leaf_shown {D} heads trees nodes next node r n same shown =
    on_damage (IsLeafDamage D (get_or heads next.segment no_head) next.first n.spot n.tree) (IsSegmentDamage D heads trees) r
    (λ d h. (next.segment, n.inside, of_whole D (get_or heads next.segment no_head) next.first n.spot n.tree (trees next.segment) n.part d h))
    (shown next.first n.spot n.path n.tree (subst (λ m. IsAt m next.first n.spot n.path n.tree) (sym same) n.is))
