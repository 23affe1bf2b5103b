-- What a damage shows: of one segment from what is shown of each tree, and of a list of segments from what is shown of trees of all.
use Rattle.std.proofs.Common.{◌≡◌, ℕ, zero, suc, ◌<◌, List, [], ◌∷◌, get_or, true, sym, ap, subst, ◌∙◌, ◌⊎◌, inl, inr, Result, Ok, Err, arith}
use Rattle.std.specs.List.{All, AllPairs, Contains}
use Rattle.std.specs.List.Sorted.{IsStrictlyIncreasing}
use Rattle.std.proofs.Props.{props}
use Rattle.std.proofs.Math.Logic.{∥∥₁_elim, ∥∥₁_map, ∥∥₁_prop}
use Rattle.std.proofs.lemmas.Grind.{merely}
use Rattle.std.proofs.lemmas.List.Elements.{All-contains_itself, All-tail}
use Rattle.std.proofs.lemmas.List.Kept.{AllPairs-from_increasing}
use Rattle.outer_io.specs.declared.file_name.FileName.{FileName}
use Rattle.outer_io.specs.declared.file_name.FileName.TheVariants.{Commit, CommitNew, Segment, Live}
use Rattle.point_codec.specs.Points.{Region}
use Rattle.inner_pack.specs.Places.{front}
use Rattle.inner_pack.specs.Trees.{IndexTree, Leaf}
use Rattle.inner_pack.specs.Bodies.{Body, HasTree, IsSpelled}
use Rattle.page_cache.specs.declared.faults.Damage.{Damage}
use Rattle.page_cache.specs.declared.faults.Damage.TheVariants as damage
use Rattle.page_cache.specs.declared.faults.PageFault.{PageFault}
use Rattle.page_cache.specs.declared.faults.PageFault.TheVariants.{Failed, Damaged, Memory}
use Rattle.page_cache.specs.Evidence.{OnDamage}
use Rattle.segment_file.specs.Heads.{Head, HasRanges, IsHead}
use Rattle.segment_file.specs.Damages.{IsLeafDamage}
use Rattle.documents.specs.Entries.{is_among}
use Rattle.documents.proofs.Kept.{among_from, among_to}
use Rattle.documents.proofs.Lists.{cons_cases, in_map, nil_none, of_map, pairs_head, pairs_tail}
use Rattle.nearest_query.specs.Segments.{HaveTrees, IsSegmentDamage, no_head}
use Rattle.segment_view.specs.LiveSegments.{LiveSegment, heads_of, ids_of}
use Rattle.segment_view.specs.Damages.{IsReadDamage, IsPartDamage}

-- ---- of one segment

-- what is shown of each tree of a head is shown, since its index spells one
pub read_shown : {T : Type 0} (D : ℕ) (head : Head) (seen : Body) (r : Result T PageFault) → HasRanges D head → seen ≡ head.index → ∥ IsSpelled D seen ∥₁
    → ((root : Region) (t : IndexTree) → HasTree D head.index root t → OnDamage r (IsLeafDamage D head 0 front t)) → OnDamage r (IsReadDamage D head)
read_shown D head seen (Ok v) ranges e spelled shown = tt
read_shown D head seen (Err Failed) ranges e spelled shown = tt
read_shown D head seen (Err (Damaged d)) ranges e spelled shown = ∥∥₁_map spelled (λ q.
    let has : HasTree D head.index q.root q.tree = subst (λ i. HasTree D i q.root q.tree) e q.has in
    record { ranges = ranges; root = q.root; tree = q.tree; has = has; shows = shown q.root q.tree has })
read_shown D head seen (Err Memory) ranges e spelled shown = tt

-- a head whose index spells a tree
pub head_seen : (D : ℕ) (head : Head) (seen : Body) → HasRanges D head → seen ≡ head.index → ∥ IsSpelled D seen ∥₁ → ∥ IsHead D head ∥₁
head_seen D head seen ranges e spelled = ∥∥₁_map spelled (λ q. record { ranges = ranges; spelled = subst (IsSpelled D) e q })

-- ---- one segment of a list

-- segments of one id are one, where the ids ascend
same_part : (parts : List LiveSegment) (p q : LiveSegment) → AllPairs (λ m n. m < n) (ids_of parts) → Contains parts p → Contains parts q
    → p.head.id ≡ q.head.id → p ≡ q
same_part [] p q up a b e = nil_none p (p ≡ q) a
same_part (x ∷ xs) p q up a b e =
    by (λ here there. same_part xs p q (pairs_tail (λ m n. m < n) x.head.id (ids_of xs) up) here there e) (cons_cases x xs p a) (cons_cases x xs q b)
  where
    above : (r : LiveSegment) → Contains xs r → x.head.id < r.head.id
    above r there = pairs_head (λ m n. m < n) x.head.id (ids_of xs) up r.head.id (in_map (λ (s : LiveSegment). s.head.id) xs r there)

    by : (Contains xs p → Contains xs q → p ≡ q) → (x ≡ p) ⊎ Contains xs p → (x ≡ q) ⊎ Contains xs q → p ≡ q
    by rest (inl here) (inl there) = sym here ∙ there
    by rest (inl here) (inr there) = absurd (omega (arith, above q there, ap (λ (s : LiveSegment). s.head.id) here, e))
    by rest (inr here) (inl there) = absurd (omega (arith, above p here, ap (λ (s : LiveSegment). s.head.id) there, e))
    by rest (inr here) (inr there) = rest here there

-- the id of the segment whose file it is
segment_of : FileName → ℕ
segment_of Commit = 0
segment_of CommitNew = 0
segment_of (Segment id) = id
segment_of (Live segment generation) = 0

-- the id of the segment whose file the damage names
id_named : Damage → ℕ
id_named (damage.Page file number bytes) = segment_of file
id_named (damage.Leaf file number offset len bytes) = segment_of file
id_named (damage.Body file bytes) = 0
id_named (damage.Missing file) = 0
id_named (damage.Size file size needed) = segment_of file
id_named (damage.Unequal file said found) = 0
id_named (damage.NotGiven doc next) = 0
id_named (damage.Doubled doc) = 0

leaf_names : (D : ℕ) (head : Head) (t : IndexTree) (d : Damage) → IsLeafDamage D head 0 front t d → id_named d ≡ head.id
unfolding id_named segment_of
leaf_names D head t (damage.Page file number bytes) h = ap segment_of h.0
leaf_names D head t (damage.Leaf file number offset len bytes) h = ap segment_of h.0
leaf_names D head t (damage.Body file bytes) h = absurd h
leaf_names D head t (damage.Missing file) h = absurd h
leaf_names D head t (damage.Size file size needed) h = ap segment_of h.0
leaf_names D head t (damage.Unequal file said found) h = absurd h
leaf_names D head t (damage.NotGiven doc next) h = absurd h
leaf_names D head t (damage.Doubled doc) h = absurd h

read_names : (D : ℕ) (head : Head) (d : Damage) → IsReadDamage D head d → id_named d ≡ head.id
read_names D head d h = ∥∥₁_elim h (hlevel props) (λ r. leaf_names D head r.tree d r.shows)

-- where some segment has the damage, the one whose file it names has
part_named : (D : ℕ) (parts : List LiveSegment) (d : Damage) → IsStrictlyIncreasing (ids_of parts) → ∥ IsPartDamage D parts d ∥₁ → IsPartDamage D parts d
part_named D parts d up some =
    let among : is_among (ids_of parts) (id_named d) ≡ true = ∥∥₁_elim some (hlevel props) (λ s.
    among_from (ids_of parts) (id_named d)
    (subst (Contains (ids_of parts)) (sym (read_names D s.0.head d s.2)) (in_map (λ (q : LiveSegment). q.head.id) parts s.0 s.1))) in
    let p = of_map (λ (q : LiveSegment). q.head.id) parts (id_named d) (among_to (ids_of parts) (id_named d) among) in (
      p.0,
      p.1,
      ∥∥₁_elim some ∥∥₁_prop (λ s.
          subst (λ (q : LiveSegment). IsReadDamage D q.head d)
          (same_part parts s.0 p.0 (AllPairs-from_increasing (ids_of parts) up) s.1 p.1 (sym (read_names D s.0.head d s.2) ∙ sym p.2)) s.2),
    )

-- ---- trees of all

-- a tree in front of others
tree_before : IndexTree → (ℕ → IndexTree) → ℕ → IndexTree
tree_before t trees zero = t
tree_before t trees (suc n) = trees n

before_have : (D : ℕ) (head : Head) (heads : List Head) (trees : ℕ → IndexTree) → (q : IsSpelled D head.index) → HaveTrees D heads trees
    → HaveTrees D (head ∷ heads) (tree_before q.tree trees)
unfolding tree_before
before_have D head heads trees q have zero within = (q.root, q.has)
before_have D head heads trees q have (suc n) within = have n (omega (arith, within))

-- heads whose indexes spell trees have trees
some_trees : (D : ℕ) (heads : List Head) → All (λ h. ∥ IsHead D h ∥₁) heads → ∥ ((trees : ℕ → IndexTree) × HaveTrees D heads trees) ∥₁
some_trees D [] all = merely (λ n. Leaf 0 (record { lo = []; hi = [] }), λ i within. absurd (omega (arith, within)))
some_trees D (head ∷ heads) all =
    ∥∥₁_elim (all 0 no_head (omega arith)) ∥∥₁_prop (λ is.
    ∥∥₁_map (some_trees D heads (All-tail (λ h. ∥ IsHead D h ∥₁) head heads all))
    (λ some. (tree_before is.spelled.tree some.0, before_have D head heads some.0 is.spelled some.1)))

-- the segment at the place of a damage
part_at : (D : ℕ) (parts : List LiveSegment) (trees : ℕ → IndexTree) (d : Damage) → All (λ h. ∥ IsHead D h ∥₁) (heads_of parts)
    → HaveTrees D (heads_of parts) trees
    → IsSegmentDamage D (heads_of parts) trees d → IsPartDamage D parts d
part_at D parts trees d all have (i, within, leaf) =
    let p = of_map (λ (q : LiveSegment). q.head) parts (get_or (heads_of parts) i no_head) (All-contains_itself (heads_of parts) i no_head within) in (
      p.0,
      p.1,
      subst (λ (h : Head). IsReadDamage D h d) (sym p.2)
          (∥∥₁_map (all i no_head within)
          (λ is. record { ranges = is.ranges; root = (have i within).0; tree = trees i; has = (have i within).1; shows = leaf })),
    )

-- what is shown of trees of all segments is shown
pub parts_shown : {T : Type 0} (D : ℕ) (parts : List LiveSegment) (r : Result T PageFault) → IsStrictlyIncreasing (ids_of parts)
    → All (λ h. ∥ IsHead D h ∥₁) (heads_of parts)
    → ((trees : ℕ → IndexTree) → HaveTrees D (heads_of parts) trees → OnDamage r (IsSegmentDamage D (heads_of parts) trees)) → OnDamage r (IsPartDamage D parts)
parts_shown D parts (Ok v) up all shown = tt
parts_shown D parts (Err Failed) up all shown = tt
parts_shown D parts (Err (Damaged d)) up all shown =
    part_named D parts d up (∥∥₁_map (some_trees D (heads_of parts) all) (λ some. part_at D parts some.0 d all some.1 (shown some.0 some.1)))
parts_shown D parts (Err Memory) up all shown = tt
