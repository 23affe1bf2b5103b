-- A walk below a node with children: what is found, counted, held and kept below each, told of the node. What is given of a child is what the walk
-- of any node tells.
use Rattle.std.proofs.Common.{◌≡◌, ◌≤◌, ℕ, ◌+◌, Bool, true, List, ℤ, Result, Ok, Err, sym, subst, arith}
use Rattle.std.specs.Prelude.{IsErrAnd}
use Rattle.outer_io.specs.Files.{Files, bytes_of}
use Rattle.outer_io.specs.declared.file_name.FileName.TheVariants.{Segment}
use Rattle.point_codec.specs.Points.{Item, Region}
use Rattle.live_bits.specs.LiveSet.{LiveSet}
use Rattle.inner_pack.specs.Places.{Spot}
use Rattle.point_codec.specs.Cells.{left_of, right_of}
use Rattle.inner_pack.specs.Trees.{IndexTree, HasCells, cell_of, leaf_count}
use Rattle.inner_pack.specs.Bodies.{right_begin}
use Rattle.inner_pack.specs.Nodes.{AreChildren, IsAt}
use Rattle.inner_pack.specs.declared.node.NodeAt.{NodeAt}
use Rattle.page_cache.specs.declared.cache.PageCache.{PageCache}
use Rattle.page_cache.specs.declared.faults.PageFault.{PageFault}
use Rattle.page_cache.specs.Evidence.{OnDamage}
use Rattle.page_cache.specs.Reading.{ReadsNothing}
use Rattle.page_cache.proofs.Unread.{reads_then}
use Rattle.segment_file.specs.Heads.{Head}
use Rattle.segment_file.specs.Damages.{IsLeafDamage}
use Rattle.segment_file.specs.Segments.{HoldsTree}
use Rattle.bkd_reader.specs.Below.{IsRoot}
use Rattle.bkd_reader.specs.Counts.{asked_cells, tested_entries, touched_leaves}
use Rattle.bkd_reader.specs.Hits.{AreHits, Appends}
use Rattle.bkd_reader.specs.Unread.{AreKept, IsTouched}
use Rattle.bkd_reader.proofs.Sums.{tested_both, touched_both}
use Rattle.bkd_reader.proofs.Trees.{children_hits, handed_on, held, left_damage, left_root, right_damage, right_root}
use Rattle.bkd_reader.proofs.Uncrossed.{asked_split}
use Rattle.bkd_reader.proofs.Unread.{children_kept, kept_on, touched_as}

-- the same of each root
abbrev pub EachRoot : {D : ℕ} → NodeAt D → (ℕ → Spot → IndexTree → Type 0) → Type 0
EachRoot node P = (first : ℕ) (s : Spot) (path : Region) (t : IndexTree) → IsRoot node first s path t → P first s t

abbrev pub EachPlace : {D : ℕ} → NodeAt D → (ℕ → Spot → IndexTree → Type 0) → Type 0
EachPlace node P = (first : ℕ) (s : Spot) (path : Region) (t : IndexTree) → IsAt node first s path t → P first s t

module _ {D : ℕ} (left right : NodeAt D) (first : ℕ) (s : Spot) (path : Region) (t : IndexTree) (k : AreChildren left right first s path t)
    (cells : HasCells D path t) where
  -- ---- what is counted

  pub left_tests : (crosses seen : Region → Bool) (count : ℕ → ℕ) (a b : ℕ) → seen ≡ crosses
      → EachRoot left (λ n _ u. b ≤ a + tested_entries seen count n u) → b ≤ a + tested_entries crosses count first t
  left_tests crosses seen count a b e on_left =
      let x = on_left first s _ k.l (left_root left right first s path t k cells) in
      let both = tested_both left right first s path t k crosses seen seen count e e in
      omega (arith, x, both)

  pub left_reads : (has seen_has : List ℤ → Bool) (crosses seen : Region → Bool) (a b : ℕ) → seen_has ≡ has → seen ≡ crosses
      → EachRoot left (λ _ _ u. b ≤ a + touched_leaves seen_has seen u) → b ≤ a + touched_leaves has crosses t
  left_reads has seen_has crosses seen a b e f on_left =
      let x = on_left first s _ k.l (left_root left right first s path t k cells) in
      let both = touched_both left right first s path t k has seen_has seen_has crosses seen seen e e f f in
      omega (arith, x, both)

  pub both_tests : (crosses of_left of_right : Region → Bool) (count : ℕ → ℕ) (a b d : ℕ) → of_left ≡ crosses → of_right ≡ crosses
      → EachRoot left (λ n _ u. b ≤ a + tested_entries of_left count n u) → EachRoot right (λ n _ u. d ≤ b + tested_entries of_right count n u)
      → d ≤ a + tested_entries crosses count first t
  both_tests crosses of_left of_right count a b d e f on_left on_right =
      let x = on_left first s _ k.l (left_root left right first s path t k cells) in
      let y = on_right (first + leaf_count k.l) (right_begin s k.l k.r) _ k.r (right_root left right first s path t k cells) in
      let both = tested_both left right first s path t k crosses of_left of_right count e f in
      omega (arith, x, y, both)

  pub both_reads : (has left_has right_has : List ℤ → Bool) (crosses of_left of_right : Region → Bool) (a b d : ℕ) → left_has ≡ has → right_has ≡ has
      → of_left ≡ crosses → of_right ≡ crosses
      → EachRoot left (λ _ _ u. b ≤ a + touched_leaves left_has of_left u) → EachRoot right (λ _ _ u. d ≤ b + touched_leaves right_has of_right u)
      → d ≤ a + touched_leaves has crosses t
  both_reads has left_has right_has crosses of_left of_right a b d e f e' f' on_left on_right =
      let x = on_left first s _ k.l (left_root left right first s path t k cells) in
      let y = on_right (first + leaf_count k.l) (right_begin s k.l k.r) _ k.r (right_root left right first s path t k cells) in
      let both = touched_both left right first s path t k has left_has right_has crosses of_left of_right e f e' f' in
      omega (arith, x, y, both)

  pub both_tested : (crosses of_left of_right : Region → Bool) (count : ℕ → ℕ) (m n : ℕ) → of_left ≡ crosses → of_right ≡ crosses
      → EachRoot left (λ i _ u. m ≡ tested_entries of_left count i u) → EachRoot right (λ i _ u. n ≡ tested_entries of_right count i u)
      → m + n ≡ tested_entries crosses count first t
  both_tested crosses of_left of_right count m n e f on_left on_right =
      let x = on_left first s _ k.l (left_root left right first s path t k cells) in
      let y = on_right (first + leaf_count k.l) (right_begin s k.l k.r) _ k.r (right_root left right first s path t k cells) in
      let both = tested_both left right first s path t k crosses of_left of_right count e f in
      omega (arith, x, y, both)

  pub both_touched : (has left_has right_has : List ℤ → Bool) (crosses of_left of_right : Region → Bool) (m n : ℕ) → left_has ≡ has → right_has ≡ has
      → of_left ≡ crosses → of_right ≡ crosses
      → EachRoot left (λ _ _ u. m ≡ touched_leaves left_has of_left u) → EachRoot right (λ _ _ u. n ≡ touched_leaves right_has of_right u)
      → m + n ≡ touched_leaves has crosses t
  both_touched has left_has right_has crosses of_left of_right m n e f e' f' on_left on_right =
      let x = on_left first s _ k.l (left_root left right first s path t k cells) in
      let y = on_right (first + leaf_count k.l) (right_begin s k.l k.r) _ k.r (right_root left right first s path t k cells) in
      let both = touched_both left right first s path t k has left_has right_has crosses of_left of_right e f e' f' in
      omega (arith, x, y, both)

  -- ---- what is found and kept

  module _ (head : Head) where
    -- the second was asked of the same files, and both of the same shape
    pub both_hits : (files seen : Files) (has left_has right_has : List ℤ → Bool) (live : LiveSet) (old mid new : List ℕ)
        → seen ≡ files → left_has ≡ has → right_has ≡ has
        → EachRoot left (λ n b u. Appends old mid (AreHits D (bytes_of (files (Segment head.id))) head left_has live n b u))
        → EachRoot right (λ n b u. Appends mid new (AreHits D (bytes_of (seen (Segment head.id))) head right_has live n b u))
        → Appends old new (AreHits D (bytes_of (files (Segment head.id))) head has live first s t)
    both_hits files seen has left_has right_has live old mid new same e f on_left on_right =
        children_hits (bytes_of (files (Segment head.id))) head has live left right first s path t k old mid new
        (subst (λ (h : List ℤ → Bool). Appends old mid (AreHits D (bytes_of (files (Segment head.id))) head h live first s k.l)) e
        (on_left first s _ k.l (left_root left right first s path t k cells)))
        (subst (λ (h : List ℤ → Bool). Appends mid new
        (AreHits D (bytes_of (files (Segment head.id))) head h live (first + leaf_count k.l) (right_begin s k.l k.r) k.r)) f
        (subst (λ (x : Files). Appends mid new
        (AreHits D (bytes_of (x (Segment head.id))) head right_has live (first + leaf_count k.l) (right_begin s k.l k.r) k.r)) same
        (on_right (first + leaf_count k.l) (right_begin s k.l k.r) _ k.r (right_root left right first s path t k cells))))

    pub left_kept : {T : Type 0} (r : Result T PageFault) (cache seen : PageCache) (a b : ℕ) (has left_has : List ℤ → Bool)
        (crosses of_left : Region → Bool)
        → left_has ≡ has → of_left ≡ crosses
        → EachRoot left (λ _ i u. AreKept cache head (IsTouched left_has of_left) i u → ReadsNothing a b cache seen r)
        → AreKept cache head (IsTouched has crosses) s t → ReadsNothing a b cache seen r
    left_kept r cache seen a b has left_has crosses of_left e f on_left kept =
        on_left first s _ k.l (left_root left right first s path t k cells)
        (touched_as cache head has left_has crosses of_left s k.l e f
        (children_kept cache head (IsTouched has crosses) left right first s path t k kept).0)

    pub both_kept : {T U : Type 0} (v : T) (r : Result U PageFault) (cache mid seen : PageCache) (a b d : ℕ) (has left_has right_has : List ℤ → Bool)
        (crosses of_left of_right : Region → Bool)
        → left_has ≡ has → right_has ≡ has → of_left ≡ crosses → of_right ≡ crosses
        → EachRoot left (λ _ i u. AreKept cache head (IsTouched left_has of_left) i u → ReadsNothing {T = T} a b cache mid (Ok v))
        → EachRoot right (λ _ i u. AreKept mid head (IsTouched right_has of_right) i u → ReadsNothing b d mid seen r)
        → AreKept cache head (IsTouched has crosses) s t → ReadsNothing a d cache seen r
    both_kept {T} v r cache mid seen a b d has left_has right_has crosses of_left of_right e f e' f' on_left on_right kept =
        let before = left_kept {T = T} (Ok v) cache mid a b has left_has crosses of_left e e' on_left kept in
        reads_then a b d cache mid seen r before.reads before.kept
        (on_right (first + leaf_count k.l) (right_begin s k.l k.r) _ k.r (right_root left right first s path t k cells)
        (touched_as mid head has right_has crosses of_right (right_begin s k.l k.r) k.r f f'
        (kept_on cache mid head (IsTouched has crosses) (right_begin s k.l k.r) k.r before.kept
        (children_kept cache head (IsTouched has crosses) left right first s path t k kept).1)))

-- ---- for how many cells the walk asks

module _ {D : ℕ} (left right : NodeAt D) (first : ℕ) (s : Spot) (path : Region) (t : IndexTree) (k : AreChildren left right first s path t) where
  abbrev pub AskedOf : NodeAt D → (Region → Bool) → ℕ → ℕ → Type 0
  AskedOf node crosses a b = (n : ℕ) (i : Spot) (p : Region) (u : IndexTree) → IsAt node n i p u → b ≤ a + asked_cells crosses p u

  asked_both : (crosses : Region → Bool) (cell : Region) → cell ≡ cell_of path t → crosses cell ≡ true
      → asked_cells crosses path t
      ≡ 1 + (asked_cells crosses (left_of path k.dimension k.value) k.l + asked_cells crosses (right_of path k.dimension k.value) k.r)
  asked_both crosses cell is crossed =
      subst (λ u. crosses (cell_of path u) ≡ true
      → asked_cells crosses path u
      ≡ 1 + (asked_cells crosses (left_of path k.dimension k.value) k.l + asked_cells crosses (right_of path k.dimension k.value) k.r))
      (sym k.is) (asked_split crosses path k.dimension k.value k.l k.r) (subst (λ r. crosses r ≡ true) is crossed)

  -- a node that is crossed is asked for before its children
  pub left_compares : (crosses of_left : Region → Bool) (a b : ℕ) → of_left ≡ crosses → (cell : Region) → cell ≡ cell_of path t → crosses cell ≡ true
      → AskedOf left of_left a b → b + 1 ≤ a + asked_cells crosses path t
  left_compares crosses of_left a b e cell is crossed on_left =
      let x = subst (λ f. b ≤ a + asked_cells f (left_of path k.dimension k.value) k.l) e (on_left first s _ k.l k.left_is) in
      let all = asked_both crosses cell is crossed in
      omega (arith, x, all)

  pub both_compares : (crosses of_left of_right : Region → Bool) (a b d : ℕ) → of_left ≡ crosses → of_right ≡ crosses → (cell : Region) → cell ≡ cell_of path t
      → crosses cell ≡ true → AskedOf left of_left a b → AskedOf right of_right b d → d + 1 ≤ a + asked_cells crosses path t
  both_compares crosses of_left of_right a b d e f cell is crossed on_left on_right =
      let x = subst (λ g. b ≤ a + asked_cells g (left_of path k.dimension k.value) k.l) e (on_left first s _ k.l k.left_is) in
      let y = subst (λ g. d ≤ b + asked_cells g (right_of path k.dimension k.value) k.r) f
      (on_right (first + leaf_count k.l) (right_begin s k.l k.r) _ k.r k.right_is) in
      let all = asked_both crosses cell is crossed in
      omega (arith, x, y, all)

-- ---- what a fault of a child says

module _ {D : ℕ} (head : Head) (left right : NodeAt D) (first : ℕ) (s : Spot) (path : Region) (t : IndexTree) (k : AreChildren left right first s path t) where
  pub left_shown : {T : Type 0} (U : Type 0) (r : Result T PageFault) (f : PageFault) → IsErrAnd r (λ e. e ≡ f)
      → EachPlace left (λ n i u. OnDamage {T = U} (Err f) (IsLeafDamage D head n i u)) → OnDamage r (IsLeafDamage D head first s t)
  left_shown {T} U r f is on_left =
      handed_on r f (IsLeafDamage D head first s t) is (left_damage {T = U} (Err f) head left right first s path t k (on_left first s _ k.l k.left_is))

  pub right_shown : {T : Type 0} (U : Type 0) (r : Result T PageFault) (f : PageFault) → IsErrAnd r (λ e. e ≡ f)
      → EachPlace right (λ n i u. OnDamage {T = U} (Err f) (IsLeafDamage D head n i u)) → OnDamage r (IsLeafDamage D head first s t)
  right_shown {T} U r f is on_right =
      handed_on r f (IsLeafDamage D head first s t) is
      (right_damage {T = U} (Err f) head left right first s path t k (on_right (first + leaf_count k.l) (right_begin s k.l k.r) _ k.r k.right_is))

  -- what the second holds of the same files
  pub held_right : (files seen : Files) (items : List Item) → seen ≡ files → (holds : HoldsTree D (bytes_of (files (Segment head.id))) head first s t items)
      → HoldsTree D (bytes_of (seen (Segment head.id))) head (first + leaf_count k.l) (right_begin s k.l k.r) k.r
      (held (bytes_of (files (Segment head.id))) head left right first s path t k items holds).back_items
  held_right files seen items same holds =
      let j = held (bytes_of (files (Segment head.id))) head left right first s path t k items holds in
      subst (λ (x : Files). HoldsTree D (bytes_of (x (Segment head.id))) head (first + leaf_count k.l) (right_begin s k.l k.r) k.r j.back_items)
      (sym same) j.back_holds
