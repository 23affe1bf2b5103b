-- The pages and leaves of a file that holds a segment whole.
use Rattle.std.proofs.Common.{◌≡◌, ◌≤◌, ◌<◌, ◌+◌, ◌*◌, ◌-◌, ℕ, List, [], length, take, drop, sym, ap, subst, ◌∙◌, inl, inr, arith}
use Rattle.std.proofs.lemmas.Bool.{cases_lt}
use Rattle.std.proofs.lemmas.List.{drop_all, length-take}
use Rattle.outer_io.specs.declared.file_name.FileName.{FileName}
use Rattle.outer_io.specs.declared.file_name.FileName.TheVariants.{Segment}
use Rattle.outer_io.specs.Files.{Files, bytes_of}
use Rattle.point_codec.specs.Points.{Item, Region}
use Rattle.leaf_codec.specs.Leaves.{SpellsLeafIn}
use Rattle.inner_pack.specs.Places.{Spot, end_of, front}
use Rattle.inner_pack.specs.Trees.{IndexTree, Leaf, Split, leaf_count, lengths_of}
use Rattle.inner_pack.specs.Bodies.{HasTree, first_length, pages_of, right_begin}
use Rattle.inner_pack.proofs.HeadLemmas.{left_lengths, right_lengths}
use Rattle.inner_pack.proofs.OneTree.{one_index}
use Rattle.inner_pack.proofs.PlaceLemmas.{AreLengths, fitted_here, fitted_next, first_fits, right_fits}
use Rattle.page_file.specs.Page.{IsPage, payload_of}
use Rattle.page_cache.specs.Evidence.{IsPageOf}
use Rattle.page_cache.specs.FilePages.{IsFilePage, kind_of, number_of, page_at}
use Rattle.segment_file.specs.Heads.{Head, count_of, index_pages, page_of}
use Rattle.segment_file.specs.Gathers.{last_page}
use Rattle.segment_file.specs.Damages.{IsNoLeaf}
use Rattle.segment_file.specs.Segments.{HoldsLeaf, HoldsTree, IsHeadOf, IsLeafOf, IsSegment, part_of}
use Rattle.segment_file.proofs.LeafPages.{right_last}
use Rattle.segment_file.proofs.Unique.{spelled_once}
use Rattle.index_opening.specs.Evidence.{HoldsWhole, IsHeadIn, LacksLeaf}

-- ---- pages

-- the right child's first leaf stands in the page of the left one's last, or in the next
begins_next : (s : Spot) (l r : IndexTree) → (right_begin s l r).page ≤ last_page s l + 1
unfolding right_begin
begins_next s l r = elim (cases_lt 4064 ((end_of s (lengths_of l)).offset + first_length r)) [
  | inl lt ↦ omega (arith, ap (λ (e : Spot). e.page) (fitted_next (end_of s (lengths_of l)) (first_length r) lt))
  | inr le ↦ omega (arith, ap (λ (e : Spot). e.page) (fitted_here (end_of s (lengths_of l)) (first_length r) le))
]

leaf_page : (D : ℕ) (bytes : List ℕ) (head : Head) (first : ℕ) (s : Spot) (len : ℕ) (own : Region) (items : List Item)
    → HoldsLeaf D bytes head first s len own items → IsFilePage (Segment head.id) bytes (page_of head s.page)
unfolding HoldsLeaf
leaf_page D bytes head first s len own items h = h.page

-- each leaf page of a subtree is one for its place
leaf_pages : (D : ℕ) (bytes : List ℕ) (head : Head) (first : ℕ) (s : Spot) (t : IndexTree) (items : List Item) → AreLengths (lengths_of t)
    → s.offset + first_length t ≤ 4064 → HoldsTree D bytes head first s t items → (n : ℕ) → s.page ≤ n → n ≤ last_page s t
    → IsFilePage (Segment head.id) bytes (page_of head n)
leaf_pages D bytes head first s (Leaf len own) items long fits h n from to =
    let last : last_page s (Leaf len own) ≡ s.page = ap (λ (e : Spot). e.page) (fitted_here s len fits) in
    let here : s.page ≡ n = omega (arith, from, to, last) in
    subst (λ m. IsFilePage (Segment head.id) bytes (page_of head m)) here (leaf_page D bytes head first s len own items h)
leaf_pages D bytes head first s (Split k x l r) items long fits h n from to = elim (cases_lt (last_page s l) n) [
  | inl lt ↦
      leaf_pages D bytes head (first + leaf_count l) (right_begin s l r) r h.back_items (right_lengths l r long)
      (right_fits s l r (right_lengths l r long)) h.back_holds n (omega (arith, lt, begins_next s l r))
      (omega (arith, to, right_last s k x l r (right_lengths l r long)))
  | inr le ↦ leaf_pages D bytes head first s l h.front_items (left_lengths l r long) fits h.front_holds n from le
]

-- ---- leaves

-- each leaf of a subtree that is held is spelled
leaf_held : (D : ℕ) (bytes : List ℕ) (head : Head) (first : ℕ) (s : Spot) (t : IndexTree) (items : List Item) → HoldsTree D bytes head first s t items
    → (number : ℕ) (at : Spot) (len : ℕ) (own : Region) → IsLeafOf first s t number at len own → (xs : List Item) × HoldsLeaf D bytes head number at len own xs
leaf_held D bytes head first s (Leaf n cell) items h number at len own (same, there, long, is) = (
  items,
  subst (λ m. HoldsLeaf D bytes head m at len own items) (sym same)
      (subst (λ (e : Spot). HoldsLeaf D bytes head first e len own items) (sym there)
      (subst (λ m. HoldsLeaf D bytes head first s m own items) (sym long)
      (subst (λ (c : Region). HoldsLeaf D bytes head first s n c items) (sym is) h))),
)
leaf_held D bytes head first s (Split k x l r) items h number at len own (inl left) =
    leaf_held D bytes head first s l h.front_items h.front_holds number at len own left
leaf_held D bytes head first s (Split k x l r) items h number at len own (inr right) =
    leaf_held D bytes head (first + leaf_count l) (right_begin s l r) r h.back_items h.back_holds number at len own right

leaf_spelled : (D : ℕ) (bytes : List ℕ) (head : Head) (number : ℕ) (s : Spot) (len : ℕ) (own : Region) (items : List Item)
    → HoldsLeaf D bytes head number s len own items
    → SpellsLeafIn D (part_of s.offset len (page_at bytes (page_of head s.page))) (count_of head number) own items
unfolding HoldsLeaf
leaf_spelled D bytes head number s len own items h = h.spells

-- ---- the file

-- the tree of the head is that of the leaves
record IsWhole (D : ℕ) (bytes : List ℕ) (head : Head) (items : List Item) : Type 0 where
  pub tree : IndexTree
  pub lengths : AreLengths (lengths_of tree)
  pub front_pages : (n : ℕ) → n < 1 + index_pages head → IsFilePage (Segment head.id) bytes n
  pub size : length bytes ≡ 4096 * (1 + index_pages head + pages_of tree)
  pub holds : HoldsTree D bytes head 0 front tree items

whole_of : (D : ℕ) (bytes : List ℕ) (head : Head) (items : List Item) → IsSegment D bytes head items → IsWhole D bytes head items
unfolding IsSegment IsHeadOf
whole_of D bytes head items p =
    let h = p.head_is in
    let same : p.tree ≡ h.tree =
    (one_index D head.index.form head.index.leaves head.index.bytes p.root h.root p.tree h.tree p.has h.spells.has).1 in
    record {
      tree = h.tree;
      lengths = h.spells.has.tree.lengths;
      front_pages = λ n lt. h.spells.pages n (omega arith) lt;
      size = h.size;
      holds = subst (λ (t : IndexTree). HoldsTree D bytes head 0 front t items) same p.holds;
    }

whole_page : (D : ℕ) (bytes : List ℕ) (head : Head) (items : List Item) (w : IsWhole D bytes head items) (n : ℕ)
    → n < 1 + index_pages head + pages_of w.tree → IsFilePage (Segment head.id) bytes n
whole_page D bytes head items w n lt = elim (cases_lt n (1 + index_pages head)) [
  | inl before ↦ w.front_pages n before
  | inr behind ↦
      let (m, is) = less behind in
      subst (IsFilePage (Segment head.id) bytes) (sym is)
      (leaf_pages D bytes head 0 front w.tree items w.lengths (omega (arith, (first_fits w.tree w.lengths).1)) w.holds m (omega arith)
      (omega (arith, lt, is)))
]
  where
    less : 1 + index_pages head ≤ n → (m : ℕ) × (n ≡ 1 + index_pages head + m)
    less le = (n - (1 + index_pages head), omega (arith, le))

-- a page of 4,096 bytes is one that the file has
page_within : (bytes page : List ℕ) (pages n : ℕ) → length bytes ≡ 4096 * pages → length page ≡ 4096 → page ≡ page_at bytes n → n < pages
unfolding page_at
page_within bytes page pages n size long is = elim (cases_lt n pages) [
  | inl lt ↦ lt
  | inr le ↦
      let none : drop (4096 * n) bytes ≡ [] = drop_all (4096 * n) bytes (omega (arith, size, le)) in
      let empty : length page ≡ length (take 4096 (drop (4096 * n) bytes)) = ap length is in
      absurd (omega (arith, long, empty, length-take 4096 (drop (4096 * n) bytes), ap length none))
]

pub page_whole : (files : Files) (file : FileName) → HoldsWhole files file → (number : ℕ) (bytes : List ℕ) → length bytes ≡ 4096
    → IsPageOf files file number bytes → IsPage (kind_of file) (number_of file) number bytes
unfolding IsFilePage
page_whole files file h number bytes long is =
    let w = whole_of h.D (bytes_of (files file)) h.head h.items h.holds in
    let there = whole_page h.D (bytes_of (files file)) h.head h.items w number (page_within (bytes_of (files file)) bytes _ number w.size long is) in
    subst (λ (page : List ℕ). IsPage (kind_of file) (number_of file) number page) (sym is)
    (subst (λ (name : FileName). IsPage (kind_of name) (number_of name) number (page_at (bytes_of (files file)) number)) (sym h.file_is) there)

-- a leaf of the head's tree is spelled
no_lack : (D : ℕ) (file_bytes : List ℕ) (head : Head) (items : List Item) → IsSegment D file_bytes head items → (root : Region) (tree : IndexTree)
    → HasTree D head.index root tree → (page offset len : ℕ) (bytes : List ℕ) → bytes ≡ page_at file_bytes page
    → IsNoLeaf D head 0 front tree page offset len (take len (drop offset (payload_of bytes))) → ⊥
unfolding IsSegment
no_lack D file_bytes head items p root tree has page offset len bytes is none =
    let same = (one_index D head.index.form head.index.leaves head.index.bytes root p.root tree p.tree has p.has).1 in
    let held = leaf_held D file_bytes head 0 front p.tree items p.holds none.number none.spot len none.own
    (subst (λ (t : IndexTree). IsLeafOf 0 front t none.number none.spot len none.own) same none.is) in
    let part : take len (drop offset (payload_of bytes)) ≡ part_of none.spot.offset len (page_at file_bytes (page_of head none.spot.page)) =
    ap (λ (b : List ℕ). take len (drop offset (payload_of b))) (is ∙ ap (page_at file_bytes) none.page_is)
    ∙ ap (λ o. take len (drop o (payload_of (page_at file_bytes (page_of head none.spot.page))))) none.offset_is in
    none.none held.0 (subst (λ (b : List ℕ). SpellsLeafIn D b (count_of head none.number) none.own held.0) (sym part)
    (leaf_spelled D file_bytes head none.number none.spot len none.own held.0 held.1))

same_id : (m n : ℕ) → Segment m ≡ Segment n → m ≡ n
same_id m n h = cc

-- the head that a leaf is read through is the file's
pub leaf_whole : (files : Files) (file : FileName) → HoldsWhole files file → (page offset len : ℕ) (bytes : List ℕ) → IsPageOf files file page bytes
    → LacksLeaf (IsHeadIn files) file page offset len (take len (drop offset (payload_of bytes))) → ⊥
unfolding IsHeadOf IsSegment
leaf_whole files file h page offset len bytes is lacks =
    let held = bytes_of (files file) in
    let parts = subst (λ (name : FileName). IsHeadOf lacks.D (bytes_of (files name)) lacks.head) (sym lacks.file_is) lacks.is in
    let same = spelled_once lacks.D h.D held lacks.head h.head (pages_of parts.tree) (pages_of h.holds.head_is.tree) parts.root h.holds.head_is.root parts.tree
    h.holds.head_is.tree (same_id lacks.head.id h.head.id (sym lacks.file_is ∙ h.file_is)) parts.spells h.holds.head_is.spells in
    no_lack lacks.D held lacks.head h.items
    (subst (λ n. IsSegment n held lacks.head h.items) (sym same.2) (subst (λ (g : Head). IsSegment h.D held g h.items) (sym same.0) h.holds))
    lacks.root lacks.tree lacks.has page offset len bytes is lacks.none
