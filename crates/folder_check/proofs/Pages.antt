-- How many pages a check reads.
use Rattle.std.proofs.Common.{◌≡◌, ◌≤◌, ◌+◌, ◌-◌, ◌*◌, ◌/◌, ℕ, List, [], ◌∷◌, length, Some, take, drop, refl, sym, ap, subst, ◌∙◌, arith}
use Rattle.std.specs.List.{All, AllZip, Contains, slice_get, sum_by}
use Rattle.std.proofs.lemmas.List.{map-append, take-append-drop}
use Rattle.std.proofs.lemmas.List.Elements.{All-contains}
use Rattle.std.proofs.lemmas.List.Sums.{sum_by-append, sum_by-cons}
use Rattle.outer_io.specs.declared.file_name.FileName.TheVariants.{Segment, Live}
use Rattle.outer_io.specs.Files.{Files, bytes_of}
use Rattle.point_codec.specs.Points.{Region}
use Rattle.inner_pack.specs.Trees.{IndexTree}
use Rattle.inner_pack.specs.Bodies.{HasTree, pages_of}
use Rattle.commit_list.specs.declared.listed.Listed.{Listed}
use Rattle.commit_list.specs.Commits.{CommitData}
use Rattle.segment_file.specs.Heads.{Head, index_pages}
use Rattle.segment_file.specs.Segments.{IsHeadOf}
use Rattle.stored_index.specs.Opening.{segments_pages}
use Rattle.stored_index.specs.Stored.{HasHead, HaveHeads}
use Rattle.stored_index.proofs.Parts.{heads_once}
use Rattle.segment_view.specs.Held.{HasOwnHead}
use Rattle.segment_view.specs.LiveSegments.{LiveSegment, heads_of}
use Rattle.segment_view.proofs.Stepwise.{heads_more}
use Rattle.index_opening.specs.Opened.{IsOpened}
use Rattle.index_opening.proofs.Listed.{opened_heads}
use Rattle.folder_check.specs.Checked.{both_pages, leaf_pages, pages_in}

-- ---- a segment's file

pages_behind : (len a b : ℕ) → len ≡ 4096 * (1 + a + b) → (1 + a ≤ len / 4096) × (len / 4096 - (1 + a) ≡ b)
pages_behind len a b is = (omega (arith, is), omega (arith, is))

-- as many leaf pages are read as the file has, where no more are read than the tree of its head has
pub leaves_read : (D : ℕ) (files : Files) (head : Head) (old new : ℕ) → IsHeadOf D (bytes_of (files (Segment head.id))) head
    → ((root : Region) (t : IndexTree) → HasTree D head.index root t → new ≤ old + pages_of t) → new ≤ old + leaf_pages files head
unfolding IsHeadOf
leaves_read D files head old new p most =
    subst (λ (n : ℕ). new ≤ old + n) (sym (pages_behind (length (bytes_of (files (Segment head.id)))) (index_pages head) (pages_of p.tree) p.size).1)
    (most p.root p.tree p.spells.has)

head_fits : (D : ℕ) (files : Files) (s : Listed) (head : Head) → IsHeadOf D (bytes_of (files (Segment s.segment))) head
    → 1 + index_pages head ≤ pages_in files (Segment s.segment)
unfolding IsHeadOf
head_fits D files s head p = (pages_behind (length (bytes_of (files (Segment s.segment)))) (index_pages head) (pages_of p.tree) p.size).0

-- ---- the files of listed segments

one_more : (a i l lead leaf both : ℕ) → 1 + i ≤ a → lead + leaf ≡ both → (1 + i + l + lead) + ((a - (1 + i)) + leaf) ≡ a + l + both
one_more a i l lead leaf both fits rest = omega (arith, fits, rest)

-- what opening reads of them and their leaf pages are all their pages
pages_add : (D : ℕ) (files : Files) (ss : List Listed) (hs : List Head) → AllZip (HasHead D files) ss hs
    → segments_pages files ss hs + sum_by (leaf_pages files) hs ≡ sum_by (both_pages files) ss
pages_add D files [] [] all = refl
pages_add D files [] (h ∷ hs) all = absurd all
pages_add D files (s ∷ ss) [] all = absurd all
pages_add D files (s ∷ ss) (h ∷ hs) (one, all) =
    let index = 1 + index_pages h in
    let live = pages_in files (Live s.segment s.generation) in
    let lead = index + live + segments_pages files ss hs in
    let step = one_more (pages_in files (Segment s.segment)) (index_pages h) live
    (segments_pages files ss hs) (sum_by (leaf_pages files) hs) (sum_by (both_pages files) ss) (head_fits D files s h one.is)
    (pages_add D files ss hs all) in
    let leaves : lead + (leaf_pages files h + sum_by (leaf_pages files) hs) ≡ both_pages files s + sum_by (both_pages files) ss =
    subst (λ (id : ℕ). lead + ((pages_in files (Segment id) - index) + sum_by (leaf_pages files) hs) ≡ both_pages files s + sum_by (both_pages files) ss)
    (sym one.id) step in
    ap (λ (n : ℕ). lead + n) (sum_by-cons (leaf_pages files) h hs) ∙ leaves ∙ sym (sum_by-cons (both_pages files) s ss)

pub pages_opened : (files : Files) (c : CommitData) (heads : List Head) → HaveHeads files c heads
    → segments_pages files c.listed heads ≤ sum_by (both_pages files) c.listed
pages_opened files c heads have = omega (arith, pages_add c.dims files c.listed heads have)

pub pages_whole : (T : Type 0) (files : Files) (c : CommitData) (parts : List LiveSegment) (heads : List Head) → T
    → AllZip (IsOpened T files c) c.listed parts → HaveHeads files c heads
    → segments_pages files c.listed heads + sum_by (leaf_pages files) (heads_of parts) ≡ sum_by (both_pages files) c.listed
pages_whole T files c parts heads t opened have =
    let once = heads_once files c (heads_of parts) heads (opened_heads T files c parts t opened) have in
    ap (λ (hs : List Head). segments_pages files c.listed heads + sum_by (leaf_pages files) hs) once
    ∙ pages_add c.dims files c.listed heads have

-- ---- one segment more

pub pages_more : (files : Files) (parts : List LiveSegment) (i : ℕ) (p : LiveSegment) → slice_get parts i ≡ Some p
    → sum_by (leaf_pages files) (heads_of (take (i + 1) parts)) ≡ sum_by (leaf_pages files) (heads_of (take i parts)) + leaf_pages files p.head
pages_more files parts i p at =
    let front = ap (sum_by (leaf_pages files)) (heads_more parts i p at) ∙ sum_by-append (leaf_pages files) (heads_of (take i parts)) (p.head ∷ []) in
    omega (arith, front)

pub pages_upto : (files : Files) (parts : List LiveSegment) (i : ℕ) (p : LiveSegment) → slice_get parts i ≡ Some p
    → sum_by (leaf_pages files) (heads_of (take i parts)) + leaf_pages files p.head ≤ sum_by (leaf_pages files) (heads_of parts)
pages_upto files parts i p at =
    let front = take (i + 1) parts in
    let back = drop (i + 1) parts in
    let joined = ap (λ (ps : List LiveSegment). sum_by (leaf_pages files) (heads_of ps)) (sym (take-append-drop (i + 1) parts))
    ∙ ap (sum_by (leaf_pages files)) (map-append (λ (q : LiveSegment). q.head) front back)
    ∙ sum_by-append (leaf_pages files) (heads_of front) (heads_of back) in
    omega (arith, joined, pages_more files parts i p at)

-- what is read of the same files
pub read_of : (D : ℕ) (files mid : Files) (parts : List LiveSegment) (old new : ℕ) → mid ≡ files → All (HasOwnHead D files) parts
    → (All (HasOwnHead D mid) parts → new ≤ old + sum_by (leaf_pages mid) (heads_of parts)) → new ≤ old + sum_by (leaf_pages files) (heads_of parts)
read_of D files mid parts old new same own read =
    subst (λ (f : Files). All (HasOwnHead D f) parts → new ≤ old + sum_by (leaf_pages f) (heads_of parts)) same read own

pub one_read : (D : ℕ) (files mid : Files) (parts : List LiveSegment) (p : LiveSegment) (old new : ℕ) → mid ≡ files → All (HasOwnHead D files) parts
    → Contains parts p
    → (HasOwnHead D mid p → new ≤ old + leaf_pages mid p.head) → new ≤ old + leaf_pages files p.head
one_read D files mid parts p old new same own there read =
    subst (λ (f : Files). HasOwnHead D f p → new ≤ old + leaf_pages f p.head) same read (All-contains (HasOwnHead D files) parts p own there)
