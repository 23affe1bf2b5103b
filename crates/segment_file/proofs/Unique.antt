-- A file has one head, and one list of entries.
use Rattle.std.proofs.Common.{◌≡◌, ◌<◌, ◌^◌, ◌+◌, ℕ, List, ◌++◌, length, sym, ap, ◌∙◌}
use Rattle.point_codec.specs.Points.{Item, Region}
use Rattle.leaf_codec.proofs.ReadLeaf.{one_leaf}
use Rattle.inner_pack.specs.Places.{Spot}
use Rattle.inner_pack.specs.Trees.{IndexTree, Leaf, Split, leaf_count}
use Rattle.inner_pack.specs.Bodies.{right_begin, pages_of}
use Rattle.page_cache.specs.FilePages.{page_at, payloads_of}
use Rattle.page_cache.specs.Bodies.{pages_for, padded_body}
use Rattle.segment_file.specs.Heads.{Head, AreFields, HasRanges, fields_of, index_pages, page_of}
use Rattle.segment_file.specs.Segments.{part_of, SpellsHead, IsHeadOf, HoldsLeaf, HoldsTree, IsSegment}
use Rattle.segment_file.proofs.Lists.{bodies_equal}
use Rattle.segment_file.specs.FieldsSeen.{AreNarrow}
use Rattle.segment_file.proofs.FieldBytes.{narrow_fields, fields_unique}

-- ---- the head

pub head_fields : (D : ℕ) (head : Head) (said : ℕ) → HasRanges D head → said < 2 ^ 32 → AreFields (fields_of D head said)
head_fields D head said h fits = record {
  some_dims = h.some_dims;
  few_dims = h.few_dims;
  least_form = h.least_form;
  greatest_form = h.greatest_form;
  least_leaf = h.least_leaf;
  greatest_leaf = h.greatest_leaf;
  some = h.some;
  few = h.few;
  leaves_are = h.leaves_are;
  short = h.short;
  pages_fit = fits;
}

pub narrow_head : (D : ℕ) (head : Head) (said : ℕ) → HasRanges D head → said < 2 ^ 32 → AreNarrow (fields_of D head said)
narrow_head D head said h fits = narrow_fields (fields_of D head said) (head_fields D head said h fits)

same_heads : (g h : Head) → g.id ≡ h.id → g.entries ≡ h.entries → g.leaf_size ≡ h.leaf_size → g.index.form ≡ h.index.form → g.index.leaves ≡ h.index.leaves
    → g.index.bytes ≡ h.index.bytes → g ≡ h
same_heads g h a b c d e f = λ i. record { id = a i; entries = b i; leaf_size = c i; index = record { form = d i; leaves = e i; bytes = f i } }

-- heads of one file that say two numbers of leaf pages
pub spelled_once : (D E : ℕ) (bytes : List ℕ) (g h : Head) (m n : ℕ) (q r : Region) (t u : IndexTree) → g.id ≡ h.id
    → SpellsHead D bytes g m q t → SpellsHead E bytes h n r u → (g ≡ h) × (m ≡ n) × (D ≡ E)
spelled_once D E bytes g h m n q r t u ids a b =
    let f = fields_of D g m in
    let k = fields_of E h n in
    let same = fields_unique f k _ _ (narrow_head D g m a.ranges a.said_fits) (narrow_head E h n b.ranges b.said_fits) (sym a.first ∙ b.first) in
    let long : length g.index.bytes ≡ length h.index.bytes = same.index_length in
    let pages : index_pages g ≡ index_pages h = ap (λ (l : ℕ). pages_for l) long in
    let payloads : padded_body g.index.bytes ≡ padded_body h.index.bytes = sym a.index ∙ ap (λ (l : ℕ). payloads_of bytes 1 l) pages ∙ b.index in
    (same_heads g h ids same.entries same.leaf_size same.form same.leaves (bodies_equal g.index.bytes h.index.bytes long payloads), same.leaf_pages, same.dims)

pub one_head : (D : ℕ) (bytes : List ℕ) (g h : Head) → g.id ≡ h.id → IsHeadOf D bytes g → IsHeadOf D bytes h → g ≡ h
unfolding IsHeadOf
one_head D bytes g h ids a b = (spelled_once D D bytes g h (pages_of a.tree) (pages_of b.tree) a.root b.root a.tree b.tree ids a.spells b.spells).0

-- ---- the entries

leaf_once : (D : ℕ) (bytes : List ℕ) (head : Head) (number : ℕ) (s : Spot) (len : ℕ) (own : Region) (xs ys : List Item)
    → HoldsLeaf D bytes head number s len own xs → HoldsLeaf D bytes head number s len own ys → xs ≡ ys
unfolding HoldsLeaf
leaf_once D bytes head number s len own xs ys p q =
    one_leaf D (part_of s.offset len (page_at bytes (page_of head s.page))) xs ys p.spells.spells q.spells.spells

pub tree_once : (D : ℕ) (bytes : List ℕ) (head : Head) (first : ℕ) (s : Spot) (t : IndexTree) (xs ys : List Item)
    → HoldsTree D bytes head first s t xs → HoldsTree D bytes head first s t ys → xs ≡ ys
tree_once D bytes head first s (Leaf len own) xs ys p q = leaf_once D bytes head first s len own xs ys p q
tree_once D bytes head first s (Split d x l r) xs ys p q =
    let left = tree_once D bytes head first s l p.front_items q.front_items p.front_holds q.front_holds in
    let right = tree_once D bytes head (first + leaf_count l) (right_begin s l r) r p.back_items q.back_items p.back_holds q.back_holds in
    p.joined ∙ ap (λ (z : List Item). z ++ p.back_items) left ∙ ap (λ (z : List Item). q.front_items ++ z) right ∙ sym q.joined

pub head_of_segment : (D : ℕ) (bytes : List ℕ) (head : Head) (items : List Item) → IsSegment D bytes head items → IsHeadOf D bytes head
unfolding IsSegment
head_of_segment D bytes head items p = p.head_is
