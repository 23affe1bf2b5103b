-- What the file of a segment holds. Each word speaks of the bytes of that one file.
use Rattle.std.specs.Prelude.{ℕ, ◌+◌, ◌*◌, ◌^◌, ◌<◌, ◌≤◌, ◌≡◌, ◌⊎◌, List, ◌++◌, length, take, drop}
use Rattle.outer_io.specs.declared.file_name.FileName.TheVariants.{Segment}
use Rattle.point_codec.specs.Points.{Item, Region}
use Rattle.leaf_codec.specs.Leaves.{SpellsLeafIn}
use Rattle.inner_pack.specs.Places.{Spot, front}
use Rattle.inner_pack.specs.Trees.{IndexTree, Leaf, Split, leaf_count}
use Rattle.inner_pack.specs.Bodies.{HasTree, pages_of, right_begin}
use Rattle.page_file.specs.Page.{payload_of}
use Rattle.page_cache.specs.FilePages.{page_at, IsFilePage, ArePages, payloads_of}
use Rattle.page_cache.specs.Bodies.{padded_body, pages_for}
use Rattle.segment_file.specs.Heads.{Head, Fields, AreFields, HasRanges}
use Rattle.segment_file.specs.Heads.{fields_of, fields_bytes, index_pages, page_of, count_of}

-- ---- the head and the index

-- the head page and the index pages of the file spell this head, whose index has this tree. The head page says that
-- there are so many leaf pages
pub record SpellsHead (D : ℕ) (bytes : List ℕ) (head : Head) (said : ℕ) (root : Region) (tree : IndexTree)
    : Type 0 where
  pub ranges : HasRanges D head
  pub said_fits : said < 2 ^ 32
  pub has : HasTree D head.index root tree
  pub pages : ArePages (Segment head.id) bytes 0 (1 + index_pages head)
  pub first : payload_of (page_at bytes 0) ≡ padded_body (fields_bytes (fields_of D head said))
  pub index : payloads_of bytes 1 (index_pages head) ≡ padded_body head.index.bytes

-- and there are just these leaf pages behind them, as many as the tree has
pub record HeadParts (D : ℕ) (bytes : List ℕ) (head : Head) : Type 0 where
  pub root : Region
  pub tree : IndexTree
  pub spells : SpellsHead D bytes head (pages_of tree) root tree
  pub size : length bytes ≡ 4096 * (1 + index_pages head + pages_of tree)

-- the head is the one that the file of its segment has
unfoldable pub IsHeadOf : ℕ → List ℕ → Head → Type 0
IsHeadOf D bytes head = HeadParts D bytes head

-- no more pages than stand before the leaves of the file: its first page, and those of the index where that page says
-- fields
pub data AreBeforeLeaves (bytes : List ℕ) (pages : ℕ) : Type 0 where
  OnePage : pages ≤ 1 → AreBeforeLeaves bytes pages
  WithIndex : (f : Fields) → AreFields f → payload_of (page_at bytes 0) ≡ padded_body (fields_bytes f)
      → pages ≤ 1 + pages_for f.index_length → AreBeforeLeaves bytes pages

-- ---- the leaves

-- a part of a page's payload
abbrev pub part_of : (offset len : ℕ) → List ℕ → List ℕ
part_of offset len page = take len (drop offset (payload_of page))

-- in its page, which is one for its place, the leaf of this number, place, length and own cell is spelled
pub record LeafParts (D : ℕ) (bytes : List ℕ) (head : Head) (number : ℕ) (s : Spot) (len : ℕ) (own : Region)
    (items : List Item) : Type 0 where
  pub page : IsFilePage (Segment head.id) bytes (page_of head s.page)
  pub spells : SpellsLeafIn D (part_of s.offset len (page_at bytes (page_of head s.page)))
      (count_of head number) own items

unfoldable pub HoldsLeaf : ℕ → List ℕ → Head → ℕ → Spot → ℕ → Region → List Item → Type 0
HoldsLeaf D bytes head number s len own items = LeafParts D bytes head number s len own items

-- items of two lists of leaves one behind the other
pub record Joins (left right : List Item → Type 0) (items : List Item) : Type 0 where
  pub front_items : List Item
  pub back_items : List Item
  pub front_holds : left front_items
  pub back_holds : right back_items
  pub joined : items ≡ front_items ++ back_items

-- the leaves of a subtree, of which the first has this number and begins at s, are spelled, and have these items from
-- left to right
abbrev pub HoldsTree : (D : ℕ) (bytes : List ℕ) (head : Head) (first : ℕ) → Spot → IndexTree → List Item → Type 0
HoldsTree D bytes head first s (Leaf len own) items = HoldsLeaf D bytes head first s len own items
HoldsTree D bytes head first s (Split d x l r) items =
    Joins (HoldsTree D bytes head first s l) (HoldsTree D bytes head (first + leaf_count l) (right_begin s l r) r) items

-- the leaf of this number, place, length and own cell is one of those of the subtree
abbrev pub IsLeafOf : (first : ℕ) → Spot → IndexTree → (number : ℕ) → Spot → (len : ℕ) → Region → Type 0
IsLeafOf first s (Leaf n own) number at len cell = (number ≡ first) × (at ≡ s) × (len ≡ n) × (cell ≡ own)
IsLeafOf first s (Split d x l r) number at len cell =
    IsLeafOf first s l number at len cell ⊎ IsLeafOf (first + leaf_count l) (right_begin s l r) r number at len cell

-- ---- the whole

pub record SegmentParts (D : ℕ) (bytes : List ℕ) (head : Head) (items : List Item) : Type 0 where
  pub head_is : IsHeadOf D bytes head
  pub root : Region
  pub tree : IndexTree
  pub has : HasTree D head.index root tree
  pub holds : HoldsTree D bytes head 0 front tree items

-- the file is that of a segment with this head and these entries, in the order of the leaves. It has no others
-- (`one_segment`)
unfoldable pub IsSegment : ℕ → List ℕ → Head → List Item → Type 0
IsSegment D bytes head items = SegmentParts D bytes head items
