-- A leaf in its segment's file holds one list of entries, on a page that is one for its place.
use Rattle.std.proofs.Common.{◌≡◌, ℕ, List}
use Rattle.point_codec.specs.Points.{Item, Region}
use Rattle.leaf_codec.proofs.ReadLeaf.{one_leaf}
use Rattle.inner_pack.specs.Places.{Spot}
use Rattle.outer_io.specs.declared.file_name.FileName.TheVariants.{Segment}
use Rattle.page_cache.specs.FilePages.{IsFilePage}
use Rattle.segment_file.specs.Heads.{Head, page_of}
use Rattle.segment_file.specs.Segments.{HoldsLeaf}

-- a leaf holds one list of entries
pub one_holding : (D : ℕ) (bytes : List ℕ) (head : Head) (number : ℕ) (s : Spot) (len : ℕ) (own : Region) (xs ys : List Item)
    → HoldsLeaf D bytes head number s len own xs → HoldsLeaf D bytes head number s len own ys → xs ≡ ys
unfolding HoldsLeaf
one_holding D bytes head number s len own xs ys h k = one_leaf D _ xs ys h.spells.spells k.spells.spells

-- a leaf's page is one for its place
pub holding_page : (D : ℕ) (bytes : List ℕ) (head : Head) (number : ℕ) (s : Spot) (len : ℕ) (own : Region) (items : List Item)
    → HoldsLeaf D bytes head number s len own items → IsFilePage (Segment head.id) bytes (page_of head s.page)
unfolding HoldsLeaf
holding_page D bytes head number s len own items h = h.page
