-- A file that is put together from pages.
use Rattle.std.specs.Prelude.{◌≡◌, ℕ, ◌+◌, ◌*◌, if◌then◌else◌, nat_le, List, [], ◌∷◌, ◌++◌, length, take, drop}
use Rattle.outer_io.specs.declared.file_name.FileName.{FileName}
use Rattle.page_cache.specs.FilePages.{ArePages, payloads_of}
use Rattle.page_cache.specs.Bodies.{padded_body}
use Rattle.segment_file.specs.declared.pieces.Pieces.{Pieces}

-- the segment whose file it is
unfoldable pub piece_id : Pieces → ℕ
piece_id p = p.id

-- how many pages the file has so far
unfoldable pub piece_pages : Pieces → ℕ
piece_pages p = p.pages

-- the file so far, in whole pages: what the folder holds of it, once a piece was handed over, and what is still to be
unfoldable pub so_far : (held : List ℕ) → Pieces → List ℕ
so_far held p = if p.started then held ++ take p.whole p.out.items else take p.whole p.out.items

-- the payload so far of the page that is open
unfoldable pub open_page : Pieces → List ℕ
open_page p = drop p.whole p.out.items

-- the bytes are so many pages of the file, each for its place, with these payloads one after another
pub record IsPaged (name : FileName) (count : ℕ) (payloads bytes : List ℕ) : Type 0 where
  pub len : length bytes ≡ 4096 * count
  pub pages : ArePages name bytes 0 count
  pub payloads_are : payloads_of bytes 0 count ≡ payloads

-- the payloads of leaf pages, on the last of which these bytes stand already: a leaf stands behind the one before
-- where the page has room for it, and else at the front of the next page
abbrev pub laid_pages : (current : List ℕ) → List (List ℕ) → List ℕ
laid_pages current [] = padded_body current
laid_pages current (leaf ∷ leaves) =
    if nat_le (length current + length leaf) 4064 then laid_pages
    (current ++ leaf) leaves else padded_body current ++ laid_pages leaf leaves
