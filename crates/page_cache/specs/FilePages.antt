-- Which pages a file has, and what their payloads spell together.
use Rattle.std.specs.Prelude.{ℕ, zero, suc, ◌+◌, ◌*◌, ◌≤◌, ◌<◌, List, [], ◌++◌, take, drop}
use Rattle.outer_io.specs.declared.file_name.FileName.{FileName}
use Rattle.outer_io.specs.declared.file_name.FileName.TheVariants.{Commit, CommitNew, Segment, Live}
use Rattle.page_file.specs.Page.{IsPage, payload_of}

-- the kind of a file that the digests of its pages cover (this project's layout)
abbrev pub kind_of : FileName → ℕ
kind_of (Segment id) = 1
kind_of (Live segment generation) = 2
kind_of Commit = 3
kind_of CommitNew = 3

-- the number of a file that the digests of its pages cover: its segment's, or 0
abbrev pub number_of : FileName → ℕ
number_of (Segment id) = id
number_of (Live segment generation) = segment
number_of Commit = 0
number_of CommitNew = 0

-- the bytes where page n stands, as many as the file has there
unfoldable pub page_at : List ℕ → ℕ → List ℕ
page_at bytes n = take 4096 (drop (4096 * n) bytes)

-- a file of this name and these bytes has page n, and its digest is the one for that place
unfoldable pub IsFilePage : FileName → List ℕ → ℕ → Type 0
IsFilePage name bytes n = IsPage (kind_of name) (number_of name) n (page_at bytes n)

-- it has the pages from `from` up to before `end`, each for its place
abbrev pub ArePages : FileName → List ℕ → ℕ → ℕ → Type 0
ArePages name bytes from end = (n : ℕ) → from ≤ n → n < end → IsFilePage name bytes n

-- the payloads of so many pages from `from` on, one after another
unfoldable pub payloads_of : List ℕ → ℕ → ℕ → List ℕ
payloads_of bytes from zero = []
payloads_of bytes from (suc count) = payloads_of bytes from count ++ payload_of (page_at bytes (from + count))
