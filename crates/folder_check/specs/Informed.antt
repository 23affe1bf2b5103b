-- What `info` tells of a folder: how large the index is, by what opening it reads.
use Rattle.std.specs.Prelude.{ℕ, ◌+◌, ◌-◌, ◌^◌, ◌≡◌, ◌⊎◌, List, ◌++◌, length, min, sum_by, None, codes, decimal}
use Rattle.outer_io.specs.declared.file_name.FileName.TheVariants.{Commit, Segment, Live}
use Rattle.outer_io.specs.Files.{Files, bytes_of}
use Rattle.live_bits.specs.LiveSet.{LiveSet}
use Rattle.documents.specs.Documents.{Document}
use Rattle.commit_list.specs.declared.listed.Listed.{Listed}
use Rattle.commit_list.specs.Commits.{CommitData}
use Rattle.commit_list.specs.CommitFiles.{IsCommitFile}
use Rattle.segment_file.specs.Heads.{Head}
use Rattle.stored_index.specs.Opening.{opening_pages}
use Rattle.stored_index.specs.Stored.{HaveHeads, HaveLive, HoldsIndex}
use Rattle.folder_check.specs.Checked.{none_text}

-- ---- what is told

-- of an index of this commit that has so many live documents, and whose files have so many bytes
unfoldable pub info_text : CommitData → (live bytes : ℕ) → List ℕ
info_text c live bytes =
    codes "dims " ++ decimal c.dims ++ codes " leaf " ++ decimal c.leaf_size ++ codes " next " ++ decimal c.next
    ++ codes " points " ++ decimal c.points_given ++ codes " live " ++ decimal live
    ++ codes " segments " ++ decimal (length c.listed) ++ codes " bytes " ++ decimal bytes ++ codes "\n"

-- the bytes of both files of a listed segment
abbrev pub listed_bytes : Files → Listed → ℕ
listed_bytes files s =
    length (bytes_of (files (Segment s.segment))) + length (bytes_of (files (Live s.segment s.generation)))

-- those of the Commit file and of the files that it lists, as far as 64 bits hold the sum
abbrev pub stored_bytes : Files → CommitData → ℕ
stored_bytes files c =
    min (length (bytes_of (files Commit)) + sum_by (listed_bytes files) c.listed) (2 ^ 64 - 1)

-- each segment that the commit lists has a head and live bits
pub record HasParts (files : Files) (c : CommitData) : Type 0 where
  pub heads : List Head
  pub have : HaveHeads files c heads
  pub sets : List LiveSet
  pub live : HaveLive files c sets

-- The Commit file says a commit, the segments that it lists have heads and live bits, and it is told of them; over
-- files that hold an index the live documents are counted.
pub record IsInfo (files : Files) (text : List ℕ) : Type 0 where
  pub commit : CommitData
  pub says : IsCommitFile (bytes_of (files Commit)) commit
  pub parts : HasParts files commit
  pub live : ℕ
  pub counts : (docs : List Document) → HoldsIndex files commit docs → live ≡ length docs
  pub by_commit : live ≡ sum_by (λ s. s.live) commit.listed
  pub told : text ≡ info_text commit live (stored_bytes files commit)

-- of a folder without a Commit file it is told that there is no index
abbrev pub IsInformed : Files → List ℕ → Type 0
IsInformed files text = ((files Commit ≡ None) × (text ≡ none_text)) ⊎ IsInfo files text

-- ---- what is read

-- so many pages are read where the Commit file says a commit and each segment that it lists has a head and live bits:
-- those that opening reads, of which none is a leaf's
pub record OpensParts (files : Files) (pages : ℕ) : Type 0 where
  pub commit : CommitData
  pub says : IsCommitFile (bytes_of (files Commit)) commit
  pub parts : HasParts files commit
  pub is : pages ≡ opening_pages files commit parts.heads

-- and none where there is no Commit file
abbrev pub IsInforming : Files → ℕ → Type 0
IsInforming files pages = ((files Commit ≡ None) × (pages ≡ 0)) ⊎ OpensParts files pages
