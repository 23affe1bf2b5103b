-- What checking a folder tells of it, and how many pages it reads.
use Rattle.std.specs.Prelude.{ℕ, ◌+◌, ◌-◌, ◌/◌, ◌≡◌, ◌⊎◌, List, ◌++◌, length, sum_by, None, codes, decimal}
use Rattle.outer_io.specs.declared.file_name.FileName.{FileName}
use Rattle.outer_io.specs.declared.file_name.FileName.TheVariants.{Commit, Segment, Live}
use Rattle.outer_io.specs.Files.{Files, bytes_of}
use Rattle.documents.specs.Documents.{Document}
use Rattle.live_bits.specs.LiveSet.{LiveSet}
use Rattle.commit_list.specs.declared.listed.Listed.{Listed}
use Rattle.commit_list.specs.Commits.{CommitData}
use Rattle.commit_list.specs.CommitFiles.{IsCommitFile}
use Rattle.segment_file.specs.Heads.{Head, index_pages}
use Rattle.stored_index.specs.Stored.{HaveHeads, HaveLive, HoldsIndex}

-- ---- what is told

unfoldable pub none_text : List ℕ
none_text = codes "no index\n"

-- of an index of this commit with so many live documents
unfoldable pub ok_text : CommitData → (live : ℕ) → List ℕ
ok_text c live =
    codes "ok dims " ++ decimal c.dims ++ codes " leaf " ++ decimal c.leaf_size ++ codes " next " ++ decimal c.next
    ++ codes " live " ++ decimal live ++ codes " segments " ++ decimal (length c.listed) ++ codes "\n"

-- The files hold this index, and it is told of it.
pub record IsOk (files : Files) (text : List ℕ) : Type 0 where
  pub commit : CommitData
  pub docs : List Document
  pub holds : HoldsIndex files commit docs
  pub told : text ≡ ok_text commit (length docs)

-- Of a folder without a Commit file it is told that there is no index, else of the index that the files hold how
-- large it is. Of other files nothing is told.
abbrev pub IsChecked : Files → List ℕ → Type 0
IsChecked files text = ((files Commit ≡ None) × (text ≡ none_text)) ⊎ IsOk files text

-- ---- what is read

-- how many pages a file has
abbrev pub pages_in : Files → FileName → ℕ
pages_in files name = length (bytes_of (files name)) / 4096

-- how many the two files of a listed segment have
abbrev pub both_pages : Files → Listed → ℕ
both_pages files s = pages_in files (Segment s.segment) + pages_in files (Live s.segment s.generation)

-- how many of a segment's file are leaf pages: those behind the head's page and the pages of the index
abbrev pub leaf_pages : Files → Head → ℕ
leaf_pages files head = pages_in files (Segment head.id) - (1 + index_pages head)

-- each page of the Commit file, and of both files of each segment that it lists, once
abbrev pub checked_pages : Files → CommitData → ℕ
checked_pages files c = pages_in files Commit + sum_by (both_pages files) c.listed

-- so many pages are read where the Commit file says a commit and each segment that it lists has a head and live bits
pub record ChecksIndex (files : Files) (pages : ℕ) : Type 0 where
  pub commit : CommitData
  pub says : IsCommitFile (bytes_of (files Commit)) commit
  pub heads : List Head
  pub have : HaveHeads files commit heads
  pub sets : List LiveSet
  pub live : HaveLive files commit sets
  pub is : pages ≡ checked_pages files commit

-- and none where there is no Commit file
abbrev pub IsChecking : Files → ℕ → Type 0
IsChecking files pages = ((files Commit ≡ None) × (pages ≡ 0)) ⊎ ChecksIndex files pages
