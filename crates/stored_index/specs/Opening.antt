-- How many pages opening reads.
use Rattle.std.specs.Prelude.{◌≡◌, ◌⊎◌, ℕ, ◌+◌, ◌/◌, List, [], ◌∷◌, length, None}
use Rattle.outer_io.specs.declared.file_name.FileName.TheVariants.{Commit, Live}
use Rattle.outer_io.specs.Files.{Files, bytes_of}
use Rattle.commit_list.specs.declared.listed.Listed.{Listed}
use Rattle.commit_list.specs.Commits.{CommitData}
use Rattle.commit_list.specs.CommitFiles.{IsCommitFile}
use Rattle.segment_file.specs.Heads.{Head, index_pages}
use Rattle.stored_index.specs.Stored.{HaveHeads}

-- of a listed segment: the page and the index of its head, and the pages of its file of live bits
abbrev pub listed_pages : Files → Listed → Head → ℕ
listed_pages files s head = 1 + index_pages head + length (bytes_of (files (Live s.segment s.generation))) / 4096

-- of listed segments with these heads
abbrev pub segments_pages : Files → List Listed → List Head → ℕ
segments_pages files [] heads = 0
segments_pages files (s ∷ ss) [] = 0
segments_pages files (s ∷ ss) (h ∷ hs) = listed_pages files s h + segments_pages files ss hs

-- of a folder whose commit lists segments with these heads: those of the Commit file and of each segment
abbrev pub opening_pages : Files → CommitData → List Head → ℕ
opening_pages files c heads = length (bytes_of (files Commit)) / 4096 + segments_pages files c.listed heads

-- opening reads so many pages where the Commit file says a commit and each segment that it lists has a head
pub record OpensIndex (files : Files) (pages : ℕ) : Type 0 where
  pub commit : CommitData
  pub says : IsCommitFile (bytes_of (files Commit)) commit
  pub heads : List Head
  pub have : HaveHeads files commit heads
  pub is : pages ≡ opening_pages files commit heads

-- Opening reads so many pages; none where there is no Commit file. It is one number (`one_opening`).
abbrev pub IsOpening : Files → ℕ → Type 0
IsOpening files pages = ((files Commit ≡ None) × (pages ≡ 0)) ⊎ OpensIndex files pages
