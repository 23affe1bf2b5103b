-- What a copy of the files that a commit lists has of them.
use Rattle.std.specs.Prelude.{ℕ, ◌≡◌, ◌≤◌, ◌+◌, ◌/◌, ◌%◌, List, length, min, sum_by}
use Rattle.outer_io.specs.declared.file_name.FileName.TheVariants.{Commit, Live, Segment}
use Rattle.outer_io.specs.Files.{Files, bytes_of}
use Rattle.commit_list.specs.declared.listed.Listed.{Listed}
use Rattle.commit_list.specs.Commits.{CommitData}
use Rattle.commit_list.specs.CommitFiles.{IsCommitFile}

-- the Commit file says this commit
abbrev pub IsCommitIn : Files → CommitData → Type 0
IsCommitIn files c = IsCommitFile (bytes_of (files Commit)) c

-- the two files of a listed segment have the bytes that they have in the folder
pub record IsCopied (files copy : Files) (s : Listed) : Type 0 where
  pub segment : bytes_of (copy (Segment s.segment)) ≡ bytes_of (files (Segment s.segment))
  pub live : bytes_of (copy (Live s.segment s.generation)) ≡ bytes_of (files (Live s.segment s.generation))

-- how many pages bytes take, of which the last may not be whole
abbrev pub pages_in : List ℕ → ℕ
pages_in bytes = length bytes / 4096 + min 1 (length bytes % 4096)

-- how many the two files of a listed segment take
abbrev pub copied_pages : Files → Listed → ℕ
copied_pages files s =
    pages_in (bytes_of (files (Segment s.segment))) + pages_in (bytes_of (files (Live s.segment s.generation)))

-- the files that a commit lists were read once at most
abbrev pub ReadsListed : Files → CommitData → (before now : ℕ) → Type 0
ReadsListed files c before now = now ≤ before + sum_by (copied_pages files) c.listed
