-- Which files are kept: the Commit file and those that it lists.
use Rattle.std.specs.Prelude.{◌≡◌, Contains}
use Rattle.outer_io.specs.declared.file_name.FileName.{FileName}
use Rattle.outer_io.specs.declared.file_name.FileName.TheVariants.{Commit, CommitNew, Segment, Live}
use Rattle.outer_io.specs.Files.{Files, bytes_of}
use Rattle.commit_list.specs.declared.listed.Listed.{Listed}
use Rattle.commit_list.specs.Commits.{CommitData}
use Rattle.commit_list.specs.CommitFiles.{IsCommitFile}

-- the commit lists this file: it is that of a listed segment, or of its live bits in the listed generation
abbrev pub ListsFile : CommitData → FileName → Type 0
ListsFile c (Segment id) = (s : Listed) × Contains c.listed s × (s.segment ≡ id)
ListsFile c (Live id generation) = (s : Listed) × Contains c.listed s × (s.segment ≡ id) × (s.generation ≡ generation)
ListsFile c Commit = ⊥
ListsFile c CommitNew = ⊥

-- What is kept is the same: the Commit file's bytes or their absence, and where it says a commit the bytes of each
-- file that this lists. As a value of its own, what is kept is files of which no others matter.
pub record SameKept (old new : Files) : Type 0 where
  pub commit : new Commit ≡ old Commit
  pub listed : (c : CommitData) → IsCommitFile (bytes_of (old Commit)) c → (name : FileName) → ListsFile c name
      → new name ≡ old name
