-- What a run that was stopped has left in a folder, by the commit that it has (this project's own rules).
use Rattle.std.specs.Prelude.{◌≡◌, ◌≢◌, ◌≤◌, ◌⊎◌, Option, None, Some}
use Rattle.outer_io.specs.Files.{Files}
use Rattle.outer_io.specs.declared.file_name.FileName.{FileName}
use Rattle.outer_io.specs.declared.file_name.FileName.TheVariants.{Commit, CommitNew, Segment, Live}
use Rattle.commit_list.specs.Commits.{CommitData}
use Rattle.stored_index.specs.Kept.{ListsFile}

-- a file that came after the commit: a list that never took its place, a segment whose number it hasn't given yet, or
-- live bits of such a segment or of a listed one
abbrev pub IsLater : CommitData → FileName → Type 0
IsLater c Commit = ⊥
IsLater c CommitNew = Unit {0}
IsLater c (Segment id) = c.next_segment ≤ id
IsLater c (Live id generation) = (c.next_segment ≤ id) ⊎ ListsFile c (Segment id)

-- a stopped run has left the file: it came after the commit and isn't listed; without a commit each was left
abbrev pub IsLeft : Option CommitData → FileName → Type 0
IsLeft None name = name ≢ Commit
IsLeft (Some c) name = (ListsFile c name → ⊥) × IsLater c name

-- some of the files that were left are gone, and nothing else is changed
pub record TakesAway (commit : Option CommitData) (old new : Files) : Type 0 where
  pub others : (name : FileName) → (IsLeft commit name → ⊥) → new name ≡ old name
  pub fewer : (name : FileName) → (new name ≡ old name) ⊎ (new name ≡ None)
