-- What a sweep takes away.
use Rattle.std.specs.Prelude.{◌≡◌, ◌⊎◌, ◌||◌, Bool, true, false, Contains, None}
use Rattle.std.specs.List.{list_any}
use Rattle.outer_io.specs.declared.file_name.FileName.{FileName}
use Rattle.outer_io.specs.declared.file_name.FileName.TheVariants.{Commit, CommitNew, Segment, Live}
use Rattle.outer_io.specs.Files.{Files}
use Rattle.documents.specs.Entries.{is_among}
use Rattle.commit_list.specs.Commits.{CommitData}
use Rattle.stored_index.specs.Kept.{ListsFile}
use Rattle.segment_view.specs.LiveSegments.{ids_of}
use Rattle.file_names.specs.Names.{is_named}
use Rattle.segment_set.specs.Sets.{NamedView, SetData}
use Rattle.segment_set.specs.Kept.{IsNeeded, StaysButFiles, ViewNeeds}

-- a view needs the file
abbrev pub IsInView : SetData → FileName → Type 0
IsInView s name = ViewNeeds s.parts name ⊎ ((v : NamedView) × Contains s.snapshots v × ViewNeeds v.parts name)

-- the same as a test
abbrev pub shows_file : SetData → FileName → Bool
shows_file s (Segment id) = is_among (ids_of s.parts) id || list_any (λ v. is_among (ids_of v.parts) id) s.snapshots
shows_file s (Live segment generation) = false
shows_file s Commit = false
shows_file s CommitNew = false

-- neither a view needs the file nor the commit lists it
pub record IsUnneeded (s : SetData) (c : CommitData) (name : FileName) : Type 0 where
  pub shown : IsInView s name → ⊥
  pub listed : ListsFile c name → ⊥

-- Files of the list that aren't needed were taken away, and their names out of the list.
pub record IsSwept (told : Type 0) (c : CommitData) (old new : SetData) (before after : Files) : Type 0 where
  pub rest : StaysButFiles old new
  pub fewer : (m : FileName) → is_named new.names.names m ≡ true → is_named old.names.names m ≡ true
  pub named : (m : FileName) → IsNeeded old c m → is_named old.names.names m ≡ true → is_named new.names.names m ≡ true
  pub needed : told → (m : FileName) → IsNeeded old c m → after m ≡ before m
  pub others : told → (m : FileName) → is_named old.names.names m ≡ false → after m ≡ before m
  pub commit : told → after Commit ≡ before Commit
  pub gone : told → (m : FileName) → is_named old.names.names m ≡ true → is_named new.names.names m ≡ false
      → after m ≡ None
