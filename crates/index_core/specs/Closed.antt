-- What a session leaves in the folder that was closed: no file but those that its commit lists.
use Rattle.std.specs.Prelude.{◌≡◌, ◌⊎◌, ℕ, true, false, None, Some}
use Rattle.outer_io.specs.declared.file_name.FileName.{FileName}
use Rattle.outer_io.specs.declared.file_name.FileName.TheVariants.{Commit}
use Rattle.outer_io.specs.Files.{Files}
use Rattle.commit_list.specs.Commits.{CommitData}
use Rattle.stored_index.specs.Kept.{ListsFile}
use Rattle.index_model.specs.State.{Index, at_rest}
use Rattle.file_names.specs.Names.{NameList, is_named}
use Rattle.segment_set.specs.Seen.{Sees}
use Rattle.index_core.specs.Sessions.{Guards, IsUnchanged, SessionData}
use Rattle.index_core.specs.Steps.{SaysCommit}

-- the session's commit lists the file
abbrev pub IsInCommit : SessionData → FileName → Type 0
IsInCommit s m = (c : CommitData) × (s.commit ≡ Some c) × ListsFile c m

-- and so it lists each file of the session's list of names
abbrev pub NamesOnlyListed : SessionData → Type 0
NamesOnlyListed s = (m : FileName) → is_named s.set.names.names m ≡ true → IsInCommit s m

-- nothing changed since the last commit, and no file is there to be swept away
pub record IsIdle (s : SessionData) : Type 0 where
  pub unchanged : IsUnchanged s
  pub listed : NamesOnlyListed s

-- the file isn't there, or it is the Commit file or one of the list of names, or it is as it was and wasn't in the list
abbrev pub IsTracked : (old new : Files) → (before now : NameList) → FileName → Type 0
IsTracked old new before now m =
    (new m ≡ None) ⊎ (m ≡ Commit) ⊎ (is_named now.names m ≡ true)
    ⊎ ((is_named before.names m ≡ false) × (new m ≡ old m))

-- All is committed, snapshots and begun merge are gone, and each file of the list of names is one that the commit
-- lists: the others that were in it, or came to it, are gone.
pub record IsSessionClosed (D : ℕ) (told : Type 0) (old new : Files) (s t : SessionData) : Type 0 where
  pub seen : told → (i : Index) → Sees D old s.set i → Sees D new t.set (at_rest i)
  pub guards : told → Guards D old s → Guards D new t
  pub says : told → Guards D old s → SaysCommit new t.commit
  pub unchanged : IsUnchanged t
  pub listed : NamesOnlyListed t
  pub tracked : told → (m : FileName) → IsTracked old new s.set.names t.set.names m
