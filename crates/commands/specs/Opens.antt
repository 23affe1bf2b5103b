-- What a command knows of a folder's commit when it answers, and what it leaves of a Commit file that is none.
use Rattle.std.specs.Prelude.{◌≡◌, ◌⊎◌, Contains, None}
use Rattle.outer_io.specs.declared.file_name.FileName.TheVariants.{Commit}
use Rattle.outer_io.specs.Files.{Files, bytes_of}
use Rattle.live_bits.specs.LiveSet.{LiveSet}
use Rattle.commit_list.specs.declared.listed.Listed.{Listed}
use Rattle.commit_list.specs.Commits.{CommitData}
use Rattle.commit_list.specs.CommitFiles.{IsCommitFile}
use Rattle.segment_file.specs.Heads.{Head}
use Rattle.stored_index.specs.Stored.{HasHead, HasLive}

-- the listed segment's file has a head with its index, and its other file live bits
pub record OpensListed (files : Files) (c : CommitData) (s : Listed) : Type 0 where
  pub head : ∥ ((head : Head) × HasHead c.dims files s head) ∥₁
  pub live : (live : LiveSet) × HasLive files s live

-- the Commit file says a commit, each of whose segments is so
pub record OpensCommit (files : Files) : Type 0 where
  pub commit : CommitData
  pub says : IsCommitFile (bytes_of (files Commit)) commit
  pub each : (s : Listed) → Contains commit.listed s → OpensListed files commit s

-- there is no Commit file, or all that the commit lists can be opened
abbrev pub Opens : Files → Type 0
Opens files = (files Commit ≡ None) ⊎ OpensCommit files

-- there is no Commit file, or it says a commit; where neither is so the Commit file is damaged
abbrev pub Reads : Files → Type 0
Reads files = (files Commit ≡ None) ⊎ ((c : CommitData) × IsCommitFile (bytes_of (files Commit)) c)

-- It answers only where all can be opened, and changes no file where the Commit file is damaged.
pub record OpensOrStays (answers : Type 0) (old new : Files) : Type 0 where
  pub opens : answers → Opens old
  pub stays : (Reads old → ⊥) → new ≡ old

-- The same of a command that looks at the commit alone, as one that makes an index where none is there.
pub record ReadsOrStays (answers : Type 0) (old new : Files) : Type 0 where
  pub reads : answers → Reads old
  pub stays : (Reads old → ⊥) → new ≡ old
