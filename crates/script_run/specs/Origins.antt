-- Where the index of a run comes from.
use Rattle.std.specs.Prelude.{ℕ, ◌≡◌, Some, None}
use Rattle.outer_io.specs.declared.file_name.FileName.TheVariants.{Commit}
use Rattle.outer_io.specs.Files.{Files, bytes_of}
use Rattle.commit_list.specs.CommitFiles.{IsCommitFile}
use Rattle.index_model.specs.State.{Index, State, new_index}
use Rattle.stored_index.specs.Stored.{IsStored}
use Rattle.commands.specs.Opens.{Opens}
use Rattle.index_core.specs.Carried.{AreOfListed}
use Rattle.index_core.specs.KeptLive.{FindsKept}
use Rattle.index_core.specs.Sessions.{SessionData, Trusts}
use Rattle.script_run.specs.LineAnswers.{IsNew}
use Rattle.script_run.specs.declared.origin.Origin.{Origin}
use Rattle.script_run.specs.declared.origin.Origin.TheVariants as origin

-- how many dimensions it has
abbrev pub dims_of : Origin → ℕ
dims_of (origin.New dims leaf_size) = dims
dims_of (origin.Stored commit) = commit.dims

-- a new index is within the limits
abbrev pub IsAllowed : Origin → Type 0
IsAllowed (origin.New dims leaf_size) = IsNew dims leaf_size
IsAllowed (origin.Stored commit) = Unit {0}

-- a new index over files that have none, or the one that the files store, whose commit this is
abbrev pub IsFrom : Files → Origin → Index → State → Type 0
IsFrom files (origin.New dims leaf_size) i stored = (files Commit ≡ None) × (i ≡ new_index dims leaf_size)
    × (stored ≡ None)
IsFrom files (origin.Stored commit) i stored = IsCommitFile (bytes_of (files Commit)) commit × IsStored files (Some i)
    × (stored ≡ Some i)

-- The session knows the folder: what it keeps of the files is theirs, what the commit keeps live is found in it, it has
-- no segment that the commit doesn't list, and all that this lists can be opened.
pub record KnowsFolder (D : ℕ) (files : Files) (s : SessionData) : Type 0 where
  pub trusts : Trusts D files s
  pub finds : FindsKept D files s.set
  pub own : AreOfListed files s.set
  pub opens : Opens files

-- no index is there, or the folder's commit is this
abbrev pub IsOriginOf : Files → Origin → Type 0
IsOriginOf files (origin.New dims leaf_size) = files Commit ≡ None
IsOriginOf files (origin.Stored commit) = IsCommitFile (bytes_of (files Commit)) commit
