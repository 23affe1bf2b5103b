-- What lines that stop keep of what the folder held, and what a script costs besides its answers.
use Rattle.std.specs.Prelude.{ℕ, ◌≡◌, ◌≢◌, ◌⊎◌, List, None, Result, Ok, Err}
use Rattle.outer_io.specs.declared.file_name.FileName.TheVariants.{Commit}
use Rattle.outer_io.specs.Files.{Files, bytes_of}
use Rattle.commit_list.specs.Commits.{CommitData}
use Rattle.commit_list.specs.CommitFiles.{IsCommitFile}
use Rattle.index_model.specs.State.{State}
use Rattle.stored_index.specs.Kept.{SameKept}
use Rattle.stored_index.specs.Stored.{IsStored}
use Rattle.index_core.specs.KeptLive.{KeepsLive}
use Rattle.index_core.specs.Light.{KeepsLevels}
use Rattle.index_core.specs.Steps.{HasCommit}
use Rattle.run_status.specs.Ends.{IsAnswer}
use Rattle.run_status.specs.declared.stop.Stop.{Stop}
use Rattle.run_status.specs.declared.stop.Stop.TheVariants as stop
use Rattle.run_status.specs.declared.status.Status.{Status}
use Rattle.run_status.specs.declared.status.Status.TheVariants as status
use Rattle.script_run.specs.declared.halt.Halt.{Halt}
use Rattle.script_run.specs.Halted.{OnLines}
use Rattle.script_run.specs.declared.language.Language.{Language}
use Rattle.script_run.specs.Costs.{AllAsk, NoneCommits, RunReadsFew, begins_no_merge, is_query}
use Rattle.script_run.specs.Taking.{IsTakenOutOf}

-- After a damage or a fault of the source all that is kept is the same; after a fault of the folder or for want of
-- memory it is too, or the commit in flight has taken its place.
abbrev pub StatusKeeps : Files → Files → Status → Type 0
StatusKeeps old new status.FolderFault = SameKept old new ⊎ HasCommit new
StatusKeeps old new status.Memory = SameKept old new ⊎ HasCommit new
StatusKeeps old new (status.Damaged damage) = SameKept old new
StatusKeeps old new status.SourceFault = SameKept old new
StatusKeeps old new _ = Unit {0}

-- the same of lines that stop, of which none asks for a commit
abbrev pub StopKeeps : {T : Type 0} → Files → Files → Result T Stop → Type 0
StopKeeps old new (Ok x) = Unit {0}
StopKeeps old new (Err stop.FolderFault) = SameKept old new ⊎ HasCommit new
StopKeeps old new (Err stop.Memory) = SameKept old new ⊎ HasCommit new
StopKeeps old new (Err stop.SinkFault) = SameKept old new
StopKeeps old new (Err (stop.Damaged damage)) = SameKept old new

-- and of lines that come from a source
abbrev pub HaltKeeps : {T : Type 0} → Files → Files → Result T Halt → Type 0
HaltKeeps old new result = OnLines (StopKeeps old new) (SameKept old new) result

-- The same of a script. The sink fails while lines are done, before the commit at their end
abbrev pub ScriptKeeps : Files → Files → Status → Type 0
ScriptKeeps old new s = StatusKeeps old new s × (s ≡ status.SinkFault → SameKept old new)

-- Lines that ask for no commit, and stop, keep what is kept. Whatever they ask for, no live number goes that they don't
-- take out
pub record LinesKeep {T : Type 0} (quiet : Type 0) (Goes : ℕ → Type 0) (old new : Files) (result : Result T Halt)
    : Type 0 where
  pub undone : quiet → HaltKeeps old new result
  pub lasts : KeepsLive Goes old new

-- there is a Commit file, and none of the lines asks for a commit, where it says one
pub record AsksNoCommit (lang : Language) (files : Files) (lines : List (List ℕ)) : Type 0 where
  pub there : files Commit ≢ None
  pub none : (c : CommitData) → IsCommitFile (bytes_of (files Commit)) c → NoneCommits lang c.dims lines

-- a script that begins no merge leaves few segments of each level; one of queries changes no file; it, or one that
-- needs no segment to be merged, reads little.
-- Whatever the folder of the commit holds, one that asks for no commit before its end loses nothing that is kept where
-- it isn't done, and none loses a live number that it doesn't take out
pub record RunCosts (lang : Language) (lines : List (List ℕ)) (old new : Files) (before now : ℕ) (s : Status)
    : Type 0 where
  pub levels : (state : State) → IsStored old state → AllAsk lang begins_no_merge 1 state lines → IsAnswer s
      → KeepsLevels old new
  pub still : (state : State) → IsStored old state → AllAsk lang is_query 1 state lines → new ≡ old
  pub reads : RunReadsFew lang old lines before now
  pub undone : AsksNoCommit lang old lines → ScriptKeeps old new s
  pub lasts : KeepsLive (IsTakenOutOf lang old lines) old new
