-- What holds of every command, from the ends of its parts.
use Rattle.std.proofs.Common.{◌≡◌, ◌==◌, ◌⊎◌, ℕ, Bool, true, false, List, Result, Ok, Err, OnErr, IsErrOf, refl, inl, inr, ⊎_elim, arith}
use Rattle.outer_io.specs.Files.{Files}
use Rattle.stored_index.specs.Kept.{SameKept}
use Rattle.stored_index.proofs.KeptFiles.{kept_after, kept_itself}
use Rattle.index_core.specs.Sessions.{SessionData}
use Rattle.page_cache.specs.declared.faults.PageFault.{PageFault}
use Rattle.page_cache.specs.declared.faults.PageFault.TheVariants as page
use Rattle.index_core.specs.Steps.{FaultKeeps, HasCommit, KeepsOver}
use Rattle.index_core.proofs.LosingNone.{keeps_same}
use Rattle.script_run.specs.Kept.{RunCosts, StatusKeeps, StopKeeps}
use Rattle.script_run.specs.Taking.{IsTakenOutOf}
use Rattle.run_status.specs.Ends.{IsAnswer}
use Rattle.run_status.specs.Stops.{status_of, stop_of}
use Rattle.run_status.specs.declared.stop.Stop.{Stop}
use Rattle.run_status.specs.declared.stop.Stop.TheVariants as stop
use Rattle.run_status.specs.declared.status.Status.{Status}
use Rattle.run_status.specs.declared.status.Status.TheVariants as status
use Rattle.script_run.specs.declared.language.Language.{Language}
use Rattle.run_status.proofs.Ending.{counted}

-- what has done nothing costs nothing
same_status : (files : Files) (s : Status) → StatusKeeps files files s
same_status files status.Done = tt
same_status files (status.SomeRefused count) = tt
same_status files status.Usage = tt
same_status files status.TooLarge = tt
same_status files status.SourceFault = kept_itself files
same_status files status.SinkFault = tt
same_status files status.FolderFault = inl (kept_itself files)
same_status files status.Memory = inl (kept_itself files)
same_status files (status.Damaged d) = kept_itself files

pub nothing_costs : (lang : Language) → (lines : List (List ℕ)) (files : Files) (reads : ℕ) (s : Status) → (IsAnswer s → ⊥)
    → RunCosts lang lines files files reads reads s
nothing_costs lang lines files reads s other = record {
  levels = λ state h asks a. absurd (other a);
  still = λ state h asks. refl;
  reads = λ s scope pages opening which n touches. omega arith;
  undone = λ quiet. (same_status files s, λ e. kept_itself files);
  lasts = keeps_same (IsTakenOutOf lang files lines) files files (kept_itself files);
}

keeps_counted : (old new : Files) (b : Bool) (count : ℕ) → StatusKeeps old new (counted b count)
keeps_counted old new true count = tt
keeps_counted old new false count = tt

-- a text that was sent, or that the sink failed in, ends no command undone
pub sent_keeps : (old new : Files) (r : Result ℕ Stop) → OnErr r (IsErrOf r stop.SinkFault) → StatusKeeps old new (status_of r)
sent_keeps old new (Ok count) cause = keeps_counted old new (count == 0) count
sent_keeps old new (Err stop.SinkFault) cause = tt
sent_keeps old new (Err stop.FolderFault) cause = absurd cc
sent_keeps old new (Err stop.Memory) cause = absurd cc
sent_keeps old new (Err (stop.Damaged damage)) cause = absurd cc

pub fault_keeps : (old new : Files) (fault : PageFault) → FaultKeeps old new fault → StatusKeeps old new (status_of (Err (stop_of fault)))
fault_keeps old new page.Failed h = h
fault_keeps old new page.Memory h = h
fault_keeps old new (page.Damaged damage) h = h

-- ---- lines of which none asks for a commit

pub kept_quiet : {T : Type 0} (committing : Bool) (old new : Files) (s : SessionData) (r : Result T PageFault) → committing ≡ false
    → KeepsOver committing old new s r → SameKept old new
kept_quiet false old new s r quiet kept = kept
kept_quiet true old new s r quiet kept = absurd cc

pub stop_kept : (T : Type 0) (old new : Files) (s : Stop) → SameKept old new → StopKeeps {T = T} old new (Err s)
stop_kept T old new stop.FolderFault same = inl same
stop_kept T old new stop.Memory same = inl same
stop_kept T old new stop.SinkFault same = same
stop_kept T old new (stop.Damaged d) same = same

pub fault_stops : (T : Type 0) (old new : Files) (fault : PageFault) → FaultKeeps old new fault → StopKeeps {T = T} old new (Err (stop_of fault))
fault_stops T old new page.Failed h = h
fault_stops T old new page.Memory h = h
fault_stops T old new (page.Damaged d) h = h

later_or : (a b c : Files) → SameKept a b → SameKept b c ⊎ HasCommit c → SameKept a c ⊎ HasCommit c
later_or a b c first then = ⊎_elim (λ same. inl (kept_after a b c first same)) (λ there. inr there) then

pub stop_after : {T : Type 0} (a b c : Files) (r : Result T Stop) → SameKept a b → StopKeeps b c r → StopKeeps a c r
stop_after a b c (Ok x) first then = tt
stop_after a b c (Err stop.FolderFault) first then = later_or a b c first then
stop_after a b c (Err stop.Memory) first then = later_or a b c first then
stop_after a b c (Err stop.SinkFault) first then = kept_after a b c first then
stop_after a b c (Err (stop.Damaged d)) first then = kept_after a b c first then

pub stop_status : (old new : Files) (r : Result ℕ Stop) → StopKeeps old new r → StatusKeeps old new (status_of r)
stop_status old new (Ok count) h = keeps_counted old new (count == 0) count
stop_status old new (Err stop.FolderFault) h = h
stop_status old new (Err stop.Memory) h = h
stop_status old new (Err stop.SinkFault) h = tt
stop_status old new (Err (stop.Damaged d)) h = h
