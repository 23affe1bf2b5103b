-- The status of lines that come from a source, from how they ended.
use Rattle.std.proofs.Common.{◌≡◌, ◌==◌, ◌⊎◌, ℕ, Bool, true, false, List, Result, Ok, Err, OnOk, refl, subst, inl, inr}
use Rattle.std.specs.Prelude.{IsOk}
use Rattle.outer_io.specs.Counts.{Rose}
use Rattle.outer_io.specs.Files.{Files}
use Rattle.page_cache.specs.declared.faults.Damage.{Damage}
use Rattle.run_status.specs.Ends.{DoesNothing, IsAnswer, IsDamaged, OnStatusDamage}
use Rattle.run_status.specs.declared.status.Status.{Status}
use Rattle.run_status.specs.declared.status.Status.TheVariants as status
use Rattle.run_status.specs.declared.stop.Stop.TheVariants as stop
use Rattle.script_lang.specs.Lines.{lines_of}
use Rattle.stored_index.specs.Kept.{SameKept}
use Rattle.script_run.specs.Halted.{HasHaltCause, OfSource, OnHaltDamage, status_of_lines}
use Rattle.script_run.specs.Kept.{HaltKeeps, ScriptKeeps, StatusKeeps}
use Rattle.script_run.specs.Progress.{ScriptPlace}
use Rattle.script_run.specs.Runs.{Ends, EndsRead, EndsSession}
use Rattle.script_run.specs.declared.halt.Halt.{Halt}
use Rattle.script_run.specs.declared.halt.Halt.TheVariants as halt
use Rattle.script_run.proofs.Calling.{stop_status}
use Rattle.script_run.proofs.Ending.{never_damaged, status_ends}
use Rattle.script_run.proofs.Starting.{when_answered}
use Rattle.script_run.specs.Script.{Meaning}
use Rattle.run_status.proofs.Ending.{counted, folder_stopped, sink_stopped, status_shows, does_some}

-- where the source tells its bytes the lines are its lines
pub with_lines : (told : Type 0) (left : List ℕ) (P : List (List ℕ) → Type 0) → told → OfSource told left P → P (lines_of left)
with_lines told left P t (lines, are, h) = subst P (are t) h

module _ (m : Meaning) (told : Type 0) (p : ScriptPlace) (files : Files) (new : List ℕ) where
  session_counted : (b : Bool) (count : ℕ) → Ends m told p files new (counted b count) → EndsSession m told p files new (counted b count)
  session_counted true count h = h
  session_counted false count h = h

  pub session_ends : (done : Result ℕ Halt) → EndsRead m told p files new done → EndsSession m told p files new (status_of_lines done)
  session_ends (Ok count) h = session_counted (count == 0) count (status_ends m told p files new (Ok count) h)
  session_ends (Err halt.Source) h = h
  session_ends (Err (halt.Stopped stop.FolderFault)) h = h
  session_ends (Err (halt.Stopped stop.Memory)) h = h
  session_ends (Err (halt.Stopped stop.SinkFault)) h = h
  session_ends (Err (halt.Stopped (stop.Damaged damage))) h = h

  pub session_undamaged : (done : Result ℕ Halt) → EndsRead m told p files new done → IsDamaged (status_of_lines done) → ⊥
  session_undamaged (Ok count) h d = never_damaged m told p files new (Ok count) h d
  session_undamaged (Err halt.Source) h d = d
  session_undamaged (Err (halt.Stopped s)) h d = never_damaged m told p files new (Err s) h d

  -- a run whose source doesn't fail ends as a session does
  pub run_ends : (s : Status) → EndsSession m told p files new s → (s ≡ status.SourceFault → ⊥) → Ends m told p files new s
  run_ends status.Done h other = h
  run_ends (status.SomeRefused count) h other = h
  run_ends status.FolderFault h other = h
  run_ends status.Memory h other = h
  run_ends status.SinkFault h other = h
  run_ends status.SourceFault h other = absurd (other refl)
  run_ends (status.Damaged damage) h other = h
  run_ends status.Usage h other = absurd h
  run_ends status.TooLarge h other = absurd h

-- what holds where the lines are all answered, by the status
pub when_read : {P : Type 0} (done : Result ℕ Halt) → IsAnswer (status_of_lines done) → OnOk done P → P
when_read (Ok count) a p = p
when_read (Err halt.Source) a p = absurd a
when_read {P} (Err (halt.Stopped s)) a p = when_answered {P = P} (Err s) a tt

read_keeps : (old new : Files) (done : Result ℕ Halt) → HaltKeeps old new done → StatusKeeps old new (status_of_lines done)
read_keeps old new (Ok count) h = stop_status old new (Ok count) h
read_keeps old new (Err halt.Source) h = h
read_keeps old new (Err (halt.Stopped s)) h = stop_status old new (Err s) h

-- and so do those of a script
pub read_script : (old new : Files) (done : Result ℕ Halt) → HaltKeeps old new done → ScriptKeeps old new (status_of_lines done)
read_script old new done h = (read_keeps old new done h, λ e. by_sink done h e)
  where
    by_sink : (done : Result ℕ Halt) → HaltKeeps old new done → status_of_lines done ≡ status.SinkFault → SameKept old new
    by_sink (Ok count) h e = absurd (let stopped = sink_stopped (Ok count) e in cc)
    by_sink (Err halt.Source) h e = cc
    by_sink (Err (halt.Stopped stop.FolderFault)) h e = cc
    by_sink (Err (halt.Stopped stop.Memory)) h e = cc
    by_sink (Err (halt.Stopped stop.SinkFault)) h e = h
    by_sink (Err (halt.Stopped (stop.Damaged damage))) h e = cc

pub read_shows : (P : Damage → Type 0) (done : Result ℕ Halt) → OnHaltDamage done P → OnStatusDamage (status_of_lines done) P
read_shows P (Ok count) h = status_shows P (Ok count) h
read_shows P (Err halt.Source) h = tt
read_shows P (Err (halt.Stopped s)) h = status_shows P (Err s) h

module _ (f0 f1 k0 k1 : ℕ) where
  pub read_folder : (done : Result ℕ Halt) → HasHaltCause f0 f1 k0 k1 done → status_of_lines done ≡ status.FolderFault → Rose f0 f1
  read_folder (Ok count) cause e = cause.folder (folder_stopped (Ok count) e)
  read_folder (Err halt.Source) cause e = cc
  read_folder (Err (halt.Stopped s)) cause e = cause.folder (folder_stopped (Err s) e)

  pub read_sink : (done : Result ℕ Halt) → HasHaltCause f0 f1 k0 k1 done → status_of_lines done ≡ status.SinkFault → Rose k0 k1
  read_sink (Ok count) cause e = cause.sink (sink_stopped (Ok count) e)
  read_sink (Err halt.Source) cause e = cc
  read_sink (Err (halt.Stopped s)) cause e = cause.sink (sink_stopped (Err s) e)

-- only a fault of the source ends lines of which nothing need be done
pub read_source : (done : Result ℕ Halt) → DoesNothing (status_of_lines done) → done ≡ Err halt.Source
read_source (Ok count) d = absurd (does_some (count == 0) count d)
read_source (Err halt.Source) d = refl
read_source (Err (halt.Stopped stop.FolderFault)) d = absurd d
read_source (Err (halt.Stopped stop.Memory)) d = absurd d
read_source (Err (halt.Stopped stop.SinkFault)) d = absurd d
read_source (Err (halt.Stopped (stop.Damaged damage))) d = absurd d

-- lines that come from a source never end as wrong use or too large
pub never_refuses : (done : Result ℕ Halt) → (status_of_lines done ≡ status.Usage) ⊎ (status_of_lines done ≡ status.TooLarge) → ⊥
never_refuses (Ok count) h = by_counted (count == 0) h
  where
    by_counted : (b : Bool) → (counted b count ≡ status.Usage) ⊎ (counted b count ≡ status.TooLarge) → ⊥
    by_counted true (inl e) = cc
    by_counted true (inr e) = cc
    by_counted false (inl e) = cc
    by_counted false (inr e) = cc
never_refuses (Err halt.Source) (inl e) = cc
never_refuses (Err halt.Source) (inr e) = cc
never_refuses (Err (halt.Stopped stop.FolderFault)) (inl e) = cc
never_refuses (Err (halt.Stopped stop.FolderFault)) (inr e) = cc
never_refuses (Err (halt.Stopped stop.Memory)) (inl e) = cc
never_refuses (Err (halt.Stopped stop.Memory)) (inr e) = cc
never_refuses (Err (halt.Stopped stop.SinkFault)) (inl e) = cc
never_refuses (Err (halt.Stopped stop.SinkFault)) (inr e) = cc
never_refuses (Err (halt.Stopped (stop.Damaged damage))) (inl e) = cc
never_refuses (Err (halt.Stopped (stop.Damaged damage))) (inr e) = cc

-- where nothing need be done and no input was refused the source failed
pub nothing_done : (s : Status) → DoesNothing s → ((s ≡ status.Usage) ⊎ (s ≡ status.TooLarge) → ⊥) → s ≡ status.SourceFault
nothing_done status.SourceFault d never = refl
nothing_done status.Usage d never = absurd (never (inl refl))
nothing_done status.TooLarge d never = absurd (never (inr refl))
nothing_done status.Done d never = absurd d
nothing_done (status.SomeRefused count) d never = absurd d
nothing_done status.SinkFault d never = absurd d
nothing_done status.Memory d never = absurd d
nothing_done status.FolderFault d never = absurd d
nothing_done (status.Damaged damage) d never = absurd d

-- lines that are answered were done
pub answered_ok : (done : Result ℕ Halt) → IsAnswer (status_of_lines done) → IsOk done
answered_ok (Ok count) a = refl
answered_ok (Err halt.Source) a = absurd a
answered_ok (Err (halt.Stopped stop.FolderFault)) a = absurd a
answered_ok (Err (halt.Stopped stop.Memory)) a = absurd a
answered_ok (Err (halt.Stopped stop.SinkFault)) a = absurd a
answered_ok (Err (halt.Stopped (stop.Damaged damage))) a = absurd a
