-- How exporting ends: what is stored was sent, or cut, or a fault came before.
use Rattle.std.proofs.Common.{◌≡◌, ◌%◌, ◌==◌, ◌&&◌, ◌∙◌, ℕ, Bool, true, false, arith, List, Result, Ok, Err, OnErr, IsErrOf, refl, sym, inl, inr}
use Rattle.std.proofs.lemmas.Bool.{eqb-true}
use Rattle.outer_io.specs.Counts.{Rose}
use Rattle.std.specs.Prelude.{codes}
use Rattle.outer_io.specs.declared.file_name.FileName.TheVariants.{Commit}
use Rattle.outer_io.specs.Files.{Files, bytes_of}
use Rattle.commit_list.specs.Commits.{CommitData}
use Rattle.commit_list.specs.CommitFiles.{IsCommitFile}
use Rattle.script_lang.specs.Replies.{text_line}
use Rattle.page_cache.specs.declared.faults.Damage.{Damage}
use Rattle.page_cache.specs.declared.faults.PageFault.{PageFault}
use Rattle.page_cache.specs.declared.faults.PageFault.TheVariants as page
use Rattle.page_cache.specs.Causes.{HasPageCause}
use Rattle.page_cache.specs.Evidence.{FaultShows}
use Rattle.index_model.specs.State.{State}
use Rattle.stored_index.specs.Stored.{IsStored, IsUndefined}
use Rattle.run_status.specs.Ends.{IsDamaged, OnStatusDamage, OnStopDamage}
use Rattle.run_status.specs.Stops.{status_of, stop_of}
use Rattle.run_status.specs.declared.status.Status.{Status}
use Rattle.run_status.specs.declared.status.Status.TheVariants as status
use Rattle.run_status.specs.declared.stop.Stop.{Stop}
use Rattle.run_status.specs.declared.stop.Stop.TheVariants as stop
use Rattle.run_status.proofs.Ending.{folder_stopped, status_shows, stop_shows}
use Rattle.export_points.specs.Ends.{EndsExport, IsOfSink, OfOdd, OfStored, Sends}
use Rattle.export_points.specs.Exported.{export_answer}

module _ (told : Type 0) (as_ranges : Bool) (files : Files) (old new : List ℕ) where
  whole_export : (state : State) → IsStored files state → (n : ℕ)
      → Sends told (export_answer as_ranges state).text (export_answer as_ranges state).refused old new (Ok n)
      → EndsExport told as_ranges files old new (status_of (Ok n))
  whole_export state stored n sends = by (n == 0) refl
    where
      by : (b : Bool) → (n == 0) ≡ b → EndsExport told as_ranges files old new (status_of (Ok n))
      by true e = rw e (OfStored state stored (sends.0, sym sends.1 ∙ eqb-true n 0 e))
      by false e = rw e (OfStored state stored (sends.0, sym sends.1))

  pub sent_export : (state : State) → IsStored files state → (r : Result ℕ Stop)
      → Sends told (export_answer as_ranges state).text (export_answer as_ranges state).refused old new r
      → EndsExport told as_ranges files old new (status_of r)
  sent_export state stored (Ok n) sends = whole_export state stored n sends
  sent_export state stored (Err stop.SinkFault) sends = OfStored state stored sends
  sent_export state stored (Err stop.Memory) sends = inr (OfStored state stored sends)
  sent_export state stored (Err stop.FolderFault) sends = absurd sends
  sent_export state stored (Err (stop.Damaged d)) sends = absurd sends

  odd_line : (c : CommitData) → IsCommitFile (bytes_of (files Commit)) c → (as_ranges && c.dims % 2 == 1) ≡ true → (n : ℕ)
      → Sends told (text_line (codes "not ranges")) 1 old new (Ok n) → EndsExport told as_ranges files old new (status_of (Ok n))
  odd_line c says odd n sends = by (n == 0) refl
    where
      by : (b : Bool) → (n == 0) ≡ b → EndsExport told as_ranges files old new (status_of (Ok n))
      by true e = let one = sends.1 in let none = eqb-true n 0 e in absurd (omega (arith, one, none))
      by false e = rw e (OfOdd c says odd (sends.0, sym sends.1))

  -- no ranges are there, and that was sent, or cut
  pub odd_export : (c : CommitData) → IsCommitFile (bytes_of (files Commit)) c → (as_ranges && c.dims % 2 == 1) ≡ true → (r : Result ℕ Stop)
      → Sends told (text_line (codes "not ranges")) 1 old new r → EndsExport told as_ranges files old new (status_of r)
  odd_export c says odd (Ok n) sends = odd_line c says odd n sends
  odd_export c says odd (Err stop.SinkFault) sends = OfOdd c says odd sends
  odd_export c says odd (Err stop.Memory) sends = inr (OfOdd c says odd sends)
  odd_export c says odd (Err stop.FolderFault) sends = absurd sends
  odd_export c says odd (Err (stop.Damaged d)) sends = absurd sends

  pub fault_export : (fault : PageFault) → FaultShows (λ _. IsUndefined files) fault → (told → new ≡ old)
      → EndsExport told as_ranges files old new (status_of (Err (stop_of fault)))
  fault_export page.Failed undefined still = still
  fault_export page.Memory undefined still = inl still
  fault_export (page.Damaged d) undefined still = (undefined, still)

  -- where a state is stored, it does not end as damaged
  pub never_damaged : (s : Status) → EndsExport told as_ranges files old new s → (state : State) → IsStored files state → IsDamaged s → ⊥
  never_damaged (status.Damaged d) ends state stored damaged = ends.0 state stored
  never_damaged status.Done ends state stored damaged = damaged
  never_damaged status.Usage ends state stored damaged = damaged
  never_damaged (status.SomeRefused n) ends state stored damaged = damaged
  never_damaged status.SourceFault ends state stored damaged = damaged
  never_damaged status.FolderFault ends state stored damaged = damaged
  never_damaged status.SinkFault ends state stored damaged = damaged
  never_damaged status.Memory ends state stored damaged = damaged
  never_damaged status.TooLarge ends state stored damaged = damaged

pub line_only : (r : Result ℕ Stop) → OnErr r (IsErrOf r stop.SinkFault) → IsOfSink r
line_only (Ok n) only = tt
line_only (Err stop.SinkFault) only = tt
line_only (Err stop.FolderFault) only = absurd cc
line_only (Err stop.Memory) only = tt
line_only (Err (stop.Damaged d)) only = absurd cc

-- what is of the sink is no fault of the folder, and no damage
pub sink_no_folder : {P : Type 0} (r : Result ℕ Stop) → IsOfSink r → status_of r ≡ status.FolderFault → P
sink_no_folder r only e = by r only (folder_stopped r e)
  where
    by : {P : Type 0} (r : Result ℕ Stop) → IsOfSink r → IsErrOf r stop.FolderFault → P
    by (Ok n) only e = absurd cc
    by (Err stop.SinkFault) only e = absurd cc
    by (Err stop.Memory) only e = absurd cc
    by (Err stop.FolderFault) only e = absurd only
    by (Err (stop.Damaged d)) only e = absurd only

pub sink_shows_all : (P : Damage → Type 0) (r : Result ℕ Stop) → IsOfSink r → OnStatusDamage (status_of r) P
sink_shows_all P r only = status_shows P r (by r only)
  where
    by : (r : Result ℕ Stop) → IsOfSink r → OnStopDamage r P
    by (Ok n) only = tt
    by (Err stop.SinkFault) only = tt
    by (Err stop.Memory) only = tt
    by (Err stop.FolderFault) only = absurd only
    by (Err (stop.Damaged d)) only = absurd only

-- a fault of what is stored is none of the sink
pub fault_no_sink : {P : Type 0} (fault : PageFault) → status_of (Err (stop_of fault)) ≡ status.SinkFault → P
fault_no_sink page.Failed e = absurd cc
fault_no_sink page.Memory e = absurd cc
fault_no_sink (page.Damaged d) e = absurd cc

pub fault_rose : {T : Type 0} (old new : ℕ) (fault : PageFault) → HasPageCause {T = T} old new (Err fault)
    → status_of (Err (stop_of fault)) ≡ status.FolderFault → Rose old new
fault_rose old new page.Failed cause e = cause.failed refl
fault_rose old new page.Memory cause e = absurd cc
fault_rose old new (page.Damaged d) cause e = absurd cc

pub fault_status : (P : Damage → Type 0) (fault : PageFault) → FaultShows P fault → OnStatusDamage (status_of (Err (stop_of fault))) P
fault_status P fault shown = status_shows P (Err (stop_of fault)) (stop_shows ℕ P fault shown)

pub status_weaker : (P Q : Damage → Type 0) (s : Status) → ((d : Damage) → P d → Q d) → OnStatusDamage s P → OnStatusDamage s Q
status_weaker P Q (status.Damaged d) less h = less d h
status_weaker P Q status.Done less h = tt
status_weaker P Q status.Usage less h = tt
status_weaker P Q (status.SomeRefused n) less h = tt
status_weaker P Q status.SourceFault less h = tt
status_weaker P Q status.FolderFault less h = tt
status_weaker P Q status.SinkFault less h = tt
status_weaker P Q status.Memory less h = tt
status_weaker P Q status.TooLarge less h = tt
