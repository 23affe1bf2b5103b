-- How lines end that come from a source, which may fail.
use Rattle.std.specs.Prelude.{ℕ, ◌≡◌, ◌≤◌, List, Result, Ok, Err}
use Rattle.script_lang.specs.Lines.{lines_of}
use Rattle.line_source.specs.Reader.{KnowsEnd, lines_left}
use Rattle.line_source.specs.declared.reader.LineReader.{LineReader}
use Rattle.outer_io.specs.Counts.{Rose}
use Rattle.page_cache.specs.declared.faults.Damage.{Damage}
use Rattle.run_status.specs.Ends.{HasStopCause, OnStopDamage}
use Rattle.run_status.specs.Stops.{status_of}
use Rattle.run_status.specs.declared.stop.Stop.{Stop}
use Rattle.run_status.specs.declared.status.Status.{Status}
use Rattle.run_status.specs.declared.status.Status.TheVariants as status
use Rattle.script_run.specs.declared.halt.Halt.{Halt}
use Rattle.script_run.specs.declared.halt.Halt.TheVariants as halt

-- what stopped the lines, as that of lines that come from a source
abbrev pub halt_result : {T : Type 0} → Result T Stop → Result T Halt
halt_result (Ok x) = Ok x
halt_result (Err s) = Err (halt.Stopped s)

-- P holds of the lines' end, or Q holds where the source failed
abbrev pub OnLines : {T : Type 0} → (P : Result T Stop → Type 0) → (Q : Type 0) → Result T Halt → Type 0
OnLines P Q (Ok x) = P (Ok x)
OnLines P Q (Err (halt.Stopped s)) = P (Err s)
OnLines P Q (Err halt.Source) = Q

-- P holds of some lines, which are those that the reader has to give where the source tells its bytes
abbrev pub OfLines : (told : Type 0) → LineReader → (left : List ℕ) → (P : List (List ℕ) → Type 0) → Type 0
OfLines told r left P = (lines : List (List ℕ)) × (told → KnowsEnd r left → lines ≡ lines_left r left) × P lines

-- and of a source, of which nothing was read
abbrev pub OfSource : (told : Type 0) → (left : List ℕ) → (P : List (List ℕ) → Type 0) → Type 0
OfSource told left P = (lines : List (List ℕ)) × (told → lines ≡ lines_of left) × P lines

-- the counts of faults of the folder and of the sink never fall, and the one whose fault it is rose
abbrev pub HasHaltCause : {T : Type 0} → (folder_before folder_now sink_before sink_now : ℕ) → Result T Halt → Type 0
HasHaltCause folder_before folder_now sink_before sink_now result =
    OnLines (HasStopCause folder_before folder_now sink_before sink_now)
    ((folder_before ≤ folder_now) × (sink_before ≤ sink_now)) result

-- P holds of the damage, where lines end for one
abbrev pub OnHaltDamage : {T : Type 0} → Result T Halt → (Damage → Type 0) → Type 0
OnHaltDamage result P = OnLines (λ done. OnStopDamage done P) (Unit {0}) result

-- the source's count of faults never falls, and rose where its fault is told
pub record HasSourceCause {T : Type 0} (before now : ℕ) (result : Result T Halt) : Type 0 where
  pub later : before ≤ now
  pub failed : result ≡ Err halt.Source → Rose before now

-- the status of lines that come from a source
abbrev pub status_of_lines : Result ℕ Halt → Status
status_of_lines (Ok refused) = status_of (Ok refused)
status_of_lines (Err halt.Source) = status.SourceFault
status_of_lines (Err (halt.Stopped s)) = status_of (Err s)
