-- Lines that come from a source: what holds of how lines alone end, and of a source that fails.
use Rattle.std.proofs.Common.{◌≡◌, ◌≤◌, ℕ, List, Result, Ok, Err, inr, sym, subst, ◌∙◌, arith}
use Rattle.std.proofs.lemmas.Grind.{merely}
use Rattle.outer_io.specs.Files.{Files}
use Rattle.outer_io.specs.declared.file_name.FileName.{FileName}
use Rattle.stored_index.specs.Kept.{SameKept}
use Rattle.run_status.specs.Ends.{HasStopCause, OnStopDamage}
use Rattle.run_status.specs.declared.stop.Stop.{Stop}
use Rattle.run_status.specs.declared.stop.Stop.TheVariants as stop
use Rattle.script_run.specs.Halted.{HasHaltCause, HasSourceCause, OnHaltDamage, OnLines, halt_result}
use Rattle.script_run.specs.Kept.{HaltKeeps, StopKeeps}
use Rattle.script_run.specs.Progress.{ScriptPlace}
use Rattle.script_run.specs.Runs.{EndsLines, EndsRead, Halts}
use Rattle.page_cache.specs.declared.faults.Damage.{Damage}
use Rattle.script_run.specs.declared.halt.Halt.{Halt}
use Rattle.script_run.specs.declared.halt.Halt.TheVariants as halt
use Rattle.script_run.proofs.Shown.{stop_named}
use Rattle.index_opening.specs.Evidence.{IsEvidentSince, IsEvidentWith, IsOfListed, IsOfEntries, MayBeNeeded}
use Rattle.script_run.specs.Script.{Meaning}
use Rattle.run_status.proofs.Ending.{rose_from, cause_from}

-- what holds of lines alone holds of them where they come from a source
on_halted : {T : Type 0} (P : Result T Stop → Type 0) (Q : Type 0) (done : Result T Stop) (result : Result T Halt) → result ≡ halt_result done → P done
    → OnLines P Q result
on_halted {T} P Q done result is h = subst (OnLines P Q) (sym is) (by_done done h)
  where
    by_done : (done : Result T Stop) → P done → OnLines P Q (halt_result done)
    by_done (Ok x) h = h
    by_done (Err s) h = h

pub halted_ends : (m : Meaning) → (told : Type 0) (p : ScriptPlace) (files : Files) (new : List ℕ) (done : Result ℕ Stop) (result : Result ℕ Halt)
    → result ≡ halt_result done → EndsLines m told p files new done → EndsRead m told p files new result
halted_ends m told p files new done result is h = on_halted (EndsLines m told p files new) (Halts m told p files new) done result is h

pub halted_cause : {T : Type 0} (f0 f1 k0 k1 : ℕ) (done : Result T Stop) (result : Result T Halt) → result ≡ halt_result done → HasStopCause f0 f1 k0 k1 done
    → HasHaltCause f0 f1 k0 k1 result
halted_cause f0 f1 k0 k1 done result is h = on_halted (HasStopCause f0 f1 k0 k1) ((f0 ≤ f1) × (k0 ≤ k1)) done result is h

pub halted_shows : {T : Type 0} (P : Damage → Type 0) (done : Result T Stop) (result : Result T Halt) → result ≡ halt_result done → OnStopDamage done P
    → OnHaltDamage result P
halted_shows P done result is h = on_halted (λ d. OnStopDamage d P) (Unit {0}) done result is h

pub halted_keeps : {T : Type 0} (old new : Files) (done : Result T Stop) (result : Result T Halt) → result ≡ halt_result done → StopKeeps old new done
    → HaltKeeps old new result
halted_keeps old new done result is h = on_halted (StopKeeps old new) (SameKept old new) done result is h

-- causes from an earlier call on
pub halt_cause_from : {T : Type 0} (f0 f1 f2 k0 k1 k2 : ℕ) (result : Result T Halt) → f0 ≤ f1 → k0 ≤ k1 → HasHaltCause f1 f2 k1 k2 result
    → HasHaltCause f0 f2 k0 k2 result
halt_cause_from {T} f0 f1 f2 k0 k1 k2 (Ok x) f k h = cause_from {T = T} f0 f1 f2 k0 k1 k2 (Ok x) f k h
halt_cause_from {T} f0 f1 f2 k0 k1 k2 (Err (halt.Stopped s)) f k h = cause_from {T = T} f0 f1 f2 k0 k1 k2 (Err s) f k h
halt_cause_from {T} f0 f1 f2 k0 k1 k2 (Err halt.Source) f k h = (omega (arith, f, h.0), omega (arith, k, h.1))

pub source_cause_from : {T : Type 0} (a b c : ℕ) (result : Result T Halt) → a ≤ b → HasSourceCause b c result → HasSourceCause a c result
source_cause_from a b c result first h = record { later = omega (arith, first, h.later); failed = λ e. rose_from a b c first (h.failed e) }

-- no fault of the source ended them
pub no_source : {T : Type 0} (a b : ℕ) (result : Result T Halt) → a ≤ b → (result ≡ Err halt.Source → ⊥) → HasSourceCause a b result
no_source a b result later other = record { later = later; failed = λ e. absurd (other e) }

pub halted_no_source : {T : Type 0} (done : Result T Stop) (result : Result T Halt) → result ≡ halt_result done → result ≡ Err halt.Source → ⊥
halted_no_source done result is e = by_done done (sym is ∙ e)
  where
    by_done : {T : Type 0} (done : Result T Stop) → halt_result done ≡ Err halt.Source → ⊥
    by_done (Ok x) e = cc
    by_done (Err s) e = cc

-- memory was wanting, and no object failed
pub memory_cause : {T : Type 0} (f0 f1 k0 k1 : ℕ) → f0 ≤ f1 → k0 ≤ k1 → HasStopCause {T = T} f0 f1 k0 k1 (Err stop.Memory)
memory_cause f0 f1 k0 k1 f k = record { folder_later = f; sink_later = k; folder = λ e. absurd cc; sink = λ e. absurd cc }

-- under another premise, over the same files, and where other files may be needed
pub halt_named : {X : Type 0} (O P : FileName → Type 0) (S T : Type 0) (files : Files) (result : Result X Halt) → (T → S)
    → (T → (file : FileName) → O file → ∥ MayBeNeeded P files file ∥₁) → OnHaltDamage result (IsEvidentWith O (IsOfEntries files) S files)
    → OnHaltDamage result (IsEvidentWith P (IsOfEntries files) T files)
halt_named {X} O P S T files (Ok x) less named h = tt
halt_named {X} O P S T files (Err (halt.Stopped s)) less named h = stop_named {X = X} O P S T files (Err s) less named h
halt_named {X} O P S T files (Err halt.Source) less named h = tt

-- a commit of other files is that of these, which are the same
pub halt_since : {X : Type 0} (before base : Files) (S T : Type 0) (files : Files) (result : Result X Halt) → (T → S) → (T → before ≡ base)
    → OnHaltDamage result (IsEvidentSince before S files) → OnHaltDamage result (IsEvidentSince base T files)
halt_since before base S T files result less same = halt_named (IsOfListed before) (IsOfListed base) S T files result less
    (λ t file listed. merely (inr (inr (subst (λ (f : Files). IsOfListed f file) (same t) listed))))
