-- What a damage shows that a run stops for or ends with, from what it shows where a call answered it.
use Rattle.std.proofs.Common.{◌≡◌, ℕ, Result, Ok, Err, IfOk, OnErr, IsErrOf, sym, subst, ◌⊎◌, inl, inr}
use Rattle.outer_io.specs.Files.{Files}
use Rattle.outer_io.specs.declared.file_name.FileName.{FileName}
use Rattle.page_cache.specs.declared.faults.Damage.{Damage}
use Rattle.page_cache.specs.declared.faults.PageFault.{PageFault}
use Rattle.page_cache.specs.declared.faults.PageFault.TheVariants as page
use Rattle.page_cache.specs.Evidence.{FaultShows, OnDamage}
use Rattle.index_opening.specs.Evidence.{IsEvident, IsEvidentSince, IsEvidentWith, IsOfListed, IsOfEntries, MayBeNeeded}
use Rattle.segment_set.specs.Faithful.{IsFaithful}
use Rattle.segment_set.specs.Sets.{SetData}
use Rattle.commands.specs.Opens.{Opens}
use Rattle.index_core.specs.Carried.{AreOfListed, Carries, IsEvidentOver, IsFileOf}
use Rattle.index_core.specs.KeptLive.{FindsKept}
use Rattle.script_run.specs.Origins.{KnowsFolder}
use Rattle.index_core.proofs.Carrying.{file_carried}
use Rattle.index_opening.proofs.Evident.{evident_files, evident_named}
use Rattle.index_core.specs.Sessions.{Guards, IsSetTraced, SessionData}
use Rattle.run_status.specs.Ends.{OnStatusDamage, OnStopDamage}
use Rattle.run_status.specs.Stops.{status_of, stop_of}
use Rattle.run_status.specs.declared.status.Status.{Status}
use Rattle.run_status.specs.declared.status.Status.TheVariants as status
use Rattle.run_status.specs.declared.stop.Stop.{Stop}
use Rattle.run_status.specs.declared.stop.Stop.TheVariants as stop

-- ---- where there is no damage

-- want of memory is none
pub memory_shows : {T : Type 0} (P : Damage → Type 0) (result : Result T PageFault) → OnErr result (IsErrOf result page.Memory) → OnDamage result P
memory_shows P (Ok x) only = tt
memory_shows P (Err page.Memory) only = tt
memory_shows P (Err page.Failed) only = tt
memory_shows {T} P (Err (page.Damaged d)) only = let e : IsErrOf {T = T} (Err (page.Damaged d)) page.Memory = only in absurd cc

-- a line where no index is there stops for one of these two
pub first_shows : (S T : Type 0) (P : Damage → Type 0) (e : Stop) → IsErrOf {T = S} (Err e) stop.SinkFault ⊎ IsErrOf {T = S} (Err e) stop.Memory
    → OnStopDamage {T = T} (Err e) P
first_shows S T P stop.SinkFault cause = tt
first_shows S T P stop.FolderFault cause = tt
first_shows S T P stop.Memory cause = tt
first_shows S T P (stop.Damaged d) cause = absurd (elim cause as (λ _. ⊥) [ inl e ↦ cc | inr e ↦ cc ])

-- ---- from a call to the end

pub fault_status : (P : Damage → Type 0) (fault : PageFault) → FaultShows P fault → OnStatusDamage (status_of (Err (stop_of fault))) P
fault_status P page.Failed h = tt
fault_status P page.Memory h = tt
fault_status P (page.Damaged d) h = h

-- where no other file is needed than those that were looked at, none is that only a commit of before lists
pub status_since : (before : Files) (T : Type 0) (files : Files) (s : Status) → OnStatusDamage s (IsEvident T files)
    → OnStatusDamage s (IsEvidentSince before T files)
status_since before T files (status.Damaged d) h =
    evident_named (λ file. ⊥) (IsOfListed before) (IsOfEntries files) T T files d (λ t. t) (λ t file none. absurd none) h
status_since before T files status.Usage h = tt
status_since before T files status.SourceFault h = tt
status_since before T files status.TooLarge h = tt
status_since before T files status.Done h = tt
status_since before T files (status.SomeRefused count) h = tt
status_since before T files status.SinkFault h = tt
status_since before T files status.Memory h = tt
status_since before T files status.FolderFault h = tt

-- ---- under other premises, over the same files

pub fault_at : (S T : Type 0) (f g : Files) (fault : PageFault) → (T → S) → (T → g ≡ f) → FaultShows (IsEvident S f) fault → FaultShows (IsEvident T g) fault
fault_at S T f g page.Failed less same h = tt
fault_at S T f g page.Memory less same h = tt
fault_at S T f g (page.Damaged d) less same h = evident_files S T f g d less same h

pub fault_wider : (P : FileName → Type 0) (S T : Type 0) (files : Files) (fault : PageFault) → (T → S) → FaultShows (IsEvident S files) fault
    → FaultShows (IsEvidentWith P (IsOfEntries files) T files) fault
fault_wider P S T files page.Failed less h = tt
fault_wider P S T files page.Memory less h = tt
fault_wider P S T files (page.Damaged d) less h = evident_named (λ file. ⊥) P (IsOfEntries files) S T files d less (λ t file none. absurd none) h

-- where other files may be needed
pub stop_named : {X : Type 0} (O P : FileName → Type 0) (S T : Type 0) (files : Files) (result : Result X Stop) → (T → S)
    → (T → (file : FileName) → O file → ∥ MayBeNeeded P files file ∥₁) → OnStopDamage result (IsEvidentWith O (IsOfEntries files) S files)
    → OnStopDamage result (IsEvidentWith P (IsOfEntries files) T files)
stop_named O P S T files (Ok x) less named h = tt
stop_named O P S T files (Err stop.SinkFault) less named h = tt
stop_named O P S T files (Err stop.FolderFault) less named h = tt
stop_named O P S T files (Err stop.Memory) less named h = tt
stop_named O P S T files (Err (stop.Damaged d)) less named h = evident_named O P (IsOfEntries files) S T files d less named h

pub stop_wider : {X : Type 0} (P : FileName → Type 0) (S T : Type 0) (files : Files) (result : Result X Stop) → (T → S)
    → OnStopDamage result (IsEvident S files) → OnStopDamage result (IsEvidentWith P (IsOfEntries files) T files)
stop_wider P S T files result less = stop_named (λ file. ⊥) P S T files result less (λ t file none. absurd none)

-- of the session at the begin, where one between two lines shows it
pub stop_carried : {X : Type 0} (S T : Type 0) (f g h : Files) (s t : SetData) (result : Result X Stop) → (T → S) → (T → Carries f g s t)
    → OnStopDamage result (IsEvidentOver g t S h) → OnStopDamage result (IsEvidentOver f s T h)
stop_carried S T f g h s t result less carries =
    stop_named (IsFileOf g h t) (IsFileOf f h s) S T h result less (λ told. file_carried f g h s t (carries told))

-- ---- where the index comes from

-- what is attached knows the files, which stay
pub attached_knows : (D : ℕ) (old new : Files) (result : Result SessionData PageFault) → new ≡ old → IfOk result (Guards D old)
    → IfOk result (λ s. IsFaithful D old s.set) → IfOk result (λ s. IsSetTraced D old s.set) → IfOk result (λ s. FindsKept D old s.set)
    → IfOk result (λ s. AreOfListed old s.set) → IfOk result (λ s. Opens old) → IfOk result (KnowsFolder D new)
attached_knows D old new (Ok s) same guards faithful traced finds own opens = subst (λ (f : Files). KnowsFolder D f s) (sym same)
    (record { trusts = record { guards = guards; faithful = faithful; traced = traced }; finds = finds; own = own; opens = opens })
attached_knows D old new (Err e) same guards faithful traced finds own opens = tt
