-- The status that lines end with, and what of a call's causes and damage holds of that.
use Rattle.std.proofs.Common.{◌≡◌, ◌≤◌, ◌+◌, ◌==◌, ℕ, Bool, true, false, if◌then◌else◌, cond, List, Result, Ok, Err, OnErr, IsErrOf, refl, sym, ap, ◌∙◌, subst}
use Rattle.std.proofs.Common.{arith}
use mir.Val.{bool_byte}
use Rattle.outer_io.specs.Counts.{Rose}
use Rattle.page_cache.specs.declared.faults.Damage.{Damage}
use Rattle.page_cache.specs.declared.faults.PageFault.{PageFault}
use Rattle.page_cache.specs.declared.faults.PageFault.TheVariants as page
use Rattle.page_cache.specs.Causes.{HasPageCause}
use Rattle.page_cache.specs.Evidence.{FaultShows}
use Rattle.run_status.specs.Ends.{DoesNothing, HasStopCause, OnStatusDamage, OnStopDamage}
use Rattle.run_status.specs.Sent.{IsSent}
use Rattle.run_status.specs.Stops.{status_of, stop_of}
use Rattle.run_status.specs.declared.status.Status.{Status}
use Rattle.run_status.specs.declared.status.Status.TheVariants as status
use Rattle.run_status.specs.declared.stop.Stop.{Stop}
use Rattle.run_status.specs.declared.stop.Stop.TheVariants as stop

abbrev pub counted : Bool → ℕ → Status
counted b count = if b then status.Done else status.SomeRefused count

pub does_some : (b : Bool) (count : ℕ) → DoesNothing (counted b count) → ⊥
does_some true count d = d
does_some false count d = d

-- lines end with none of the other statuses
pub does_lines : (done : Result ℕ Stop) → DoesNothing (status_of done) → ⊥
does_lines (Ok count) d = does_some (count == 0) count d
does_lines (Err stop.FolderFault) d = d
does_lines (Err stop.Memory) d = d
does_lines (Err stop.SinkFault) d = d
does_lines (Err (stop.Damaged damage)) d = d

pub no_folder : (b : Bool) (count : ℕ) {P : Type 0} → counted b count ≡ status.FolderFault → P
no_folder true count e = cc
no_folder false count e = cc

pub no_sink : (b : Bool) (count : ℕ) {P : Type 0} → counted b count ≡ status.SinkFault → P
no_sink true count e = cc
no_sink false count e = cc

pub folder_stopped : (done : Result ℕ Stop) → status_of done ≡ status.FolderFault → IsErrOf done stop.FolderFault
folder_stopped (Ok count) e = no_folder (count == 0) count e
folder_stopped (Err stop.FolderFault) e = refl
folder_stopped (Err stop.Memory) e = cc
folder_stopped (Err stop.SinkFault) e = cc
folder_stopped (Err (stop.Damaged damage)) e = cc

pub sink_stopped : (done : Result ℕ Stop) → status_of done ≡ status.SinkFault → IsErrOf done stop.SinkFault
sink_stopped (Ok count) e = no_sink (count == 0) count e
sink_stopped (Err stop.SinkFault) e = refl
sink_stopped (Err stop.FolderFault) e = cc
sink_stopped (Err stop.Memory) e = cc
sink_stopped (Err (stop.Damaged damage)) e = cc

pub rose_from : (a b c : ℕ) → a ≤ b → Rose b c → Rose a c
rose_from a b c h r = grind (arith)

-- causes from an earlier call on
pub cause_from : {T : Type 0} (f0 f1 f2 k0 k1 k2 : ℕ) (result : Result T Stop) → f0 ≤ f1 → k0 ≤ k1 → HasStopCause f1 f2 k1 k2 result
    → HasStopCause f0 f2 k0 k2 result
cause_from f0 f1 f2 k0 k1 k2 result f k h = record {
  folder_later = omega (arith, f, h.folder_later);
  sink_later = omega (arith, k, h.sink_later);
  folder = λ e. rose_from f0 f1 f2 f (h.folder e);
  sink = λ e. rose_from k0 k1 k2 k (h.sink e);
}

-- ---- causes of a call, and of the end

-- a folder that wasn't asked counted no fault
pub page_none : {T : Type 0} (f : ℕ) (x : T) → HasPageCause f f (Ok x)
page_none f x = record { later = omega arith; on_ok = refl; failed = λ e. absurd cc }

pub page_memory : {T : Type 0} (f : ℕ) → HasPageCause {T = T} f f (Err page.Memory)
page_memory f = record { later = omega arith; on_ok = tt; failed = λ e. absurd cc }

pub by_fault : {S T : Type 0} (f0 f1 k : ℕ) (fault : PageFault) → HasPageCause {T = S} f0 f1 (Err fault) → HasStopCause {T = T} f0 f1 k k (Err (stop_of fault))
by_fault f0 f1 k page.Failed h = record { folder_later = h.later; sink_later = omega arith; folder = λ e. h.failed refl; sink = λ e. absurd cc }
by_fault f0 f1 k page.Memory h = record { folder_later = h.later; sink_later = omega arith; folder = λ e. absurd cc; sink = λ e. absurd cc }
by_fault f0 f1 k (page.Damaged damage) h = record { folder_later = h.later; sink_later = omega arith; folder = λ e. absurd cc; sink = λ e. absurd cc }

-- a fault that stops a run raised the folder's count, where it is the folder's
pub fault_cause : {S T : Type 0} (f0 f1 k : ℕ) (fault : PageFault) → HasPageCause {T = S} f0 f1 (Err fault) → (result : Result T Stop)
    → result ≡ Err (stop_of fault)
    → HasStopCause f0 f1 k k result
fault_cause {S} {T} f0 f1 k fault h result is = subst (HasStopCause f0 f1 k k) (sym is) (by_fault {S = S} {T = T} f0 f1 k fault h)

-- what was sent after the folder was done with
pub send_cause : {S T : Type 0} (f0 f1 k0 k1 : ℕ) (x : S) → HasPageCause f0 f1 (Ok x) → (result : Result T Stop) → OnErr result (IsErrOf result stop.SinkFault)
    → k0 ≤ k1
    → (IsErrOf result stop.SinkFault → Rose k0 k1) → HasStopCause f0 f1 k0 k1 result
send_cause f0 f1 k0 k1 x h (Ok y) only later sink = record { folder_later = h.later; sink_later = later; folder = λ e. absurd cc; sink = sink }
send_cause f0 f1 k0 k1 x h (Err stop.SinkFault) only later sink = record { folder_later = h.later; sink_later = later; folder = λ e. absurd cc; sink = sink }
send_cause {T = T} f0 f1 k0 k1 x h (Err stop.FolderFault) only later sink = let e : IsErrOf {T = T} (Err stop.FolderFault) stop.SinkFault = only in absurd cc
send_cause {T = T} f0 f1 k0 k1 x h (Err stop.Memory) only later sink = let e : IsErrOf {T = T} (Err stop.Memory) stop.SinkFault = only in absurd cc
send_cause {T = T} f0 f1 k0 k1 x h (Err (stop.Damaged damage)) only later sink = let e : IsErrOf {T = T} (Err (stop.Damaged damage)) stop.SinkFault = only in
    absurd cc

-- the same stop of another call
pub cause_to : {S T : Type 0} (f0 f1 k0 k1 : ℕ) (e : Stop) → HasStopCause {T = S} f0 f1 k0 k1 (Err e) → HasStopCause {T = T} f0 f1 k0 k1 (Err e)
cause_to f0 f1 k0 k1 e h = record {
  folder_later = h.folder_later;
  sink_later = h.sink_later;
  folder = λ w. let same : e ≡ stop.FolderFault = cc in h.folder (ap (λ (f : Stop). Err f) same);
  sink = λ w. let same : e ≡ stop.SinkFault = cc in h.sink (ap (λ (f : Stop). Err f) same);
}

pub sent_as : {T : Type 0} (text other old new : List ℕ) (result : Result T Stop) → text ≡ other → IsSent text old new result → IsSent other old new result
sent_as text other old new result same sent = subst (λ (w : List ℕ). IsSent w old new result) same sent

-- ---- damage

-- a fault of the sink is none
pub sink_shows : {T : Type 0} (P : Damage → Type 0) (result : Result T Stop) → OnErr result (IsErrOf result stop.SinkFault) → OnStopDamage result P
sink_shows P (Ok x) only = tt
sink_shows P (Err stop.SinkFault) only = tt
sink_shows P (Err stop.FolderFault) only = tt
sink_shows P (Err stop.Memory) only = tt
sink_shows {T} P (Err (stop.Damaged d)) only = let e : IsErrOf {T = T} (Err (stop.Damaged d)) stop.SinkFault = only in absurd cc

pub stop_shows : (T : Type 0) (P : Damage → Type 0) (fault : PageFault) → FaultShows P fault → OnStopDamage {T = T} (Err (stop_of fault)) P
stop_shows T P page.Failed h = tt
stop_shows T P page.Memory h = tt
stop_shows T P (page.Damaged d) h = h

-- a run stops for a fault
pub fault_shows : {T : Type 0} (P : Damage → Type 0) (fault : PageFault) → FaultShows P fault → (result : Result T Stop) → result ≡ Err (stop_of fault)
    → OnStopDamage result P
fault_shows {T} P fault h result is = subst (λ (r : Result T Stop). OnStopDamage r P) (sym is) (stop_shows T P fault h)

-- the same stop of another call
pub same_stop : (S T : Type 0) (P : Damage → Type 0) (e : Stop) → OnStopDamage {T = S} (Err e) P → OnStopDamage {T = T} (Err e) P
same_stop S T P stop.SinkFault h = tt
same_stop S T P stop.FolderFault h = tt
same_stop S T P stop.Memory h = tt
same_stop S T P (stop.Damaged d) h = h

pub counted_shows : (P : Damage → Type 0) (b : Bool) (count : ℕ) → OnStatusDamage (counted b count) P
counted_shows P true count = tt
counted_shows P false count = tt

-- the status of lines that stopped
pub status_shows : (P : Damage → Type 0) (done : Result ℕ Stop) → OnStopDamage done P → OnStatusDamage (status_of done) P
status_shows P (Ok count) h = counted_shows P (count == 0) count
status_shows P (Err stop.SinkFault) h = tt
status_shows P (Err stop.FolderFault) h = tt
status_shows P (Err stop.Memory) h = tt
status_shows P (Err (stop.Damaged d)) h = h

-- what follows of the damage
pub stop_weaker : {X : Type 0} (P Q : Damage → Type 0) (result : Result X Stop) → ((d : Damage) → P d → Q d) → OnStopDamage result P → OnStopDamage result Q
stop_weaker P Q (Ok x) more h = tt
stop_weaker P Q (Err stop.SinkFault) more h = tt
stop_weaker P Q (Err stop.FolderFault) more h = tt
stop_weaker P Q (Err stop.Memory) more h = tt
stop_weaker P Q (Err (stop.Damaged d)) more h = more d h

-- ---- how many lines are refused

pub refused_more : (n : ℕ) (b : Bool) (r m : ℕ) → r ≡ cond b 1 0 → m ≡ bool_byte b → n + m ≡ n + r
refused_more n true r m h k = ap (λ x. n + x) (k ∙ sym h)
refused_more n false r m h k = ap (λ x. n + x) (k ∙ sym h)

pub at_most_one : (b : Bool) (m : ℕ) → m ≡ bool_byte b → m ≤ 1
at_most_one true m h = omega arith
at_most_one false m h = omega arith
