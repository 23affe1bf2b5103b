-- How checking ends: what is told of the files was sent, or cut, or a fault came before.
use Rattle.std.proofs.Common.{◌≡◌, ◌++◌, ℕ, List, [], Result, Ok, Err, IfOk, OnErr, IsErrOf, sym, ap, ◌∙◌, subst}
use Rattle.outer_io.specs.Files.{Files}
use Rattle.index_model.specs.State.{State}
use Rattle.stored_index.specs.Stored.{IsStored, IsUndefined}
use Rattle.page_cache.specs.declared.faults.PageFault.{PageFault}
use Rattle.page_cache.specs.declared.faults.PageFault.TheVariants as page
use Rattle.page_cache.specs.Evidence.{FaultShows}
use Rattle.run_status.specs.Sent.{IsSent}
use Rattle.run_status.specs.Ends.{IsDamaged}
use Rattle.run_status.specs.Stops.{status_of, stop_of}
use Rattle.run_status.specs.declared.stop.Stop.{Stop}
use Rattle.run_status.specs.declared.stop.Stop.TheVariants as stop
use Rattle.bkd_top.specs.Checking.{EndsTelling}

-- what is told was appended to nothing
pub told_text : (Tells : List ℕ → Type 0) (before sent after : List ℕ) → before ≡ [] → sent ≡ after
    → (text : List ℕ) × Tells text × (after ≡ before ++ text) → Tells sent
told_text Tells before sent after empty same (text, is, appended) = subst Tells (sym (same ∙ appended ∙ ap (λ xs. xs ++ text) empty)) is

module _ (Tells : List ℕ → Type 0) (told : Type 0) (files : Files) (old new : List ℕ) where
  pub sent_check : (text : List ℕ) (r : Result ℕ Stop) → Tells text → (told → IsSent text old new r) → IfOk r (λ n. n ≡ 0)
      → OnErr r (IsErrOf r stop.SinkFault)
      → EndsTelling Tells told files old new (status_of r)
  sent_check text (Ok n) is sent count only = subst (λ (m : ℕ). EndsTelling Tells told files old new (status_of (Ok m))) (sym count) (text, is, sent)
  sent_check text (Err stop.SinkFault) is sent count only = (text, is, sent)
  sent_check text (Err stop.FolderFault) is sent count only = absurd cc
  sent_check text (Err stop.Memory) is sent count only = absurd cc
  sent_check text (Err (stop.Damaged d)) is sent count only = absurd cc

  pub fault_check : (fault : PageFault) → FaultShows (λ _. IsUndefined files) fault → (told → new ≡ old)
      → EndsTelling Tells told files old new (status_of (Err (stop_of fault)))
  fault_check page.Failed undefined still = still
  fault_check page.Memory undefined still = still
  fault_check (page.Damaged d) undefined still = (undefined, still)

-- a fault over files that store a state is no damage
pub fault_whole : (files : Files) (state : State) (fault : PageFault) → IsStored files state → FaultShows (λ _. IsUndefined files) fault
    → IsDamaged (status_of (Err (stop_of fault))) → ⊥
fault_whole files state page.Failed h undefined d = d
fault_whole files state page.Memory h undefined d = d
fault_whole files state (page.Damaged damage) h undefined d = undefined state h
