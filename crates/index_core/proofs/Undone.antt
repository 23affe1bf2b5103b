-- What is kept by what was not done.
use Rattle.std.proofs.Common.{◌≡◌, ℕ, false, Option, None, Some, is_some, Result, Ok, Err, refl, sym, subst, ◌∙◌, ◌⊎◌, inl, inr, ⊎_elim}
use Rattle.outer_io.specs.Files.{Files}
use Rattle.page_cache.specs.declared.faults.PageFault.{PageFault}
use Rattle.page_cache.specs.declared.faults.PageFault.TheVariants as page
use Rattle.page_cache.specs.Evidence.{NotDamaged}
use Rattle.commit_list.specs.Commits.{CommitData}
use Rattle.index_model.specs.State.{Index}
use Rattle.stored_index.specs.Kept.{SameKept}
use Rattle.stored_index.proofs.KeptFiles.{kept_after, kept_itself}
use Rattle.segment_set.specs.Sets.{BegunMerge, SetData}
use Rattle.segment_set.specs.Seen.{Sees}
use Rattle.index_core.specs.Light.{CommitsFewOfLevels, KeepsLevels}
use Rattle.index_core.specs.Steps.{FaultKeeps, HasCommit, KeepsUndone, SaysCommit}

pub fault_kept : (old new : Files) → SameKept old new → (fault : PageFault) → FaultKeeps old new fault
fault_kept old new same page.Failed = inl same
fault_kept old new same page.Memory = inl same
fault_kept old new same (page.Damaged d) = same

pub undone_kept : {T : Type 0} (old new : Files) (fault : PageFault) (r : Result T PageFault) → r ≡ Err fault → SameKept old new → KeepsUndone old new r
undone_kept old new fault r is same = subst (KeepsUndone old new) (sym is) (fault_kept old new same fault)

says_commit : (files : Files) (commit : Option CommitData) → SaysCommit files commit → HasCommit files
says_commit files commit (c, is, says) = (c, says)

-- the commit that the folder failed in may be there
pub undone_flight : {T : Type 0} (U : Type 0) (old new : Files) (commit : Option CommitData) (fault : PageFault) (r : Result T PageFault) → r ≡ Err fault
    → NotDamaged {T = U} (Err fault)
    → SameKept old new ⊎ SaysCommit new commit → KeepsUndone old new r
undone_flight {T} U old new commit fault r is whole flight = subst (KeepsUndone old new) (sym is) (by fault whole)
  where
    either : SameKept old new ⊎ HasCommit new
    either = ⊎_elim (λ same. inl same) (λ says. inr (says_commit new commit says)) flight

    by : (f : PageFault) → NotDamaged {T = U} (Err f) → FaultKeeps old new f
    by page.Failed w = either
    by page.Memory w = either
    by (page.Damaged d) w = absurd w

-- and it is there where the folder failed behind it
pub undone_written : {T : Type 0} (old new : Files) (commit : Option CommitData) (r : Result T PageFault) → NotDamaged r → SaysCommit new commit
    → KeepsUndone old new r
undone_written old new commit (Ok x) whole says = tt
undone_written old new commit (Err page.Failed) whole says = inr (says_commit new commit says)
undone_written old new commit (Err page.Memory) whole says = inr (says_commit new commit says)
undone_written old new commit (Err (page.Damaged d)) whole says = absurd whole

-- a fault after a call that kept all keeps what was there before that call
fault_after : (a b c : Files) → SameKept a b → (fault : PageFault) → FaultKeeps b c fault → FaultKeeps a c fault
fault_after a b c first page.Failed then = ⊎_elim (λ same. inl (kept_after a b c first same)) (λ there. inr there) then
fault_after a b c first page.Memory then = ⊎_elim (λ same. inl (kept_after a b c first same)) (λ there. inr there) then
fault_after a b c first (page.Damaged d) then = kept_after a b c first then

pub undone_after : {T : Type 0} (a b c : Files) (r : Result T PageFault) → SameKept a b → KeepsUndone b c r → KeepsUndone a c r
undone_after a b c (Ok x) first then = tt
undone_after a b c (Err fault) first then = fault_after a b c first fault then

pub kept_equal : (old new : Files) → new ≡ old → SameKept old new
kept_equal old new same = subst (SameKept old) (sym same) (kept_itself old)

-- ---- levels

none_begun : (o : Option BegunMerge) → false ≡ is_some o → o ≡ None
none_begun None e = refl
none_begun (Some b) e = absurd cc

pub begins_none : (D : ℕ) (files : Files) (s : SetData) (i : Index) → Sees D files s i → i.begun ≡ false → s.begun ≡ None
begins_none D files s i seen rested = none_begun s.begun (sym rested ∙ seen.begun)

pub few_listed : (old new : Files) (commit : Option CommitData) → SaysCommit new commit → CommitsFewOfLevels commit → KeepsLevels old new
few_listed old new commit (c, is, says) few = inr (c, says, few c is)

pub levels_after : (a b c : Files) → SameKept a b → KeepsLevels b c → KeepsLevels a c
levels_after a b c first then = ⊎_elim (λ same. inl (same ∙ first.commit)) (λ few. inr few) then
