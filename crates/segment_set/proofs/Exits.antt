-- What an exit by `?` says of damage and of faults where a set is attached.
use Rattle.std.proofs.Common.{◌≡◌, ℕ, Result, Ok, Err}
use Rattle.std.specs.Result.{IsErrAnd}
use Rattle.outer_io.specs.Faults.{HasCause}
use Rattle.outer_io.specs.Files.{Files, bytes_of}
use Rattle.outer_io.specs.declared.file_name.FileName.TheVariants.{Commit}
use Rattle.page_cache.specs.Evidence.{OnDamage}
use Rattle.page_cache.specs.declared.faults.Damage.{Damage}
use Rattle.page_cache.specs.declared.faults.PageFault.{PageFault}
use Rattle.page_cache.specs.declared.faults.PageFault.TheVariants as page
use Rattle.commit_list.specs.Commits.{CommitData}
use Rattle.commit_list.specs.CommitFiles.{IsCommitFile}
use Rattle.stored_index.specs.Stored.{IsUndefined}
use Rattle.index_opening.specs.Damages.{IsAttachDamage, IsAttachDamageOf}
use Rattle.index_opening.specs.Evidence.{IsEvident}
use Rattle.segment_set.specs.Effects.{ShowsAttachDamage}
use Rattle.segment_set.proofs.Refused.{memory_damage}

-- an answer without a damage shows what any damage would
pub attach_none : (told : Type 0) (files : Files) (c : CommitData) (On : (Damage → Type 0) → Type 0) → ((P : Damage → Type 0) → On P)
    → ShowsAttachDamage told files c On
attach_none told files c On none = record {
  whole = λ is says state stored. none (λ _. ⊥);
  undefined = λ is says. none (λ _. IsUndefined files);
  shown = none (IsAttachDamage c);
  damage = λ is. none (IsAttachDamageOf files c);
  evident = none (IsEvident (told × IsCommitFile (bytes_of (files Commit)) c) files);
}

pub attach_memory : {T : Type 0} (told : Type 0) (files : Files) (c : CommitData) (r : Result T PageFault) → IsErrAnd r (λ y. y ≡ page.Memory)
    → ShowsAttachDamage told files c (λ P. OnDamage r P)
attach_memory told files c r is = attach_none told files c (λ P. OnDamage r P) (λ P. memory_damage P r is)

-- ---- a call that can only fail

pub same_fault : {T U E F : Type 0} (Q : F → Type 0) (before now : ℕ) (e : E) (r : Result T F) → IsErrAnd r Q → HasCause {T = U} before now (Err e)
    → HasCause before now r
same_fault Q before now e (Ok x) h cause = absurd h
same_fault Q before now e (Err f) h cause = record { later = cause.later; on_ok = tt; failed = cause.failed }
