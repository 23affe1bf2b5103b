-- A resident copy and a session are opened over the index that a commit lists.
use Rattle.std.proofs.Common.{◌≡◌, ℕ, List, Some, Result, refl, sym, subst}
use Rattle.outer_io.specs.declared.file_name.FileName.TheVariants.{Commit}
use Rattle.outer_io.specs.Files.{Files, bytes_of}
use Rattle.documents.specs.Documents.{Document}
use Rattle.commit_list.specs.Commits.{CommitData}
use Rattle.commit_list.proofs.CommitPages.{one_file}
use Rattle.index_model.specs.State.{Index, State}
use Rattle.stored_index.specs.Stored.{HoldsIndex, IsStored, IsUndefined, index_of}
use Rattle.page_cache.specs.declared.faults.PageFault.{PageFault}
use Rattle.page_cache.specs.Evidence.{NotDamaged, OnDamage}
use Rattle.page_cache.proofs.Damages.{on_damage_weaker}
use Rattle.segment_set.specs.Faithful.{IsFaithful}
use Rattle.segment_set.specs.Seen.{Sees}
use Rattle.index_core.specs.Carried.{AreOfListed}
use Rattle.index_core.specs.Sessions.{Guards, IsSetTraced, IsUnchanged, SessionData}
use Rattle.batch_run.specs.declared.resident.Resident.{Resident}
use Rattle.batch_run.specs.Copies.{IsCommitIn}
use Rattle.batch_run.specs.Residents.{IsCopyIn, IsCopyOf}
use Rattle.batch_queries.specs.MergeRuns.{AreOpen}

-- the copy is that of each index that is stored
copy_of : {D : ℕ} (files : Files) (c : CommitData) (r : Resident D) → IsCopyIn files c r → IsCommitIn files c → (i : Index) → IsStored files (Some i)
    → IsCopyOf i.docs r
copy_of files c r copy says i h =
    copy.held i.docs (subst (λ (d : CommitData). HoldsIndex files d i.docs) (one_file (bytes_of (files Commit)) h.commit c h.holds.commit says) h.holds)

-- the files were the same all the time
pub opened : (D : ℕ) (first middle last : Files) (c : CommitData) (r : Resident D) (s : SessionData) → middle ≡ first → last ≡ middle → IsCommitIn first c
    → IsCopyIn first c r
    → (IsCommitIn middle c → (i : Index) → IsStored middle (Some i) → Sees D middle s.set i) → (IsCommitIn middle c → Guards D middle s)
    → IsFaithful D middle s.set
    → (IsCommitIn middle c → IsSetTraced D middle s.set) → (IsCommitIn middle c → AreOfListed middle s.set) → IsUnchanged s → AreOpen D last r s
opened D first middle last c r s same again says copy seen guards faithful traced own unchanged =
    subst (λ (f : Files). AreOpen D f r s) (sym again) (record {
      index = index_of c there.0;
      stored = subst (λ (f : Files). IsStored f (Some (index_of c there.0))) (sym same) (record { commit = c; holds = there.1; is = refl });
      copy = λ i h. copy_of first c r copy says i (subst (λ (f : Files). IsStored f (Some i)) same h);
      seen = seen still;
      trusts = record { guards = guards still; faithful = faithful; traced = traced still };
      own = own still;
      unchanged = unchanged;
    })
  where
    there : (docs : List Document) × HoldsIndex first c docs
    there = copy.stored says

    still : IsCommitIn middle c
    still = subst (λ (f : Files). IsCommitIn f c) (sym same) says

-- where a damage says that nothing is stored, and something is, there is none
pub none_undefined : {T : Type 0} (files : Files) (r : Result T PageFault) (state : State) → IsStored files state → OnDamage r (λ _. IsUndefined files)
    → NotDamaged r
none_undefined files r state h undefined = on_damage_weaker r (λ _. IsUndefined files) (λ _. ⊥) (λ d none. none state h) undefined
