-- Calls that change nothing that guards the files, and snapshots.
use Rattle.std.proofs.Common.{◌≡◌, ℕ, Bool, List, [], ◌++◌, take, length, Option, Result, Ok, Err, OnOk, OnErr, refl, sym, ap, ◌∙◌, arith}
use Rattle.std.proofs.lemmas.List.{append-nil}
use Rattle.std.proofs.Math.Seq.{take-append_seam}
use Rattle.outer_io.specs.Files.{Files}
use Rattle.page_cache.specs.declared.faults.PageFault.{PageFault}
use Rattle.page_cache.specs.Causes.{HasPageCause}
use Rattle.page_cache.specs.Evidence.{NotDamaged}
use Rattle.commit_list.specs.Commits.{CommitData}
use Rattle.bkd_reader.specs.Hits.{Begins}
use Rattle.index_model.specs.declared.session.Applied.{Applied}
use Rattle.index_model.specs.declared.session.Applied.TheVariants as applied
use Rattle.script_lang.specs.declared.faults.Refusal.TheVariants as why
use Rattle.segment_set.specs.declared.faults.SnapFault.{SnapFault}
use Rattle.segment_set.specs.declared.faults.SnapFault.TheVariants as snap
use Rattle.segment_set.specs.Sets.{SetData, set_snapped}
use Rattle.segment_set.specs.Kept.{Follows, StaysButCache}
use Rattle.segment_set.specs.Faithful.{IsFaithful}
use Rattle.segment_set.specs.Losing.{KeepsCounts}
use Rattle.segment_set.proofs.Counts.{counts_read, counts_same}
use Rattle.segment_set.proofs.Carried.{follows_same, keeps_calm}
use Rattle.index_core.specs.Effects.{BringsCanonical}
use Rattle.index_core.specs.Replies.{snap_answer, text_after}
use Rattle.index_core.proofs.Bringing.{brings_same}
use Rattle.index_core.proofs.Answering.{no_cause, IsCalm}
use Rattle.index_core.proofs.Carrying.{ViewsStay, views_more, views_same}
use Rattle.index_core.proofs.FaultCauses.{memory_cause}
use Rattle.index_core.proofs.Guarding.{Grows, grows_like}

-- ---- calm calls

-- a call that changes nothing that guards the files, nor a file
pub calm_like : (D : ℕ) (told : Type 0) (files after : Files) (s t : SetData) (commit : Option CommitData) (refused : Bool) (text new_text : List ℕ)
    (faults new_faults : ℕ) → t.names ≡ s.names → Grows s t
    → Follows s.names s.parts t.parts → (told → after ≡ files) → (told → BringsCanonical D files after s.parts t.parts) → (told → ViewsStay files after s t)
    → (told → KeepsCounts D files after s t) → (told → IsFaithful D files s → IsFaithful D after t)
    → IsCalm D told (record { files = files; session = record { set = s; commit = commit; refused = refused }; text = text; faults = faults })
    (record { files = after; session = record { set = t; commit = commit; refused = refused }; text = new_text; faults = new_faults })
calm_like D told files after s t commit refused text new_text faults new_faults names grows follows same brings views counts faithful = record {
  commit = refl;
  refused = refl;
  grows = grows;
  keeps = keeps_calm told s.names t.names files after names same;
  follows = follows;
  brings = brings;
  views = views;
  counts = λ is_told kept. counts is_told;
  faithful = faithful;
}

-- a call that only reads changes nothing but the cache
pub calm_cache : (D : ℕ) (told : Type 0) (files after : Files) (s t : SetData) (commit : Option CommitData) (refused : Bool) (text new_text : List ℕ)
    (faults new_faults : ℕ) → StaysButCache s t → (told → after ≡ files) → (told → IsFaithful D files s → IsFaithful D after t)
    → IsCalm D told (record { files = files; session = record { set = s; commit = commit; refused = refused }; text = text; faults = faults })
    (record { files = after; session = record { set = t; commit = commit; refused = refused }; text = new_text; faults = new_faults })
calm_cache D told files after s t commit refused text new_text faults new_faults stays same faithful =
    calm_like D told files after s t commit refused text new_text faults new_faults (ap (λ (u : SetData). u.names) stays.is)
    (grows_like s t (record s { cache = t.cache }) stays.is refl refl refl)
    (follows_same s.names s.parts t.parts (ap (λ (u : SetData). u.parts) stays.is)) same
    (λ is_told. brings_same D files after s.parts t.parts (same is_told) (ap (λ (u : SetData). u.parts) stays.is))
    (λ is_told. views_same files after s t (same is_told) (ap (λ (u : SetData). u.snapshots) stays.is))
    (λ is_told. counts_read D files after s t stays (same is_told)) faithful

-- a text that is cut to its length of before
pub cut_back : (n : ℕ) (text more : List ℕ) → n ≡ length text → take n (text ++ more) ≡ text
cut_back n text more same = ap (λ m. take m (text ++ more)) same ∙ take-append_seam text more

-- ---- snapshots

pub begins_after : (a : Result Applied PageFault) (before more after : List ℕ) → after ≡ text_after a (length before) (before ++ more) → Begins before after
begins_after (Ok applied.Done) before more after is = (more, is)
begins_after (Ok (applied.Refused cause)) before more after is = ([], is ∙ take-append_seam before more ∙ sym (append-nil before))
begins_after (Err fault) before more after is = (more, is)

pub cause_snap : {T : Type 0} (faults : ℕ) (r : Result T SnapFault) → HasPageCause faults faults (snap_answer r)
cause_snap faults (Ok x) = no_cause faults applied.Done
cause_snap faults (Err snap.Taken) = no_cause faults (applied.Refused why.NameTaken)
cause_snap faults (Err snap.TooMany) = no_cause faults (applied.Refused why.TooManySnapshots)
cause_snap faults (Err snap.Memory) = memory_cause faults faults (omega arith)

pub whole_snap : {T : Type 0} (r : Result T SnapFault) → NotDamaged (snap_answer r)
whole_snap (Ok x) = tt
whole_snap (Err snap.Taken) = tt
whole_snap (Err snap.TooMany) = tt
whole_snap (Err snap.Memory) = tt

pub calm_snap : {T : Type 0} (D : ℕ) (told : Type 0) (files : Files) (s t : SetData) (name : List ℕ) (r : Result T SnapFault)
    (commit : Option CommitData) (refused : Bool) (text new_text : List ℕ) (faults : ℕ)
    → OnOk r (t ≡ set_snapped name s) → OnErr r (t ≡ s) → (IsFaithful D files s → IsFaithful D files t)
    → IsCalm D told (record { files = files; session = record { set = s; commit = commit; refused = refused }; text = text; faults = faults })
    (record { files = files; session = record { set = t; commit = commit; refused = refused }; text = new_text; faults = faults })
calm_snap D told files s t name (Ok x) commit refused text new_text faults done same faithful =
    calm_like D told files files s t commit refused text new_text faults faults (ap (λ (u : SetData). u.names) done)
    (grows_like s t (set_snapped name s) done refl refl refl)
    (follows_same s.names s.parts t.parts (ap (λ (u : SetData). u.parts) done)) (λ is_told. refl)
    (λ is_told. brings_same D files files s.parts t.parts refl (ap (λ (u : SetData). u.parts) done))
    (λ is_told. views_more files name s t (ap (λ (u : SetData). u.snapshots) done))
    (λ is_told. counts_same D files files s t (ap (λ (u : SetData). u.parts) done) (ap (λ (u : SetData). u.buffer) done)
    (ap (λ (u : SetData). u.points_given) done) (λ p there. refl)) (λ is_told. faithful)
calm_snap D told files s t name (Err e) commit refused text new_text faults done same faithful =
    calm_like D told files files s t commit refused text new_text faults faults (ap (λ (u : SetData). u.names) same)
    (grows_like s t s same refl refl refl)
    (follows_same s.names s.parts t.parts (ap (λ (u : SetData). u.parts) same)) (λ is_told. refl)
    (λ is_told. brings_same D files files s.parts t.parts refl (ap (λ (u : SetData). u.parts) same))
    (λ is_told. views_same files files s t refl (ap (λ (u : SetData). u.snapshots) same))
    (λ is_told. counts_same D files files s t (ap (λ (u : SetData). u.parts) same) (ap (λ (u : SetData). u.buffer) same)
    (ap (λ (u : SetData). u.points_given) same) (λ p there. refl)) (λ is_told. faithful)
