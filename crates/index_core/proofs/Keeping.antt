-- What commands leave as it is but for the kept pages.
use Rattle.std.proofs.Common.{◌≡◌, ℕ, Result, Ok, Err, IsErrOf, OnErr, refl, sym, subst}
use Rattle.outer_io.specs.Files.{Files}
use Rattle.page_cache.specs.declared.faults.PageFault.{PageFault}
use Rattle.index_model.specs.declared.session.Applied.{Applied}
use Rattle.index_model.specs.declared.session.Applied.TheVariants as applied
use Rattle.segment_set.specs.declared.faults.AddFault.{AddFault}
use Rattle.segment_set.specs.declared.faults.AddFault.TheVariants as add
use Rattle.segment_set.specs.declared.faults.BeginFault.{BeginFault}
use Rattle.segment_set.specs.declared.faults.BeginFault.TheVariants as begin
use Rattle.segment_set.specs.declared.faults.EndFault.{EndFault}
use Rattle.segment_set.specs.declared.faults.EndFault.TheVariants as end
use Rattle.segment_set.specs.declared.faults.SnapFault.{SnapFault}
use Rattle.segment_set.specs.declared.faults.SnapFault.TheVariants as snap
use Rattle.segment_set.specs.Sets.{SetData}
use Rattle.segment_set.specs.Kept.{StaysButCache}
use Rattle.index_core.specs.Sessions.{IsStill, SessionData}
use Rattle.index_core.specs.Effects.{OnRefused}
use Rattle.index_core.specs.Replies.{add_answer, begin_answer, end_answer, snap_answer}

pub still_same : (told : Type 0) (files : Files) (s : SessionData) → IsStill told files files s s
still_same told files s = record { set = record { is = refl }; commit = refl; refused = refl; files = λ is_told. refl }

pub still_set : (s t : SetData) → t ≡ s → StaysButCache s t
still_set s t same = record { is = subst (λ (u : SetData). t ≡ record s { cache = u.cache }) (sym same) same }

pub err_each : {T E P Q : Type 0} → (P → Q) → (r : Result T E) → OnErr r P → OnErr r Q
err_each h (Ok x) p = tt
err_each h (Err e) p = h p

-- the session that the code opened is the one that contracts see
pub still_seen : (told : Type 0) (old new : Files) (s u t : SessionData) → u ≡ s → IsStill told old new u t → IsStill told old new s t
still_seen told old new s u t same still = subst (λ (v : SessionData). IsStill told old new v t) same still

-- a fault is no refusal
pub fault_keeps : (P : Type 0) (r : Result Applied PageFault) (fault : PageFault) → r ≡ Err fault → OnRefused r P
fault_keeps P r fault is = subst (λ q. OnRefused q P) (sym is) tt

pub answer_keeps : (P : Type 0) (r q : Result Applied PageFault) → r ≡ q → OnRefused q P → OnRefused r P
answer_keeps P r q is keeps = subst (λ o. OnRefused o P) (sym is) keeps

-- nor is what the set answers, where what is refused was asked before
pub add_keeps : (P : Type 0) (r : Result ℕ AddFault) → (IsErrOf r add.Full → ⊥) → OnRefused (add_answer r) P
add_keeps P (Ok n) fits = tt
add_keeps P (Err add.Full) fits = absurd (fits refl)
add_keeps P (Err add.Failed) fits = tt
add_keeps P (Err (add.Damaged d)) fits = tt
add_keeps P (Err add.Memory) fits = tt

pub begin_keeps : {T : Type 0} (P : Type 0) (r : Result T BeginFault) → (IsErrOf r begin.Begun → ⊥) → OnRefused (begin_answer r) P
begin_keeps P (Ok x) fits = tt
begin_keeps P (Err begin.Begun) fits = absurd (fits refl)
begin_keeps P (Err begin.Failed) fits = tt
begin_keeps P (Err (begin.Damaged d)) fits = tt
begin_keeps P (Err begin.Memory) fits = tt

pub end_keeps : {T : Type 0} (P : Type 0) (r : Result T EndFault) → (IsErrOf r end.NotBegun → ⊥) → OnRefused (end_answer r) P
end_keeps P (Ok x) fits = tt
end_keeps P (Err end.NotBegun) fits = absurd (fits refl)
end_keeps P (Err end.Failed) fits = tt
end_keeps P (Err (end.Damaged d)) fits = tt
end_keeps P (Err end.Memory) fits = tt

-- a snapshot that is refused leaves the set
pub snap_keeps : {T : Type 0} (P : Type 0) (r : Result T SnapFault) → OnErr r P → OnRefused (snap_answer r) P
snap_keeps P (Ok x) kept = tt
snap_keeps P (Err snap.Taken) kept = kept
snap_keeps P (Err snap.TooMany) kept = kept
snap_keeps P (Err snap.Memory) kept = tt

-- what holds over all files holds over told ones
pub still_told : (told : Type 0) (files : Files) (s t : SessionData) (r : Result Applied PageFault) → OnRefused r (IsStill (Unit {0}) files files s t)
    → OnRefused r (IsStill told files files s t)
still_told told files s t (Ok applied.Done) still = tt
still_told told files s t (Ok (applied.Refused why)) still =
    record { set = still.set; commit = still.commit; refused = still.refused; files = λ is_told. still.files tt }
still_told told files s t (Err fault) still = tt
