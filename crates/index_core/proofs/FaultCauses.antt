-- The causes of faults, and answers that are no damage.
use Rattle.std.proofs.Common.{◌≡◌, ℕ, Result, Ok, Err, IsErrOf, refl, sym, ap, subst}
use Rattle.page_cache.specs.declared.faults.PageFault.{PageFault}
use Rattle.page_cache.specs.declared.faults.PageFault.TheVariants as page
use Rattle.page_cache.specs.Causes.{HasPageCause}
pub use Rattle.page_cache.proofs.Causes.{memory_cause}
use Rattle.page_cache.specs.Evidence.{NotDamaged}
use Rattle.segment_set.specs.declared.faults.AddFault.{AddFault}
use Rattle.segment_set.specs.declared.faults.AddFault.TheVariants as add
use Rattle.segment_set.specs.declared.faults.BeginFault.{BeginFault}
use Rattle.segment_set.specs.declared.faults.BeginFault.TheVariants as begin
use Rattle.segment_set.specs.declared.faults.EndFault.{EndFault}
use Rattle.segment_set.specs.declared.faults.EndFault.TheVariants as end
use Rattle.segment_set.specs.Faults.{HasCauseOf, OnAddDamage, OnBeginDamage, OnEndDamage}
use Rattle.index_core.specs.Replies.{add_answer, begin_answer, end_answer}

pub cause_add : (before now : ℕ) (r : Result ℕ AddFault) → (IsErrOf r add.Full → ⊥) → HasCauseOf add.Failed before now r
    → HasPageCause before now (add_answer r)
cause_add before now (Ok n) fits cause = record { later = cause.later; on_ok = cause.on_ok; failed = λ e. absurd cc }
cause_add before now (Err add.Full) fits cause = absurd (fits refl)
cause_add before now (Err add.Failed) fits cause = record { later = cause.later; on_ok = tt; failed = λ e. cause.failed refl }
cause_add before now (Err (add.Damaged d)) fits cause = record { later = cause.later; on_ok = tt; failed = λ e. absurd cc }
cause_add before now (Err add.Memory) fits cause = memory_cause before now cause.later

pub cause_begin : {T : Type 0} (before now : ℕ) (r : Result T BeginFault) → (IsErrOf r begin.Begun → ⊥) → HasCauseOf begin.Failed before now r
    → HasPageCause before now (begin_answer r)
cause_begin before now (Ok n) fits cause = record { later = cause.later; on_ok = cause.on_ok; failed = λ e. absurd cc }
cause_begin before now (Err begin.Begun) fits cause = absurd (fits refl)
cause_begin before now (Err begin.Failed) fits cause = record { later = cause.later; on_ok = tt; failed = λ e. cause.failed refl }
cause_begin before now (Err (begin.Damaged d)) fits cause = record { later = cause.later; on_ok = tt; failed = λ e. absurd cc }
cause_begin before now (Err begin.Memory) fits cause = memory_cause before now cause.later

pub cause_end : {T : Type 0} (before now : ℕ) (r : Result T EndFault) → (IsErrOf r end.NotBegun → ⊥) → HasCauseOf end.Failed before now r
    → HasPageCause before now (end_answer r)
cause_end before now (Ok n) fits cause = record { later = cause.later; on_ok = cause.on_ok; failed = λ e. absurd cc }
cause_end before now (Err end.NotBegun) fits cause = absurd (fits refl)
cause_end before now (Err end.Failed) fits cause = record { later = cause.later; on_ok = tt; failed = λ e. cause.failed refl }
cause_end before now (Err (end.Damaged d)) fits cause = record { later = cause.later; on_ok = tt; failed = λ e. absurd cc }
cause_end before now (Err end.Memory) fits cause = memory_cause before now cause.later

-- a call that is done, whatever it answers
pub done_cause : {T U : Type 0} (before now : ℕ) (x : T) (y : U) → HasPageCause before now (Ok x) → HasPageCause before now (Ok y)
done_cause before now x y cause = record { later = cause.later; on_ok = cause.on_ok; failed = λ e. absurd cc }

-- a fault that is handed on
pub fault_cause : {T U : Type 0} (before now : ℕ) (fault : PageFault) (r : Result U PageFault) → r ≡ Err fault → HasPageCause {T = T} before now (Err fault)
    → HasPageCause before now r
fault_cause before now fault r same cause = subst (HasPageCause before now) (sym same)
    (record { later = cause.later; on_ok = tt; failed = λ e. let same : fault ≡ page.Failed = cc in cause.failed (ap (λ (f : PageFault). Err f) same) })

-- the same fault of another call
pub fault_to : {T U : Type 0} (before now : ℕ) (fault : PageFault) → HasPageCause {T = T} before now (Err fault) → HasPageCause {T = U} before now (Err fault)
fault_to before now fault cause = fault_cause before now fault (Err fault) refl cause

-- ---- no damage

pub whole_add : (r : Result ℕ AddFault) → OnAddDamage r (λ _. ⊥) → NotDamaged (add_answer r)
whole_add (Ok n) whole = tt
whole_add (Err add.Full) whole = tt
whole_add (Err add.Failed) whole = tt
whole_add (Err (add.Damaged d)) whole = whole
whole_add (Err add.Memory) whole = tt

pub whole_begin : {T : Type 0} (r : Result T BeginFault) → OnBeginDamage r (λ _. ⊥) → NotDamaged (begin_answer r)
whole_begin (Ok n) whole = tt
whole_begin (Err begin.Begun) whole = tt
whole_begin (Err begin.Failed) whole = tt
whole_begin (Err (begin.Damaged d)) whole = whole
whole_begin (Err begin.Memory) whole = tt

pub whole_end : {T : Type 0} (r : Result T EndFault) → OnEndDamage r (λ _. ⊥) → NotDamaged (end_answer r)
whole_end (Ok n) whole = tt
whole_end (Err end.NotBegun) whole = tt
whole_end (Err end.Failed) whole = tt
whole_end (Err (end.Damaged d)) whole = whole
whole_end (Err end.Memory) whole = tt
