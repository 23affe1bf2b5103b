-- A fault of a call below, as a fault of an addition, and of the begin or the end of a merge.
use Rattle.std.proofs.Common.{◌≡◌, ℕ, Err, refl, arith}
use Rattle.std.specs.Result.{IsErrOf}
use Rattle.page_cache.specs.Causes.{HasPageCause}
use Rattle.page_cache.specs.Evidence.{OnDamage}
use Rattle.page_cache.specs.declared.faults.Damage.{Damage}
use Rattle.page_cache.specs.declared.faults.PageFault.{PageFault}
use Rattle.page_cache.specs.declared.faults.PageFault.TheVariants as page
use Rattle.segment_set.specs.Faults.{HasCauseOf, OnAddDamage, OnBeginDamage, add_fault, begin_fault, end_fault}
use Rattle.segment_set.specs.declared.faults.AddFault.TheVariants as add
use Rattle.segment_set.specs.declared.faults.BeginFault.TheVariants as begin
use Rattle.segment_set.specs.declared.faults.EndFault.TheVariants as end

-- what the damage shows it shows as the fault of an add too
pub added_damage : (T U : Type 0) (P : Damage → Type 0) (e : PageFault) → OnDamage {T = T} (Err e) P → OnAddDamage {T = U} (Err (add_fault e)) P
added_damage T U P page.Failed h = tt
added_damage T U P (page.Damaged d) h = h
added_damage T U P page.Memory h = tt

-- and what it says of the folder
pub added_cause : {T U : Type 0} (before now : ℕ) (e : PageFault) → HasPageCause {T = T} before now (Err e)
    → HasCauseOf {T = U} add.Failed before now (Err (add_fault e))
added_cause before now page.Failed h = record { later = h.later; on_ok = tt; failed = λ is. h.failed refl }
added_cause before now (page.Damaged d) h = record { later = h.later; on_ok = tt; failed = λ is. absurd cc }
added_cause before now page.Memory h = record { later = h.later; on_ok = tt; failed = λ is. absurd cc }

-- and never that the set is full
pub never_full : {T : Type 0} (e : PageFault) → IsErrOf {T = T} (Err (add_fault e)) add.Full → ⊥
never_full page.Failed is = cc
never_full (page.Damaged d) is = cc
never_full page.Memory is = cc

pub begun_damage : (T U : Type 0) (P : Damage → Type 0) (e : PageFault) → OnDamage {T = T} (Err e) P → OnBeginDamage {T = U} (Err (begin_fault e)) P
begun_damage T U P page.Failed h = tt
begun_damage T U P (page.Damaged d) h = h
begun_damage T U P page.Memory h = tt

pub begun_cause : {T U : Type 0} (before now : ℕ) (e : PageFault) → HasPageCause {T = T} before now (Err e)
    → HasCauseOf {T = U} begin.Failed before now (Err (begin_fault e))
begun_cause before now page.Failed h = record { later = h.later; on_ok = tt; failed = λ is. h.failed refl }
begun_cause before now (page.Damaged d) h = record { later = h.later; on_ok = tt; failed = λ is. absurd cc }
begun_cause before now page.Memory h = record { later = h.later; on_ok = tt; failed = λ is. absurd cc }

pub begun_memory : {T : Type 0} (before now : ℕ) → now ≡ before → HasCauseOf {T = T} begin.Failed before now (Err begin.Memory)
begun_memory before now same = record { later = omega (arith, same); on_ok = tt; failed = λ is. absurd cc }

pub ended_cause : {T U : Type 0} (before now : ℕ) (e : PageFault) → HasPageCause {T = T} before now (Err e)
    → HasCauseOf {T = U} end.Failed before now (Err (end_fault e))
ended_cause before now page.Failed h = record { later = h.later; on_ok = tt; failed = λ is. h.failed refl }
ended_cause before now (page.Damaged d) h = record { later = h.later; on_ok = tt; failed = λ is. absurd cc }
ended_cause before now page.Memory h = record { later = h.later; on_ok = tt; failed = λ is. absurd cc }
