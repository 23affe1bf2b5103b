-- An exit by `?`: the call answers an error, which is the fault of the call below, or want of memory.
use Rattle.std.proofs.Common.{◌≡◌, ℕ, Result, Ok, Err, refl, sym, ap, subst, ◌∙◌, IfOk, arith}
use Rattle.std.specs.Result.{IsErrAnd, IsErrOf, OnErr, OnOk}
use Rattle.page_cache.specs.Causes.{HasPageCause}
use Rattle.page_cache.specs.Evidence.{FaultShows, OnDamage}
use Rattle.page_cache.specs.declared.faults.Damage.{Damage}
use Rattle.page_cache.specs.declared.faults.PageFault.{PageFault}
use Rattle.page_cache.specs.declared.faults.PageFault.TheVariants as page
use Rattle.segment_set.specs.Faults.{HasCauseOf, OnAddDamage, add_fault}
use Rattle.segment_set.specs.declared.faults.AddFault.{AddFault}
use Rattle.segment_set.specs.declared.faults.AddFault.TheVariants as add
use Rattle.segment_set.proofs.Causes.{memory_cause}
use Rattle.segment_set.proofs.Faulted.{added_cause, added_damage, never_full}

-- a result that is an error says nothing of a value
pub never_ok : {T E : Type 0} (Q : E → Type 0) (r : Result T E) → IsErrAnd r Q → (P : Type 0) → OnOk r P
never_ok Q (Ok x) h P = absurd h
never_ok Q (Err e) h P = tt

pub never_value : {T E : Type 0} (Q : E → Type 0) (r : Result T E) → IsErrAnd r Q → (P : T → Type 0) → IfOk r P
never_value Q (Ok x) h P = absurd h
never_value Q (Err e) h P = tt

pub at_error : {T E : Type 0} (Q : E → Type 0) (r : Result T E) → IsErrAnd r Q → (P : Type 0) → P → OnErr r P
at_error Q (Ok x) h P p = absurd h
at_error Q (Err e) h P p = p

-- ---- the fault below

pub same_damage : {T : Type 0} (P : Damage → Type 0) (f : PageFault) (r : Result T PageFault) → IsErrAnd r (λ y. y ≡ f) → FaultShows P f → OnDamage r P
same_damage P f (Ok x) h shows = absurd h
same_damage P f (Err e) h shows = subst (FaultShows P) (sym h) shows

other_value : {T U : Type 0} (before now : ℕ) (f : PageFault) → HasPageCause {T = U} before now (Err f) → HasPageCause {T = T} before now (Err f)
other_value before now page.Failed cause = record { later = cause.later; on_ok = tt; failed = λ is. cause.failed refl }
other_value before now (page.Damaged d) cause = record { later = cause.later; on_ok = tt; failed = λ is. absurd cc }
other_value before now page.Memory cause = record { later = cause.later; on_ok = tt; failed = λ is. absurd cc }

pub same_cause : {T U : Type 0} (before now : ℕ) (f : PageFault) (r : Result T PageFault) → IsErrAnd r (λ y. y ≡ f) → HasPageCause {T = U} before now (Err f)
    → HasPageCause before now r
same_cause before now f (Ok x) h cause = absurd h
same_cause {T} {U} before now f (Err e) h cause =
    subst (λ (y : PageFault). HasPageCause {T = T} before now (Err y)) (sym h) (other_value {T = T} {U = U} before now f cause)

-- ---- want of memory

pub memory_damage : {T : Type 0} (P : Damage → Type 0) (r : Result T PageFault) → IsErrAnd r (λ y. y ≡ page.Memory) → OnDamage r P
memory_damage P (Ok x) h = absurd h
memory_damage P (Err e) h = subst (FaultShows P) (sym h) tt

pub memory_caused : {T : Type 0} (before now : ℕ) (r : Result T PageFault) → IsErrAnd r (λ y. y ≡ page.Memory) → now ≡ before → HasPageCause before now r
memory_caused before now (Ok x) h same = absurd h
memory_caused {T} before now (Err e) h same = subst (λ (y : PageFault). HasPageCause {T = T} before now (Err y)) (sym h) (memory_cause before now same)

-- ---- where no document is added

pub add_damage : {T : Type 0} (P : Damage → Type 0) (f : PageFault) (r : Result T AddFault) → IsErrAnd r (λ y. y ≡ add_fault f) → FaultShows P f
    → OnAddDamage r P
add_damage P f (Ok x) h shows = absurd h
add_damage {T} P f (Err e) h shows = subst (λ (y : AddFault). OnAddDamage {T = T} (Err y) P) (sym h) (added_damage (Unit {0}) T P f shows)

pub add_cause : {T U : Type 0} (before now : ℕ) (f : PageFault) (r : Result T AddFault) → IsErrAnd r (λ y. y ≡ add_fault f)
    → HasPageCause {T = U} before now (Err f) → HasCauseOf add.Failed before now r
add_cause before now f (Ok x) h cause = absurd h
add_cause {T} {U} before now f (Err e) h cause =
    subst (λ (y : AddFault). HasCauseOf {T = T} add.Failed before now (Err y)) (sym h) (added_cause {T = U} {U = T} before now f cause)

pub add_not_full : {T : Type 0} (f : PageFault) (r : Result T AddFault) → IsErrAnd r (λ y. y ≡ add_fault f) → IsErrOf r add.Full → ⊥
add_not_full f (Ok x) h is = absurd h
add_not_full {T} f (Err e) h is = never_full {T = T} f (ap (λ (y : AddFault). Err y) (sym h) ∙ is)

pub add_memory_damage : {T : Type 0} (P : Damage → Type 0) (r : Result T AddFault) → IsErrAnd r (λ y. y ≡ add.Memory) → OnAddDamage r P
add_memory_damage P (Ok x) h = absurd h
add_memory_damage {T} P (Err e) h = subst (λ (y : AddFault). OnAddDamage {T = T} (Err y) P) (sym h) tt

pub add_memory_cause : {T : Type 0} (before now : ℕ) (r : Result T AddFault) → IsErrAnd r (λ y. y ≡ add.Memory) → now ≡ before
    → HasCauseOf add.Failed before now r
add_memory_cause before now (Ok x) h same = absurd h
add_memory_cause {T} before now (Err e) h same =
    subst (λ (y : AddFault). HasCauseOf {T = T} add.Failed before now (Err y)) (sym h)
    (record { later = omega (arith, same); on_ok = tt; failed = λ is. absurd cc })

pub add_memory_not_full : {T : Type 0} (r : Result T AddFault) → IsErrAnd r (λ y. y ≡ add.Memory) → IsErrOf r add.Full → ⊥
add_memory_not_full (Ok x) h is = absurd h
add_memory_not_full (Err e) h is = cc

pub full_cause : {T : Type 0} (n : ℕ) → HasCauseOf {T = T} add.Failed n n (Err add.Full)
full_cause n = record { later = omega arith; on_ok = tt; failed = λ is. absurd cc }

pub added_caused : {T : Type 0} (before now : ℕ) (x : T) → now ≡ before → HasCauseOf add.Failed before now (Ok x)
added_caused before now x same = record { later = omega (arith, same); on_ok = same; failed = λ is. absurd cc }
