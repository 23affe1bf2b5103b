-- A command that commits nothing.
use Rattle.std.proofs.Common.{◌≡◌, ℕ, Bool, false, Result, subst}
use Rattle.page_cache.specs.declared.faults.PageFault.{PageFault}
use Rattle.index_model.specs.State.{Index}
use Rattle.index_model.specs.Step.{Outcome}
use Rattle.index_model.specs.declared.session.Applied.{Applied}
use Rattle.index_core.specs.Steps.{Applies, StepMoment}

pub applies_calm : (D : ℕ) (told : Type 0) (outcome : Index → Outcome) (committing : Bool) (old new : StepMoment) (r : Result Applied PageFault)
    → committing ≡ false
    → Applies D told outcome committing old new r → Applies D told outcome false old new r
applies_calm D told outcome committing old new r calm is = subst (λ (b : Bool). Applies D told outcome b old new r) calm is
