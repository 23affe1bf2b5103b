-- What a set holds fits files that stay.
use Rattle.std.proofs.Common.{ℕ, Bool, Option, None, Some, Result}
use Rattle.page_cache.specs.declared.faults.PageFault.{PageFault}
use Rattle.run_status.specs.Told.{Told}
use Rattle.explain_queries.specs.Explained.{Scope}
use Rattle.explain_queries.specs.Explains.{ExplainFits, Explains, ExplainMoment}

pub fits_stay : (D : ℕ) (told : Type 0) (tells : Scope → Told → Type 0) (old new : ExplainMoment) (r : Result Bool PageFault) → Explains D told tells old new r
    → told → (s : Option Scope) → ExplainFits D old.files old.set s → ExplainFits D new.files new.set s
fits_stay D told tells old new r h t None knows = h.knows t knows
fits_stay D told tells old new r h t (Some s) e = h.stays t s e
