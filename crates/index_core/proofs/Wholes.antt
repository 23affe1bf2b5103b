-- A command that is done as a whole, by what its calls answered.
use Rattle.std.proofs.Common.{ℕ, Bool, List, Result, Err, OnOk, ◌⊎◌}
use Rattle.outer_io.specs.Files.{Files}
use Rattle.page_cache.specs.declared.faults.PageFault.{PageFault}
use Rattle.page_cache.specs.declared.faults.PageFault.TheVariants as page
use Rattle.page_cache.specs.Evidence.{NotDamaged}
use Rattle.index_model.specs.State.{Index, State}
use Rattle.index_model.specs.Script.{Answer}
use Rattle.stored_index.specs.Stored.{IsStored}
use Rattle.segment_set.specs.Seen.{Sees}
use Rattle.index_core.specs.Calls.{IsCommitted, IsDurable, ShowsFault}
use Rattle.index_core.specs.Effects.{BringsCanonical}
use Rattle.index_core.specs.Sessions.{StaysTrue}
use Rattle.index_core.specs.Whole.{DoesWhole, SessionMoment}

-- after a fault that is no damage
pub does_fault : (files : Files) (stored : State) (answer : Answer) (before after : List ℕ) (fault : PageFault) → NotDamaged {T = Bool} (Err fault)
    → IsStored files stored ⊎ IsStored files answer.state → DoesWhole files stored answer before after (Err fault)
does_fault files stored answer before after page.Failed whole h = h
does_fault files stored answer before after page.Memory whole h = h
does_fault files stored answer before after (page.Damaged d) whole h = absurd whole

-- what a commit says of the moments before and after it
pub record CommitSays {T : Type 0} (D : ℕ) (told : Type 0) (b c : SessionMoment) (result : Result T PageFault) : Type 0 where
  pub seen : told → (i : Index) → Sees D b.files b.session.set i → Sees D c.files c.session.set i
  pub stays : StaysTrue D told b.files c.files b.session c.session
  pub durable : IsDurable D told b.files c.files b.session c.session result
  pub done : OnOk result (IsCommitted D told b.files c.files b.session c.session)
  pub canon : told → BringsCanonical D b.files c.files b.session.set.parts c.session.set.parts
  pub faults : ShowsFault D told b.files c.files b.session b.faults c.faults result
