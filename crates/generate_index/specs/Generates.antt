-- A session while it generates an index.
use Rattle.std.specs.Prelude.{ℕ, List, Result, OnOk}
use Rattle.page_cache.specs.declared.faults.PageFault.{PageFault}
use Rattle.page_cache.specs.Causes.{HasPageCause}
use Rattle.page_cache.specs.Evidence.{NotDamaged, OnDamage}
use Rattle.documents.specs.Documents.{Document}
use Rattle.index_model.specs.State.{Index, new_index}
use Rattle.stored_index.specs.Kept.{SameKept}
use Rattle.segment_set.specs.Seen.{Sees}
use Rattle.index_opening.specs.Evidence.{IsEvident}
use Rattle.segment_set.specs.Faithful.{IsFaithful}
use Rattle.index_core.specs.Effects.{BringsCanonical}
use Rattle.index_core.specs.Sessions.{Guards, IsSetTraced, Trusts}
use Rattle.index_core.specs.Whole.{SessionMoment}
use Rattle.drawn_points.specs.Generated.{documents, kept_docs}

-- n drawn documents, without those below the bound whose numbers are multiples of 10
abbrev pub drawn_index : (seed n bound : ℕ) → Index
drawn_index seed n bound =
    record (new_index 2 333) { next = n; points_given = n; docs = kept_docs bound (documents seed n) }

-- those that stay in the end
abbrev pub made_docs : (seed n : ℕ) → List Document
made_docs seed n = kept_docs n (documents seed n)

-- the session is seen as that index
abbrev pub IsDrawn : (seed n bound : ℕ) → SessionMoment → Type 0
IsDrawn seed n bound at = Sees 2 at.files at.session.set (drawn_index seed n bound)

-- From the one place to the other the session comes from the one state to the other, where it is done. What is kept
-- stays, and each segment that is written is canonical.
pub record Makes {T : Type 0} (told : Type 0) (Before After : SessionMoment → Type 0) (old new : SessionMoment)
    (result : Result T PageFault) : Type 0 where
  pub made : told → Before old → OnOk result (After new)
  pub guards : told → Guards 2 old.files old.session → Guards 2 new.files new.session
  pub kept : told → Guards 2 old.files old.session → SameKept old.files new.files
  pub canon : told → BringsCanonical 2 old.files new.files old.session.set.parts new.session.set.parts
  pub cause : HasPageCause old.faults new.faults result
  pub whole : told → Before old → NotDamaged result
  pub faithful : told → IsFaithful 2 old.files old.session.set → IsFaithful 2 new.files new.session.set
  pub traced : told → Trusts 2 old.files old.session → IsSetTraced 2 new.files new.session.set
  pub evident : OnDamage result (IsEvident (told × Trusts 2 old.files old.session) new.files)
