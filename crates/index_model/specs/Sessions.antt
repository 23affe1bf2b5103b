-- What a session does with a request.
use Rattle.std.specs.Prelude.{ℕ, ◌≡◌, ◌≤◌, ◌^◌, List, ◌++◌, length, take, Some, Result, Ok, Err}
use Rattle.std.specs.declared.alloc.AllocError.{AllocError}
use Rattle.documents.specs.Documents.{Document}
use Rattle.index_model.specs.State.{Index}
use Rattle.index_model.specs.Step.{Outcome, Done, Refused}
use Rattle.index_model.specs.declared.session.Applied.{Applied}
use Rattle.index_model.specs.declared.session.Applied.TheVariants as applied

-- A session does what the outcome says: it goes on to the state and appends the text, or it is refused for the cause
-- and neither changes. For want of memory the session is as before, and what was appended to the text is not to be
-- used.
abbrev pub Does : Outcome → Index → Index → List ℕ → List ℕ → Result Applied AllocError → Type 0
Does (Done state text) old new before after (Ok applied.Done) = (state ≡ Some new) × (after ≡ before ++ text)
Does (Done state text) old new before after (Ok (applied.Refused why)) = ⊥
Does (Refused cause) old new before after (Ok applied.Done) = ⊥
Does (Refused cause) old new before after (Ok (applied.Refused why)) = (why ≡ cause) × (new ≡ old) × (after ≡ before)
Does (Done state text) old new before after (Err e) = (new ≡ old) × (take (length before) after ≡ before)
Does (Refused cause) old new before after (Err e) = (new ≡ old) × (take (length before) after ≡ before)

-- each document has a number of its own and a point at least, so there are no more documents than numbers, and no more
-- numbers are given than points
pub record AreGiven (next points_given : ℕ) (kept : List Document) : Type 0 where
  pub fewer : next ≤ points_given
  pub limit : points_given ≤ 2 ^ 24
  pub docs : length kept ≤ next
