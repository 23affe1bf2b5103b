-- What requests leave of the set, whatever the files hold.
use Rattle.std.specs.Prelude.{◌≡◌, ◌⊎◌, ℕ, false, List, ℤ}
use Rattle.outer_io.specs.Files.{Files}
use Rattle.script_lang.specs.Requests.{Request}
use Rattle.script_lang.specs.Requests as asks
use Rattle.segment_set.specs.Sets.{SetData, is_live_in, set_but, set_with}
use Rattle.segment_set.specs.Settles.{Flushes, SetMoment, moment}

-- Choices of the policy were merged and what waited went to a segment, or the first of these steps were taken, each
-- whole. All else is as before but for the list of names, the saved commit and the kept pages.
pub record IsArranged (D : ℕ) (told : Type 0) (files : Files) (s t : SetData) : Type 0 where
  pub at : SetMoment
  pub flushes : Flushes D told (moment files s) at
  pub is : t ≡ record at.set { names = t.names; saved = t.saved; cache = t.cache }

-- and then a document came
pub record HasAdded (D : ℕ) (told : Type 0) (points : List (List ℤ)) (files : Files) (s t : SetData) : Type 0 where
  pub at : SetMoment
  pub flushes : Flushes D told (moment files s) at
  pub is : t ≡ set_with points at.set

-- What a fault leaves: the set as it was, but that segments may be arranged anew. The document that is to go may be
-- gone where it wasn't live.
abbrev pub FaultLeaves : (D : ℕ) (told : Type 0) → Request → (files new_files : Files) → (s t : SetData) → Type 0
FaultLeaves D told (asks.Delete doc) files new_files s t =
    IsArranged D told files s t ⊎ ((is_live_in s doc ≡ false) × (t ≡ set_but doc s))
FaultLeaves D told _ files new_files s t = IsArranged D told files s t
