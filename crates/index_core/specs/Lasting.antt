-- That no live number goes which the request doesn't take out, whatever the files hold.
use Rattle.std.specs.Prelude.{◌≡◌, ◌⊎◌, ℕ, true, List, Contains}
use Rattle.outer_io.specs.declared.file_name.FileName.TheVariants.{Segment}
use Rattle.outer_io.specs.Files.{Files}
use Rattle.script_lang.specs.Requests.{Request}
use Rattle.script_lang.specs.Requests as asks
use Rattle.segment_view.specs.LiveSegments.{LiveSegment}
use Rattle.segment_set.specs.Sets.{SetData, is_live_in}
use Rattle.segment_set.specs.Kept.{FindsLive, IsSubset}
use Rattle.segment_set.specs.Losing.{HasNoEntry}
use Rattle.index_core.specs.KeptLive.{KeepsSet}

-- the segment is one of before, with its file as it was and no number more live
pub record WasThere (old new : Files) (parts : List LiveSegment) (p : LiveSegment) : Type 0 where
  pub part : LiveSegment
  pub was : Contains parts part
  pub head : p.head ≡ part.head
  pub within : IsSubset p.live part.live
  pub file : new (Segment part.head.id) ≡ old (Segment part.head.id)

-- Each number that was live is so still, but where no entry has it, or it is one that goes. Each segment of now is one
-- of before, or each live number of it is that of an entry. What this says of one call after another it says of all.
pub record Lasts (D : ℕ) (Goes : ℕ → Type 0) (old new : Files) (s t : SetData) : Type 0 where
  pub live : (number : ℕ) → is_live_in s number ≡ true
      → (is_live_in t number ≡ true) ⊎ (∥ HasNoEntry D old s.parts number ∥₁ ⊎ Goes number)
  pub parts : (p : LiveSegment) → Contains t.parts p → WasThere old new s.parts p ⊎ FindsLive D new p

-- the numbers that a request takes out: the one that is deleted; of a box it isn't said which
abbrev pub TakesOut : Request → ℕ → Type 0
TakesOut (asks.Delete doc) number = number ≡ doc
TakesOut (asks.DeleteBox lo hi) number = Unit {0}
TakesOut _ number = ⊥

-- No live number goes but those: the set has the others, and what is kept is the same, or the new commit has them.
pub record LosesNone (D : ℕ) (Goes : ℕ → Type 0) (old new : Files) (s t : SetData) : Type 0 where
  pub lasts : Lasts D Goes old new s t
  pub kept : KeepsSet D Goes old new s
