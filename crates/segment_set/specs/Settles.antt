-- What settling and flushing leave, also where they fail on the way: merges of the policy that are done, each whole.
use Rattle.std.specs.Prelude.{◌≡◌, ◌⊎◌, ℕ, List, [], ◌∷◌, map, slice_index}
use Rattle.outer_io.specs.Files.{Files}
use Rattle.merge_policy.specs.Choice.{IsChoice}
use Rattle.segment_view.specs.LiveSegments.{ids_of}
use Rattle.segment_set.specs.Sets.{SetData, pins_of, sizes_of}
use Rattle.segment_set.specs.Kept.{IsAsBefore, StaysButParts}
use Rattle.segment_set.specs.Merges.{IsMerged, IsBufferWritten}

-- a set with the files of its folder
pub record SetMoment : Type 0 where
  pub files : Files
  pub set : SetData

abbrev pub moment : Files → SetData → SetMoment
moment files set = record { files = files; set = set }

-- the segments of these ids were merged into one at most
pub record MergesParts (D : ℕ) (told : Type 0) (ids : List ℕ) (old new : SetMoment) : Type 0 where
  pub merged : IsMerged D told old.set.leaf_size old.set.names new.set.names old.files new.files ids
      old.set.parts new.set.parts
  pub rest : StaysButParts old.set new.set

-- those that the policy chooses
pub record MergesChoice (D : ℕ) (told : Type 0) (old new : SetMoment) : Type 0 where
  pub positions : List ℕ
  pub choice : IsChoice (sizes_of old.set.parts) (pins_of old.set.begun old.set.parts) positions
  pub merges : MergesParts D told (map (slice_index (ids_of old.set.parts)) positions) old new

-- choices of the policy are merged one after another, by way of these moments
abbrev pub MergesChoices : ℕ → (told : Type 0) → SetMoment → List SetMoment → SetMoment → Type 0
MergesChoices D told old [] new = new ≡ old
MergesChoices D told old (mid ∷ spots) new = MergesChoice D told old mid × MergesChoices D told mid spots new

-- choices of the policy were merged, one after another; no other segment is changed, and nothing else of the set
pub record Settles (D : ℕ) (told : Type 0) (old new : SetMoment) : Type 0 where
  pub spots : List SetMoment
  pub merges : MergesChoices D told old spots new

-- what waited in the buffer went to a segment
pub record WritesBuffer (D : ℕ) (told : Type 0) (old new : SetMoment) : Type 0 where
  pub written : IsBufferWritten D told old.set.leaf_size old.set.names new.set.names new.files old.set.buffer
      old.set.parts
      new.set.parts
  pub rest : new.set ≡ record old.set { names = new.set.names; parts = new.set.parts; buffer = [] }

-- and then the buffer went to a segment, or it stayed
pub record Flushes (D : ℕ) (told : Type 0) (old new : SetMoment) : Type 0 where
  pub mid : SetMoment
  pub settles : Settles D told old mid
  pub writes : (new ≡ mid) ⊎ WritesBuffer D told mid new

-- the set is as it was at such a moment, but that files may have been named since
abbrev pub IsLeft : (SetMoment → Type 0) → SetData → Type 0
IsLeft P new = (s : SetMoment) × P s × IsAsBefore s.set new
