-- What is built of entries, and how it takes the place of segments.
use Rattle.std.specs.Prelude.{◌≡◌, ◌≤◌, ℕ, true, false, List, [], ◌∷◌, length, filter, All}
use Rattle.std.specs.Prelude.{Option, None, Some}
use Rattle.outer_io.specs.declared.file_name.FileName.TheVariants.{Segment}
use Rattle.outer_io.specs.Files.{Files, bytes_of}
use Rattle.point_codec.specs.Points.{Item}
use Rattle.live_bits.specs.LiveSet.{is_live}
use Rattle.documents.specs.Entries.{SameTotals, has_entry}
use Rattle.segment_file.specs.Segments.{IsSegment}
use Rattle.segment_file.specs.Written.{head_of}
use Rattle.segment_view.specs.LiveSegments.{LiveSegment, Contents, AreRead, live_segment, parts_among, parts_but}
use Rattle.segment_view.specs.LiveSegments.{live_in_parts, has_live}
use Rattle.segment_view.specs.LiveSegments.{IsPlaced}
use Rattle.segment_build.specs.NewSegments.{NewSegmentData, HasEntries}
use Rattle.file_names.specs.Names.{NameList, is_named}
use Rattle.segment_set.specs.Sets.{BegunMerge, HasUncrowded}
use Rattle.segment_set.specs.Given.{IsNextName}
use Rattle.segment_set.specs.Faithful.{HasFileHead}
use Rattle.segment_set.specs.Losing.{TakesOver}

-- the live ones of the entries that the segment was built of are these, and each live number is that of one of them
pub record HoldsLive (D : ℕ) (entries : List Item) (n : NewSegmentData) : Type 0 where
  pub items : List Item
  pub has : HasEntries D items n
  pub found : (number : ℕ) → is_live n.live number ≡ true → has_entry number items ≡ true
  pub same : SameTotals entries (filter (λ x. is_live n.live x.doc) items)

-- what was built has these live entries; where there are none, nothing was
abbrev pub MakesLive : ℕ → List Item → Option NewSegmentData → Type 0
MakesLive D entries None = entries ≡ []
MakesLive D entries (Some n) = HoldsLive D entries n

-- a segment was built with this leaf size: it is the canonical tree of some entries, and has some live numbers, no more
-- than entries
pub record IsMade (D size : ℕ) (n : NewSegmentData) : Type 0 where
  pub leaf_size : n.leaf_size ≡ size
  pub has : ∥ HasUncrowded D n ∥₁
  pub fits : length n.live.live ≤ n.entries
  pub some : 1 ≤ length n.live.live

-- the segment as it is under this id
abbrev pub part_at : ℕ → NewSegmentData → LiveSegment
part_at id n = live_segment (head_of id n.entries n.leaf_size n.index) n.live

-- The segment was written under the next id, whose name wasn't in the list and is in it now, and stands in the place
-- of its id among those that are not of these ids, which went.
pub record Swaps (D : ℕ) (told : Type 0) (before after : NameList) (files : Files) (ids : List ℕ) (n : NewSegmentData)
    (old new : List LiveSegment) : Type 0 where
  pub id : ℕ
  pub fresh : is_named before.names (Segment id) ≡ false
  pub named : is_named after.names (Segment id) ≡ true
  pub next : IsNextName before (Segment id) after
  pub placed : IsPlaced (part_at id n) (parts_but ids old) new
  pub written : told → (items : List Item) → HasEntries D items n
      → IsSegment D (bytes_of (files (Segment id))) (part_at id n).head items

-- what was built took the place of the segments of these ids; where nothing was, they only went
abbrev pub Replaces : (D : ℕ) (told : Type 0) (before after : NameList) → Files → (ids : List ℕ) → Option NewSegmentData
    → (old new : List LiveSegment) → Type 0
Replaces D told before after files ids None old new = new ≡ parts_but ids old
Replaces D told before after files ids (Some n) old new = Swaps D told before after files ids n old new

-- what is built has all its entries live
pub record HasLiveEntries (D : ℕ) (n : NewSegmentData) : Type 0 where
  pub items : List Item
  pub has : HasEntries D items n
  pub all : All (λ x. is_live n.live x.doc ≡ true) items

-- a segment was built of what is live in these: each of its numbers is live in one of them
pub record IsGathered (D leaf_size : ℕ) (inputs : List LiveSegment) (n : NewSegmentData) : Type 0 where
  pub made : IsMade D leaf_size n
  pub all : ∥ HasLiveEntries D n ∥₁
  pub within : (number : ℕ) → is_live n.live number ≡ true → has_live number inputs ≡ true

-- no live number is lost and no entry comes from nowhere, where the heads of these segments, some of which are inputs,
-- are those of their files
abbrev pub LosesNone : (D : ℕ) (told : Type 0) (files : Files) (ids : List ℕ) (parts : List LiveSegment)
    → Option NewSegmentData → Type 0
LosesNone D told files ids parts built =
    told → All (HasFileHead D files) parts → TakesOver D files (parts_among ids parts) built

-- what is built of the inputs of a merge that is begun: no entry of it is dead, and no live number is lost
pub record Collects (D leaf_size : ℕ) (told : Type 0) (files : Files) (parts : List LiveSegment) (b : BegunMerge)
    : Type 0 where
  pub gathered : (n : NewSegmentData) → b.built ≡ Some n → IsGathered D leaf_size (parts_among b.inputs parts) n
  pub loses : LosesNone D told files b.inputs parts b.built

-- The live entries of the segments of these ids were read and a segment was built of them, which took their place;
-- where there were none, the segments only went.
pub record IsMerged (D : ℕ) (told : Type 0) (leaf_size : ℕ) (before after : NameList) (files new_files : Files)
    (ids : List ℕ) (old new : List LiveSegment) : Type 0 where
  pub built : Option NewSegmentData
  pub replaces : Replaces D told before after new_files ids built old new
  pub unnamed : built ≡ None → after ≡ before
  pub gathered : (n : NewSegmentData) → built ≡ Some n → IsGathered D leaf_size (parts_among ids old) n
  pub makes : told → (c : Contents) → AreRead D files c old
      → MakesLive D (live_in_parts c (parts_among ids old)) built
  pub loses : LosesNone D told files ids old built

-- what was built, where any number of it is live
abbrev pub with_live : List ℕ → NewSegmentData → Option NewSegmentData
with_live [] n = None
with_live (number ∷ numbers) n = Some n

abbrev pub living : Option NewSegmentData → Option NewSegmentData
living None = None
living (Some n) = with_live n.live.live n

-- these entries, as those of the buffer, went to a segment, all of whose entries are live
pub record IsBufferWritten (D : ℕ) (told : Type 0) (leaf_size : ℕ) (before after : NameList) (new_files : Files)
    (buffer : List Item) (old new : List LiveSegment) : Type 0 where
  pub n : NewSegmentData
  pub made : IsMade D leaf_size n
  pub put : Swaps D told before after new_files [] n old new
  pub live : is_live n.live ≡ (λ number. has_entry number buffer)
  pub holds : HoldsLive D buffer n
  pub all : ∥ HasLiveEntries D n ∥₁
