-- What the two files of a listed segment hold: what one file holds is said of the bytes of that file.
use Rattle.std.specs.Prelude.{◌≡◌, ℕ, true, ◌==◌, if◌then◌else◌, List, [], ◌∷◌, length, map, filter, count_by}
use Rattle.std.specs.List.{flat_map}
use Rattle.point_codec.specs.Points.{Item}
use Rattle.live_bits.specs.LiveSet.{LiveSet, is_live}
use Rattle.documents.specs.Entries.{has_entry}
use Rattle.commit_list.specs.declared.listed.Listed.{Listed}
use Rattle.segment_file.specs.Heads.{Head}
use Rattle.segment_file.specs.Segments.{IsSegment}
use Rattle.segment_file.specs.LiveFiles.{IsLiveFile}

-- a segment: its head, its entries in the order of the leaves, and which numbers are live in it
pub record SegmentData : Type 0 where
  pub head : Head
  pub entries : List Item
  pub live : LiveSet

-- the file of a segment and that of its live bits hold this segment and agree with a commit of these dimensions and
-- this leaf size that lists it so. Each live number is that of an entry
pub record HoldsListed (dims size : ℕ) (s : Listed) (segment_bytes live_bytes : List ℕ) (d : SegmentData) : Type 0 where
  pub segment : IsSegment dims segment_bytes d.head d.entries
  pub live : IsLiveFile s.segment s.generation live_bytes d.live
  pub id : d.head.id ≡ s.segment
  pub leaf_size : d.head.leaf_size ≡ size
  pub count : d.head.entries ≡ s.entries
  pub live_count : length d.live.live ≡ s.live
  pub found : (number : ℕ) → is_live d.live number ≡ true → has_entry number d.entries ≡ true

-- the entries whose number is live
abbrev pub live_entries : SegmentData → List Item
live_entries d = filter (λ x. is_live d.live x.doc) d.entries

-- those of all segments, one after another
abbrev pub all_live_entries : List SegmentData → List Item
all_live_entries parts = flat_map live_entries parts

-- the live numbers of each segment
abbrev pub live_sets : List SegmentData → List LiveSet
live_sets parts = map (λ d. d.live) parts

-- in how many of the sets the number is live
abbrev pub places : ℕ → List LiveSet → ℕ
places number sets = count_by (λ s. is_live s number) sets

-- no number is live in both
abbrev pub AreApart : LiveSet → LiveSet → Type 0
AreApart s t = (number : ℕ) → is_live s number ≡ true → is_live t number ≡ true → ⊥

-- the entries of the segment of this id; where there is no such segment, none
abbrev pub entries_at : List SegmentData → ℕ → List Item
entries_at [] id = []
entries_at (d ∷ ds) id = if d.head.id == id then d.entries else entries_at ds id
