-- The index that a set shows together with the files of its folder.
use Rattle.std.specs.Prelude.{◌≡◌, ◌≤◌, ℕ, true, List, [], ◌++◌, length, filter, All, Option, None, Some, is_some}
use Rattle.std.specs.List.{AllZip}
use Rattle.outer_io.specs.Files.{Files}
use Rattle.point_codec.specs.Points.{Item}
use Rattle.live_bits.specs.LiveSet.{is_live}
use Rattle.documents.specs.Entries.{AreDocs, SameTotals, has_entry}
use Rattle.page_cache.specs.Cache.{Agrees}
use Rattle.index_model.specs.State.{Index, Snapshot}
use Rattle.segment_view.specs.LiveSegments.{LiveSegment, Contents, AreRead, live_in_parts, parts_among}
use Rattle.segment_build.specs.NewSegments.{NewSegmentData, HasEntries}
use Rattle.segment_set.specs.Sets.{NamedView, BegunMerge, SetData}

-- the live entries of the segments, and the buffer
abbrev pub entries_seen : Contents → List LiveSegment → List Item → List Item
entries_seen c parts buffer = live_in_parts c parts ++ buffer

-- the built entries whose number is live are just the live entries of the inputs, each once
pub record IsMergeOf (D : ℕ) (c : Contents) (inputs : List LiveSegment) (n : NewSegmentData) : Type 0 where
  pub items : List Item
  pub has : HasEntries D items n
  pub found : (number : ℕ) → is_live n.live number ≡ true → has_entry number items ≡ true
  pub same : SameTotals (live_in_parts c inputs) (filter (λ x. is_live n.live x.doc) items)

abbrev pub MergesInto : ℕ → Contents → List LiveSegment → Option NewSegmentData → Type 0
MergesInto D c inputs None = live_in_parts c inputs ≡ []
MergesInto D c inputs (Some n) = IsMergeOf D c inputs n

abbrev pub BegunStands : ℕ → Contents → List LiveSegment → Option BegunMerge → Type 0
BegunStands D c parts None = Unit {0}
BegunStands D c parts (Some b) = MergesInto D c (parts_among b.inputs parts) b.built

-- The set stands over the files, whose segments have these entries: each segment of each view is read from its file,
-- each of its live numbers is that of one of its entries, a begun merge has built what its inputs have, and the kept
-- pages are those of the files.
pub record StandsOver (D : ℕ) (files : Files) (c : Contents) (s : SetData) : Type 0 where
  pub now : AreRead D files c s.parts
  pub kept : All (λ v. AreRead D files c v.parts) s.snapshots
  pub begun : BegunStands D c s.parts s.begun
  pub agrees : Agrees files s.cache

-- the view shows the snapshot's documents
pub record ShowsSnapshot (c : Contents) (next : ℕ) (v : NamedView) (t : Snapshot) : Type 0 where
  pub name : v.name ≡ t.name
  pub docs : AreDocs next (entries_seen c v.parts v.buffer) t.docs

-- The set stands over the files, and with them it is seen as this index: its documents are those of the live entries.
-- It is seen as one index only.
pub record Sees (D : ℕ) (files : Files) (s : SetData) (i : Index) : Type 0 where
  pub contents : Contents
  pub stands : StandsOver D files contents s
  pub dims : i.dims ≡ D
  pub leaf_size : i.leaf_size ≡ s.leaf_size
  pub next : i.next ≡ s.next
  pub points_given : i.points_given ≡ s.points_given
  pub begun : i.begun ≡ is_some s.begun
  pub docs : AreDocs s.next (entries_seen contents s.parts s.buffer) i.docs
  pub few : length (entries_seen contents s.parts s.buffer) ≤ s.points_given
  pub snapshots : AllZip (ShowsSnapshot contents s.next) s.snapshots i.snapshots
