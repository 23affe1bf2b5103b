-- What the calls of a set leave as it is.
use Rattle.std.specs.Prelude.{◌≡◌, ℕ, true, false, ◌⊎◌, List, [], length, map, Contains, None, is_some}
use Rattle.std.specs.List.{AllZip}
use Rattle.outer_io.specs.declared.file_name.FileName.{FileName}
use Rattle.outer_io.specs.declared.file_name.FileName.TheVariants.{Commit, Segment}
use Rattle.outer_io.specs.Files.{Files, bytes_of}
use Rattle.point_codec.specs.Points.{Item}
use Rattle.live_bits.specs.LiveSet.{LiveSet, is_live}
use Rattle.documents.specs.Entries.{has_entry}
use Rattle.commit_list.specs.Commits.{CommitData}
use Rattle.stored_index.specs.Kept.{ListsFile}
use Rattle.segment_file.specs.Heads.{Head}
use Rattle.segment_file.specs.Segments.{IsSegment}
use Rattle.segment_view.specs.LiveSegments.{LiveSegment, ids_of}
use Rattle.document_checks.specs.Crowded.{AreUncrowded}
use Rattle.segment_build.specs.NewSegments.{IsCanonical}
use Rattle.file_names.specs.Names.{NameList, is_named}
use Rattle.segment_set.specs.Given.{AreNext}
use Rattle.segment_set.specs.Sets.{NamedView, SetData, is_live_in, sizes_of}

-- Names are only added, each the one that its rule gives, and a file that is changed has a name that was added: no
-- named file is, and not the Commit file.
pub record KeepsNamed (told : Type 0) (old new : NameList) (before after : Files) : Type 0 where
  pub given : (names : List FileName) × AreNext old names new
  pub more : (m : FileName) → is_named old.names m ≡ true → is_named new.names m ≡ true
  pub files : told → (m : FileName) → is_named old.names m ≡ true → after m ≡ before m
  pub others : told → (m : FileName) → is_named new.names m ≡ false → after m ≡ before m
  pub own : is_named new.names Commit ≡ is_named old.names Commit
  pub commit : told → after Commit ≡ before Commit

-- of the set alone: it is seen as before, but that no number is live that wasn't
pub record StaysAlone (old new : SetData) : Type 0 where
  pub leaf_size : new.leaf_size ≡ old.leaf_size
  pub next : new.next ≡ old.next
  pub points_given : new.points_given ≡ old.points_given
  pub snapshots : new.snapshots ≡ old.snapshots
  pub begun : is_some new.begun ≡ is_some old.begun
  pub live : (number : ℕ) → is_live_in new number ≡ true → is_live_in old number ≡ true

-- a segment of a view needs the file
abbrev pub ViewNeeds : List LiveSegment → FileName → Type 0
ViewNeeds parts name = (p : LiveSegment) × Contains parts p × (name ≡ Segment p.head.id)

-- a view needs the file, or the commit lists it. A begun merge needs its inputs alone, which are segments of now
abbrev pub IsNeeded : SetData → CommitData → FileName → Type 0
IsNeeded s c name = ListsFile c name ⊎ ViewNeeds s.parts name
    ⊎ ((v : NamedView) × Contains s.snapshots v × ViewNeeds v.parts name)

-- no number is live in the first that isn't in the second; base and span are the same
pub record IsSubset (s t : LiveSet) : Type 0 where
  pub base : s.base ≡ t.base
  pub span : s.span ≡ t.span
  pub live : (number : ℕ) → is_live s number ≡ true → is_live t number ≡ true

-- each segment of now is one of before, with no number more live, or its file has a name that wasn't in the list
pub record Follows (names : NameList) (old new : List LiveSegment) : Type 0 where
  pub each : (p : LiveSegment) → Contains new p → (is_named names.names (Segment p.head.id) ≡ false)
      ⊎ ((q : LiveSegment) × Contains old q × (p.head ≡ q.head) × IsSubset p.live q.live)

-- the file of this head has entries of which it is the canonical tree, with the index in form 3, and which are such as
-- documents have
abbrev pub HasCanonical : ℕ → Files → Head → Type 0
HasCanonical D files head =
    ∥ ((items : List Item) × IsSegment D (bytes_of (files (Segment head.id))) head items × IsCanonical D head items
    × AreUncrowded items) ∥₁

-- each live number of the segment is that of an entry that its file holds
abbrev pub FindsLive : ℕ → Files → LiveSegment → Type 0
FindsLive D files p = (number : ℕ) → is_live p.live number ≡ true → (items : List Item)
    → IsSegment D (bytes_of (files (Segment p.head.id))) p.head items → has_entry number items ≡ true

-- the segment is as a merge or a flush writes it: the canonical tree of entries, and each live number is that of one
pub record IsCanonicalPart (D : ℕ) (files : Files) (p : LiveSegment) : Type 0 where
  pub canon : HasCanonical D files p.head
  pub found : FindsLive D files p

-- so is each segment whose file has a name that wasn't in the list
abbrev pub AreCanonical : ℕ → Files → NameList → List LiveSegment → Type 0
AreCanonical D files names parts = (p : LiveSegment) → Contains parts p
    → is_named names.names (Segment p.head.id) ≡ false
    → IsCanonicalPart D files p

-- the set is as the commit says: its numbers, its segments with as many live numbers each, and nothing waits in the
-- buffer
pub record IsAsCommitted (s : SetData) (c : CommitData) : Type 0 where
  pub next : s.next ≡ c.next
  pub points_given : s.points_given ≡ c.points_given
  pub ids : ids_of s.parts ≡ map (λ l. l.segment) c.listed
  pub counts : map (λ p. length p.live.live) s.parts ≡ map (λ l. l.live) c.listed
  pub empty : s.buffer ≡ []

-- the commit lists just the segments of now, each with its entries and its number of live numbers, and all its files
-- are named
pub record IsCommitOf (D : ℕ) (s : SetData) (c : CommitData) : Type 0 where
  pub dims : c.dims ≡ D
  pub leaf_size : c.leaf_size ≡ s.leaf_size
  pub next : c.next ≡ s.next
  pub points_given : c.points_given ≡ s.points_given
  pub next_segment : c.next_segment ≡ s.names.next_segment
  pub lists : AllZip
      (λ l p. (l.segment ≡ p.head.id) × (l.entries ≡ p.head.entries) × (l.live ≡ length p.live.live)) c.listed s.parts
  pub named : (m : FileName) → ListsFile c m → is_named s.names.names m ≡ true

-- all but the cache is as before
pub record StaysButCache (old new : SetData) : Type 0 where
  pub is : new ≡ record old { cache = new.cache }

-- all but the list of names and the cache is as before: so a call leaves the set that was refused, or failed after it
-- had named a file
pub record IsAsBefore (old new : SetData) : Type 0 where
  pub is : new ≡ record old { names = new.names; cache = new.cache }

-- all but the segments, the list of names and the cache is as before
pub record StaysButParts (old new : SetData) : Type 0 where
  pub is : new ≡ record old { names = new.names; parts = new.parts; cache = new.cache }

-- all but the begun merge and the cache is as before
pub record StaysButMerge (old new : SetData) : Type 0 where
  pub is : new ≡ record old { begun = new.begun; cache = new.cache }

-- all but the list of names and the cache is as before
pub record StaysButFiles (old new : SetData) : Type 0 where
  pub is : new ≡ record old { names = new.names; cache = new.cache }
  pub next_segment : new.names.next_segment ≡ old.names.next_segment

-- the set is as the commit says, without snapshots, a begun merge or a save
pub record IsAtRest (s : SetData) (c : CommitData) : Type 0 where
  pub leaf_size : s.leaf_size ≡ c.leaf_size
  pub as_committed : IsAsCommitted s c
  pub entries : sizes_of s.parts ≡ map (λ l. l.entries) c.listed
  pub next_segment : s.names.next_segment ≡ c.next_segment
  pub snapshots : s.snapshots ≡ []
  pub begun : s.begun ≡ None
  pub saved : s.saved ≡ None
