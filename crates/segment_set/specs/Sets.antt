-- What contracts see of a set of segments.
use Rattle.std.specs.Prelude.{◌≡◌, ◌≤◌, ◌<◌, ◌+◌, ◌^◌, ℕ, Bool, true, false, if◌then◌else◌, List, [], ◌∷◌, ◌++◌, map}
use Rattle.std.specs.Prelude.{length, not, filter, find, All, Option, None, Some, ℤ}
use Rattle.std.specs.List.{list_any}
use Rattle.std.specs.List.Sorted.{IsNonDecreasingBy}
use Rattle.std.specs.Str.{bytes_eq}
use Rattle.outer_io.specs.declared.file_name.FileName.TheVariants.{Commit, Segment}
use Rattle.point_codec.specs.Points.{Item}
use Rattle.leaf_codec.specs.Leaves.{leaf_limit}
use Rattle.leaf_codec.specs.LeafOrder.{NoneTwice}
use Rattle.live_bits.specs.LiveSet.{is_live, live_set_without}
use Rattle.documents.specs.Entries.{entries_but, entries_of, has_entry, is_among}
use Rattle.page_cache.specs.declared.cache.PageCache.{PageCache}
use Rattle.page_cache.specs.Cache.{KeepsFile}
use Rattle.commit_list.specs.Commits.{CommitData}
use Rattle.merge_policy.specs.Choice.{free_count}
use Rattle.stored_index.specs.Segments.{places}
use Rattle.segment_view.specs.Unhidden.{HidesNoneOf}
use Rattle.segment_view.specs.LiveSegments.{LiveSegment, cleared_parts, lives_of, ids_of, parts_among}
use Rattle.document_checks.specs.Crowded.{AreFew, AreUncrowded}
use Rattle.segment_build.specs.NewSegments.{NewSegmentData, HasEntries}
use Rattle.file_names.specs.Names.{NameList, is_named}

-- a view that is kept under a name: its segments as they were live then, and what was in the buffer
pub record NamedView : Type 0 where
  pub name : List ℕ
  pub parts : List LiveSegment
  pub buffer : List Item

-- a merge that is begun: the ids of its inputs, and the segment that is built of their live entries; None, where there
-- was none
pub record BegunMerge : Type 0 where
  pub inputs : List ℕ
  pub built : Option NewSegmentData

-- a set: the leaf size, the next number, the points given, its list of names, the segments and the buffer of now, the
-- snapshots, the begun merge, its cache, and the commit that the last save answered
pub record SetData : Type 0 where
  pub leaf_size : ℕ
  pub next : ℕ
  pub points_given : ℕ
  pub names : NameList
  pub parts : List LiveSegment
  pub buffer : List Item
  pub snapshots : List NamedView
  pub begun : Option BegunMerge
  pub cache : PageCache
  pub saved : Option CommitData

-- the ids of the inputs of the begun merge; none, where none is begun
abbrev pub inputs_of : Option BegunMerge → List ℕ
inputs_of None = []
inputs_of (Some b) = b.inputs

-- the segment that a begun merge has built
abbrev pub built_of : Option BegunMerge → Option NewSegmentData
built_of None = None
built_of (Some b) = b.built

-- the number of entries of each segment, live or dead
abbrev pub sizes_of : List LiveSegment → List ℕ
sizes_of parts = map (λ p. p.head.entries) parts

-- which segments are inputs of the begun merge
abbrev pub pins_of : Option BegunMerge → List LiveSegment → List Bool
pins_of begun parts = map (λ p. is_among (inputs_of begun) p.head.id) parts

-- the policy chooses nothing: of no level there are ten segments that are no inputs of the begun merge
abbrev pub IsSettled : SetData → Type 0
IsSettled s = (level : ℕ) → free_count level (sizes_of s.parts) (pins_of s.begun s.parts) < 10

-- the number is live in a segment, or stands in the buffer
abbrev pub is_live_in : SetData → ℕ → Bool
is_live_in s number = if list_any (λ p. is_live p.live number) s.parts then true else has_entry number s.buffer

-- the set without the document of this number: it is live in no segment, has no entry in the buffer, and is live in no
-- segment that is built
abbrev pub built_but : ℕ → Option NewSegmentData → Option NewSegmentData
built_but number None = None
built_but number (Some n) = Some (record n { live = live_set_without number n.live })

abbrev pub begun_but : ℕ → Option BegunMerge → Option BegunMerge
begun_but number None = None
begun_but number (Some b) = Some (record b { built = built_but number b.built })

abbrev pub set_but : ℕ → SetData → SetData
set_but number s =
    record s {
      parts = cleared_parts number s.parts;
      buffer = entries_but number s.buffer;
      begun = begun_but number
          s.begun;
    }

-- the set with one more document, of the next number, which waits in the buffer
abbrev pub set_with : List (List ℤ) → SetData → SetData
set_with points s =
    record s {
      next = s.next + 1;
      points_given = s.points_given + length points;
      buffer = s.buffer ++ entries_of
          (record { number = s.next; points = points });
    }

-- the set with a snapshot more, of what is live now
abbrev pub set_snapped : List ℕ → SetData → SetData
set_snapped name s = record s {
  snapshots = s.snapshots ++ record { name = name; parts = s.parts; buffer = s.buffer } ∷ [];
}

-- the set without the snapshot of this name
abbrev pub set_released : List ℕ → SetData → SetData
set_released name s = record s { snapshots = filter (λ v. not (bytes_eq v.name name)) s.snapshots }

-- ---- what a query looks at: what is live now, or what a snapshot keeps

-- a snapshot has this name
abbrev pub has_name : List ℕ → List NamedView → Bool
has_name name views = list_any (λ v. bytes_eq v.name name) views

-- the snapshot of this name
abbrev pub view_of : List ℕ → List NamedView → Option NamedView
view_of name views = find (λ v. bytes_eq v.name name) views

-- the segments and the buffer of a view; none, where there is no such view
abbrev pub parts_in : Option NamedView → List LiveSegment
parts_in None = []
parts_in (Some v) = v.parts

abbrev pub buffer_in : Option NamedView → List Item
buffer_in None = []
buffer_in (Some v) = v.buffer

-- those of now, where no name is given, or of the snapshot of a name
abbrev pub parts_at : Option (List ℕ) → List LiveSegment → List NamedView → List LiveSegment
parts_at None parts views = parts
parts_at (Some name) parts views = parts_in (view_of name views)

abbrev pub buffer_at : Option (List ℕ) → List Item → List NamedView → List Item
buffer_at None buffer views = buffer
buffer_at (Some name) buffer views = buffer_in (view_of name views)

abbrev pub viewed_parts : Option (List ℕ) → SetData → List LiveSegment
viewed_parts view s = parts_at view s.parts s.snapshots

abbrev pub viewed_buffer : Option (List ℕ) → SetData → List Item
viewed_buffer view s = buffer_at view s.buffer s.snapshots

-- the view is that of now, or there is a snapshot of its name
abbrev pub IsThere : Option (List ℕ) → List NamedView → Type 0
IsThere None views = Unit {0}
IsThere (Some name) views = has_name name views ≡ true

abbrev pub HasView : Option (List ℕ) → SetData → Type 0
HasView view s = IsThere view s.snapshots

-- ---- what every set keeps to, whatever the files say

-- no number is live in two of the segments
abbrev pub AreAlone : List LiveSegment → Type 0
AreAlone parts = (number : ℕ) → places number (lives_of parts) ≤ 1

-- each number is live in one segment alone or stands in the buffer alone, and no number is that wasn't given
pub record IsSpread (next : ℕ) (parts : List LiveSegment) (buffer : List Item) : Type 0 where
  pub alone : (number : ℕ) → places number (lives_of parts) + (if has_entry number buffer then 1 else 0) ≤ 1
  pub below : (number : ℕ) → next ≤ number → (places number (lives_of parts) ≡ 0) × (has_entry number buffer ≡ false)

-- the segment's file is in the list of names
abbrev pub IsNamed : NameList → LiveSegment → Type 0
IsNamed names p = is_named names.names (Segment p.head.id) ≡ true

-- a segment was built of entries such as documents have, and each live number of it is that of one
pub record HasUncrowded (D : ℕ) (n : NewSegmentData) : Type 0 where
  pub items : List Item
  pub has : HasEntries D items n
  pub uncrowded : AreUncrowded items
  pub found : (number : ℕ) → is_live n.live number ≡ true → has_entry number items ≡ true

-- a segment was built with the leaf size: it is the canonical tree of some entries, has no more live numbers than
-- entries, and each of them is live in an input
pub record IsBuiltOf (D size : ℕ) (inputs : List LiveSegment) (n : NewSegmentData) : Type 0 where
  pub leaf_size : n.leaf_size ≡ size
  pub has : ∥ HasUncrowded D n ∥₁
  pub fits : length n.live.live ≤ n.entries
  pub within : (number : ℕ) → is_live n.live number ≡ true → list_any (λ p. is_live p.live number) inputs ≡ true

-- what every set keeps to, where at most so many entries wait
pub record IsWellTo (most D : ℕ) (s : SetData) : Type 0 where
  pub some_dims : 1 ≤ D
  pub few_dims : D ≤ 8
  pub least_leaf : 2 ≤ s.leaf_size
  pub greatest_leaf : s.leaf_size ≤ leaf_limit D
  pub numbered : s.next ≤ s.points_given
  pub most_given : s.points_given ≤ 2 ^ 24
  pub spread : IsSpread s.next s.parts s.buffer
  pub room : length s.buffer ≤ most
  pub ordered : IsNonDecreasingBy (λ x. x.doc) s.buffer
  pub once : NoneTwice s.buffer
  pub sixteen : AreFew s.buffer
  pub few : length s.parts ≤ 200
  pub leaf_size : All (λ p. p.head.leaf_size ≡ s.leaf_size) s.parts
  pub live_fits : All (λ p. length p.live.live ≤ p.head.entries) s.parts
  pub named : All (IsNamed s.names) s.parts
  pub kept : All (λ v. All (IsNamed s.names) v.parts) s.snapshots
  pub own : is_named s.names.names Commit ≡ false
  pub few_snapshots : length s.snapshots ≤ 16
  pub rooms : All (λ v. length v.buffer ≤ 16384) s.snapshots
  pub inputs : All (λ id. is_among (ids_of s.parts) id ≡ true) (inputs_of s.begun)
  pub few_inputs : length (inputs_of s.begun) ≤ 64
  pub built : (n : NewSegmentData) → built_of s.begun ≡ Some n
      → IsBuiltOf D s.leaf_size (parts_among (inputs_of s.begun) s.parts) n
  pub cached : (id : ℕ) → KeepsFile s.cache id → is_named s.names.names (Segment id) ≡ true
  pub unhidden : All (HidesNoneOf D s.cache) s.parts

-- a buffer has 16,384 entries at most
abbrev pub IsWell : ℕ → SetData → Type 0
IsWell D s = IsWellTo 16384 D s
