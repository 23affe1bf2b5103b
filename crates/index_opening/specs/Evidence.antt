-- What a damage shows of a folder's files, whichever call answers it: by what it carries alone, and of the files where
-- those are told.
use Rattle.std.specs.Prelude.{◌≡◌, ◌≤◌, ◌<◌, ◌+◌, ◌⊎◌, ℕ, List, [], ◌∷◌, None, Contains, length, map}
use Rattle.std.specs.Prelude.{filter, count_by}
use Rattle.outer_io.specs.declared.file_name.FileName.{FileName}
use Rattle.outer_io.specs.declared.file_name.FileName.TheVariants.{Commit, CommitNew, Segment, Live}
use Rattle.outer_io.specs.Files.{Files, bytes_of}
use Rattle.point_codec.specs.Points.{Item, Region}
use Rattle.live_bits.specs.LiveSet.{LiveSet, is_live}
use Rattle.inner_pack.specs.Places.{front}
use Rattle.inner_pack.specs.Trees.{IndexTree}
use Rattle.inner_pack.specs.Bodies.{HasTree}
use Rattle.documents.specs.Entries.{has_entry}
use Rattle.page_cache.specs.Evidence.{IsShown, IsPageOf, ArePayloadsOf, IsSizeOf}
use Rattle.page_cache.specs.declared.faults.Damage.{Damage}
use Rattle.page_cache.specs.declared.faults.Damage.TheVariants.{Page, Leaf, Body, Missing, Size, Unequal, NotGiven}
use Rattle.page_cache.specs.declared.faults.Damage.TheVariants.{Doubled}
use Rattle.commit_list.specs.declared.listed.Listed.{Listed}
use Rattle.commit_list.specs.Commits.{CommitData}
use Rattle.commit_list.specs.CommitFiles.{IsCommitFile, IsNoCommitBody, AsksCommit}
use Rattle.segment_file.specs.Heads.{Head, HasRanges}
use Rattle.segment_file.specs.Segments.{IsHeadOf, IsSegment, Joins}
use Rattle.segment_file.specs.Damages.{AreHeadPair, AsksFor, BeginsNoHead, BeginsNoSet, IsNoLeaf}
use Rattle.stored_index.specs.Segments.{SegmentData, all_live_entries, places}
use Rattle.stored_index.specs.Stored.{HasLive, HaveLive, HoldAll}
use Rattle.segment_view.specs.LiveSegments.{LiveSegment, ids_of, lives_of}
use Rattle.document_checks.specs.Crowded.{IsCrowded}
use Rattle.index_opening.specs.Damages.{IsPair}

-- ---- by what it carries

-- a head of which P holds has a leaf at this place of its file, and this part of the page spells no leaf of its count
-- inside its cell
pub record LacksLeaf (P : ℕ → Head → Type 0) (file : FileName) (page offset len : ℕ) (part : List ℕ) : Type 0 where
  pub D : ℕ
  pub head : Head
  pub is : P D head
  pub root : Region
  pub tree : IndexTree
  pub has : HasTree D head.index root tree
  pub file_is : file ≡ Segment head.id
  pub none : IsNoLeaf D head 0 front tree page offset len part

-- no file of this name begins with these payloads, or has just these
abbrev pub HasNoBody : FileName → List ℕ → Type 0
HasNoBody (Segment id) payloads = BeginsNoHead payloads
HasNoBody (Live segment generation) payloads = BeginsNoSet segment generation payloads
HasNoBody Commit payloads = IsNoCommitBody payloads
HasNoBody CommitNew payloads = ⊥

-- what the damage carries shows it, where the heads that are used are such
abbrev pub ShowsItself : (P : ℕ → Head → Type 0) → Damage → Type 0
ShowsItself P d = ∥ IsShown (LacksLeaf P) HasNoBody d ∥₁

-- ---- of the files

-- the head is that of its file
abbrev pub IsHeadIn : Files → ℕ → Head → Type 0
IsHeadIn files D head = IsHeadOf D (bytes_of (files (Segment head.id))) head

-- the commit of the files lists the segment whose file this is, or whose live bits it has
pub record IsOfListed (files : Files) (file : FileName) : Type 0 where
  pub commit : CommitData
  pub says : IsCommitFile (bytes_of (files Commit)) commit
  pub listed : Listed
  pub there : Contains commit.listed listed
  pub is : (file ≡ Segment listed.segment) ⊎ (file ≡ Live listed.segment listed.generation)

-- it is the Commit file, or one that it lists
abbrev pub IsLookedAt : Files → FileName → Type 0
IsLookedAt files file = (file ≡ Commit) ⊎ IsOfListed files file

-- the first page of the file has this payload and asks for so many pages, by the layout of its kind
abbrev pub AsksPages : FileName → (payload : List ℕ) → (pages : ℕ) → Type 0
AsksPages (Segment id) payload pages = AsksFor (Segment id) payload pages
AsksPages (Live segment generation) payload pages = AsksFor (Live segment generation) payload pages
AsksPages Commit payload pages = AsksCommit payload pages
AsksPages CommitNew payload pages = ⊥

-- the two files of a listed segment hold these entries and live numbers
pub record HoldsEntries (files : Files) (c : CommitData) (s : Listed) (d : SegmentData) : Type 0 where
  pub id : d.head.id ≡ s.segment
  pub segment : IsSegment c.dims (bytes_of (files (Segment s.segment))) d.head d.entries
  pub live : HasLive files s d.live

-- Two numbers of the files that must agree: of a listed segment's file and the dimensions of the commit, of that file
-- alone, or of the commit and a file that it lists; the live numbers of a segment and those of them that have an entry;
-- the points given and the live entries of all segments.
pub data IsFilePair (files : Files) (file : FileName) (said found : ℕ) : Type 0 where
  InHead : (c : CommitData) → IsCommitFile (bytes_of (files Commit)) c → (s : Listed) → Contains c.listed s
      → file ≡ Segment s.segment → AreHeadPair c.dims (bytes_of (files file)) said found
      → IsFilePair files file said found
  InList : (c : CommitData) → IsCommitFile (bytes_of (files Commit)) c → (s : Listed) → Contains c.listed s
      → IsPair files c s file said found → IsFilePair files file said found
  InLive : (c : CommitData) → IsCommitFile (bytes_of (files Commit)) c → (s : Listed) → Contains c.listed s
      → (d : SegmentData) → HoldsEntries files c s d → file ≡ Live s.segment s.generation → said ≡ length d.live.live
      → found ≡ count_by (λ number. has_entry number d.entries) d.live.live → IsFilePair files file said found
  InCommit : (c : CommitData) → IsCommitFile (bytes_of (files Commit)) c → (parts : List SegmentData)
      → HoldAll files c parts
      → file ≡ Commit → said ≡ c.points_given → found ≡ length (all_live_entries parts)
      → IsFilePair files file said found

-- the damage names a file that was looked at, if any, and two numbers that differ are a pair of the files
abbrev pub NamesLooked : Files → Damage → Type 0
NamesLooked files (Page file number bytes) = IsLookedAt files file
NamesLooked files (Leaf file number offset len bytes) = IsOfListed files file
NamesLooked files (Body file bytes) = IsLookedAt files file
NamesLooked files (Missing file) = IsOfListed files file
NamesLooked files (Size file size needed) = IsLookedAt files file
NamesLooked files (Unequal file said found) = IsFilePair files file said found
NamesLooked files (NotGiven doc next) = Unit {0}
NamesLooked files (Doubled doc) = Unit {0}

-- so it is with each damage that looking at the files finds
abbrev pub IsFound : Files → Damage → Type 0
IsFound files d = ∥ NamesLooked files d ∥₁

-- ---- the live entries, and the points given

-- these are the live entries that the segment's file holds, or none of them is looked at
abbrev pub IsHeldOrNone : ℕ → Files → LiveSegment → List Item → Type 0
IsHeldOrNone D files p items =
    (items ≡ [])
    ⊎ ((entries : List Item) × IsSegment D (bytes_of (files (Segment p.head.id))) p.head entries
    × (items ≡ filter (λ x. is_live p.live x.doc) entries))

-- those of some of these segments, one after another
abbrev pub AreOfSome : ℕ → Files → List LiveSegment → List Item → Type 0
AreOfSome D files [] items = items ≡ []
AreOfSome D files (p ∷ parts) items = Joins (IsHeldOrNone D files p) (AreOfSome D files parts) items

-- So many points are said to be given, and more live entries are found. They are more by no more than those of the
-- segments that the commit lists are more than the points that it says were given.
pub record IsExcess (files : Files) (said found : ℕ) : Type 0 where
  pub commit : CommitData
  pub says : IsCommitFile (bytes_of (files Commit)) commit
  pub parts : List LiveSegment
  pub ids : ids_of parts ≡ map (λ l. l.segment) commit.listed
  pub lives : HaveLive files commit (lives_of parts)
  pub items : List Item
  pub held : AreOfSome commit.dims files parts items
  pub later : commit.points_given ≤ said
  pub more : said < found
  pub excess : found + commit.points_given ≤ said + length items

-- the number is live in a listed segment, and this is the commit's next one
pub record IsLiveNotGiven (files : Files) (doc next : ℕ) : Type 0 where
  pub commit : CommitData
  pub says : IsCommitFile (bytes_of (files Commit)) commit
  pub next_is : next ≡ commit.next
  pub sets : List LiveSet
  pub live : HaveLive files commit sets
  pub there : 1 ≤ places doc sets

-- of the entries that the segment's file holds more than 16 live ones have the number, or two that are the same
pub record CrowdsPart (D : ℕ) (files : Files) (p : LiveSegment) (doc : ℕ) : Type 0 where
  pub items : List Item
  pub held : IsSegment D (bytes_of (files (Segment p.head.id))) p.head items
  pub crowded : IsCrowded doc (filter (λ x. is_live p.live x.doc) items)

-- one of these segments has it so
abbrev pub IsCrowdedIn : ℕ → Files → List LiveSegment → (doc : ℕ) → Type 0
IsCrowdedIn D files parts doc = (p : LiveSegment) × Contains parts p × CrowdsPart D files p doc

-- The number is live in two segments that the commit lists. Or more than 16 of the live entries of one of them have
-- it, or two of these are the same; live are the numbers of its file of live bits.
pub data IsTwice (files : Files) (doc : ℕ) : Type 0 where
  InSets : (c : CommitData) → IsCommitFile (bytes_of (files Commit)) c → (sets : List LiveSet) → HaveLive files c sets
      → 2 ≤ places doc sets → IsTwice files doc
  InSegment : (c : CommitData) → IsCommitFile (bytes_of (files Commit)) c → (s : Listed) → Contains c.listed s
      → (p : LiveSegment) → p.head.id ≡ s.segment → HasLive files s p.live → CrowdsPart c.dims files p doc
      → IsTwice files doc

-- What entries show that are about to be merged: more are live than points were given, which names the Commit file, or
-- a number is Doubled.
abbrev pub IsOfEntries : Files → Damage → Type 0
IsOfEntries files (Unequal file said found) = (file ≡ Commit) × IsExcess files said found
IsOfEntries files (Doubled doc) = IsTwice files doc
IsOfEntries files d = ⊥

-- one of these segments has the file
abbrev pub IsOfPart : List LiveSegment → FileName → Type 0
IsOfPart parts file = (p : LiveSegment) × Contains parts p × (file ≡ Segment p.head.id)

-- the file holds a segment whole: no page or leaf of it is damaged
pub record HoldsWhole (files : Files) (file : FileName) : Type 0 where
  pub D : ℕ
  pub head : Head
  pub items : List Item
  pub file_is : file ≡ Segment head.id
  pub holds : IsSegment D (bytes_of (files file)) head items

-- it was looked at for the commit, or it is one of the others, or is whole, as what a call writes
abbrev pub MayBeNeeded : (others : FileName → Type 0) → Files → FileName → Type 0
MayBeNeeded others files file = IsLookedAt files file ⊎ HoldsWhole files file ⊎ others file

-- What a damage carries is that of the files, of one that may be needed. `merged` is what is shown of entries.
abbrev pub IsTrueOf : (others : FileName → Type 0) → (merged : Damage → Type 0) → Files → Damage → Type 0
IsTrueOf others merged files (Page file number bytes) = IsPageOf files file number bytes.value.b
    × MayBeNeeded others files file
IsTrueOf others merged files (Leaf file number offset len bytes) = IsPageOf files file number bytes.value.b
    × MayBeNeeded others files file
IsTrueOf others merged files (Body file bytes) = ArePayloadsOf files file bytes × IsLookedAt files file
IsTrueOf others merged files (Missing file) = (files file ≡ None) × IsOfListed files file
IsTrueOf others merged files (Size file size needed) = IsSizeOf (AsksPages file) files file size needed
    × IsLookedAt files file
IsTrueOf others merged files (Unequal file said found) = IsFilePair files file said found
    ⊎ merged (Unequal file said found)
IsTrueOf others merged files (NotGiven doc next) = IsLiveNotGiven files doc next
IsTrueOf others merged files (Doubled doc) = merged (Doubled doc)

-- The damage is true of the files: what it carries is theirs, and a leaf that isn't spelled is one that the head of its
-- file has.
pub record IsTrueDamage (others : FileName → Type 0) (merged : Damage → Type 0) (files : Files) (d : Damage)
    : Type 0 where
  pub shows : ShowsItself (IsHeadIn files) d
  pub carries : ∥ IsTrueOf others merged files d ∥₁

-- the damage is shown by what it carries, and is true of the files where they are told
pub record IsEvidentWith (others : FileName → Type 0) (merged : Damage → Type 0) (told : Type 0) (files : Files)
    (d : Damage) : Type 0 where
  pub shows : ShowsItself HasRanges d
  pub of_files : told → IsTrueDamage others merged files d

-- entries are those of the segments that the commit lists; no other file is needed
abbrev pub IsEvident : (told : Type 0) → Files → Damage → Type 0
IsEvident told files = IsEvidentWith (λ _. ⊥) (IsOfEntries files) told files

-- a snapshot may need a segment that the commit of before lists, too
abbrev pub IsEvidentSince : (before : Files) → (told : Type 0) → Files → Damage → Type 0
IsEvidentSince before told files = IsEvidentWith (IsOfListed before) (IsOfEntries files) told files

-- of a search of these segments
abbrev pub IsEvidentOf : List LiveSegment → (told : Type 0) → Files → Damage → Type 0
IsEvidentOf parts told files = IsEvidentWith (IsOfPart parts) (IsOfEntries files) told files
