-- What a damage of a segment's file or of a file of live bits shows: by what it carries alone, and of the files where
-- those are told.
use Rattle.std.specs.Prelude.{◌≡◌, ◌≢◌, ℕ, ◌+◌, ◌*◌, ◌^◌, ◌<◌, ◌⊎◌, List, ◌++◌, None, slice_index}
use Rattle.outer_io.specs.declared.file_name.FileName.{FileName}
use Rattle.outer_io.specs.declared.file_name.FileName.TheVariants.{Commit, CommitNew, Segment, Live}
use Rattle.outer_io.specs.Files.{Files, bytes_of}
use Rattle.point_codec.specs.Points.{Item, Region}
use Rattle.leaf_codec.specs.Leaves.{SpellsLeafIn}
use Rattle.live_bits.specs.LiveSet.{LiveSet}
use Rattle.live_bits.specs.LiveBody.{IsLiveBody, SaysLength}
use Rattle.inner_pack.specs.Places.{Spot}
use Rattle.inner_pack.specs.Trees.{IndexTree}
use Rattle.inner_pack.specs.Bodies.{pages_of}
use Rattle.page_file.specs.Page.{IsPage, payload_of}
use Rattle.page_cache.specs.FilePages.{kind_of, number_of, page_at}
use Rattle.page_cache.specs.Bodies.{padded_body, pages_for}
use Rattle.page_cache.specs.Evidence.{IsPageOf, ArePayloadsOf, IsCut, IsSizeOf}
use Rattle.page_cache.specs.declared.faults.Damage.{Damage}
use Rattle.page_cache.specs.declared.faults.Damage.TheVariants.{Page, Leaf, Body, Missing, Size, Unequal}
use Rattle.segment_file.specs.Heads.{Head, Fields, AreFields, IsHead, fields_of, fields_bytes, page_of, count_of}
use Rattle.segment_file.specs.Segments.{SpellsHead, part_of, IsLeafOf}

-- ---- how many pages a file needs

-- the fields of a segment's first page ask for so many: its own, those of the index, and the leaf pages
pub record AsksSegment (payload : List ℕ) (pages : ℕ) : Type 0 where
  pub fields : Fields
  pub are : AreFields fields
  pub is : payload ≡ padded_body (fields_bytes fields)
  pub pages_are : pages ≡ 1 + pages_for fields.index_length + fields.leaf_pages

-- the first page of live bits asks for those of a body of the length that it says
pub record AsksLive (segment generation : ℕ) (payload : List ℕ) (pages : ℕ) : Type 0 where
  pub len : ℕ
  pub says : SaysLength segment generation payload len
  pub pages_are : pages ≡ pages_for len

-- the first page of the file has this payload and asks for so many pages
abbrev pub AsksFor : FileName → (payload : List ℕ) → (pages : ℕ) → Type 0
AsksFor (Segment id) payload pages = AsksSegment payload pages
AsksFor (Live segment generation) payload pages = AsksLive segment generation payload pages
AsksFor Commit payload pages = ⊥
AsksFor CommitNew payload pages = ⊥

-- ---- a leaf that is read through a head

-- the part of a page is no leaf of the count and own cell of a leaf of the subtree, which has this place
pub record IsNoLeaf (D : ℕ) (head : Head) (first : ℕ) (s : Spot) (t : IndexTree) (page offset len : ℕ) (part : List ℕ)
    : Type 0 where
  pub number : ℕ
  pub spot : Spot
  pub own : Region
  pub is : IsLeafOf first s t number spot len own
  pub page_is : page ≡ page_of head spot.page
  pub offset_is : offset ≡ spot.offset
  pub none : (items : List Item) → SpellsLeafIn D part (count_of head number) own items → ⊥

-- needed is the end of the page in which a leaf of the subtree stands
pub record IsLeafPage (head : Head) (first : ℕ) (s : Spot) (t : IndexTree) (needed : ℕ) : Type 0 where
  pub number : ℕ
  pub spot : Spot
  pub len : ℕ
  pub own : Region
  pub is : IsLeafOf first s t number spot len own
  pub needs : needed ≡ 4096 * (page_of head spot.page + 1)

-- reading leaves of the subtree of a head's index shows a page to be none for its place, the file to end before the
-- end of the page of a leaf, or a page to have no leaf where one must be
abbrev pub IsLeafDamage : (D : ℕ) → Head → (first : ℕ) → Spot → IndexTree → Damage → Type 0
IsLeafDamage D head first s t (Page file number bytes) = (file ≡ Segment head.id)
    × (IsPage 1 head.id number bytes.value.b → ⊥)
IsLeafDamage D head first s t (Size file size needed) = (file ≡ Segment head.id) × (size < needed)
    × IsLeafPage head first s t needed
IsLeafDamage D head first s t (Leaf file number offset len bytes) =
    (file ≡ Segment head.id) × IsPage 1 head.id number bytes.value.b
    × IsNoLeaf D head first s t number offset len (part_of offset len bytes.value.b)
IsLeafDamage D head first s t _ = ⊥

-- and it is true of the files
abbrev pub IsLeafDamageOf : Files → Damage → Type 0
IsLeafDamageOf files (Page file number bytes) = IsPageOf files file number bytes.value.b
IsLeafDamageOf files (Size file size needed) = IsCut files file size needed
IsLeafDamageOf files (Leaf file number offset len bytes) = IsPageOf files file number bytes.value.b
IsLeafDamageOf files _ = ⊥

-- ---- the head and the index of a segment

-- no head and index of any number of dimensions begins with these payloads
abbrev pub BeginsNoHead : List ℕ → Type 0
BeginsNoHead payloads = (dims said : ℕ) (head : Head) (rest : List ℕ) → said < 2 ^ 32 → IsHead dims head
    → payloads ++ rest ≡ padded_body (fields_bytes (fields_of dims head said)) ++ padded_body head.index.bytes → ⊥

-- two numbers of a segment's file that must agree: the dimensions that are wanted and the file's, or the leaf pages
-- that the head says and those that the index has
abbrev pub AreHeadPair : (D : ℕ) → List ℕ → (said found : ℕ) → Type 0
AreHeadPair D bytes said found =
    ((said ≡ D) × (found ≡ slice_index (payload_of (page_at bytes 0)) 8))
    ⊎ ((head : Head) × (root : Region) × (tree : IndexTree) × SpellsHead D bytes head said root tree
    × (found ≡ pages_of tree))

-- opening a segment shows its file to be missing, of another size, with a page that is none for its place, with a
-- head or an index out of the grammar, or with numbers that don't agree
abbrev pub IsHeadDamage : (id : ℕ) → Damage → Type 0
IsHeadDamage id (Page file number bytes) = (file ≡ Segment id)
    × (IsPage (kind_of file) (number_of file) number bytes.value.b → ⊥)
IsHeadDamage id (Missing file) = file ≡ Segment id
IsHeadDamage id (Size file size needed) = (file ≡ Segment id) × (size ≢ needed)
IsHeadDamage id (Body file bytes) = (file ≡ Segment id) × BeginsNoHead bytes
IsHeadDamage id (Unequal file said found) = (file ≡ Segment id) × (said ≢ found)
IsHeadDamage id _ = ⊥

-- and it is true of the files
abbrev pub IsHeadDamageOf : (D : ℕ) → Files → Damage → Type 0
IsHeadDamageOf D files (Page file number bytes) = IsPageOf files file number bytes.value.b
IsHeadDamageOf D files (Missing file) = files file ≡ None
IsHeadDamageOf D files (Size file size needed) = IsSizeOf (AsksFor file) files file size needed
IsHeadDamageOf D files (Body file bytes) = ArePayloadsOf files file bytes
IsHeadDamageOf D files (Unequal file said found) = AreHeadPair D (bytes_of (files file)) said found
IsHeadDamageOf D files _ = ⊥

-- the damage is that these payloads of the file are out of its grammar
abbrev pub IsBodyDamage : FileName → List ℕ → Damage → Type 0
IsBodyDamage name payloads (Body file bytes) = (file ≡ name) × (bytes ≡ payloads)
IsBodyDamage name payloads _ = ⊥

-- the damage is that these two numbers of the file differ
abbrev pub IsPairDamage : FileName → (said found : ℕ) → Damage → Type 0
IsPairDamage name m n (Unequal file said found) = (file ≡ name) × (said ≡ m) × (found ≡ n)
IsPairDamage name m n _ = ⊥

-- ---- live bits

-- no set's body begins with these payloads
abbrev pub BeginsNoSet : (segment generation : ℕ) → List ℕ → Type 0
BeginsNoSet segment generation payloads = (live : LiveSet) (body rest : List ℕ)
    → IsLiveBody segment generation live body → payloads ++ rest ≡ padded_body body → ⊥

-- reading live bits shows their file to be missing, of another size, with a page that is none for its place, or out of
-- the grammar
abbrev pub IsLiveDamage : (segment generation : ℕ) → Damage → Type 0
IsLiveDamage segment generation (Page file number bytes) = (file ≡ Live segment generation)
    × (IsPage (kind_of file) (number_of file) number bytes.value.b → ⊥)
IsLiveDamage segment generation (Missing file) = file ≡ Live segment generation
IsLiveDamage segment generation (Size file size needed) = (file ≡ Live segment generation) × (size ≢ needed)
IsLiveDamage segment generation (Body file bytes) = (file ≡ Live segment generation)
    × BeginsNoSet segment generation bytes
IsLiveDamage segment generation _ = ⊥

-- and it is true of the files
abbrev pub IsLiveDamageOf : Files → Damage → Type 0
IsLiveDamageOf files (Page file number bytes) = IsPageOf files file number bytes.value.b
IsLiveDamageOf files (Missing file) = files file ≡ None
IsLiveDamageOf files (Size file size needed) = IsSizeOf (AsksFor file) files file size needed
IsLiveDamageOf files (Body file bytes) = ArePayloadsOf files file bytes
IsLiveDamageOf files _ = ⊥
