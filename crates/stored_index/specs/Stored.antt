-- Which index the files of a folder store.
use Rattle.std.specs.Prelude.{◌≡◌, ◌≤◌, ℕ, false, List, [], length, None, Some}
use Rattle.std.specs.List.{AllZip}
use Rattle.outer_io.specs.declared.file_name.FileName.TheVariants.{Commit, Segment, Live}
use Rattle.outer_io.specs.Files.{Files, bytes_of}
use Rattle.documents.specs.Documents.{Document}
use Rattle.documents.specs.Entries.{AreDocs}
use Rattle.index_model.specs.State.{Index, State}
use Rattle.live_bits.specs.LiveSet.{LiveSet}
use Rattle.commit_list.specs.declared.listed.Listed.{Listed}
use Rattle.commit_list.specs.Commits.{CommitData}
use Rattle.commit_list.specs.CommitFiles.{IsCommitFile}
use Rattle.segment_file.specs.Heads.{Head}
use Rattle.segment_file.specs.Segments.{IsHeadOf}
use Rattle.segment_file.specs.LiveFiles.{IsLiveFile}
use Rattle.stored_index.specs.Segments.{SegmentData, HoldsListed, all_live_entries, live_sets, places}

-- the files of the segment that the commit lists so hold this
abbrev pub HoldsFiles : Files → CommitData → Listed → SegmentData → Type 0
HoldsFiles files c s d =
    HoldsListed c.dims c.leaf_size s (bytes_of (files (Segment s.segment)))
    (bytes_of (files (Live s.segment s.generation))) d

-- the segments that the commit lists, in its order, are held by their files
abbrev pub HoldAll : Files → CommitData → List SegmentData → Type 0
HoldAll files c parts = AllZip (HoldsFiles files c) c.listed parts

-- the file of the listed segment has this head
pub record HasHead (dims : ℕ) (files : Files) (s : Listed) (head : Head) : Type 0 where
  pub id : head.id ≡ s.segment
  pub is : IsHeadOf dims (bytes_of (files (Segment s.segment))) head

-- its file of live bits has this set
abbrev pub HasLive : Files → Listed → LiveSet → Type 0
HasLive files s live = IsLiveFile s.segment s.generation (bytes_of (files (Live s.segment s.generation))) live

-- the segments that the commit lists, in its order, have these heads
abbrev pub HaveHeads : Files → CommitData → List Head → Type 0
HaveHeads files c heads = AllZip (HasHead c.dims files) c.listed heads

-- the segments that the commit lists, in its order, have these live sets
abbrev pub HaveLive : Files → CommitData → List LiveSet → Type 0
HaveLive files c sets = AllZip (HasLive files) c.listed sets

-- The files hold an index (this project's rules on what a folder holds): the Commit file says this commit, each
-- segment that it lists is held, no number is live in two of them, their live entries are those of the documents, and
-- they are no more than the points given.
pub record HoldsIndex (files : Files) (c : CommitData) (docs : List Document) : Type 0 where
  pub commit : IsCommitFile (bytes_of (files Commit)) c
  pub parts : List SegmentData
  pub segments : HoldAll files c parts
  pub alone : (number : ℕ) → places number (live_sets parts) ≤ 1
  pub are_docs : AreDocs c.next (all_live_entries parts) docs
  pub few : length (all_live_entries parts) ≤ c.points_given

-- the index of a commit and its documents: it has no snapshots, and no merge is begun
abbrev pub index_of : CommitData → List Document → Index
index_of c docs =
    record {
      dims = c.dims;
      leaf_size = c.leaf_size;
      next = c.next;
      points_given = c.points_given;
      docs = docs;
      snapshots = [];
      begun = false;
    }

-- the files hold this index
pub record HoldsState (files : Files) (i : Index) : Type 0 where
  pub commit : CommitData
  pub holds : HoldsIndex files commit i.docs
  pub is : i ≡ index_of commit i.docs

-- The files store this state: no index where there is no Commit file, and else the index that they hold. They store
-- one state at most (`one_stored`).
abbrev pub IsStored : Files → State → Type 0
IsStored files None = files Commit ≡ None
IsStored files (Some i) = HoldsState files i

-- they store no state at all: they are damaged
abbrev pub IsUndefined : Files → Type 0
IsUndefined files = (state : State) → IsStored files state → ⊥
