-- What shows that a folder stores no state.
use Rattle.std.proofs.Common.{◌≡◌, ◌≢◌, ℕ, ◌≤◌, true, false, List, length, Some, None, subst, arith}
use Rattle.std.specs.List.{Contains}
use Rattle.outer_io.specs.declared.file_name.FileName.TheVariants.{Commit, Segment, Live}
use Rattle.outer_io.specs.Files.{Files, bytes_of}
use Rattle.point_codec.specs.Points.{Item}
use Rattle.live_bits.specs.LiveSet.{LiveSet, is_live}
use Rattle.documents.specs.Documents.{Document}
use Rattle.documents.specs.Entries.{AreDocs, has_entry}
use Rattle.index_model.specs.State.{State}
use Rattle.commit_list.specs.declared.listed.Listed.{Listed}
use Rattle.commit_list.specs.Commits.{CommitData}
use Rattle.commit_list.specs.CommitFiles.{IsCommitFile}
use Rattle.segment_file.specs.Heads.{Head}
use Rattle.segment_file.specs.Segments.{IsSegment}
use Rattle.segment_file.proofs.Unique.{head_of_segment}
use Rattle.stored_index.specs.Segments.{SegmentData, all_live_entries, places}
use Rattle.stored_index.specs.Stored.{HoldsFiles, HoldAll, HoldsIndex, HasHead, HasLive, HaveLive, IsStored, IsUndefined}
use Rattle.stored_index.proofs.Pairwise.{held_of}
use Rattle.stored_index.proofs.Parts.{EntriesOnce, all_once, held_head, held_live, sets_are}
use Rattle.stored_index.proofs.Places.{none_from_next}
use Rattle.stored_index.proofs.Whole.{held_for}

-- no index is held for the commit, so none is stored
none_held : (files : Files) (c : CommitData) → IsCommitFile (bytes_of (files Commit)) c → ((docs : List Document) → HoldsIndex files c docs → ⊥)
    → IsUndefined files
none_held files c says none = λ state p. let held = held_for files c state p says in none held.0 held.1

pub no_commit : (files : Files) → files Commit ≢ None → ((c : CommitData) → IsCommitFile (bytes_of (files Commit)) c → ⊥) → IsUndefined files
no_commit files there none = refuse
  where
    refuse : (state : State) → IsStored files state → ⊥
    refuse None p = there p
    refuse (Some i) p = none p.commit p.holds.commit

pub no_segment : (files : Files) (c : CommitData) (s : Listed) → IsCommitFile (bytes_of (files Commit)) c → Contains c.listed s
    → ((d : SegmentData) → HoldsFiles files c s d → ⊥) → IsUndefined files
no_segment files c s says listed none =
    none_held files c says (λ docs held. let part = held_of (HoldsFiles files c) c.listed held.parts held.segments s listed in none part.0 part.1)

pub no_head : (files : Files) (c : CommitData) (s : Listed) → IsCommitFile (bytes_of (files Commit)) c → Contains c.listed s
    → ((head : Head) → HasHead c.dims files s head → head.leaf_size ≡ c.leaf_size → head.entries ≡ s.entries → ⊥) → IsUndefined files
no_head files c s says listed none =
    no_segment files c s says listed
    (λ d held. none d.head (record { id = held.id; is = head_of_segment c.dims (bytes_of (files (Segment s.segment))) d.head d.entries held.segment })
    held.leaf_size held.count)

pub no_live : (files : Files) (c : CommitData) (s : Listed) → IsCommitFile (bytes_of (files Commit)) c → Contains c.listed s
    → ((live : LiveSet) → HasLive files s live → length live.live ≡ s.live → ⊥) → IsUndefined files
no_live files c s says listed none = no_segment files c s says listed (λ d held. none d.live held.live held.live_count)

pub no_entry : EntriesOnce → (files : Files) (c : CommitData) (s : Listed) (head : Head) (entries : List Item) (live : LiveSet) (number : ℕ)
    → IsCommitFile (bytes_of (files Commit)) c → Contains c.listed s
    → head.id ≡ s.segment → IsSegment c.dims (bytes_of (files (Segment s.segment))) head entries → HasLive files s live
    → is_live live number ≡ true → has_entry number entries ≡ false → IsUndefined files
no_entry once files c s head entries live number says listed id segment set alive none =
    no_segment files c s says listed
    (λ d held.
    let bytes = bytes_of (files (Segment s.segment)) in
    let heads : head ≡ d.head =
    held_head c.dims c.leaf_size s bytes (bytes_of (files (Live s.segment s.generation))) d head held id (head_of_segment c.dims bytes head entries segment) in
    let same : entries ≡ d.entries =
    once c.dims bytes d.head entries d.entries (subst (λ (h : Head). IsSegment c.dims bytes h entries) heads segment) held.segment in
    let sets : live ≡ d.live = held_live c.dims c.leaf_size s bytes (bytes_of (files (Live s.segment s.generation))) d live held set in
    let found : has_entry number d.entries ≡ true = held.found number (subst (λ (l : LiveSet). is_live l number ≡ true) sets alive) in
    let not_found : has_entry number d.entries ≡ false = subst (λ (xs : List Item). has_entry number xs ≡ false) same none in
    absurd (cc))

pub not_given : (files : Files) (c : CommitData) (sets : List LiveSet) (number : ℕ) → IsCommitFile (bytes_of (files Commit)) c → HaveLive files c sets
    → c.next ≤ number → 1 ≤ places number sets → IsUndefined files
not_given files c sets number says have le some =
    none_held files c says
    (λ docs held. omega (
      arith,
      none_from_next files c docs held number le,
      subst (λ (ss : List LiveSet). 1 ≤ places number ss) (sets_are files c held.parts sets held.segments have) some,
    ))

pub in_two : (files : Files) (c : CommitData) (sets : List LiveSet) (number : ℕ) → IsCommitFile (bytes_of (files Commit)) c → HaveLive files c sets
    → 2 ≤ places number sets → IsUndefined files
in_two files c sets number says have two =
    none_held files c says
    (λ docs held.
    omega (arith, held.alone number, subst (λ (ss : List LiveSet). 2 ≤ places number ss) (sets_are files c held.parts sets held.segments have) two))

pub no_documents : EntriesOnce → (files : Files) (c : CommitData) (parts : List SegmentData) → IsCommitFile (bytes_of (files Commit)) c → HoldAll files c parts
    → ((docs : List Document) → AreDocs c.next (all_live_entries parts) docs → length (all_live_entries parts) ≤ c.points_given → ⊥) → IsUndefined files
no_documents once files c parts says all none =
    none_held files c says
    (λ docs held.
    let same : held.parts ≡ parts = all_once once files c held.parts parts held.segments all in
    none docs (subst (λ (ds : List SegmentData). AreDocs c.next (all_live_entries ds) docs) same held.are_docs)
    (subst (λ (ds : List SegmentData). length (all_live_entries ds) ≤ c.points_given) same held.few))
