-- The commit that is saved of a set, and what is stored with it.
use Rattle.std.proofs.Common.{◌≡◌, ℕ, ◌≤◌, true, false, List, [], ◌∷◌, ◌++◌, length, map, Some, refl, sym, ap, subst, ◌∙◌, arith}
use Rattle.std.specs.List.{All, AllZip, Contains, filter}
use Rattle.std.specs.List.Sorted.{IsStrictlyIncreasing}
use Rattle.std.proofs.lemmas.List.{append-nil}
use Rattle.std.proofs.lemmas.List.Elements.{All-contains}
use Rattle.outer_io.specs.declared.file_name.FileName.{FileName}
use Rattle.outer_io.specs.declared.file_name.FileName.TheVariants.{Commit, CommitNew, Live, Segment}
use Rattle.outer_io.specs.Files.{Files, bytes_of}
use Rattle.point_codec.specs.Points.{Item}
use Rattle.live_bits.specs.LiveSet.{LiveSet, is_live}
use Rattle.documents.specs.Entries.{AreDocs}
use Rattle.commit_list.specs.declared.listed.Listed.{Listed}
use Rattle.commit_list.specs.Commits.{CommitData, IsCommit, IsListed}
use Rattle.commit_list.specs.CommitFiles.{IsCommitFile}
use Rattle.segment_file.specs.LiveFiles.{IsLiveFile}
use Rattle.segment_file.specs.Segments.{IsSegment}
use Rattle.stored_index.specs.Kept.{ListsFile}
use Rattle.stored_index.specs.Segments.{SegmentData, all_live_entries, live_sets, places}
use Rattle.stored_index.specs.Stored.{HoldAll, HoldsFiles, IsStored, index_of}
use Rattle.stored_index.proofs.Pairwise.{zip_map, zip_moved, zip_same}
use Rattle.stored_index.proofs.Whole.{stored_from}
use Rattle.index_model.specs.State.{Index, at_rest}
use Rattle.segment_view.specs.LiveSegments.{Contents, IsRead, LiveSegment, ids_of, live_in_parts, lives_of}
use Rattle.file_names.specs.Names.{NameList, is_named}
use Rattle.segment_set.specs.Sets.{IsNamed, IsWell, SetData}
use Rattle.segment_set.specs.Seen.{Sees}
use Rattle.segment_set.specs.Kept.{IsCommitOf}
use Rattle.segment_set.specs.Saved.{IsSaved}
use Rattle.segment_set.proofs.Covered.{IsListedAs}
use Rattle.segment_set.proofs.SavedSegments.{zip_length, zip_left, zip_beside}

-- ---- the commit

-- a line of the commit and its segment
abbrev pub IsLine : ℕ → Listed → LiveSegment → Type 0
IsLine n l p = (l.segment ≡ p.head.id) × IsListed n l

pub saved_lines : (told : Type 0) (last : List Listed) (before after : NameList) (files : Files) (n : ℕ) (listed : List Listed) (parts : List LiveSegment)
    → n ≡ after.next_segment
    → AllZip (IsSaved told last before after files) listed parts → AllZip (IsLine n) listed parts
saved_lines told last before after files n listed parts same =
    zip_moved (IsSaved told last before after files) (IsLine n) listed parts
    (λ l p there saved. (saved.line.segment, subst (λ m. IsListed m l) (sym same) saved.may))

pub is_commit : (D : ℕ) (s : SetData) (n : ℕ) (listed : List Listed) → IsWell D s → IsStrictlyIncreasing (ids_of s.parts) → AllZip (IsLine n) listed s.parts
    → IsCommit (record { dims = D; leaf_size = s.leaf_size; next = s.next; points_given = s.points_given; next_segment = n; listed = listed })
is_commit D s n listed well ascend all = record {
  ranges = record {
    some_dims = well.some_dims;
    most_dims = well.few_dims;
    least_leaf = well.least_leaf;
    most_leaf = well.greatest_leaf;
    numbered = well.numbered;
    most_given = well.most_given;
    few = let few = well.few in let long = zip_length (IsLine n) listed s.parts all in omega arith;
  };
  segments = record {
    rising =
        subst IsStrictlyIncreasing (zip_same (IsLine n) (λ (l : Listed). l.segment) (λ (p : LiveSegment). p.head.id) (λ l p r. sym r.0) listed s.parts all)
        ascend;
    each = zip_left (IsLine n) (IsListed n) listed s.parts (λ l p r. r.1) all;
  };
}

-- the files that are listed are named
pub listed_named : (told : Type 0) (last : List Listed) (before : NameList) (files : Files) (names : NameList) (c : CommitData) (parts : List LiveSegment)
    → All (IsNamed names) parts
    → AllZip (IsSaved told last before names files) c.listed parts
    → (m : FileName) → ListsFile c m → is_named names.names m ≡ true
listed_named told last before files names c parts named all (Segment id) (l, there, is) =
    subst (λ n. is_named names.names (Segment n) ≡ true) is
    (All-contains (λ (k : Listed). is_named names.names (Segment k.segment) ≡ true) c.listed l segments there)
  where
    segments : All (λ (k : Listed). is_named names.names (Segment k.segment) ≡ true) c.listed
    segments = zip_left (λ (k : Listed) (p : LiveSegment). is_named names.names (Segment k.segment) ≡ true)
        (λ (k : Listed). is_named names.names (Segment k.segment) ≡ true) c.listed parts (λ k p h. h)
        (zip_beside (IsSaved told last before names files) (λ (k : Listed) (p : LiveSegment). is_named names.names (Segment k.segment) ≡ true) (IsNamed names)
        c.listed
        parts
        (λ k p saved is. ap (λ n. is_named names.names (Segment n)) saved.line.segment ∙ is) named all)
listed_named told last before files names c parts named all (Live id generation) (l, there, is, at) =
    subst (λ n. is_named names.names (Live n generation) ≡ true) is
    (subst (λ n. is_named names.names (Live l.segment n) ≡ true) at
    (All-contains (λ (k : Listed). is_named names.names (Live k.segment k.generation) ≡ true) c.listed l
    (zip_left (IsSaved told last before names files) (λ (k : Listed). is_named names.names (Live k.segment k.generation) ≡ true) c.listed parts
    (λ k p saved. saved.line.named) all) there))
listed_named told last before files names c parts named all Commit none = absurd none
listed_named told last before files names c parts named all CommitNew none = absurd none

pub commit_of_set : (D : ℕ) (told : Type 0) (last : List Listed) (before : NameList) (files : Files) (s : SetData) (n : ℕ) (listed : List Listed)
    → n ≡ s.names.next_segment
    → IsWell D s → AllZip (IsSaved told last before s.names files) listed s.parts
    → IsCommitOf D s (record { dims = D; leaf_size = s.leaf_size; next = s.next; points_given = s.points_given; next_segment = n; listed = listed })
commit_of_set D told last before files s n listed same well all = record {
  dims = refl;
  leaf_size = refl;
  next = refl;
  points_given = refl;
  next_segment = same;
  lists = zip_moved (IsSaved told last before s.names files)
      (λ (l : Listed) (p : LiveSegment). (l.segment ≡ p.head.id) × (l.entries ≡ p.head.entries) × (l.live ≡ length p.live.live)) listed s.parts
      (λ l p there saved. (saved.line.segment, saved.line.entries, saved.line.live)) all;
  named = listed_named told last before files s.names
      (record { dims = D; leaf_size = s.leaf_size; next = s.next; points_given = s.points_given; next_segment = n; listed = listed })
      s.parts
      well.named all;
}

-- ---- what is stored with it

-- a segment of the set, as the files hold it
abbrev pub data_of : Contents → LiveSegment → SegmentData
data_of c p = record { head = p.head; entries = c p.head.id; live = p.live }

pub sets_of : (c : Contents) (parts : List LiveSegment) → live_sets (map (data_of c) parts) ≡ lives_of parts
sets_of c [] = refl
sets_of c (p ∷ ps) = ap (λ (ss : List LiveSet). p.live ∷ ss) (sets_of c ps)

pub entries_of : (c : Contents) (parts : List LiveSegment) → all_live_entries (map (data_of c) parts) ≡ live_in_parts c parts
entries_of c [] = refl
entries_of c (p ∷ ps) = ap (λ (xs : List Item). filter (λ (x : Item). is_live p.live x.doc) (c p.head.id) ++ xs) (entries_of c ps)

-- what is known of a segment of the set and its line in the commit
abbrev IsPartSaved : (D leaf_size : ℕ) → Files → Contents → Listed → LiveSegment → Type 0
IsPartSaved D leaf_size now contents l p = IsListedAs now l p × IsRead D now contents p × (p.head.leaf_size ≡ leaf_size)

-- a commit that was saved of a set, whose buffer is empty, is stored once its file says it and as long as the files that it lists stay
pub saved_is_stored : (D : ℕ) (now : Files) (s : SetData) (c : CommitData) (i : Index) → IsWell D s → s.buffer ≡ [] → IsCommitOf D s c
    → AllZip (IsListedAs now) c.listed s.parts → Sees D now s i
    → (files : Files) → IsCommitFile (bytes_of (files Commit)) c → ((m : FileName) → ListsFile c m → files m ≡ now m) → IsStored files (Some (at_rest i))
saved_is_stored D now s c i well empty commit all seen files says same =
    subst (λ (x : Index). IsStored files (Some x)) is (stored_from files c parts i.docs says held alone docs few)
  where
    contents : Contents
    contents = seen.contents

    parts : List SegmentData
    parts = map (data_of contents) s.parts

    entries : all_live_entries parts ≡ live_in_parts contents s.parts ++ s.buffer
    entries = entries_of contents s.parts ∙ sym (append-nil (live_in_parts contents s.parts))
        ∙ ap (λ (xs : List Item). live_in_parts contents s.parts ++ xs) (sym empty)

    one : (l : Listed) (p : LiveSegment) → Contains c.listed l → IsPartSaved D s.leaf_size now contents l p → HoldsFiles files c l (data_of contents p)
    one l p there (saved, read, leaf_size) =
        let bytes : bytes_of (files (Segment l.segment)) ≡ bytes_of (now (Segment p.head.id)) =
        ap bytes_of (same (Segment l.segment) (l, there, refl)) ∙ ap (λ n. bytes_of (now (Segment n))) saved.segment in
        record {
          segment = subst (λ n. IsSegment n (bytes_of (files (Segment l.segment))) p.head (contents p.head.id)) (sym commit.dims)
              (subst (λ (b : List ℕ). IsSegment D b p.head (contents p.head.id)) (sym bytes) read.held);
          live = subst (λ (b : List ℕ). IsLiveFile l.segment l.generation b p.live)
              (sym (ap bytes_of (same (Live l.segment l.generation) (l, there, refl, refl)))) saved.file;
          id = sym saved.segment;
          leaf_size = leaf_size ∙ sym commit.leaf_size;
          count = sym saved.entries;
          live_count = sym saved.count;
          found = read.found;
        }

    held : HoldAll files c parts
    held = zip_map (IsPartSaved D s.leaf_size now contents) (HoldsFiles files c) (data_of contents) c.listed s.parts one
        (zip_beside (IsListedAs now) (IsPartSaved D s.leaf_size now contents)
        (λ (p : LiveSegment). IsRead D now contents p × (p.head.leaf_size ≡ s.leaf_size)) c.listed s.parts
        (λ l p saved facts. (saved, facts.0, facts.1)) (λ k d lt. (seen.stands.now k d lt, well.leaf_size k d lt)) all)

    alone : (number : ℕ) → places number (live_sets parts) ≤ 1
    alone number = subst (λ (ss : List LiveSet). places number ss ≤ 1) (sym (sets_of contents s.parts)) (omega (arith, well.spread.alone number))

    docs : AreDocs c.next (all_live_entries parts) i.docs
    docs =
        subst (λ n. AreDocs n (all_live_entries parts) i.docs) (sym commit.next) (subst (λ (xs : List Item). AreDocs s.next xs i.docs) (sym entries) seen.docs)

    few : length (all_live_entries parts) ≤ c.points_given
    few = let long = ap length entries in let most = seen.few in let points_given = commit.points_given in omega arith

    is : index_of c i.docs ≡ at_rest i
    is = λ j. record {
      dims = (commit.dims ∙ sym seen.dims) j;
      leaf_size = (commit.leaf_size ∙ sym seen.leaf_size) j;
      next = (commit.next ∙ sym seen.next) j;
      points_given = (commit.points_given ∙ sym seen.points_given) j;
      docs = i.docs;
      snapshots = [];
      begun = false;
    }
