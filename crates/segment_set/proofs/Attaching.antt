-- What is attached of an index that is stored.
use Rattle.std.proofs.Common.{◌≡◌, ℕ, ◌+◌, ◌≤◌, ◌<◌, ◌↔◌, ⊎_elim, true, false, List, [], ◌∷◌, ◌++◌, length}
use Rattle.std.proofs.Common.{map, take, get_or, Some, None, refl, sym, ap, subst, ◌∙◌, append_assoc, arith}
use Rattle.std.specs.List.{All, AllZip, Contains, flat_map}
use Rattle.std.proofs.lemmas.Bool.{false_from_ne_true}
use Rattle.std.proofs.lemmas.Grind.{flat_map-append}
use Rattle.std.proofs.lemmas.List.{append-nil, take_more}
use Rattle.std.proofs.lemmas.List.Elements.{All-contains_itself, All-map, All-nil}
use Rattle.std.proofs.lemmas.List.Sorted.{IsNonDecreasingBy-short}
use Rattle.outer_io.specs.declared.file_name.FileName.{FileName}
use Rattle.outer_io.specs.declared.file_name.FileName.TheVariants.{Commit, CommitNew, Live, Segment}
use Rattle.outer_io.specs.Files.{Files, bytes_of}
use Rattle.point_codec.specs.Points.{Item}
use Rattle.leaf_codec.specs.Leaves.{leaf_limit}
use Rattle.leaf_codec.specs.LeafOrder.{NoneTwice}
use Rattle.documents.specs.Documents.{Document}
use Rattle.documents.specs.Entries.{AreDocs, has_entry, is_among}
use Rattle.documents.proofs.Lists.{cons_cases, cons_head, cons_tail, in_flat_map, nil_none, of_flat_map}
use Rattle.page_cache.specs.declared.cache.PageCache.{PageCache}
use Rattle.page_cache.specs.Cache.{Agrees, KeepsFile}
use Rattle.commit_list.specs.declared.listed.Listed.{Listed}
use Rattle.commit_list.specs.Commits.{CommitData, IsCommit}
use Rattle.commit_list.specs.CommitFiles.{IsCommitFile}
use Rattle.segment_file.specs.Segments.{IsSegment}
use Rattle.stored_index.specs.Kept.{ListsFile}
use Rattle.stored_index.specs.Segments.{SegmentData, all_live_entries, entries_at, places}
use Rattle.stored_index.specs.Stored.{HaveHeads, HaveLive, HoldsFiles, HoldsIndex, IsStored, index_of}
use Rattle.stored_index.proofs.Pairwise.{partner_of, zip_same}
use Rattle.stored_index.proofs.Parts.{contents}
use Rattle.stored_index.proofs.Whole.{held_for}
use Rattle.index_model.specs.State.{Index, State}
use Rattle.segment_view.specs.LiveSegments.{AreRead, Contents, IsRead, LiveSegment, ids_of, live_in_parts, lives_of}
use Rattle.file_names.specs.Names.{NameList, is_named}
use Rattle.file_names.proofs.Listed.{contains-is_named, is_named-contains}
use Rattle.segment_set.specs.Sets.{IsNamed, IsWell, NamedView, SetData}
use Rattle.segment_set.specs.Seen.{Sees}
use Rattle.segment_set.specs.Kept.{IsAtRest}
use Rattle.index_opening.specs.Opened.{IsOpened}
use Rattle.segment_set.proofs.SavedSegments.{take_whole, zip_length}
use Rattle.index_opening.proofs.Listed.{as_part, parts_held, entries_map}
use Rattle.index_opening.proofs.Ordered.{zip_right}
use Rattle.segment_set.proofs.Unhidden.{unhidden_nothing}

-- ---- the names of the files that a commit lists

abbrev pub files_of : Listed → List FileName
files_of s = Segment s.segment ∷ Live s.segment s.generation ∷ []

pub names_more : (names : List FileName) (listed : List Listed) (i : ℕ) (d s : Listed) → i < length listed → get_or listed i d ≡ s
    → names ≡ flat_map files_of (take i listed)
    → (names ++ Segment s.segment ∷ []) ++ Live s.segment s.generation ∷ [] ≡ flat_map files_of (take (i + 1) listed)
names_more names listed i d s lt at is =
    joined
    ∙ ap (λ (ns : List FileName). ns ++ files_of s) is
    ∙ sym (flat_map-append files_of (take i listed) (s ∷ []))
    ∙ ap (λ (k : Listed). flat_map files_of (take i listed ++ k ∷ [])) (sym at)
    ∙ ap (flat_map files_of) (sym (take_more listed i d lt))
  where
    joined : (names ++ Segment s.segment ∷ []) ++ Live s.segment s.generation ∷ [] ≡ names ++ files_of s
    joined = simp append_assoc

-- one segment more, as the loop over the list has it
pub names_next : (c : CommitData) (xs : List Listed) (i : ℕ) (d : Listed) (before mid after : List FileName) → xs ≡ c.listed → i < length xs
    → before ≡ flat_map files_of (take i c.listed)
    → mid ≡ before ++ Segment (get_or xs i d).segment ∷ [] → after ≡ mid ++ Live (get_or xs i d).segment (get_or xs i d).generation ∷ []
    → after ≡ flat_map files_of (take (i + 1) c.listed)
names_next c xs i d before mid after is lt names first second =
    second
    ∙ ap (λ (ns : List FileName). ns ++ Live (get_or xs i d).segment (get_or xs i d).generation ∷ []) first
    ∙ names_more before c.listed i d (get_or xs i d) (subst (λ (ys : List Listed). i < length ys) is lt) (ap (λ (ys : List Listed). get_or ys i d) (sym is))
    names

pub below_next : (c : CommitData) (xs : List Listed) (i : ℕ) (d : Listed) (n : ℕ) → xs ≡ c.listed → IsCommit c → i < length xs → n ≡ c.next_segment
    → (get_or xs i d).segment < n
below_next c xs i d n is commit lt next =
    subst (λ m. (get_or xs i d).segment < m) (sym next)
    (subst (λ (ys : List Listed). (get_or ys i d).segment < c.next_segment) (sym is)
    (commit.segments.each i d (subst (λ (ys : List Listed). i < length ys) is lt)).id)

pub names_all : (c : CommitData) (xs : List Listed) (i : ℕ) (names : List FileName) → xs ≡ c.listed → length xs ≤ i
    → names ≡ flat_map files_of (take i c.listed) → names ≡ flat_map files_of c.listed
names_all c xs i names is le names_are = names_are ∙ ap (flat_map files_of) (take_whole c.listed i (subst (λ (ys : List Listed). length ys ≤ i) is le))

lists_of : (c : CommitData) (s : Listed) (m : FileName) → Contains c.listed s → Contains (files_of s) m → ListsFile c m
lists_of c s m there has = ⊎_elim
    (λ e. subst (ListsFile c) e (s, there, refl))
    (λ later. ⊎_elim (λ e. subst (ListsFile c) e (s, there, refl, refl)) (λ none. nil_none m (ListsFile c m) none)
    (cons_cases (Live s.segment s.generation) [] m later))
    (cons_cases (Segment s.segment) (Live s.segment s.generation ∷ []) m has)

has_listed : (c : CommitData) (m : FileName) → ListsFile c m → Contains (flat_map files_of c.listed) m
has_listed c (Segment id) (s, there, is) =
    subst (λ n. Contains (flat_map files_of c.listed) (Segment n)) is
    (in_flat_map files_of c.listed s (Segment s.segment) there (cons_head (Segment s.segment) (Live s.segment s.generation ∷ [])))
has_listed c (Live id generation) (s, there, is, at) =
    subst (λ n. Contains (flat_map files_of c.listed) (Live n generation)) is
    (subst (λ n. Contains (flat_map files_of c.listed) (Live s.segment n)) at
    (in_flat_map files_of c.listed s (Live s.segment s.generation) there
    (cons_tail (Segment s.segment) (Live s.segment s.generation ∷ []) (Live s.segment s.generation) (cons_head (Live s.segment s.generation) []))))
has_listed c Commit none = absurd none
has_listed c CommitNew none = absurd none

pub names_listed : (c : CommitData) (names : List FileName) → names ≡ flat_map files_of c.listed → (m : FileName) → (is_named names m ≡ true) ↔ ListsFile c m
names_listed c names is m = (
  λ named. let found = of_flat_map files_of c.listed m (subst (λ (ns : List FileName). Contains ns m) is (is_named-contains names m named)) in
      lists_of c found.0 m found.1 found.2,
  λ lists. contains-is_named names m (subst (λ (ns : List FileName). Contains ns m) (sym is) (has_listed c m lists)),
)

pub commit_unlisted : (c : CommitData) (names : List FileName) → names ≡ flat_map files_of c.listed → is_named names Commit ≡ false
commit_unlisted c names is = false_from_ne_true (is_named names Commit) (λ named. (names_listed c names is Commit).0 named)

-- ---- the set that is attached

abbrev pub attached : CommitData → NameList → List LiveSegment → PageCache → SetData
attached c names parts cache = record {
  leaf_size = c.leaf_size;
  next = c.next;
  points_given = c.points_given;
  names = names;
  parts = parts;
  buffer = [];
  snapshots = [];
  begun = None;
  cache = cache;
  saved = None;
}

pub sees_attached : (D : ℕ) (files : Files) (c : CommitData) (names : NameList) (parts : List LiveSegment) (cache : PageCache) (i : Index) → c.dims ≡ D
    → IsCommitFile (bytes_of (files Commit)) c → IsStored files (Some i)
    → HaveHeads files c (map (λ (p : LiveSegment). p.head) parts) → HaveLive files c (lives_of parts) → Agrees files cache
    → Sees D files (attached c names parts cache) i
sees_attached D files c names parts cache i dims says stored heads lives agrees =
    let found = held_for files c (Some i) stored says in
    by found.0 found.1 (ap (λ (o : State). or_this o) found.2)
  where
    or_this : State → Index
    or_this None = i
    or_this (Some j) = j

    by : (docs : List Document) (held : HoldsIndex files c docs) → i ≡ index_of c docs → Sees D files (attached c names parts cache) i
    by docs held is = subst (Sees D files (attached c names parts cache)) (sym is) (record {
      contents = es;
      stands = record {
        now = subst (AreRead D files es) (sym same) read;
        kept = All-nil (λ (v : NamedView). AreRead D files es v.parts);
        begun = tt;
        agrees = agrees;
      };
      dims = dims;
      leaf_size = refl;
      next = refl;
      points_given = refl;
      begun = refl;
      docs = subst (λ (xs : List Item). AreDocs c.next xs docs) (sym entries) held.are_docs;
      few = let long = ap length entries in let few = held.few in omega arith;
      snapshots = tt;
    })
      where
        es : Contents
        es = entries_at held.parts

        same : parts ≡ map as_part held.parts
        same = parts_held files c parts held.parts heads lives held.segments

        by_id : All (λ (d : SegmentData). es d.head.id ≡ d.entries) held.parts
        by_id = contents files c held.parts says.spells.commit.segments.rising held.segments

        one : (d : SegmentData) → (s : Listed) × Contains c.listed s × HoldsFiles files c s d → es d.head.id ≡ d.entries → IsRead D files es (as_part d)
        one d (s, there, h) entries_are = record {
          held = subst (λ (xs : List Item). IsSegment D (bytes_of (files (Segment d.head.id))) d.head xs) (sym entries_are)
              (subst (λ n. IsSegment n (bytes_of (files (Segment d.head.id))) d.head d.entries) dims
              (subst (λ n. IsSegment c.dims (bytes_of (files (Segment n))) d.head d.entries) (sym h.id) h.segment));
          found = λ number live. ap (λ (xs : List Item). has_entry number xs) entries_are ∙ h.found number live;
        }

        read : AreRead D files es (map as_part held.parts)
        read = All-map (IsRead D files es) as_part held.parts
            (λ k d lt. one (get_or held.parts k d)
            (partner_of (HoldsFiles files c) c.listed held.parts held.segments (get_or held.parts k d) (All-contains_itself held.parts k d lt)) (by_id k d lt))

        entries : live_in_parts es parts ++ [] ≡ all_live_entries held.parts
        entries = append-nil (live_in_parts es parts) ∙ ap (live_in_parts es) same ∙ entries_map es held.parts by_id

once_none : NoneTwice []
unfolding NoneTwice
once_none x = omega arith

pub well_attached : (D : ℕ) (told : Type 0) (files : Files) (c : CommitData) (names : NameList) (parts : List LiveSegment) (cache : PageCache) → c.dims ≡ D
    → IsCommit c → AllZip (IsOpened told files c) c.listed parts
    → ((number : ℕ) → (places number (lives_of parts) ≤ 1) × (c.next ≤ number → places number (lives_of parts) ≡ 0))
    → ((m : FileName) → (is_named names.names m ≡ true) ↔ ListsFile c m) → is_named names.names Commit ≡ false
    → ((id : ℕ) → KeepsFile cache id → ⊥) → IsWell D (attached c names parts cache)
well_attached D told files c names parts cache dims commit all placed listed own none = record {
  some_dims = subst (λ n. 1 ≤ n) dims commit.ranges.some_dims;
  few_dims = subst (λ n. n ≤ 8) dims commit.ranges.most_dims;
  least_leaf = commit.ranges.least_leaf;
  greatest_leaf = subst (λ n. c.leaf_size ≤ leaf_limit n) dims commit.ranges.most_leaf;
  numbered = commit.ranges.numbered;
  most_given = commit.ranges.most_given;
  spread = record { alone = λ number. (let one = (placed number).0 in omega (arith, one)); below = λ number le. ((placed number).1 le, refl) };
  room = omega arith;
  ordered = IsNonDecreasingBy-short (λ (x : Item). x.doc) [] (omega arith);
  once = once_none;
  sixteen = λ number. omega arith;
  few = let long = zip_length (IsOpened told files c) c.listed parts all in let few = commit.ranges.few in omega arith;
  leaf_size = zip_right (IsOpened told files c) (λ (s : Listed). Unit {0}) (λ (p : LiveSegment). p.head.leaf_size ≡ c.leaf_size) c.listed parts
      (λ s p u one. one.listed.leaf_size) (λ k s lt. tt) all;
  live_fits = zip_right (IsOpened told files c) (λ (s : Listed). s.live ≤ s.entries) (λ (p : LiveSegment). length p.live.live ≤ p.head.entries) c.listed parts
      (λ s p le one. omega (arith, le, one.listed.live, one.listed.entries)) (λ k s lt. (commit.segments.each k s lt).live) all;
  named = zip_right (IsOpened told files c) (Contains c.listed) (IsNamed names) c.listed parts
      (λ s p there one. (listed (Segment p.head.id)).1 (s, there, sym one.listed.id)) (All-contains_itself c.listed) all;
  kept = All-nil (λ (v : NamedView). All (IsNamed names) v.parts);
  own = own;
  few_snapshots = omega arith;
  rooms = All-nil (λ (v : NamedView). length v.buffer ≤ 16384);
  inputs = All-nil (λ id. is_among (ids_of parts) id ≡ true);
  few_inputs = omega arith;
  built = λ n is. absurd cc;
  cached = λ id keeps. absurd (none id keeps);
  unhidden = unhidden_nothing _ cache parts none;
}

pub at_rest_attached : (told : Type 0) (files : Files) (c : CommitData) (names : NameList) (parts : List LiveSegment) (cache : PageCache)
    → AllZip (IsOpened told files c) c.listed parts → names.next_segment ≡ c.next_segment
    → IsAtRest (attached c names parts cache) c
at_rest_attached told files c names parts cache all next = record {
  leaf_size = refl;
  as_committed = record {
    next = refl;
    points_given = refl;
    ids = zip_same (IsOpened told files c) (λ (s : Listed). s.segment) (λ (p : LiveSegment). p.head.id) (λ s p one. one.listed.id) c.listed parts all;
    counts =
        zip_same (IsOpened told files c) (λ (s : Listed). s.live) (λ (p : LiveSegment). length p.live.live) (λ s p one. one.listed.live) c.listed parts all;
    empty = refl;
  };
  entries =
      zip_same (IsOpened told files c) (λ (s : Listed). s.entries) (λ (p : LiveSegment). p.head.entries) (λ s p one. one.listed.entries) c.listed parts all;
  next_segment = next;
  snapshots = refl;
  begun = refl;
  saved = refl;
}

-- the set as a call makes it
pub attached_is : (c : CommitData) (names : NameList) (parts : List LiveSegment) (cache : PageCache) (leaf_size next points_given : ℕ) (buffer : List Item)
    (snapshots : List NamedView) → leaf_size ≡ c.leaf_size → next ≡ c.next → points_given ≡ c.points_given → buffer ≡ [] → snapshots ≡ []
    → record (attached c names parts cache) { leaf_size = leaf_size; next = next; points_given = points_given; buffer = buffer; snapshots = snapshots }
    ≡ attached c names parts cache
attached_is c names parts cache leaf_size next points_given buffer snapshots l n g b s =
    λ i. record (attached c names parts cache) { leaf_size = l i; next = n i; points_given = g i; buffer = b i; snapshots = s i }
