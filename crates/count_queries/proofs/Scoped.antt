-- What a folder's segments are where it stores a state, and those that were opened.
use Rattle.std.proofs.Common.{◌≡◌, ℕ, List, [], ◌∷◌, get_or, map, Some, None, refl, sym, ap, subst, ◌∙◌, All}
use Rattle.std.specs.List.{AllZip, Contains}
use Rattle.std.proofs.lemmas.List.Elements.{All-contains_itself, All-map}
use Rattle.outer_io.specs.declared.file_name.FileName.TheVariants.{Commit, Segment}
use Rattle.outer_io.specs.Files.{Files, bytes_of}
use Rattle.point_codec.specs.Points.{Item}
use Rattle.documents.specs.Documents.{Document}
use Rattle.documents.specs.Entries.{AreDocs, has_entry}
use Rattle.commit_list.specs.declared.listed.Listed.{Listed}
use Rattle.commit_list.specs.Commits.{CommitData}
use Rattle.commit_list.specs.CommitFiles.{IsCommitFile}
use Rattle.commit_list.proofs.CommitPages.{file_there, one_file}
use Rattle.segment_file.specs.Heads.{Head}
use Rattle.segment_file.specs.Segments.{IsHeadOf, IsSegment}
use Rattle.index_model.specs.State.{Index, State}
use Rattle.stored_index.specs.Segments.{SegmentData, entries_at}
use Rattle.stored_index.specs.Stored.{HasHead, HaveHeads, HaveLive, HoldsFiles, HoldsIndex, IsStored, index_of}
use Rattle.stored_index.proofs.Pairwise.{partner_of}
use Rattle.stored_index.proofs.Parts.{contents, head_in, held_heads, held_sets}
use Rattle.stored_index.proofs.Whole.{held_for}
use Rattle.segment_view.specs.LiveSegments.{AreRead, Contents, IsRead, LiveSegment, heads_of, live_in_parts, lives_of}
use Rattle.segment_view.specs.Held.{HasOwnHead}
use Rattle.index_opening.specs.Opened.{IsOpened}
use Rattle.index_opening.proofs.Listed.{as_part, lives_map, opened_heads, opened_lives, parts_held, entries_map}
use Rattle.index_opening.proofs.Ordered.{zip_right}
use Rattle.commands.proofs.Looking.{AreScopes}
use Rattle.count_queries.specs.Counted.{AreStoredParts, IsScope, Scope, bare, scope_heads}
use Rattle.count_queries.specs.Counts.{IsCounting}

-- ---- a folder whose Commit file says a commit

-- it stores an index, and the segments are those that are held
pub record Holds (files : Files) (c : CommitData) (s : Scope) : Type 0 where
  pub docs : List Document
  pub holds : HoldsIndex files c docs
  pub state : s.state ≡ Some (index_of c docs)
  pub parts : s.parts ≡ map as_part holds.parts

some_parts : (files : Files) (c : CommitData) (i : Index) (parts : List LiveSegment) → IsCommitFile (bytes_of (files Commit)) c
    → AreStoredParts files (Some i) parts
    → HaveHeads files c (heads_of parts) × HaveLive files c (lives_of parts)
some_parts files c i parts says (e, is, heads, lives) =
    subst (λ (d : CommitData). HaveHeads files d (heads_of parts) × HaveLive files d (lives_of parts)) (one_file (bytes_of (files Commit)) e c is says)
    (heads, lives)

pub scope_holds : (files : Files) (c : CommitData) (s : Scope) → IsCommitFile (bytes_of (files Commit)) c → IsScope files s → Holds files c s
scope_holds files c s says scope =
    let held = held_for files c s.state scope.stored says in
    let have = some_parts files c (index_of c held.0) s.parts says (subst (λ (o : State). AreStoredParts files o s.parts) held.2 scope.parts) in
    record { docs = held.0; holds = held.1; state = held.2; parts = parts_held files c s.parts held.1.parts have.0 have.1 held.1.segments }

heads_map : (held : List SegmentData) → heads_of (map as_part held) ≡ map head_in held
heads_map [] = refl
heads_map (d ∷ ds) = ap (λ (hs : List Head). d.head ∷ hs) (heads_map ds)

pub has_heads : (files : Files) (c : CommitData) (s : Scope) → Holds files c s → HaveHeads files c (heads_of s.parts)
has_heads files c s h = subst (HaveHeads files c) (sym (ap heads_of h.parts ∙ heads_map h.holds.parts)) (held_heads files c h.holds.parts h.holds.segments)

pub has_lives : (files : Files) (c : CommitData) (s : Scope) → Holds files c s → HaveLive files c (lives_of s.parts)
has_lives files c s h = subst (HaveLive files c) (sym (ap lives_of h.parts ∙ lives_map h.holds.parts)) (held_sets files c h.holds.parts h.holds.segments)

-- each state that is stored has segments
pub scope_of : (files : Files) (state : State) → IsStored files state → (s : Scope) × IsScope files s
scope_of files None stored = (bare, record { stored = stored; parts = refl })
scope_of files (Some i) stored =
    let held = stored.holds.parts in (
      record { state = Some i; parts = map as_part held },
      record {
        stored = stored;
        parts = (
          stored.commit,
          stored.holds.commit,
          subst (HaveHeads files stored.commit) (sym (heads_map held)) (held_heads files stored.commit held stored.holds.segments),
          subst (HaveLive files stored.commit) (sym (lives_map held)) (held_sets files stored.commit held stored.holds.segments),
        );
      },
    )

-- a scope's heads are those that the commit lists
pub are_scopes : AreScopes IsScope scope_heads
are_scopes = record {
  of = scope_of;
  stored = λ files s scope. (s.state, scope.stored);
  have = λ files c s says scope. has_heads files c s (scope_holds files c s says scope);
}

-- without a Commit file there is none
pub none_scope : (files : Files) (s : Scope) → files Commit ≡ None → IsScope files s → s ≡ bare
none_scope files s none scope = by s.state s.parts scope.stored scope.parts
  where
    by : (state : State) (parts : List LiveSegment) → IsStored files state → AreStoredParts files state parts
        → ◌≡◌ {A = Scope} (record { state = state; parts = parts }) bare
    by None parts stored is = λ i. record { state = None; parts = is i }
    by (Some j) parts stored is = let there = (file_there (files Commit) stored.commit stored.holds.commit).0 in absurd cc

-- ---- segments that were opened

-- their heads are those of their files
pub own_heads : (T : Type 0) (D : ℕ) (files : Files) (c : CommitData) (parts : List LiveSegment) → T → c.dims ≡ D → AllZip (IsOpened T files c) c.listed parts
    → All (HasOwnHead D files) parts
own_heads T D files c parts t dims opened =
    zip_right (IsOpened T files c) (Contains c.listed) (HasOwnHead D files) c.listed parts (λ s p there o. own s p (o.head t)) (All-contains_itself c.listed)
    opened
  where
    own : (s : Listed) (p : LiveSegment) → HasHead c.dims files s p.head → HasOwnHead D files p
    own s p h =
        subst (λ n. IsHeadOf n (bytes_of (files (Segment p.head.id))) p.head) dims
        (subst (λ id. IsHeadOf c.dims (bytes_of (files (Segment id))) p.head) (sym h.id) h.is)

-- where an index is stored their files hold its documents
module _ (D : ℕ) (files : Files) (c : CommitData) (parts : List LiveSegment) (s : Scope) (dims : c.dims ≡ D) (says : IsCommitFile (bytes_of (files Commit)) c)
    (h : Holds files c s) where
  abbrev es : Contents
  es = entries_at h.holds.parts

  by_id : All (λ (d : SegmentData). es d.head.id ≡ d.entries) h.holds.parts
  by_id = contents files c h.holds.parts says.spells.commit.segments.rising h.holds.segments

  one : (d : SegmentData) → (l : Listed) × Contains c.listed l × HoldsFiles files c l d → es d.head.id ≡ d.entries → IsRead D files es (as_part d)
  one d (l, there, held) entries_are = record {
    held = subst (λ (xs : List Item). IsSegment D (bytes_of (files (Segment d.head.id))) d.head xs) (sym entries_are)
        (subst (λ n. IsSegment n (bytes_of (files (Segment d.head.id))) d.head d.entries) dims
        (subst (λ n. IsSegment c.dims (bytes_of (files (Segment n))) d.head d.entries) (sym held.id) held.segment));
    found = λ number live. ap (λ (xs : List Item). has_entry number xs) entries_are ∙ held.found number live;
  }

  read : AreRead D files es (map as_part h.holds.parts)
  read = All-map (IsRead D files es) as_part h.holds.parts
      (λ k d lt. one (get_or h.holds.parts k d)
      (partner_of (HoldsFiles files c) c.listed h.holds.parts h.holds.segments (get_or h.holds.parts k d) (All-contains_itself h.holds.parts k d lt))
      (by_id k d lt))

  pub held_counting : parts ≡ map as_part h.holds.parts → IsCounting D files parts s
  held_counting same = record {
    index = index_of c h.docs;
    state = h.state;
    dims = dims;
    parts_are = h.parts ∙ sym same;
    contents = es;
    read = subst (AreRead D files es) (sym same) read;
    next = c.next;
    docs = subst (λ (xs : List Item). AreDocs c.next xs h.docs) (sym (ap (live_in_parts es) same ∙ entries_map es h.holds.parts by_id)) h.holds.are_docs;
  }

pub opened_counting : (T : Type 0) (D : ℕ) (files : Files) (c : CommitData) (parts : List LiveSegment) (s : Scope) → T → c.dims ≡ D
    → IsCommitFile (bytes_of (files Commit)) c → AllZip (IsOpened T files c) c.listed parts → IsScope files s
    → IsCounting D files parts s
opened_counting T D files c parts s t dims says opened scope =
    let h = scope_holds files c s says scope in
    held_counting D files c parts s dims says h
    (parts_held files c parts h.holds.parts (opened_heads T files c parts t opened) (opened_lives T files c parts t opened) h.holds.segments)
