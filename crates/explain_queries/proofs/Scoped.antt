-- What the heads of a folder's segments are, and those of a set that was attached.
use Rattle.std.proofs.Common.{◌≡◌, ◌≤◌, ◌+◌, ◌/◌, ℕ, List, [], ◌∷◌, length, map, Some, None, refl, sym, ap, subst, inl, All}
use Rattle.std.specs.List.{AllZip, Contains}
use Rattle.std.proofs.lemmas.List.Elements.{All-head, All-tail}
use Rattle.outer_io.specs.declared.file_name.FileName.TheVariants.{Commit, Segment}
use Rattle.outer_io.specs.Files.{Files, bytes_of}
use Rattle.live_bits.specs.LiveSet.{LiveSet}
use Rattle.commit_list.specs.declared.listed.Listed.{Listed}
use Rattle.commit_list.specs.Commits.{CommitData}
use Rattle.commit_list.specs.CommitFiles.{IsCommitFile}
use Rattle.commit_list.proofs.CommitPages.{file_there, one_file}
use Rattle.segment_file.specs.Heads.{Head}
use Rattle.segment_file.specs.Segments.{IsHeadOf}
use Rattle.segment_file.proofs.Unique.{head_of_segment}
use Rattle.segment_view.specs.LiveSegments.{Contents, IsRead, LiveSegment, heads_of, lives_of}
use Rattle.index_model.specs.State.{Index, State}
use Rattle.stored_index.specs.Stored.{HasHead, HasLive, HaveHeads, HaveLive, IsStored, index_of}
use Rattle.stored_index.specs.Segments.{live_sets}
use Rattle.stored_index.specs.Opening.{IsOpening, segments_pages}
use Rattle.stored_index.proofs.Pairwise.{held_of}
use Rattle.stored_index.proofs.Parts.{head_in, heads_once, held_heads, held_sets}
use Rattle.stored_index.proofs.Whole.{held_for}
use Rattle.segment_set.specs.Sets.{SetData}
use Rattle.segment_set.specs.Seen.{Sees}
use Rattle.segment_set.specs.Faithful.{HasFileHead, IsFaithful}
use Rattle.segment_set.specs.Kept.{IsAtRest}
use Rattle.documents.proofs.Lists.{in_map, of_map}
use Rattle.index_opening.specs.Evidence.{IsOfListed}
use Rattle.commands.proofs.Looking as looking
use Rattle.commands.proofs.Looking.{AreScopes}
use Rattle.commands.proofs.Opening.{opens_parts}
use Rattle.commands.specs.Opens.{Opens}
use Rattle.explain_queries.specs.Explained.{AreStoredHeads, IsScope, Scope, scope_heads}
use Rattle.explain_queries.specs.Explains.{IsExplaining}

pub heads_zip : (D : ℕ) (files : Files) (c : Contents) (ls : List Listed) (ps : List LiveSegment) → All (IsRead D files c) ps
    → map (λ (p : LiveSegment). p.head.id) ps ≡ map (λ (l : Listed). l.segment) ls
    → AllZip (HasHead D files) ls (heads_of ps)
heads_zip D files c [] [] reads same = tt
heads_zip D files c [] (p ∷ ps) reads same = absurd cc
heads_zip D files c (l ∷ ls) [] reads same = absurd cc
heads_zip D files c (l ∷ ls) (p ∷ ps) reads same =
    let at : p.head.id ≡ l.segment = cc in
    let later : map (λ (q : LiveSegment). q.head.id) ps ≡ map (λ (m : Listed). m.segment) ls = cc in
    let read = All-head (IsRead D files c) p ps reads in (
      record {
        id = at;
        is = subst (λ n.
            IsHeadOf D (bytes_of (files (Segment n))) p.head) at (head_of_segment D (bytes_of (files (Segment p.head.id))) p.head (c p.head.id) read.held);
      },
      heads_zip D files c ls ps (All-tail (IsRead D files c) p ps reads) later,
    )

-- a folder whose Commit file says a commit stores an index, and the heads are those that it lists
pub record Holds (files : Files) (c : CommitData) (s : Scope) : Type 0 where
  pub index : Index
  pub state : s.state ≡ Some index
  pub stored : IsStored files (Some index)
  pub heads : HaveHeads files c s.heads
  pub sets : List LiveSet
  pub live : HaveLive files c sets

some_heads : (files : Files) (c : CommitData) (i : Index) (heads : List Head) → IsCommitFile (bytes_of (files Commit)) c → AreStoredHeads files (Some i) heads
    → HaveHeads files c heads
some_heads files c i heads says (e, is, have) = subst (λ (d : CommitData). HaveHeads files d heads) (one_file (bytes_of (files Commit)) e c is says) have

pub scope_holds : (files : Files) (c : CommitData) (s : Scope) → IsCommitFile (bytes_of (files Commit)) c → IsScope files s → Holds files c s
scope_holds files c s says scope =
    let held = held_for files c s.state scope.stored says in
    record {
      index = index_of c held.0;
      state = held.2;
      stored = subst (IsStored files) held.2 scope.stored;
      heads = some_heads files c (index_of c held.0) s.heads says (subst (λ (o : State). AreStoredHeads files o s.heads) held.2 scope.heads);
      sets = live_sets held.1.parts;
      live = held_sets files c held.1.parts held.1.segments;
    }

-- without a Commit file there is none
pub none_scope : (files : Files) (s : Scope) → files Commit ≡ None → IsScope files s → s ≡ record { state = None; heads = [] }
none_scope files s none scope = by s.state s.heads scope.stored scope.heads
  where
    by : (state : State) (heads : List Head) → IsStored files state → AreStoredHeads files state heads
        → ◌≡◌ {A = Scope} (record { state = state; heads = heads }) (record { state = None; heads = [] })
    by None heads stored is = λ i. record { state = None; heads = is i }
    by (Some j) heads stored is = let there = (file_there (files Commit) stored.commit stored.holds.commit).0 in absurd cc

-- each state that is stored has heads
pub scope_of : (files : Files) (state : State) → IsStored files state → (s : Scope) × IsScope files s
scope_of files None stored = (record { state = None; heads = [] }, record { stored = stored; heads = refl })
scope_of files (Some i) stored = (
  record { state = Some i; heads = map head_in stored.holds.parts },
  record { stored = stored; heads = (stored.commit, stored.holds.commit, held_heads files stored.commit stored.holds.parts stored.holds.segments) },
)

-- a set that was attached is one whose index is explained
pub attached_explains : (D : ℕ) (files : Files) (c : CommitData) (set : SetData) (s : Scope) → c.dims ≡ D → IsCommitFile (bytes_of (files Commit)) c
    → ((i : Index) → IsStored files (Some i) → Sees D files set i)
    → IsAtRest set c → IsScope files s → IsExplaining D files set s
attached_explains D files c set s dims says seen rest scope =
    let holds = scope_holds files c s says scope in
    let sees = seen holds.index holds.stored in
    record {
      index = holds.index;
      state = holds.state;
      seen = sees;
      heads = heads_once files c (heads_of set.parts) s.heads
          (subst (λ n. AllZip (HasHead n files) c.listed (heads_of set.parts)) (sym dims)
          (heads_zip D files sees.contents c.listed set.parts sees.stands.now rest.as_committed.ids)) holds.heads;
    }

-- a scope's heads are those that the commit lists
pub are_scopes : AreScopes IsScope scope_heads
are_scopes = record {
  of = scope_of;
  stored = λ files s scope. (s.state, scope.stored);
  have = λ files c s says scope. (scope_holds files c s says scope).heads;
}

-- opening reads the pages of the commit, and those of the segments
pub opening_is : (files : Files) (c : CommitData) (s : Scope) (pages : ℕ) → IsCommitFile (bytes_of (files Commit)) c → IsScope files s → IsOpening files pages
    → pages ≡ length (bytes_of (files Commit)) / 4096 + segments_pages files c.listed s.heads
opening_is = looking.opening_is IsScope scope_heads are_scopes

-- reading the commit reads no more than opening, where a state is stored
pub commit_few : (files : Files) (s : Scope) (pages before now : ℕ) → IsScope files s → IsOpening files pages → (files Commit ≡ None → now ≡ before)
    → ((c : CommitData) → IsCommitFile (bytes_of (files Commit)) c → now ≤ before + length (bytes_of (files Commit)) / 4096) → now ≤ before + pages
commit_few = looking.commit_few IsScope scope_heads are_scopes

-- ---- a set that was attached

-- the commit lists its segments
pub attached_part : (files : Files) (c : CommitData) (set : SetData) → IsCommitFile (bytes_of (files Commit)) c → IsAtRest set c → (p : LiveSegment)
    → Contains set.parts p → IsOfListed files (Segment p.head.id)
attached_part files c set says rest p there =
    let l = of_map (λ (l : Listed). l.segment) c.listed p.head.id (subst (λ (ns : List ℕ). Contains ns p.head.id) rest.as_committed.ids
    (in_map (λ (q : LiveSegment). q.head.id) set.parts p there)) in
    record { commit = c; says = says; listed = l.0; there = l.1; is = inl (ap (λ (n : ℕ). Segment n) (sym l.2)) }

-- all that the commit lists was opened
pub attached_opens : (D : ℕ) (files : Files) (c : CommitData) (set : SetData) → c.dims ≡ D → IsCommitFile (bytes_of (files Commit)) c → IsAtRest set c
    → HaveLive files c (lives_of set.parts) → IsFaithful D files set → Opens files
attached_opens D files c set dims says rest lives faithful =
    opens_parts files c set.parts says rest.as_committed.ids (subst (λ (n : ℕ). All (HasFileHead n files) set.parts) (sym dims) faithful.heads)
    (λ l p there inside is. held_of (HasLive files) c.listed (lives_of set.parts) lives l there)
