-- A done commit's files of live bits hold what is live in the session's set, so a set that is attached anew has the same live.
use Rattle.std.proofs.Common.{◌≡◌, ℕ, true, cond, ◌||◌, List, [], ◌∷◌, length, map, Option, Some, refl, sym, ap, subst, ◌∙◌, inl}
use Rattle.std.proofs.Math.Logic.{∥∥₁_elim}
use Rattle.std.proofs.Props.{props}
use Rattle.std.specs.List.{All, AllZip, Contains}
use Rattle.std.proofs.lemmas.List.Elements.{All-contains, All-head, All-tail}
use Rattle.outer_io.specs.declared.file_name.FileName.TheVariants.{Commit, CommitNew, Live, Segment}
use Rattle.outer_io.specs.Files.{Files, SameButTwo, bytes_of}
use Rattle.point_codec.specs.Points.{Item}
use Rattle.live_bits.specs.LiveSet.{IsLiveSet, LiveSet, is_live}
use Rattle.documents.specs.Entries.{has_entry}
use Rattle.documents.proofs.Lists.{cons_head, cons_tail}
use Rattle.commit_list.specs.declared.listed.Listed.{Listed}
use Rattle.commit_list.specs.Commits.{CommitData}
use Rattle.commit_list.specs.CommitFiles.{IsCommitFile}
use Rattle.segment_file.specs.Heads.{Head}
use Rattle.segment_file.specs.LiveFiles.{IsLiveFile}
use Rattle.segment_file.specs.Segments.{IsHeadOf}
use Rattle.segment_file.proofs.LiveLemmas.{one_live_set}
use Rattle.segment_file.proofs.Unique.{one_head}
use Rattle.stored_index.specs.Kept.{SameKept}
use Rattle.stored_index.specs.Stored.{HasLive, HaveLive}
use Rattle.stored_index.proofs.Pairwise.{partner_of, zip_map, zip_once}
use Rattle.segment_view.specs.LiveSegments.{LiveSegment, has_live, ids_of, lives_of}
use Rattle.index_opening.specs.Evidence.{IsHeadIn}
use Rattle.segment_set.specs.Faithful.{HasFileHead, IsFaithful}
use Rattle.segment_set.specs.Sets.{SetData}
use Rattle.segment_set.specs.Kept.{IsAsCommitted, IsSubset, StaysButFiles}
use Rattle.segment_set.specs.Saved.{CoversPart}
use Rattle.segment_set.proofs.Carried.{within_itself}
use Rattle.segment_set.proofs.Covered.{live_file_set}
use Rattle.segment_set.proofs.Numbers.{same_live}
use Rattle.index_core.specs.Brought.{KeepsCommit, KeepsOwn}
use Rattle.index_core.specs.Lasting.{Lasts}
use Rattle.index_core.specs.Carried.{Carries}
use Rattle.index_core.specs.Effects.{BringsCanonical}
use Rattle.index_core.specs.Sessions.{Guards, IsLast, IsLastCommit, IsSetTraced, IsSound, IsUnchanged, SessionData, StaysTrue, Trusts}
use Rattle.index_core.specs.Steps.{SaysCommit}
use Rattle.index_core.proofs.Committing.{some_same}
use Rattle.index_core.proofs.Guarding.{cons_first, cons_rest}
use Rattle.index_core.proofs.Lasting.{NoneGoes}
use Rattle.index_core.proofs.Owned.{HoldLive}

-- ---- the files of live bits of a commit

-- the listed file covers the segment, and has as many numbers
exact_live : (files : Files) (l : Listed) (p : LiveSegment) → IsLiveSet p.live → length p.live.live ≡ l.live → CoversPart files l p → HasLive files l p.live
exact_live files l p set count covers =
    subst (IsLiveFile l.segment l.generation (bytes_of (files (Live l.segment l.generation))))
    (sym (same_live p.live covers.live set
    (live_file_set l.segment l.generation (bytes_of (files (Live l.segment l.generation))) covers.live covers.file) covers.covers (count ∙ sym covers.count)))
    covers.file

exact_lives : (files : Files) (listed : List Listed) (parts : List LiveSegment) → All (λ p. IsLiveSet p.live) parts
    → ids_of parts ≡ map (λ l. l.segment) listed → map (λ p. length p.live.live) parts ≡ map (λ l. l.live) listed
    → ((l : Listed) (p : LiveSegment) → Contains listed l → Contains parts p → l.segment ≡ p.head.id → CoversPart files l p)
    → AllZip (HasLive files) listed (lives_of parts)
exact_lives files [] [] sets ids counts covers = tt
exact_lives files [] (p ∷ ps) sets ids counts covers = absurd cc
exact_lives files (l ∷ ls) [] sets ids counts covers = absurd cc
exact_lives files (l ∷ ls) (p ∷ ps) sets ids counts covers = (
  exact_live files l p (All-head (λ (q : LiveSegment). IsLiveSet q.live) p ps sets) (cons_first counts)
      (covers l p (cons_head l ls) (cons_head p ps) (sym (cons_first ids))),
  exact_lives files ls ps (All-tail (λ (q : LiveSegment). IsLiveSet q.live) p ps sets) (cons_rest ids) (cons_rest counts)
      (λ m q inside there same. covers m q (cons_tail l ls m inside) (cons_tail p ps q there) same),
)

-- of the commit since which nothing changed
pub unchanged_lives : (D : ℕ) (files : Files) (s : SessionData) → IsUnchanged s → IsSound D s → Guards D files s → (c : CommitData) → s.commit ≡ Some c
    → HaveLive files c (lives_of s.set.parts)
unchanged_lives D files s u sound guards c is =
    let last : IsLastCommit files s.set u.commit = subst (IsLast files s.set) u.is (guards.last u.done) in
    subst (λ (d : CommitData). HaveLive files d (lives_of s.set.parts)) (some_same u.commit c (sym u.is ∙ is))
    (exact_lives files u.commit.listed s.set.parts sound.sets u.same.ids u.same.counts last.covers)

-- of one that was written, after a sweep
pub swept_lives : (saved written swept : Files) (t w v : SetData) (c d : CommitData) (commit then : Option CommitData) → HoldLive saved c t
    → SameButTwo CommitNew Commit saved written → SaysCommit written commit → commit ≡ Some c → SameKept written swept → w ≡ t → StaysButFiles w v
    → then ≡ Some c → then ≡ Some d → HaveLive swept d (lives_of v.parts)
swept_lives saved written swept t w v c d commit then lives others (e, is, says) same kept like stays one other =
    subst (λ (x : CommitData). HaveLive swept x (lives_of v.parts)) (some_same c d (sym one ∙ other))
    (subst (λ (ps : List LiveSegment). HaveLive swept c (lives_of ps))
    (sym (ap (λ (u : SetData). u.parts) stays.is ∙ ap (λ (u : SetData). u.parts) like))
    (zip_map (λ (l : Listed) (p : LiveSegment). IsLiveFile l.segment l.generation (bytes_of (saved (Live l.segment l.generation))) p.live) (HasLive swept)
    (λ (p : LiveSegment). p.live) c.listed t.parts
    (λ l p there h. subst (λ (b : Option (List ℕ)). IsLiveFile l.segment l.generation (bytes_of b) p.live) (sym (file l there)) h) lives))
  where
    file : (l : Listed) → Contains c.listed l → swept (Live l.segment l.generation) ≡ saved (Live l.segment l.generation)
    file l there =
        kept.listed c (subst (λ (x : CommitData). IsCommitFile (bytes_of (written Commit)) x) (some_same e c (sym is ∙ same)) says)
        (Live l.segment l.generation) (l, there, refl, refl)
        ∙ others (Live l.segment l.generation) (λ x. cc) (λ x. cc)

-- ---- two sets of one commit

-- the segments have one id, and the same is live in them
abbrev AreAlike : LiveSegment → LiveSegment → Type 0
AreAlike q p = (q.head.id ≡ p.head.id) × (q.live ≡ p.live)

all_alike : (qs ps : List LiveSegment) → ids_of qs ≡ ids_of ps → lives_of qs ≡ lives_of ps → AllZip AreAlike qs ps
all_alike [] [] ids lives = tt
all_alike [] (p ∷ ps) ids lives = absurd cc
all_alike (q ∷ qs) [] ids lives = absurd cc
all_alike (q ∷ qs) (p ∷ ps) ids lives = ((cons_first ids, cons_first lives), all_alike qs ps (cons_rest ids) (cons_rest lives))

live_alike : (number : ℕ) (qs ps : List LiveSegment) → AllZip AreAlike qs ps → has_live number qs ≡ has_live number ps
live_alike number [] [] all = refl
live_alike number [] (p ∷ ps) all = absurd all
live_alike number (q ∷ qs) [] all = absurd all
live_alike number (q ∷ qs) (p ∷ ps) all = ap (λ (s : LiveSet). is_live s number || has_live number qs) all.0.1
    ∙ ap (λ b. is_live p.live number || b) (live_alike number qs ps all.1)

-- a file has one head
same_head : (D : ℕ) (files : Files) (g h : Head) → g.id ≡ h.id → ∥ IsHeadIn files D g ∥₁ → ∥ IsHeadIn files D h ∥₁ → g ≡ h
same_head D files g h ids a b = ∥∥₁_elim a (hlevel props)
    (λ x. ∥∥₁_elim b (hlevel props)
    (λ y. one_head D (bytes_of (files (Segment h.id))) g h ids (subst (λ n. IsHeadOf D (bytes_of (files (Segment n))) g) ids x) y))

-- both are as the commit says, whose files of live bits hold what is live in each
pub attached_last : (D : ℕ) (files : Files) (m t u : SetData) (c : CommitData) → u.parts ≡ t.parts → u.buffer ≡ t.buffer → IsAsCommitted m c
    → IsAsCommitted t c → All (HasFileHead D files) m.parts → All (HasFileHead D files) t.parts → HaveLive files c (lives_of m.parts)
    → HaveLive files c (lives_of t.parts) → Lasts D NoneGoes files files m u
attached_last D files m t u c parts buffer was is heads anew first then = record {
  live = λ number live. inl (ap (λ (ps : List LiveSegment). cond (has_live number ps) true (has_entry number u.buffer)) parts
      ∙ ap (λ (es : List Item). cond (has_live number t.parts) true (has_entry number es)) (buffer ∙ is.empty ∙ sym was.empty)
      ∙ ap (λ b. cond b true (has_entry number m.buffer)) (sym (live_alike number m.parts t.parts all)) ∙ live);
  parts = λ p here.
      let there = subst (λ (ps : List LiveSegment). Contains ps p) parts here in
      let old = partner_of AreAlike m.parts t.parts all p there in
      inl (record {
        part = old.0;
        was = old.1;
        head = same_head D files p.head old.0.head (sym old.2.0) (All-contains (HasFileHead D files) t.parts p anew there)
            (All-contains (HasFileHead D files) m.parts old.0 heads old.1);
        within = subst (λ (s : LiveSet). IsSubset s old.0.live) old.2.1 (within_itself old.0.live);
        file = refl;
      });
}
  where
    all : AllZip AreAlike m.parts t.parts
    all = all_alike m.parts t.parts (was.ids ∙ sym is.ids)
        (zip_once (HasLive files)
        (λ l a b x y. one_live_set l.segment l.generation (bytes_of (files (Live l.segment l.generation))) a b x y) c.listed (lives_of m.parts)
        (lives_of t.parts) first then)

-- ---- where the files stay

module _ (D : ℕ) (told : Type 0) (old mid new : Files) (s t : SessionData) (same : told → new ≡ mid) where
  pub stays_read : StaysTrue D told old mid s t → StaysTrue D told old new s t
  stays_read stays = record {
    guards = λ is_told guards. subst (λ (f : Files). Guards D f t) (sym (same is_told)) (stays.guards is_told guards);
    faithful = λ is_told faithful. subst (λ (f : Files). IsFaithful D f t.set) (sym (same is_told)) (stays.faithful is_told faithful);
    traced = λ is_told trusts. subst (λ (f : Files). IsSetTraced D f t.set) (sym (same is_told)) (stays.traced is_told trusts);
    carries = λ is_told. subst (λ (f : Files). Carries old f s.set t.set) (sym (same is_told)) (stays.carries is_told);
  }

module _ (D : ℕ) (told : Type 0) (old mid new : Files) (s : SessionData) (same : told → new ≡ mid) where
  pub own_read : (told → Guards D old s → KeepsOwn D told old mid s.set) → told → Guards D old s → KeepsOwn D told old new s.set
  own_read own is_told guards = subst (λ (f : Files). KeepsOwn D told old f s.set) (sym (same is_told)) (own is_told guards)

  pub lasting_read : (told → Trusts D old s → KeepsCommit old mid) → told → Trusts D old s → KeepsCommit old new
  lasting_read lasting is_told trusts = subst (KeepsCommit old) (sym (same is_told)) (lasting is_told trusts)

  pub brings_read : (t : SetData) → told → BringsCanonical D old mid s.set.parts t.parts → BringsCanonical D old new s.set.parts t.parts
  brings_read t is_told = subst (λ (f : Files). BringsCanonical D old f s.set.parts t.parts) (sym (same is_told))

  pub lasts_read : (t : SetData) → told → Lasts D NoneGoes old mid s.set t → Lasts D NoneGoes old new s.set t
  lasts_read t is_told = subst (λ (f : Files). Lasts D NoneGoes old f s.set t) (sym (same is_told))
