-- What is stored: by a commit since which nothing changed, and by one that was written.
use Rattle.std.proofs.Common.{◌≡◌, ◌≤◌, ◌↔◌, ℕ, Bool, true, false, List, [], ◌∷◌, ◌++◌, length, map, Option, None, Some}
use Rattle.std.proofs.Common.{Result, Ok, Err, IfOk, OnOk, refl, sym, ap, subst, ◌∙◌, ◌⊎◌, inl, inr, ⊎_elim, arith}
use Rattle.std.specs.List.{All, AllZip, Contains}
use Rattle.std.proofs.lemmas.Bool.{both_ways}
use Rattle.std.proofs.lemmas.List.{append-nil}
use Rattle.std.proofs.lemmas.List.Elements.{All-head, All-tail}
use Rattle.outer_io.specs.declared.file_name.FileName.TheVariants.{Commit, CommitNew, Segment, Live}
use Rattle.outer_io.specs.Files.{Files, bytes_of, SameButTwo}
use Rattle.point_codec.specs.Points.{Item}
use Rattle.live_bits.specs.LiveSet.{IsLiveSet, LiveSet}
use Rattle.documents.specs.Entries.{AreDocs}
use Rattle.documents.proofs.Lists.{cons_head, cons_tail}
use Rattle.page_cache.specs.declared.faults.PageFault.{PageFault}
use Rattle.commit_list.specs.declared.listed.Listed.{Listed}
use Rattle.commit_list.specs.Commits.{CommitData}
use Rattle.commit_list.specs.CommitFiles.{IsCommitFile, IsWrittenCommit}
use Rattle.commit_list.specs.Layout.{commit_body}
use Rattle.commit_list.proofs.CommitPages.{one_file}
use Rattle.segment_file.specs.LiveFiles.{IsLiveFile}
use Rattle.segment_file.specs.Segments.{IsSegment}
use Rattle.stored_index.specs.Segments.{SegmentData, all_live_entries, live_sets, places}
use Rattle.stored_index.specs.Stored.{HoldAll, HoldsFiles, IsStored, index_of}
use Rattle.stored_index.specs.Kept.{SameKept}
use Rattle.stored_index.proofs.KeptFiles.{kept_after, kept_but_commits}
use Rattle.stored_index.proofs.Whole.{stored_from}
use Rattle.index_model.specs.State.{Index, at_rest}
use Rattle.segment_view.specs.LiveSegments.{AreRead, Contents, IsRead, LiveSegment, ids_of, live_in_parts}
use Rattle.segment_set.specs.Sets.{SetData}
use Rattle.segment_set.specs.Seen.{Sees}
use Rattle.segment_set.specs.Kept.{IsAsCommitted, IsCommitOf, StaysButFiles}
use Rattle.index_core.specs.Sessions.{Guards, HasDims, IsCommitAnew, IsLast, IsLastCommit, IsSound, IsUnchanged, ListsOnlyNamed, SessionData, last_lines}
use Rattle.index_core.specs.Steps.{KeepsOver, SaysCommit, Stores}
use Rattle.index_core.proofs.Guarding.{cons_first, cons_rest, says_some}
use Rattle.segment_set.specs.Saved.{CoversPart, IsLastOrFresh, KeepsLine}
use Rattle.segment_set.proofs.Covered.{live_file_set}
use Rattle.segment_set.proofs.Numbers.{same_live}
use Rattle.segment_set.proofs.SavedCommit.{data_of, sets_of, entries_of}

-- ---- whether something changed

pub some_same : {T : Type 0} (x y : T) → Some x ≡ Some y → x ≡ y
some_same x y e = cc

-- it did, where there is no commit, or one was refused
pub changed_none : (s : SessionData) → s.commit ≡ None → (true ≡ false) ↔ IsUnchanged s
changed_none s none = (λ e. absurd cc, λ u. let is = sym none ∙ u.is in absurd cc)

pub changed_refused : (s : SessionData) → s.refused ≡ true → (true ≡ false) ↔ IsUnchanged s
changed_refused s refused = (λ e. absurd cc, λ u. absurd (both_ways s.refused u.done refused))

-- else just where the set differs from the commit
pub changed_by : (s : SessionData) (c : CommitData) (differs : Bool) → s.commit ≡ Some c → s.refused ≡ false → ((differs ≡ false) ↔ IsAsCommitted s.set c)
    → (differs ≡ false) ↔ IsUnchanged s
changed_by s c differs is done same = (
  λ e. record { commit = c; is = is; done = done; same = same.0 e },
  λ u. same.1 (subst (IsAsCommitted s.set) (some_same u.commit c (sym u.is ∙ is)) u.same),
)

-- a session that is as the commit says that its set saved, after a sweep
pub saved_ids : (listed : List Listed) (parts : List LiveSegment)
    → AllZip (λ (l : Listed) (p : LiveSegment). (l.segment ≡ p.head.id) × (l.entries ≡ p.head.entries) × (l.live ≡ length p.live.live)) listed parts
    → (ids_of parts ≡ map (λ l. l.segment) listed) × (map (λ p. length p.live.live) parts ≡ map (λ l. l.live) listed)
saved_ids [] [] all = (refl, refl)
saved_ids [] (p ∷ ps) all = absurd all
saved_ids (l ∷ ls) [] all = absurd all
saved_ids (l ∷ ls) (p ∷ ps) all =
    let rest = saved_ids ls ps all.1 in (
      ap (λ n. n ∷ ids_of ps) (sym all.0.0) ∙ ap (λ (ns : List ℕ). l.segment ∷ ns) rest.0,
      ap (λ n. n ∷ map (λ (q : LiveSegment). length q.live.live) ps) (sym all.0.2) ∙ ap (λ (ns : List ℕ). l.live ∷ ns) rest.1,
    )

pub as_committed : (D : ℕ) (s m t : SetData) (c : CommitData) → IsCommitOf D s c → s.buffer ≡ [] → m ≡ s → StaysButFiles m t → IsAsCommitted t c
as_committed D s m t c of empty same stays = record {
  next = ap (λ (u : SetData). u.next) stays.is ∙ ap (λ (u : SetData). u.next) same ∙ sym of.next;
  points_given = ap (λ (u : SetData). u.points_given) stays.is ∙ ap (λ (u : SetData). u.points_given) same ∙ sym of.points_given;
  ids = ap (λ (u : SetData). ids_of u.parts) stays.is ∙ ap (λ (u : SetData). ids_of u.parts) same ∙ (saved_ids c.listed s.parts of.lists).0;
  counts =
      ap (λ (u : SetData). map (λ (p : LiveSegment). length p.live.live) u.parts) stays.is
      ∙ ap (λ (u : SetData). map (λ (p : LiveSegment). length p.live.live) u.parts) same
      ∙ (saved_ids c.listed s.parts of.lists).1;
  empty = ap (λ (u : SetData). u.buffer) stays.is ∙ ap (λ (u : SetData). u.buffer) same ∙ empty;
}

-- the commit was written anew, over the lines of the last one
pub commit_anew : (s t : SessionData) (c : CommitData) (lines : List Listed) → lines ≡ last_lines s.refused s.commit → t.commit ≡ Some c
    → All (IsLastOrFresh s.set.names lines) c.listed → All (KeepsLine s.set.names lines) c.listed → IsCommitAnew s t
commit_anew s t c lines are is fresh kept = record {
  commit = c;
  is = is;
  fresh = subst (λ (ls : List Listed). All (IsLastOrFresh s.set.names ls) c.listed) are fresh;
  kept = subst (λ (ls : List Listed). All (KeepsLine s.set.names ls) c.listed) are kept;
}

-- ---- a commit since which nothing changed

-- the files of a listed segment hold the part that they cover, where as many numbers are live in it as it is listed with
holds_part : (D : ℕ) (files : Files) (contents : Contents) (c : CommitData) (l : Listed) (p : LiveSegment) → c.dims ≡ D → p.head.leaf_size ≡ c.leaf_size
    → IsRead D files contents p → IsLiveSet p.live
    → l.segment ≡ p.head.id → length p.live.live ≡ l.live → CoversPart files l p → HoldsFiles files c l (data_of contents p)
holds_part D files contents c l p dims leaf_size read set id count covers = record {
  segment = subst (λ n. IsSegment n (bytes_of (files (Segment l.segment))) p.head (contents p.head.id)) (sym dims)
      (subst (λ n. IsSegment D (bytes_of (files (Segment n))) p.head (contents p.head.id)) (sym id) read.held);
  live = subst (IsLiveFile l.segment l.generation (bytes_of (files (Live l.segment l.generation)))) (sym same) covers.file;
  id = sym id;
  leaf_size = leaf_size;
  count = sym covers.entries;
  live_count = count;
  found = read.found;
}
  where
    same : p.live ≡ covers.live
    same = same_live p.live covers.live set (live_file_set l.segment l.generation _ covers.live covers.file) covers.covers (count ∙ sym covers.count)

hold_parts : (D : ℕ) (files : Files) (contents : Contents) (c : CommitData) (listed : List Listed) (parts : List LiveSegment) → c.dims ≡ D
    → All (λ p. p.head.leaf_size ≡ c.leaf_size) parts → AreRead D files contents parts
    → All (λ p. IsLiveSet p.live) parts → ids_of parts ≡ map (λ l. l.segment) listed → map (λ p. length p.live.live) parts ≡ map (λ l. l.live) listed
    → ((l : Listed) (p : LiveSegment) → Contains listed l → Contains parts p → l.segment ≡ p.head.id → CoversPart files l p)
    → AllZip (HoldsFiles files c) listed (map (data_of contents) parts)
hold_parts D files contents c [] [] dims leaf_size read sets ids counts covers = tt
hold_parts D files contents c [] (p ∷ ps) dims leaf_size read sets ids counts covers = absurd cc
hold_parts D files contents c (l ∷ ls) [] dims leaf_size read sets ids counts covers = absurd cc
hold_parts D files contents c (l ∷ ls) (p ∷ ps) dims leaf_size read sets ids counts covers = (
  holds_part D files contents c l p dims (All-head (λ (q : LiveSegment). q.head.leaf_size ≡ c.leaf_size) p ps leaf_size)
      (All-head (IsRead D files contents) p ps read)
      (All-head (λ (q : LiveSegment). IsLiveSet q.live) p ps sets)
      (sym (cons_first ids)) (cons_first counts) (covers l p (cons_head l ls) (cons_head p ps) (sym (cons_first ids))),
  hold_parts D files contents c ls ps dims (All-tail (λ (q : LiveSegment). q.head.leaf_size ≡ c.leaf_size) p ps leaf_size)
      (All-tail (IsRead D files contents) p ps read)
      (All-tail (λ (q : LiveSegment). IsLiveSet q.live) p ps sets)
      (cons_rest ids) (cons_rest counts) (λ m q inside there same. covers m q (cons_tail l ls m inside) (cons_tail p ps q there) same),
)

pub unchanged_is_stored : (D : ℕ) (files : Files) (s : SessionData) (i : Index) → IsUnchanged s → IsSound D s → Guards D files s → Sees D files s.set i
    → IsStored files (Some (at_rest i))
unchanged_is_stored D files s i unchanged sound guards seen =
    subst (λ (x : Index). IsStored files (Some x)) is (stored_from files c parts i.docs last.says held alone docs few)
  where
    c : CommitData
    c = unchanged.commit

    dims : c.dims ≡ D
    dims = subst (HasDims D) unchanged.is sound.dims

    last : IsLastCommit files s.set c
    last = subst (λ (o : Option CommitData). IsLast files s.set o) unchanged.is (guards.last unchanged.done)

    leaf_size : c.leaf_size ≡ s.set.leaf_size
    leaf_size = ⊎_elim (λ none. absurd (says_some files c none last.says))
        (λ (h : ListsOnlyNamed D files s.set).
        ap (λ (d : CommitData). d.leaf_size) (one_file (bytes_of (files Commit)) c h.commit last.says h.says) ∙ h.leaf_size)
        guards.set

    parts : List SegmentData
    parts = map (data_of seen.contents) s.set.parts

    entries : all_live_entries parts ≡ live_in_parts seen.contents s.set.parts ++ s.set.buffer
    entries = entries_of seen.contents s.set.parts ∙ sym (append-nil (live_in_parts seen.contents s.set.parts))
        ∙ ap (λ (xs : List Item). live_in_parts seen.contents s.set.parts ++ xs) (sym unchanged.same.empty)

    held : HoldAll files c parts
    held = hold_parts D files seen.contents c c.listed s.set.parts dims (λ k d lt. sound.well.leaf_size k d lt ∙ sym leaf_size) seen.stands.now sound.sets
        unchanged.same.ids unchanged.same.counts last.covers

    alone : (number : ℕ) → places number (live_sets parts) ≤ 1
    alone number = subst (λ (ss : List LiveSet). places number ss ≤ 1) (sym (sets_of seen.contents s.set.parts)) (omega (arith, sound.well.spread.alone number))

    docs : AreDocs c.next (all_live_entries parts) i.docs
    docs = subst (λ n. AreDocs n (all_live_entries parts) i.docs) unchanged.same.next
        (subst (λ (xs : List Item). AreDocs s.set.next xs i.docs) (sym entries) seen.docs)

    few : length (all_live_entries parts) ≤ c.points_given
    few = let long = ap length entries in let most = seen.few in let points_given = unchanged.same.points_given in omega arith

    is : index_of c i.docs ≡ at_rest i
    is = λ j. record {
      dims = (dims ∙ sym seen.dims) j;
      leaf_size = (leaf_size ∙ sym seen.leaf_size) j;
      next = (sym unchanged.same.next ∙ sym seen.next) j;
      points_given = (sym unchanged.same.points_given ∙ sym seen.points_given) j;
      docs = i.docs;
      snapshots = [];
      begun = false;
    }

-- the Commit file says the session's commit, where none was refused
pub unchanged_says : (D : ℕ) (files : Files) (s : SessionData) → IsUnchanged s → Guards D files s → SaysCommit files s.commit
unchanged_says D files s unchanged guards =
    (unchanged.commit, unchanged.is, (subst (λ (o : Option CommitData). IsLast files s.set o) unchanged.is (guards.last unchanged.done)).says)

-- ---- what is kept, whatever is answered

pub says_written : (file : Option (List ℕ)) (c : CommitData) → IsWrittenCommit (bytes_of file) c → IsCommitFile (bytes_of file) c
says_written file c written = record { body = commit_body c; file = written.file; spells = written.spells }

pub which_says : (f g : Files) (c : CommitData) → (g Commit ≡ f Commit) ⊎ IsWrittenCommit (bytes_of (g Commit)) c
    → (g Commit ≡ f Commit) ⊎ IsCommitFile (bytes_of (g Commit)) c
which_says f g c which = ⊎_elim inl (λ written. inr (says_written (g Commit) c written)) which

pub kept_undone : (f g : Files) (c : CommitData) (saved : Option CommitData) → saved ≡ Some c → SameButTwo CommitNew Commit f g
    → (g Commit ≡ f Commit) ⊎ IsCommitFile (bytes_of (g Commit)) c
    → SameKept f g ⊎ SaysCommit g saved
kept_undone f g c saved is others which = ⊎_elim (λ stays. inl (kept_but_commits f g others stays)) (λ says. inr (c, is, says)) which

pub says_still : (f g : Files) (commit other : Option CommitData) → SameKept f g → other ≡ commit → SaysCommit f commit → SaysCommit g other
says_still f g commit other kept same (c, is, says) = (c, same ∙ is, subst (λ (b : Option (List ℕ)). IsCommitFile (bytes_of b) c) (sym kept.commit) says)

pub keeps_fault : {T : Type 0} (f g : Files) (s : SessionData) (r : Result T PageFault) (fault : PageFault) → r ≡ Err fault
    → SameKept f g ⊎ SaysCommit g s.set.saved → KeepsOver true f g s r
keeps_fault f g s r fault is kept = subst (KeepsOver true f g s) (sym is) kept

pub keeps_any : {T : Type 0} (f g : Files) (s : SessionData) (r : Result T PageFault) → s.set.saved ≡ s.commit → SaysCommit g s.commit → KeepsOver true f g s r
keeps_any f g s (Ok x) saved says = says
keeps_any f g s (Err fault) saved (c, is, says) = inr (c, saved ∙ is, says)

pub stores_fault : {T : Type 0} (f g : Files) (i : Index) (s : SetData) (r : Result T PageFault) (fault : PageFault) → r ≡ Err fault
    → SameKept f g ⊎ IsStored g (Some (at_rest i)) → Stores f g i s r
stores_fault f g i s r fault is stored = subst (Stores f g i s) (sym is) stored

pub stores_any : {T : Type 0} (f g : Files) (i : Index) (s : SetData) (r : Result T PageFault) → IsStored g (Some (at_rest i)) → s.buffer ≡ []
    → Stores f g i s r
stores_any f g i s (Ok x) stored empty = (stored, empty)
stores_any f g i s (Err fault) stored empty = inr stored

-- after a call that kept all
pub kept_on : (f g h : Files) {P : Type 0} → SameKept f g → SameKept g h ⊎ P → SameKept f h ⊎ P
kept_on f g h first second = ⊎_elim (λ kept. inl (kept_after f g h first kept)) inr second

pub on_ok_any : {T E P : Type 0} (r : Result T E) → P → OnOk r P
on_ok_any (Ok x) p = p
on_ok_any (Err e) p = tt

pub on_ok_none : {T E : Type 0} (P : Type 0) (r : Result T E) (e : E) → r ≡ Err e → OnOk r P
on_ok_none P r e is = subst (λ q. OnOk q P) (sym is) tt

pub on_ok_each : {T E : Type 0} {P Q : T → Type 0} → ((x : T) → P x → Q x) → (r : Result T E) → IfOk r P → IfOk r Q
on_ok_each h (Ok x) p = h x p
on_ok_each h (Err e) p = tt
