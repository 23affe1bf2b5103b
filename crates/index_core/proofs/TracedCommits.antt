-- Where the segments and entries of a session come from once a commit was written, swept up after, or attached.
use Rattle.std.proofs.Common.{◌≡◌, ℕ, true, false, ◌↔◌, List, [], ◌∷◌, length, map, Option, Some, Result, Ok, Err, IfOk, refl, sym, ap, subst, ◌∙◌}
use Rattle.std.proofs.Common.{◌⊎◌, inl, inr, ⊎_elim, arith}
use Rattle.std.specs.List.{AllZip, Contains}
use Rattle.std.proofs.lemmas.List.{length-append}
use Rattle.outer_io.specs.declared.file_name.FileName.{FileName}
use Rattle.outer_io.specs.declared.file_name.FileName.TheVariants.{Commit, CommitNew, Segment, Live}
use Rattle.outer_io.specs.Files.{Files, bytes_of, SameButTwo}
use Rattle.documents.proofs.Lists.{in_map, nil_none, of_map}
use Rattle.index_model.specs.State.{Index}
use Rattle.commit_list.specs.declared.listed.Listed.{Listed}
use Rattle.commit_list.specs.Commits.{CommitData}
use Rattle.commit_list.specs.CommitFiles.{IsCommitFile}
use Rattle.commit_list.proofs.CommitPages.{one_file}
use Rattle.segment_file.specs.LiveFiles.{IsLiveFile}
use Rattle.stored_index.specs.Kept.{ListsFile}
use Rattle.stored_index.specs.Stored.{HasLive, HaveLive}
use Rattle.stored_index.proofs.Pairwise.{partner_of, zip_map}
use Rattle.segment_view.specs.LiveSegments.{LiveSegment, ids_of, live_in_parts, lives_of}
use Rattle.file_names.specs.Names.{is_named}
use Rattle.index_opening.specs.Evidence.{IsExcess}
use Rattle.segment_set.specs.Sets.{SetData}
use Rattle.segment_set.specs.Seen.{Sees}
use Rattle.segment_set.specs.Kept.{IsAtRest, IsCommitOf, StaysButFiles}
use Rattle.segment_set.proofs.Carried.{canon_file, within_itself}
use Rattle.segment_set.proofs.Counts.{counts_same}
use Rattle.index_core.specs.Sessions.{AreTraced, Guards, IsLast, IsLastCommit, IsListedWith, IsSetTraced, IsTraced, SessionData}
use Rattle.index_core.proofs.Accounting.{accounted_after, accounted_bare, accounted_listed, excess_stays}
use Rattle.index_core.proofs.Guarding.{guards_written}
use Rattle.index_core.proofs.SetGuards.{guards_attached}
use Rattle.index_core.proofs.Swept.{IsSwept}
use Rattle.index_core.proofs.Tracing.{listed_after}

-- ---- a commit is written

-- each segment is one that the last commit lists
traced_last : (D : ℕ) (files : Files) (s : SetData) (c : CommitData) → c.dims ≡ D → IsLastCommit files s c
    → ((p : LiveSegment) → Contains s.parts p → (l : Listed) × Contains c.listed l × (l.segment ≡ p.head.id))
    → AreTraced D files s.parts
traced_last D files s c dims last lists p there =
    let (l, inside, is) = lists p there in
    inl (record { commit = c; says = last.says; dims = dims; listed = l; there = inside; is = is; covers = last.covers l p inside there is })

-- the Commit file says the one that the set saved
traced_written : (D : ℕ) (f g : Files) (s : SetData) (c : CommitData) → IsCommitOf D s c
    → AllZip (λ (l : Listed) (p : LiveSegment). IsLiveFile l.segment l.generation (bytes_of (f (Live l.segment l.generation))) p.live) c.listed s.parts
    → SameButTwo CommitNew Commit f g → IsCommitFile (bytes_of (g Commit)) c → AreTraced D g s.parts
traced_written D f g s c of lives others says = traced_last D g s c of.dims ((guards_written D f g s c of lives others says).last refl)
    (λ p there.
    let m =
    partner_of (λ (l : Listed) (q : LiveSegment). (l.segment ≡ q.head.id) × (l.entries ≡ q.head.entries) × (l.live ≡ length q.live.live)) c.listed s.parts
    of.lists p there in (m.0, m.1, m.2.0))

-- its files of live bits hold what is live
lives_written : (f g : Files) (s : SetData) (c : CommitData)
    → AllZip (λ (l : Listed) (p : LiveSegment). IsLiveFile l.segment l.generation (bytes_of (f (Live l.segment l.generation))) p.live) c.listed s.parts
    → SameButTwo CommitNew Commit f g → HaveLive g c (lives_of s.parts)
lives_written f g s c lives others =
    zip_map (λ (l : Listed) (p : LiveSegment). IsLiveFile l.segment l.generation (bytes_of (f (Live l.segment l.generation))) p.live) (HasLive g)
    (λ (p : LiveSegment). p.live) c.listed s.parts
    (λ l p there h. subst (λ (b : Option (List ℕ)). IsLiveFile l.segment l.generation (bytes_of b) p.live)
    (sym (others (Live l.segment l.generation) (λ x. cc) (λ x. cc))) h) lives

ids_listed : (ls : List Listed) (parts : List LiveSegment)
    → AllZip (λ (l : Listed) (p : LiveSegment). (l.segment ≡ p.head.id) × (l.entries ≡ p.head.entries) × (l.live ≡ length p.live.live)) ls parts
    → ids_of parts ≡ map (λ (l : Listed). l.segment) ls
ids_listed [] [] h = refl
ids_listed [] (p ∷ ps) h = absurd h
ids_listed (l ∷ ls) [] h = absurd h
ids_listed (l ∷ ls) (p ∷ ps) h = ap (λ n. n ∷ ids_of ps) (sym h.0.0) ∙ ap (λ (ns : List ℕ). l.segment ∷ ns) (ids_listed ls ps h.1)

-- it says the one of before
traced_still : (D : ℕ) (f g : Files) (parts : List LiveSegment) → SameButTwo CommitNew Commit f g → g Commit ≡ f Commit → AreTraced D f parts
    → AreTraced D g parts
traced_still D f g parts others same traced p there = ⊎_elim
    (λ h. inl (listed_after D f g p p same refl (within_itself p.live) h (others (Live h.listed.segment h.listed.generation) (λ e. cc) (λ e. cc))))
    (λ canonical. inr (canon_file D f g p.head p.head refl (others (Segment p.head.id) (λ e. cc) (λ e. cc)) canonical))
    (traced p there)

excess_still : (f g : Files) → SameButTwo CommitNew Commit f g → g Commit ≡ f Commit → (said found : ℕ) → IsExcess f said found → IsExcess g said found
excess_still f g others same = excess_stays f g same (λ c says m lists. others m (not_new c m lists) (not_commit c m lists))
  where
    not_new : (c : CommitData) (m : FileName) → ListsFile c m → m ≡ CommitNew → ⊥
    not_new c m lists is = absurd (subst (ListsFile c) is lists)

    not_commit : (c : CommitData) (m : FileName) → ListsFile c m → m ≡ Commit → ⊥
    not_commit c m lists is = absurd (subst (ListsFile c) is lists)

-- whichever of the two is there, of the session that the code opened
pub traced_done : (D : ℕ) (f g : Files) (s u : SessionData) (c : CommitData) → u ≡ s → IsCommitOf D s.set c → s.set.buffer ≡ []
    → AllZip (λ (l : Listed) (p : LiveSegment). IsLiveFile l.segment l.generation (bytes_of (f (Live l.segment l.generation))) p.live) c.listed s.set.parts
    → SameButTwo CommitNew Commit f g → (g Commit ≡ f Commit) ⊎ IsCommitFile (bytes_of (g Commit)) c → IsSetTraced D f s.set → IsSetTraced D g u.set
traced_done D f g s u c same of empty lives others which traced = subst (λ (v : SessionData). IsSetTraced D g v.set) (sym same) (⊎_elim
    (λ stays. record {
      parts = traced_still D f g s.set.parts others stays traced.parts;
      entries = accounted_after D f g s.set s.set (excess_still f g others stays) (omega arith)
          (counts_same D f g s.set s.set refl refl refl (λ p there. others (Segment p.head.id) (λ e. cc) (λ e. cc))) traced.entries;
    })
    (λ says. record {
      parts = traced_written D f g s.set c of lives others says;
      entries = accounted_listed D g s.set c of.dims says (ids_listed c.listed s.set.parts of.lists) (lives_written f g s.set c lives others) empty
          (sym of.points_given);
    })
    which)

-- ---- a sweep

traced_swept : (D : ℕ) (f g : Files) (s t : SetData) (c : CommitData) → IsSwept f g s t c → IsLastCommit f s c → AreTraced D f s.parts → AreTraced D g t.parts
traced_swept D f g s t c swept last traced = subst (AreTraced D g) (sym swept.parts) (λ p there. ⊎_elim
    (λ h. inl (listed_after D f g p p swept.commit refl (within_itself p.live) h (swept.files (Live h.listed.segment h.listed.generation) (inl (listed h)))))
    (λ canonical. inr (canon_file D f g p.head p.head refl (swept.files (Segment p.head.id) (inr (inl (p, there, refl)))) canonical))
    (traced p there))
  where
    listed : {p : LiveSegment} → (h : IsListedWith D f p) → ListsFile c (Live h.listed.segment h.listed.generation)
    listed h = (
      h.listed,
      subst (λ (d : CommitData). Contains d.listed h.listed) (sym (one_file (bytes_of (f Commit)) c h.commit last.says h.says)) h.there,
      refl,
      refl,
    )

-- of a session whose set was swept
pub session_traced : (D : ℕ) (f g : Files) (s : SessionData) (t : SetData) (c : CommitData) → s.commit ≡ Some c → s.refused ≡ false → IsSwept f g s.set t c
    → StaysButFiles s.set t → Guards D f s → IsSetTraced D f s.set → IsSetTraced D g t
session_traced D f g s t c is done swept rest guards traced =
    let last = subst (IsLast f s.set) is (guards.last done) in
    record {
      parts = traced_swept D f g s.set t c swept last traced.parts;
      entries = accounted_after D f g s.set t
          (excess_stays f g swept.commit (λ d says m lists.
          swept.files m (inl (subst (λ (x : CommitData). ListsFile x m) (sym (one_file (bytes_of (f Commit)) c d last.says says)) lists))))
          (omega (arith, swept.points_given))
          (counts_same D f g s.set t swept.parts (ap (λ (u : SetData). u.buffer) rest.is) swept.points_given
          (λ p there. swept.files (Segment p.head.id) (inr (inl (p, there, refl))))) traced.entries;
    }

-- ---- a set anew

pub traced_attached : (D : ℕ) (files : Files) (t : SetData) (c : CommitData) → c.dims ≡ D → IsCommitFile (bytes_of (files Commit)) c → IsAtRest t c
    → ((m : FileName) → (is_named t.names.names m ≡ true) ↔ ListsFile c m) → HaveLive files c (lives_of t.parts) → IsSetTraced D files t
traced_attached D files t c dims says rest names lives = record {
  parts = traced_last D files t c dims
      ((guards_attached D files (record { set = t; commit = Some c; refused = false }) c refl dims says rest names lives).last refl)
      (λ p there. of_map (λ (l : Listed). l.segment) c.listed p.head.id
      (subst (λ (ns : List ℕ). Contains ns p.head.id) rest.as_committed.ids (in_map (λ (q : LiveSegment). q.head.id) t.parts p there)));
  entries = accounted_listed D files t c dims says rest.as_committed.ids lives rest.as_committed.empty rest.as_committed.points_given;
}

pub traced_anew : {E : Type 0} (D : ℕ) (files : Files) (c : CommitData) (r : Result SetData E) → c.dims ≡ D → IsCommitFile (bytes_of (files Commit)) c
    → IfOk r (λ t. IsAtRest t c) → IfOk r (λ t. (m : FileName) → (is_named t.names.names m ≡ true) ↔ ListsFile c m)
    → IfOk r (λ t. HaveLive files c (lives_of t.parts))
    → IfOk r (λ t. IsSetTraced D files t)
traced_anew D files c (Ok t) dims says rest names lives = traced_attached D files t c dims says rest names lives
traced_anew D files c (Err e) dims says rest names lives = tt

-- of a set that has no segment
pub traced_bare : (D : ℕ) (files : Files) (t : SetData) (i : Index) → t.parts ≡ [] → Sees D files t i → IsSetTraced D files t
traced_bare D files t i bare seen = record {
  parts = λ p there. nil_none p (IsTraced D files p) (subst (λ (ps : List LiveSegment). Contains ps p) bare there);
  entries = accounted_bare D files t bare (omega (arith, seen.few, length-append (live_in_parts seen.contents t.parts) t.buffer));
}
