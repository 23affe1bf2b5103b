-- A new commit is that of the session's set.
use Rattle.std.proofs.Common.{◌≡◌, ℕ, List, [], length, map, Option, Some, refl, sym, ap, subst, ◌∙◌, ◌⊎◌, inl, inr, ⊎_elim}
use Rattle.std.specs.List.{All, AllZip, Contains}
use Rattle.outer_io.specs.declared.file_name.FileName.TheVariants.{Commit, CommitNew, Live}
use Rattle.outer_io.specs.Files.{Files, SameButTwo, bytes_of}
use Rattle.commit_list.specs.declared.listed.Listed.{Listed}
use Rattle.commit_list.specs.Commits.{CommitData}
use Rattle.commit_list.specs.CommitFiles.{IsCommitFile}
use Rattle.segment_file.specs.LiveFiles.{IsLiveFile}
use Rattle.stored_index.specs.Kept.{SameKept}
use Rattle.stored_index.proofs.KeptFiles.{kept_after, still_says}
use Rattle.stored_index.proofs.Pairwise.{partner_of}
use Rattle.segment_view.specs.LiveSegments.{LiveSegment, ids_of}
use Rattle.segment_set.specs.Sets.{SetData}
use Rattle.segment_set.specs.Kept.{IsCommitOf}
use Rattle.segment_set.specs.Saved.{IsLastOrNext, StaysButSaved}
use Rattle.segment_set.specs.Settles.{Flushes, SetMoment, moment}
use Rattle.segment_set.specs.Losing.{IsLossless}
use Rattle.segment_set.specs.Faithful.{IsFaithful}
use Rattle.segment_set.proofs.Lossless.{lossless_same}
use Rattle.index_core.specs.Brought.{IsCommitAfter, IsListedLive, KeepsOwn}
use Rattle.index_core.specs.Sessions.{SessionData}
use Rattle.index_core.specs.Steps.{SaysCommit}
use Rattle.index_core.proofs.Guarding.{zip_both}
use Rattle.index_core.proofs.Committing.{saved_ids, some_same}

-- what a save says of the commit that it answers: the set was flushed, and saved then
abbrev pub IsSavedAfter : (D : ℕ) (told : Type 0) → Files → (last : List Listed) → (s t : SetData) → CommitData → Type 0
IsSavedAfter D told files last s t c =
    (m : SetMoment) × Flushes D told (moment files s) m × StaysButSaved m.set t × All (IsLastOrNext m.set.names last) c.listed

-- the files of live bits that the commit of a set lists hold what is live in it
abbrev pub HoldLive : Files → CommitData → SetData → Type 0
HoldLive files c t =
    AllZip (λ (l : Listed) (p : LiveSegment). IsLiveFile l.segment l.generation (bytes_of (files (Live l.segment l.generation))) p.live) c.listed t.parts

listed_live : (D : ℕ) (files : Files) (t : SetData) (c : CommitData) → IsCommitOf D t c → HoldLive files c t → (p : LiveSegment) → Contains t.parts p
    → IsListedLive files c p
listed_live D files t c of lives p there =
    let m = partner_of IsLive c.listed t.parts
    (zip_both (λ (l : Listed) (q : LiveSegment). (l.segment ≡ q.head.id) × (l.entries ≡ q.head.entries) × (l.live ≡ length q.live.live))
    (λ (l : Listed) (q : LiveSegment). IsLiveFile l.segment l.generation (bytes_of (files (Live l.segment l.generation))) q.live) IsLive c.listed t.parts
    (λ l q same file. (same.0, file)) of.lists lives) p there in
    record { listed = m.0; there = m.1; is = m.2.0; file = m.2.1 }
  where
    IsLive : Listed → LiveSegment → Type 0
    IsLive l q = (l.segment ≡ q.head.id) × IsLiveFile l.segment l.generation (bytes_of (files (Live l.segment l.generation))) q.live

-- where that file is the same
listed_alike : (f g : Files) (c : CommitData) (p : LiveSegment)
    → ((l : Listed) → Contains c.listed l → g (Live l.segment l.generation) ≡ f (Live l.segment l.generation)) → IsListedLive f c p → IsListedLive g c p
listed_alike f g c p same h = record {
  listed = h.listed;
  there = h.there;
  is = h.is;
  file = subst (λ (b : Option (List ℕ)). IsLiveFile h.listed.segment h.listed.generation (bytes_of b) p.live) (sym (same h.listed h.there)) h.file;
}

commit_after_save : (D : ℕ) (told : Type 0) (files saved : Files) (last : List Listed) (s t : SetData) (c : CommitData) → IsCommitOf D t c
    → t.buffer ≡ [] → IsSavedAfter D told files last s t c → HoldLive saved c t → (IsFaithful D files s → IsLossless D files s t)
    → IsCommitAfter D told files saved s c
commit_after_save D told files saved last s t c of empty (m, flushes, stays, next) lives loses = record {
  flushed = m;
  flushes = flushes;
  is = record {
    next = sym stays.next ∙ sym of.next;
    points_given = sym stays.points_given ∙ sym of.points_given;
    ids = ap ids_of (sym stays.parts) ∙ (saved_ids c.listed t.parts of.lists).0;
    counts = ap (map (λ (p : LiveSegment). length p.live.live)) (sym stays.parts) ∙ (saved_ids c.listed t.parts of.lists).1;
    empty = sym stays.buffer ∙ empty;
  };
  lives = λ p there. listed_live D saved t c of lives p (subst (λ (ps : List LiveSegment). Contains ps p) (sym stays.parts) there);
  loses = λ faithful. lossless_same D files s t m.set (sym stays.parts) (sym stays.buffer) (loses faithful);
}

after_alike : (D : ℕ) (told : Type 0) (files f g : Files) (s : SetData) (c : CommitData)
    → ((l : Listed) → Contains c.listed l → g (Live l.segment l.generation) ≡ f (Live l.segment l.generation))
    → IsCommitAfter D told files f s c → IsCommitAfter D told files g s c
after_alike D told files f g s c same h = record {
  flushed = h.flushed;
  flushes = h.flushes;
  is = h.is;
  lives = λ p there. listed_alike f g c p same (h.lives p there);
  loses = h.loses;
}

-- the Commit file says the one in flight, or all is kept
own_kept : (D : ℕ) (told : Type 0) (old saved written : Files) (s : SetData) (c : CommitData) (flying : Option CommitData) → flying ≡ Some c
    → SameKept old saved → SameButTwo CommitNew Commit saved written → IsCommitAfter D told old saved s c
    → SameKept saved written ⊎ SaysCommit written flying → KeepsOwn D told old written s
own_kept D told old saved written s c flying is kept others after which = ⊎_elim
    (λ same. inl (kept_after old saved written kept same))
    (λ (d, same, says). inr (
      c,
      subst (λ (e : CommitData). IsCommitFile (bytes_of (written Commit)) e) (some_same d c (sym same ∙ is)) says,
      after_alike D told old saved written s c (λ l there. others (Live l.segment l.generation) (λ e. cc) (λ e. cc)) after,
    ))
    which

-- of the session that the code opened
pub own_flight : (D : ℕ) (told : Type 0) (old saved written : Files) (last : List Listed) (s u : SessionData) (t : SetData) (c : CommitData)
    (flying : Option CommitData) → u ≡ s
    → flying ≡ Some c → IsCommitOf D t c → t.buffer ≡ [] → IsSavedAfter D told old last u.set t c → HoldLive saved c t
    → (IsFaithful D old u.set → IsLossless D old u.set t) → SameButTwo CommitNew Commit saved written → SameKept old saved
    → SameKept saved written ⊎ SaysCommit written flying → KeepsOwn D told old written s.set
own_flight D told old saved written last s u t c flying same is of empty flushed lives loses others kept which =
    subst (λ (v : SessionData). KeepsOwn D told old written v.set) same
    (own_kept D told old saved written u.set c flying is kept others (commit_after_save D told old saved last u.set t c of empty flushed lives loses) which)

-- and what keeps all behind it
pub own_swept : (D : ℕ) (told : Type 0) (old written swept : Files) (s : SetData) → KeepsOwn D told old written s → SameKept written swept
    → KeepsOwn D told old swept s
own_swept D told old written swept s own kept = ⊎_elim
    (λ same. inl (kept_after old written swept same kept))
    (λ (c, says, after). inr (
      c,
      still_says written swept c kept says,
      after_alike D told old written swept s c (λ l there. kept.listed c says (Live l.segment l.generation) (l, there, refl, refl)) after,
    ))
    own
