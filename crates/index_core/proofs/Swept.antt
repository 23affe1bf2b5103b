-- What a session guards stays so through a sweep.
use Rattle.std.proofs.Common.{◌≡◌, ℕ, true, false, List, Some, refl, sym, ap, subst, ◌∙◌, inl, inr, ⊎_elim, arith}
use Rattle.std.specs.List.{Contains}
use Rattle.outer_io.specs.declared.file_name.FileName.{FileName}
use Rattle.outer_io.specs.declared.file_name.FileName.TheVariants.{Commit, Live}
use Rattle.outer_io.specs.Files.{Files, bytes_of}
use Rattle.commit_list.specs.Commits.{CommitData}
use Rattle.commit_list.specs.CommitFiles.{IsCommitFile}
use Rattle.commit_list.proofs.CommitPages.{one_file}
use Rattle.stored_index.specs.Kept.{ListsFile, SameKept}
use Rattle.segment_view.specs.LiveSegments.{LiveSegment}
use Rattle.file_names.specs.Names.{is_named}
use Rattle.segment_set.specs.Sets.{SetData}
use Rattle.segment_set.specs.Kept.{IsNeeded}
use Rattle.segment_set.proofs.Carried.{within_itself}
use Rattle.index_core.specs.Sessions.{Guards, IsLastCommit, ListsOnlyNamed, SessionData}
use Rattle.segment_set.proofs.Covered.{part_after}
use Rattle.index_core.proofs.Guarding.{moved_says, names_listed, says_some}

-- what it leaves of what the last save's commit needs
pub record IsSwept (f g : Files) (s t : SetData) (c : CommitData) : Type 0 where
  pub commit : g Commit ≡ f Commit
  pub files : (m : FileName) → IsNeeded s c m → g m ≡ f m
  pub named : (m : FileName) → IsNeeded s c m → is_named s.names.names m ≡ true → is_named t.names.names m ≡ true
  pub parts : t.parts ≡ s.parts
  pub leaf_size : t.leaf_size ≡ s.leaf_size
  pub next : t.next ≡ s.next
  pub points_given : t.points_given ≡ s.points_given

pub guards_swept : (D : ℕ) (f g : Files) (s t : SetData) (c : CommitData) → IsSwept f g s t c
    → Guards D f (record { set = s; commit = Some c; refused = false }) → Guards D g (record { set = t; commit = Some c; refused = false })
guards_swept D f g s t c swept guards = record {
  set = inr (record {
    commit = c;
    says = moved_says f g c swept.commit last.says;
    dims = ⊎_elim (λ none. absurd (says_some f c none last.says)) (λ h. ap (λ (d : CommitData). d.dims) (same h) ∙ h.dims) guards.set;
    leaf_size = ⊎_elim (λ none. absurd (says_some f c none last.says)) (λ h. ap (λ (d : CommitData). d.leaf_size) (same h) ∙ h.leaf_size ∙ sym swept.leaf_size)
        guards.set;
    next = ⊎_elim
        (λ none. absurd (says_some f c none last.says))
        (λ (h : ListsOnlyNamed D f s). omega (arith, ap (λ (d : CommitData). d.next) (same h), h.next, swept.next))
        guards.set;
    points_given = ⊎_elim
        (λ none. absurd (says_some f c none last.says))
        (λ (h : ListsOnlyNamed D f s). omega (arith, ap (λ (d : CommitData). d.points_given) (same h), h.points_given, swept.points_given))
        guards.set;
    named = λ m lists. swept.named m (inl lists) (names_listed D f s c guards.set last.says m lists);
  });
  last = λ done. record {
    says = moved_says f g c swept.commit last.says;
    covers = λ l p inside there id.
        let covers = last.covers l p inside (subst (λ (ps : List LiveSegment). Contains ps p) swept.parts there) id in
        part_after f g l p p (swept.files (Live l.segment l.generation) (inl (l, inside, refl, refl))) refl (within_itself p.live) covers;
  };
}
  where
    last : IsLastCommit f s c
    last = guards.last refl

    same : (h : ListsOnlyNamed D f s) → c ≡ h.commit
    same h = one_file (bytes_of (f Commit)) c h.commit last.says h.says

pub kept_swept : (f g : Files) (s t : SetData) (c : CommitData) → IsSwept f g s t c → IsCommitFile (bytes_of (f Commit)) c → SameKept f g
kept_swept f g s t c swept says = record {
  commit = swept.commit;
  listed = λ d other m lists. swept.files m (inl (subst (λ (e : CommitData). ListsFile e m) (one_file (bytes_of (f Commit)) d c other says) lists));
}

-- a session whose set was swept, of its commit
pub session_swept : (D : ℕ) (f g : Files) (s t : SessionData) (c : CommitData) → s.commit ≡ Some c → s.refused ≡ false → t.commit ≡ s.commit
    → t.refused ≡ false → IsSwept f g s.set t.set c
    → Guards D f s → Guards D g t × SameKept f g
session_swept D f g s t c is done same still swept guards = (
  subst (Guards D g) (sym after)
      (guards_swept D f g s.set t.set c swept now),
  kept_swept f g s.set t.set c swept ((now.last refl).says),
)
  where
    before : s ≡ record { set = s.set; commit = Some c; refused = false }
    before = λ j. record { set = s.set; commit = is j; refused = done j }

    after : t ≡ record { set = t.set; commit = Some c; refused = false }
    after = λ j. record { set = t.set; commit = (same ∙ is) j; refused = still j }

    now : Guards D f (record { set = s.set; commit = Some c; refused = false })
    now = subst (Guards D f) before guards
