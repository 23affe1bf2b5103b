-- The damage is the first.
use Rattle.std.proofs.Common.{◌≡◌, ℕ, List, [], ◌∷◌, Result, Some, take, sym, subst}
use Rattle.std.specs.List.{All, AllZip, slice_get}
use Rattle.std.proofs.lemmas.List.Elements.{All-cons, All-nil}
use Rattle.outer_io.specs.declared.file_name.FileName.TheVariants.{Commit}
use Rattle.outer_io.specs.Files.{Files, bytes_of}
use Rattle.page_cache.specs.declared.faults.Damage.{Damage}
use Rattle.page_cache.specs.declared.faults.Damage.TheVariants.{Page, Leaf, Body, Missing, Size, Unequal, NotGiven, Doubled}
use Rattle.page_cache.specs.declared.faults.PageFault.{PageFault}
use Rattle.page_cache.specs.Evidence.{FaultShows, OnDamage}
use Rattle.page_cache.proofs.Damages.{fault_weaker, on_damage_weaker}
use Rattle.commit_list.specs.Commits.{CommitData}
use Rattle.commit_list.specs.CommitFiles.{IsCommitDamage, IsCommitFile}
use Rattle.segment_view.specs.LiveSegments.{LiveSegment, lives_of}
use Rattle.segment_view.specs.Held.{HasOwnHead}
use Rattle.segment_view.specs.Damages.{IsReadDamage}
use Rattle.document_checks.specs.Placed.{IsPlacedOnce}
use Rattle.index_opening.specs.First.{IsOfFile}
use Rattle.index_opening.specs.Opened.{IsOpened}
use Rattle.folder_check.specs.declared.findings.Finding.{Finding}
use Rattle.folder_check.specs.Found.{HasSegment, IsFinding, IsWrong}
use Rattle.folder_check.specs.First.{AreOpened, IsFirst, IsFirstLeaf, IsFirstOfCommit, InFound, InLeaves, OfCommit, OfListed}
use Rattle.folder_check.proofs.Whole.{own_heads}

-- what was found of segments was found of their files
have_segments : (D : ℕ) (files : Files) (parts : List LiveSegment) (findings : List Finding) → AllZip (IsFinding D files) parts findings
    → All (HasSegment D files) parts
have_segments D files [] fs all = All-nil (HasSegment D files)
have_segments D files (p ∷ ps) [] all = absurd all
have_segments D files (p ∷ ps) (f ∷ fs) all = All-cons (HasSegment D files) p ps (all.0.items, all.0.held) (have_segments D files ps fs all.1)

-- where the segments before this one were read
pub first_leaf : (D : ℕ) (files : Files) (parts : List LiveSegment) (i : ℕ) (p : LiveSegment) (findings : List Finding) (f : PageFault)
    → slice_get parts i ≡ Some p
    → AllZip (IsFinding D files) (take i parts) findings
    → FaultShows (IsReadDamage D p.head) f → FaultShows (IsFirstLeaf D files parts) f
first_leaf D files parts i p findings f at all =
    fault_weaker f (IsReadDamage D p.head) (IsFirstLeaf D files parts)
    (λ d here. record { place = i; part = p; there = at; before = have_segments D files (take i parts) findings all; here = here })

module _ (T : Type 0) (D : ℕ) (files mid : Files) (c : CommitData) (parts : List LiveSegment) (t : T) (same : mid ≡ files) (dims : c.dims ≡ D)
    (opened : AllZip (IsOpened T files c) c.listed parts) (placed : (number : ℕ) → IsPlacedOnce c.next (lives_of parts) number) where
  are_opened : AreOpened T files c parts
  are_opened = record { opened = opened; placed = placed }

  own : All (HasOwnHead D mid) parts
  own = subst (λ (f : Files). All (HasOwnHead D f) parts) (sym same) (own_heads T D files c parts t dims opened)

  pub leaf_is_first : (f : PageFault) → (All (HasOwnHead D mid) parts → FaultShows (IsFirstLeaf D mid parts) f) → FaultShows (IsFirstOfCommit T files c) f
  leaf_is_first f first =
      fault_weaker f (IsFirstLeaf c.dims files parts) (IsFirstOfCommit T files c) (λ d here. InLeaves parts are_opened here)
      (subst (λ n. FaultShows (IsFirstLeaf n files parts) f) (sym dims) (subst (λ (g : Files). FaultShows (IsFirstLeaf D g parts) f) same (first own)))

  pub found_is_first : {X : Type 0} (findings : List Finding) (r : Result X PageFault)
      → (All (HasOwnHead D mid) parts → AllZip (IsFinding D mid) parts findings)
      → OnDamage r (IsWrong c.listed c.points_given findings) → OnDamage r (IsFirstOfCommit T files c)
  found_is_first findings r found =
      let all : AllZip (IsFinding D files) parts findings = subst (λ (f : Files). AllZip (IsFinding D f) parts findings) same (found own) in
      let here : AllZip (IsFinding c.dims files) parts findings = subst (λ n. AllZip (IsFinding n files) parts findings) (sym dims) all in
      on_damage_weaker r (IsWrong c.listed c.points_given findings) (IsFirstOfCommit T files c) (λ d wrong. InFound parts findings are_opened here wrong)

pub listed_is_first : (T : Type 0) (files mid : Files) (c : CommitData) (f : PageFault) → mid ≡ files → IsCommitFile (bytes_of (files Commit)) c
    → FaultShows (IsFirstOfCommit T mid c) f → FaultShows (IsFirst T files) f
listed_is_first T files mid c f same says first =
    fault_weaker f (IsFirstOfCommit T files c) (IsFirst T files) (λ d here. OfListed c says here)
    (subst (λ (g : Files). FaultShows (IsFirstOfCommit T g c) f) same first)

of_commit : (d : Damage) → IsCommitDamage d → IsOfFile Commit d
of_commit (Page file number bytes) h = h.0
of_commit (Missing file) h = h
of_commit (Size file size needed) h = h.0
of_commit (Body file bytes) h = h.0
of_commit (Leaf file number offset len bytes) h = absurd h
of_commit (Unequal file said found) h = absurd h
of_commit (NotGiven doc next) h = absurd h
of_commit (Doubled doc) h = absurd h

pub commit_is_first : (T : Type 0) (files : Files) (f : PageFault) → FaultShows IsCommitDamage f → FaultShows (IsFirst T files) f
commit_is_first T files f = fault_weaker f IsCommitDamage (IsFirst T files) (λ d h. OfCommit (of_commit d h))
