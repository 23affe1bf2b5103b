-- Each segment that is listed anew is canonical.
use Rattle.std.proofs.Common.{◌≡◌, ℕ, List, Some, sym, ap, subst, ◌∙◌, ⊎_elim}
use Rattle.std.specs.List.{Contains}
use Rattle.std.proofs.lemmas.List.Elements.{All-contains}
use Rattle.outer_io.specs.declared.file_name.FileName.TheVariants.{Commit, Segment}
use Rattle.outer_io.specs.Files.{Files, bytes_of}
use Rattle.documents.proofs.Lists.{in_map, of_map}
use Rattle.commit_list.specs.declared.listed.Listed.{Listed}
use Rattle.commit_list.specs.Commits.{CommitData}
use Rattle.commit_list.specs.CommitFiles.{IsCommitFile}
use Rattle.commit_list.proofs.CommitPages.{one_file}
use Rattle.segment_file.specs.Heads.{Head}
use Rattle.segment_file.specs.Segments.{IsHeadOf}
use Rattle.segment_file.proofs.Unique.{head_of_segment, one_head}
use Rattle.segment_view.specs.LiveSegments.{IsRead, LiveSegment}
use Rattle.index_model.specs.State.{Index}
use Rattle.segment_set.specs.Kept.{HasCanonical}
use Rattle.segment_set.specs.Sets.{SetData}
use Rattle.segment_set.specs.Seen.{Sees}
use Rattle.index_core.specs.Effects.{BringsCanonical, IsOfBefore}
use Rattle.index_core.specs.Sessions.{Guards, IsLast, IsUnchanged, ListsOnlyNamed, SessionData}
use Rattle.index_core.specs.Steps.{SaysCommit}
use Rattle.index_core.specs.Whole.{HasNewCanonical, IsNewSegment}
use Rattle.index_core.proofs.Guarding.{says_some}

-- a commit that the file says is the session's
the_commit : (files : Files) (s : SessionData) (e : CommitData) → IsCommitFile (bytes_of (files Commit)) e → SaysCommit files s.commit → (u : IsUnchanged s)
    → e ≡ u.commit
the_commit files s e says_e (c, is, says) u = one_file (bytes_of (files Commit)) e c says_e says ∙ some_inj c u.commit (sym is ∙ u.is)
  where
    some_inj : (x y : CommitData) → Some x ≡ Some y → x ≡ y
    some_inj x y same = cc

-- from a session that has no segment but those that the commit of before lists
pub new_canonical : (D : ℕ) (old new : Files) (a : SetData) (s : SessionData) (i : Index)
    → ((p : LiveSegment) → Contains a.parts p → IsNewSegment old p.head.id → ⊥)
    → BringsCanonical D old new a.parts s.set.parts → Sees D new s.set i → Guards D new s → SaysCommit new s.commit → IsUnchanged s → HasNewCanonical old new
new_canonical D old new a s i listed brings seen guards (c, is, says) unchanged e says_e l inside apart head has =
    ⊎_elim
    (λ (before : IsOfBefore old new a.parts p).
    absurd (listed before.part before.was (subst (IsNewSegment old) (sym (ap (λ (h : Head). h.id) before.head ∙ at)) apart)))
    (λ canon. subst (λ n. HasCanonical n new head) (sym dims) (subst (HasCanonical D new) same canon))
    (brings p there)
  where
    one : e ≡ unchanged.commit
    one = the_commit new s e says_e (c, is, says) unchanged

    dims : e.dims ≡ D
    dims = ⊎_elim (λ none. absurd (says_some new c none says))
        (λ (h : ListsOnlyNamed D new s.set). ap (λ (d : CommitData). d.dims) (one_file (bytes_of (new Commit)) e h.commit says_e h.says) ∙ h.dims) guards.set

    found : (p : LiveSegment) × Contains s.set.parts p × (p.head.id ≡ l.segment)
    found = of_map (λ (p : LiveSegment). p.head.id) s.set.parts l.segment
        (subst (λ (ids : List ℕ). Contains ids l.segment) (sym unchanged.same.ids)
        (in_map (λ (m : Listed). m.segment) unchanged.commit.listed l (subst (λ (d : CommitData). Contains d.listed l) one inside)))

    p : LiveSegment
    p = found.0

    there : Contains s.set.parts p
    there = found.1

    at : p.head.id ≡ l.segment
    at = found.2

    read : IsRead D new seen.contents p
    read = All-contains (IsRead D new seen.contents) s.set.parts p seen.stands.now there

    own : IsHeadOf D (bytes_of (new (Segment l.segment))) p.head
    own = subst (λ n.
        IsHeadOf D (bytes_of (new (Segment n))) p.head) at (head_of_segment D (bytes_of (new (Segment p.head.id))) p.head (seen.contents p.head.id) read.held)

    same : p.head ≡ head
    same = one_head D (bytes_of (new (Segment l.segment))) p.head head (at ∙ sym has.id) own
        (subst (λ n. IsHeadOf n (bytes_of (new (Segment l.segment))) head) dims has.is)

-- a session that was attached has no segment but those that the commit lists
pub attached_listed : (D : ℕ) (files : Files) (s : SessionData) → Guards D files s → IsUnchanged s → (p : LiveSegment) → Contains s.set.parts p
    → IsNewSegment files p.head.id → ⊥
attached_listed D files s guards unchanged p there apart =
    let last = subst (IsLast files s.set) unchanged.is (guards.last unchanged.done) in
    let found = of_map (λ (l : Listed). l.segment) unchanged.commit.listed p.head.id
    (subst (λ (ids : List ℕ). Contains ids p.head.id) unchanged.same.ids (in_map (λ (q : LiveSegment). q.head.id) s.set.parts p there)) in
    apart unchanged.commit last.says (found.0, found.1, found.2)
