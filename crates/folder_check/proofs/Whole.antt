-- What the parts of a check say of the whole folder.
use Rattle.std.proofs.Common.{◌≡◌, ℕ, ◌≤◌, ◌<◌, ◌+◌, ◌/◌, ◌^◌, List, length, Result, None, Some, Ok, Err, sym, ap, subst, ◌∙◌, inl, inr, arith}
use Rattle.std.specs.Prelude.{OnOk}
use Rattle.std.specs.List.{All, AllZip, Contains, sum_by}
use Rattle.std.proofs.lemmas.Grind.{merely}
use Rattle.std.proofs.lemmas.List.Elements.{All-contains_itself, All-map, All-weaker}
use Rattle.std.proofs.lemmas.List.Sums.{sum_by-le}
use Rattle.outer_io.specs.declared.file_name.FileName.TheVariants.{Commit, Segment}
use Rattle.outer_io.specs.Files.{Files, bytes_of}
use Rattle.documents.specs.Documents.{Document}
use Rattle.live_bits.specs.LiveSet.{LiveSet}
use Rattle.page_cache.specs.declared.faults.PageFault.{PageFault}
use Rattle.page_cache.specs.Evidence.{FaultShows, OnDamage}
use Rattle.page_cache.proofs.Damages.{on_damage_weaker}
use Rattle.commit_list.specs.declared.listed.Listed.{Listed}
use Rattle.commit_list.specs.Commits.{CommitData, IsCommit, IsListed}
use Rattle.commit_list.specs.CommitFiles.{IsCommitFile}
use Rattle.commit_list.proofs.CommitPages.{file_there, one_file}
use Rattle.segment_file.specs.Heads.{Head}
use Rattle.segment_file.specs.Segments.{IsHeadOf, IsSegment}
use Rattle.index_model.specs.State.{State}
use Rattle.stored_index.specs.Segments.{SegmentData}
use Rattle.stored_index.specs.Stored.{HaveHeads, HaveLive, HoldsFiles, HoldsIndex, IsStored, IsUndefined}
use Rattle.stored_index.proofs.Pairwise.{partner_of}
use Rattle.stored_index.proofs.Parts.{EntriesOnce}
use Rattle.stored_index.proofs.Whole.{held_for}
use Rattle.segment_view.specs.LiveSegments.{LiveSegment, lives_of}
use Rattle.segment_view.specs.Held.{HasOwnHead}
use Rattle.document_checks.specs.Placed.{IsPlacedOnce}
use Rattle.index_opening.specs.Opened.{IsOpened}
use Rattle.index_opening.specs.Evidence.{IsHeadIn}
use Rattle.index_opening.proofs.Listed.{as_part, opened_heads, opened_lives, parts_held}
use Rattle.index_opening.proofs.Ordered.{zip_right}
use Rattle.folder_check.specs.declared.findings.Finding.{Finding}
use Rattle.folder_check.specs.Found.{AreFine, HasSegment, IsFinding, IsWrong}
use Rattle.folder_check.specs.Checked.{IsChecking, both_pages, checked_pages}
use Rattle.folder_check.proofs.Gathered.{gathered}
use Rattle.folder_check.proofs.Judged.{AreGathered, fine_holds, gather_all, wrong_undefined}

-- ---- what is known of the segments that were opened

pub own_heads : (T : Type 0) (D : ℕ) (files : Files) (c : CommitData) (parts : List LiveSegment) → T → c.dims ≡ D → AllZip (IsOpened T files c) c.listed parts
    → All (HasOwnHead D files) parts
own_heads T D files c parts t dims opened =
    zip_right (IsOpened T files c) (Contains c.listed) (HasOwnHead D files) c.listed parts one (All-contains_itself c.listed) opened
  where
    one : (s : Listed) (p : LiveSegment) → Contains c.listed s → IsOpened T files c s p → HasOwnHead D files p
    one s p there o =
        let h = o.head t in
        subst (λ n. IsHeadOf n (bytes_of (files (Segment p.head.id))) p.head) dims
        (subst (λ id. IsHeadOf c.dims (bytes_of (files (Segment id))) p.head) (sym h.id) h.is)

pub file_heads : (T : Type 0) (D : ℕ) (files : Files) (c : CommitData) (parts : List LiveSegment) → T → c.dims ≡ D → AllZip (IsOpened T files c) c.listed parts
    → All (λ (p : LiveSegment). ∥ IsHeadIn files D p.head ∥₁) parts
file_heads T D files c parts t dims opened =
    All-weaker (HasOwnHead D files) (λ (p : LiveSegment). ∥ IsHeadIn files D p.head ∥₁) (λ p h. merely h) parts (own_heads T D files c parts t dims opened)

-- where a state is stored each of them has its entries
pub all_segments : (T : Type 0) (D : ℕ) (files : Files) (c : CommitData) (parts : List LiveSegment) → T → c.dims ≡ D → IsCommitFile (bytes_of (files Commit)) c
    → AllZip (IsOpened T files c) c.listed parts
    → (state : State) → IsStored files state → All (HasSegment D files) parts
all_segments T D files c parts t dims says opened state stored =
    let found = held_for files c state stored says in
    let held : HoldsIndex files c found.0 = found.1 in
    subst (All (HasSegment D files))
    (sym (parts_held files c parts held.parts (opened_heads T files c parts t opened) (opened_lives T files c parts t opened) held.segments))
    (All-map (HasSegment D files) as_part held.parts
    (All-weaker (Contains held.parts) (λ (d : SegmentData). HasSegment D files (as_part d))
    (λ d there. of d (partner_of (HoldsFiles files c) c.listed held.parts held.segments d there)) held.parts (All-contains_itself held.parts)))
  where
    of : (d : SegmentData) → (s : Listed) × Contains c.listed s × HoldsFiles files c s d → HasSegment D files (as_part d)
    of d (s, there, h) = (
      d.entries,
      subst (λ n. IsSegment n (bytes_of (files (Segment d.head.id))) d.head d.entries) dims
          (subst (λ id. IsSegment c.dims (bytes_of (files (Segment id))) d.head d.entries) (sym h.id) h.segment),
    )

-- ---- what was found, as it is handed on

pub known_of : (T : Type 0) (D : ℕ) (files mid : Files) (c : CommitData) (parts : List LiveSegment) (findings : List Finding) → T → mid ≡ files → c.dims ≡ D
    → IsCommitFile (bytes_of (files Commit)) c
    → AllZip (IsOpened T files c) c.listed parts → ((number : ℕ) → IsPlacedOnce c.next (lives_of parts) number)
    → (All (HasOwnHead D mid) parts → AllZip (IsFinding D mid) parts findings)
    → (held : List SegmentData) × AreGathered files c held findings
known_of T D files mid c parts findings t same dims says opened placed found =
    let all = subst (λ (f : Files). AllZip (IsFinding D f) parts findings) same
    (found (subst (λ (f : Files). All (HasOwnHead D f) parts) (sym same) (own_heads T D files c parts t dims opened))) in
    (gathered D files parts findings all, gather_all T D files c parts findings t dims says opened placed all)

pub handed : (P : List Listed → ℕ → List Finding → Type 0) (l m : List Listed) (g h : ℕ) (e f : List Finding) → l ≡ m → g ≡ h → e ≡ f → P l g e → P m h f
handed P l m g h e f listed points_given found p = subst (λ k. P k h f) listed (subst (λ k. P l k f) points_given (subst (P l g) found p))

pub on_wrong_undefined : {X : Type 0} (once : EntriesOnce) (files : Files) (c : CommitData) (findings : List Finding) (r : Result X PageFault)
    → (held : List SegmentData) × AreGathered files c held findings
    → OnDamage r (IsWrong c.listed c.points_given findings) → OnDamage r (λ _. IsUndefined files)
on_wrong_undefined once files c findings r (held, g) =
    on_damage_weaker r (IsWrong c.listed c.points_given findings) (λ _. IsUndefined files)
    (λ d wrong. wrong_undefined files c held findings g once d wrong)

pub on_fine_holds : {X : Type 0} (files : Files) (c : CommitData) (findings : List Finding) (r : Result X PageFault)
    → (held : List SegmentData) × AreGathered files c held findings
    → OnOk r (AreFine c.listed c.points_given findings) → OnOk r ((docs : List Document) × HoldsIndex files c docs)
on_fine_holds files c findings (Ok x) (held, g) fine = fine_holds files c held findings g fine
on_fine_holds files c findings (Err e) (held, g) fine = tt

-- ---- the commit

-- damage of the Commit file shows that no state is stored
pub commit_undefined : (files : Files) (f : PageFault) → (files Commit ≡ None → FaultShows (λ _. ⊥) f)
    → ((c : CommitData) → IsCommitFile (bytes_of (files Commit)) c → FaultShows (λ _. ⊥) f)
    → (state : State) → IsStored files state → FaultShows (λ _. ⊥) f
commit_undefined files f absent whole None stored = absent stored
commit_undefined files f absent whole (Some i) stored = whole stored.commit stored.holds.commit

live_few : (c : CommitData) → IsCommit c → sum_by (λ (s : Listed). s.live) c.listed < 2 ^ 64
live_few c commit =
    let sum = sum_by-le (λ (s : Listed). s.live) 16777216 c.listed
    (All-weaker (IsListed c.next_segment) (λ (s : Listed). s.live ≤ 16777216) (λ s h. omega (arith, h.live, h.most)) c.listed commit.segments.each) in
    let few = commit.ranges.few in
    omega (arith, sum, few)

pub live_fits : (c : CommitData) (listed : List Listed) → IsCommit c → listed ≡ c.listed → sum_by (λ (s : Listed). s.live) listed < 2 ^ 64
live_fits c listed commit is = subst (λ (ss : List Listed). sum_by (λ (s : Listed). s.live) ss < 2 ^ 64) (sym is) (live_few c commit)

-- ---- the pages

-- where the commit was read, and then so many pages for each of its segments at most
pub pages_read : (files : Files) (pages from mid now : ℕ) → (files Commit ≡ None → mid ≡ from)
    → ((c : CommitData) → IsCommitFile (bytes_of (files Commit)) c → mid ≤ from + length (bytes_of (files Commit)) / 4096) → now ≡ mid
    → IsChecking files pages → now ≤ from + pages
pages_read files pages from mid now none most same (inl (absent, zero)) = omega (arith, none absent, same)
pages_read files pages from mid now none most same (inr k) = omega (arith, most k.commit k.says, same, k.is)

none_some : {X : Type 0} {x : X} {P : Type 0} → None ≡ Some x → P
none_some e = absurd cc

-- where the commit was read and what it lists was looked at
pub pages_all : (files : Files) (c : CommitData) (pages from mid now : ℕ) → IsCommitFile (bytes_of (files Commit)) c
    → ((d : CommitData) → IsCommitFile (bytes_of (files Commit)) d → mid ≤ from + length (bytes_of (files Commit)) / 4096)
    → ((heads : List Head) (sets : List LiveSet) → HaveHeads files c heads → HaveLive files c sets → now ≤ mid + sum_by (both_pages files) c.listed)
    → IsChecking files pages → now ≤ from + pages
pages_all files c pages from mid now says most more (inl (absent, zero)) = none_some (sym absent ∙ (file_there (files Commit) c says).0)
pages_all files c pages from mid now says most more (inr k) =
    let same : k.commit ≡ c = one_file (bytes_of (files Commit)) k.commit c k.says says in
    let here = most c says in
    let rest = more k.heads k.sets (subst (λ (d : CommitData). HaveHeads files d k.heads) same k.have)
    (subst (λ (d : CommitData). HaveLive files d k.sets) same k.live) in
    let is : pages ≡ checked_pages files c = k.is ∙ ap (checked_pages files) same in
    omega (arith, here, rest, is)

-- what is read of the same files
pub read_at : (files mid : Files) (c : CommitData) (from now : ℕ) → mid ≡ files
    → ((heads : List Head) (sets : List LiveSet) → HaveHeads mid c heads → HaveLive mid c sets → now ≤ from + sum_by (both_pages mid) c.listed)
    → (heads : List Head) (sets : List LiveSet) → HaveHeads files c heads → HaveLive files c sets → now ≤ from + sum_by (both_pages files) c.listed
read_at files mid c from now same more =
    subst (λ (f : Files). (heads : List Head) (sets : List LiveSet) → HaveHeads f c heads → HaveLive f c sets → now ≤ from + sum_by (both_pages f) c.listed)
    same more
