-- Which file a damage names that looking at the files of a folder shows.
use Rattle.std.proofs.Common.{◌≤◌, ℕ, List, sym, ap, subst, inl, inr}
use Rattle.std.proofs.Math.Logic.{∥∥₁_map}
use Rattle.std.proofs.lemmas.Grind.{merely}
use Rattle.std.specs.List.{All, AllZip, Contains}
use Rattle.std.proofs.lemmas.List.Elements.{All-contains, All-contains_itself}
use Rattle.outer_io.specs.declared.file_name.FileName.TheVariants.{Commit, Segment}
use Rattle.outer_io.specs.Files.{Files, bytes_of}
use Rattle.point_codec.specs.Points.{Region}
use Rattle.page_cache.specs.Evidence.{FaultShows}
use Rattle.page_cache.specs.declared.faults.Damage.{Damage}
use Rattle.page_cache.specs.declared.faults.Damage.TheVariants.{Page, Leaf, Body, Missing, Size, Unequal, NotGiven, Doubled}
use Rattle.page_cache.specs.declared.faults.PageFault.{PageFault}
use Rattle.page_cache.proofs.Damages.{fault_both, fault_weaker}
use Rattle.inner_pack.specs.Places.{front}
use Rattle.inner_pack.specs.Trees.{IndexTree}
use Rattle.commit_list.specs.declared.listed.Listed.{Listed}
use Rattle.commit_list.specs.Commits.{CommitData}
use Rattle.commit_list.specs.CommitFiles.{IsCommitFile, IsCommitDamage, IsCommitDamageOf}
use Rattle.segment_file.specs.Heads.{Head}
use Rattle.segment_file.specs.Damages.{IsHeadDamage, IsHeadDamageOf, IsLeafDamage, IsLiveDamage}
use Rattle.stored_index.specs.Segments.{places}
use Rattle.segment_view.specs.LiveSegments.{LiveSegment}
use Rattle.segment_view.specs.Damages.{IsPartDamage}
use Rattle.index_opening.specs.Damages.{IsAttachDamageOf, IsMisplaced, IsUnequalOf}
use Rattle.index_opening.specs.Evidence.{InHead, InList, IsFound, IsOfListed, NamesLooked}
use Rattle.index_opening.specs.Opened.{IsOpened}
use Rattle.index_opening.proofs.Evident.{live_listed, segment_listed}
use Rattle.index_opening.proofs.Ordered.{zip_right}

-- ---- a leaf

leaf_named : (D : ℕ) (files : Files) (head : Head) (root : Region) (tree : IndexTree) → IsOfListed files (Segment head.id)
    → (d : Damage) → IsLeafDamage D head 0 front tree d → NamesLooked files d
leaf_named D files head root tree listed (Page file number bytes) h = inr (subst (IsOfListed files) (sym h.0) listed)
leaf_named D files head root tree listed (Leaf file number offset len bytes) h = subst (IsOfListed files) (sym h.0) listed
leaf_named D files head root tree listed (Size file size needed) h = inr (subst (IsOfListed files) (sym h.0) listed)
leaf_named D files head root tree listed (Body file bytes) h = absurd h
leaf_named D files head root tree listed (Missing file) h = absurd h
leaf_named D files head root tree listed (Unequal file said found) h = absurd h
leaf_named D files head root tree listed (NotGiven doc next) h = absurd h
leaf_named D files head root tree listed (Doubled doc) h = absurd h

pub part_found : (D : ℕ) (files : Files) (parts : List LiveSegment) (f : PageFault)
    → All (λ (q : LiveSegment). IsOfListed files (Segment q.head.id)) parts → FaultShows (IsPartDamage D parts) f
    → FaultShows (IsFound files) f
part_found D files parts f listed = fault_weaker f (IsPartDamage D parts) (IsFound files)
    (λ d (p, there, read).
    let here = All-contains (λ (q : LiveSegment). IsOfListed files (Segment q.head.id)) parts p listed there in
    ∥∥₁_map read (λ r. leaf_named D files p.head r.root r.tree here d r.shows))

-- ---- the segments that a commit lists

-- those that were opened are of it
pub all_listed : (T : Type 0) (files : Files) (c : CommitData) (parts : List LiveSegment) → IsCommitFile (bytes_of (files Commit)) c
    → AllZip (IsOpened T files c) c.listed parts → All (λ (p : LiveSegment). IsOfListed files (Segment p.head.id)) parts
all_listed T files c parts says =
    let P = λ (p : LiveSegment). IsOfListed files (Segment p.head.id) in
    zip_right (IsOpened T files c) (Contains c.listed) P c.listed parts one (All-contains_itself c.listed)
  where
    one : (s : Listed) (p : LiveSegment) → Contains c.listed s → IsOpened T files c s p → IsOfListed files (Segment p.head.id)
    one s p there o = segment_listed files c s (Segment p.head.id) says there (ap (λ (id : ℕ). Segment id) o.listed.id)

head_named : (files : Files) (c : CommitData) → IsCommitFile (bytes_of (files Commit)) c → (s : Listed) → Contains c.listed s
    → (d : Damage) → IsHeadDamage s.segment d → IsHeadDamageOf c.dims files d → NamesLooked files d
head_named files c says s there (Page file number bytes) named h = inr (segment_listed files c s file says there named.0)
head_named files c says s there (Missing file) named h = segment_listed files c s file says there named
head_named files c says s there (Size file size needed) named h = inr (segment_listed files c s file says there named.0)
head_named files c says s there (Body file bytes) named h = inr (segment_listed files c s file says there named.0)
head_named files c says s there (Unequal file said found) named h = InHead c says s there named.0 h
head_named files c says s there (Leaf file number offset len bytes) named h = absurd h
head_named files c says s there (NotGiven doc next) named h = absurd h
head_named files c says s there (Doubled doc) named h = absurd h

live_named : (files : Files) (c : CommitData) → IsCommitFile (bytes_of (files Commit)) c → (s : Listed) → Contains c.listed s
    → (d : Damage) → IsLiveDamage s.segment s.generation d → NamesLooked files d
live_named files c says s there (Page file number bytes) named = inr (live_listed files c s file says there named.0)
live_named files c says s there (Missing file) named = live_listed files c s file says there named
live_named files c says s there (Size file size needed) named = inr (live_listed files c s file says there named.0)
live_named files c says s there (Body file bytes) named = inr (live_listed files c s file says there named.0)
live_named files c says s there (Unequal file said found) named = absurd named
live_named files c says s there (Leaf file number offset len bytes) named = absurd named
live_named files c says s there (NotGiven doc next) named = absurd named
live_named files c says s there (Doubled doc) named = absurd named

unequal_named : (files : Files) (c : CommitData) → IsCommitFile (bytes_of (files Commit)) c → (s : Listed) → Contains c.listed s
    → (d : Damage) → IsUnequalOf files c s d → NamesLooked files d
unequal_named files c says s there (Unequal file said found) h = InList c says s there h
unequal_named files c says s there (Page file number bytes) h = absurd h
unequal_named files c says s there (Leaf file number offset len bytes) h = absurd h
unequal_named files c says s there (Body file bytes) h = absurd h
unequal_named files c says s there (Missing file) h = absurd h
unequal_named files c says s there (Size file size needed) h = absurd h
unequal_named files c says s there (NotGiven doc next) h = absurd h
unequal_named files c says s there (Doubled doc) h = absurd h

misplaced_named : (files : Files) (beyond doubled : ℕ → Type 0) (n : ℕ) (d : Damage) → IsMisplaced beyond doubled n d → NamesLooked files d
misplaced_named files beyond doubled n (NotGiven doc next) h = tt
misplaced_named files beyond doubled n (Doubled doc) h = tt
misplaced_named files beyond doubled n (Page file number bytes) h = absurd h
misplaced_named files beyond doubled n (Leaf file number offset len bytes) h = absurd h
misplaced_named files beyond doubled n (Body file bytes) h = absurd h
misplaced_named files beyond doubled n (Missing file) h = absurd h
misplaced_named files beyond doubled n (Size file size needed) h = absurd h
misplaced_named files beyond doubled n (Unequal file said found) h = absurd h

attach_named : (files : Files) (c : CommitData) → IsCommitFile (bytes_of (files Commit)) c → (d : Damage) → IsAttachDamageOf files c d → NamesLooked files d
attach_named files c says d (inl (s, there, inl h)) = head_named files c says s there d h.0 h.1
attach_named files c says d (inl (s, there, inr (inl h))) = live_named files c says s there d h.0
attach_named files c says d (inl (s, there, inr (inr h))) = unequal_named files c says s there d h
attach_named files c says d (inr (sets, live, h)) = misplaced_named files (λ doc. 1 ≤ places doc sets) (λ doc. 2 ≤ places doc sets) c.next d h

pub attach_found : (files : Files) (c : CommitData) (f : PageFault) → IsCommitFile (bytes_of (files Commit)) c
    → FaultShows (IsAttachDamageOf files c) f → FaultShows (IsFound files) f
attach_found files c f says = fault_weaker f (IsAttachDamageOf files c) (IsFound files) (λ d h. merely (attach_named files c says d h))

-- ---- the Commit file

commit_named : (files : Files) (d : Damage) → IsCommitDamage d → IsCommitDamageOf files d → NamesLooked files d
commit_named files (Page file number bytes) shown h = inl shown.0
commit_named files (Missing file) shown h = absurd h
commit_named files (Size file size needed) shown h = inl shown.0
commit_named files (Body file bytes) shown h = inl shown.0
commit_named files (Leaf file number offset len bytes) shown h = absurd h
commit_named files (Unequal file said found) shown h = absurd h
commit_named files (NotGiven doc next) shown h = absurd h
commit_named files (Doubled doc) shown h = absurd h

pub commit_found : (files : Files) (f : PageFault) → FaultShows IsCommitDamage f → FaultShows (IsCommitDamageOf files) f → FaultShows (IsFound files) f
commit_found files f = fault_both f IsCommitDamage (IsCommitDamageOf files) (IsFound files) (λ d shown h. merely (commit_named files d shown h))
