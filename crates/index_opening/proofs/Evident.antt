-- A damage is shown by what it carries and is true of the files, from what the crates below say of it.
use Rattle.std.proofs.Common.{◌≡◌, ℕ, ◌≤◌, List, Result, Ok, Err, sym, subst, inl, inr}
use Rattle.std.proofs.Math.Logic.{∥∥₁_elim, ∥∥₁_map, ∥∥₁_prop}
use Rattle.std.proofs.lemmas.Grind.{merely}
use Rattle.std.specs.List.{Contains}
use Rattle.outer_io.specs.declared.file_name.FileName.{FileName}
use Rattle.outer_io.specs.declared.file_name.FileName.TheVariants.{Commit, CommitNew, Segment, Live}
use Rattle.outer_io.specs.Files.{Files, bytes_of}
use Rattle.live_bits.specs.LiveSet.{LiveSet}
use Rattle.page_cache.specs.Evidence.{OnDamage, NotDamaged, IsShown, IsSizeOf}
use Rattle.page_cache.specs.declared.faults.Damage.{Damage}
use Rattle.page_cache.specs.declared.faults.Damage.TheVariants.{Page, Leaf, Body, Missing, Size, Unequal, NotGiven, Doubled}
use Rattle.page_cache.specs.declared.faults.PageFault.{PageFault}
use Rattle.page_cache.specs.declared.faults.PageFault.TheVariants.{Failed, Damaged, Memory}
use Rattle.page_cache.proofs.Damages.{on_damage_weaker}
use Rattle.commit_list.specs.declared.listed.Listed.{Listed}
use Rattle.commit_list.specs.Commits.{CommitData}
use Rattle.commit_list.specs.CommitFiles.{IsCommitFile, AsksCommit, IsCommitDamage, IsCommitDamageOf}
use Rattle.segment_file.specs.Heads.{Head, HasRanges}
use Rattle.segment_file.specs.Damages.{AsksFor, IsHeadDamage, IsHeadDamageOf, IsLiveDamage, IsLiveDamageOf}
use Rattle.stored_index.specs.Segments.{places}
use Rattle.stored_index.specs.Stored.{HaveLive}
use Rattle.index_opening.specs.Damages.{IsAttachDamage, IsAttachDamageOf, IsMisplaced, IsUnequalOf}
use Rattle.index_opening.specs.Evidence.{AsksPages, HasNoBody, InHead, InList, InSets, IsEvident, IsEvidentWith}
use Rattle.index_opening.specs.Evidence.{IsHeadIn, IsOfListed, IsTrueDamage, IsTrueOf, IsOfEntries, LacksLeaf, MayBeNeeded}
use Rattle.index_opening.proofs.ListedShows.{attach_shows}

-- ---- of the same files, where more is told

-- O says of files which others may be needed, W what is shown of their entries
pub evident_at : (O : Files → FileName → Type 0) (W : Files → Damage → Type 0) (S T : Type 0) (f g : Files) (d : Damage) → (T → S) → (T → g ≡ f)
    → IsEvidentWith (O f) (W f) S f d
    → IsEvidentWith (O g) (W g) T g d
evident_at O W S T f g d back same h = record {
  shows = h.shows;
  of_files = λ t. subst (λ (u : Files). IsTrueDamage (O u) (W u) u d) (sym (same t)) (h.of_files (back t));
}

pub evident_less : {O : FileName → Type 0} {W : Damage → Type 0} (S T : Type 0) (files : Files) (d : Damage) → (T → S) → IsEvidentWith O W S files d
    → IsEvidentWith O W T files d
evident_less S T files d back h = record { shows = h.shows; of_files = λ t. h.of_files (back t) }

pub on_evident_at : {X : Type 0} (O : Files → FileName → Type 0) (W : Files → Damage → Type 0) (S T : Type 0) (f g : Files) (r : Result X PageFault) → (T → S)
    → (T → g ≡ f)
    → OnDamage r (IsEvidentWith (O f) (W f) S f)
    → OnDamage r (IsEvidentWith (O g) (W g) T g)
on_evident_at O W S T f g r back same =
    on_damage_weaker r (IsEvidentWith (O f) (W f) S f) (IsEvidentWith (O g) (W g) T g) (λ d h. evident_at O W S T f g d back same h)

-- where no other file is needed
pub evident_files : (S T : Type 0) (f g : Files) (d : Damage) → (T → S) → (T → g ≡ f) → IsEvident S f d → IsEvident T g d
evident_files S T f g d = evident_at (λ u file. ⊥) IsOfEntries S T f g d

pub on_evident_files : {X : Type 0} (S T : Type 0) (f g : Files) (r : Result X PageFault) → (T → S) → (T → g ≡ f) → OnDamage r (IsEvident S f)
    → OnDamage r (IsEvident T g)
on_evident_files S T f g r = on_evident_at (λ u file. ⊥) IsOfEntries S T f g r

pub on_less_with : {X : Type 0} (O : FileName → Type 0) (W : Damage → Type 0) (S T : Type 0) (files : Files) (r : Result X PageFault) → (T → S)
    → OnDamage r (IsEvidentWith O W S files)
    → OnDamage r (IsEvidentWith O W T files)
on_less_with O W S T files r back =
    on_damage_weaker r (IsEvidentWith O W S files) (IsEvidentWith O W T files) (λ d h. evident_less S T files d back h)

pub on_evident_less : {X : Type 0} (S T : Type 0) (files : Files) (r : Result X PageFault) → (T → S) → OnDamage r (IsEvident S files)
    → OnDamage r (IsEvident T files)
on_evident_less S T files = on_less_with (λ file. ⊥) (IsOfEntries files) S T files

-- where no damage is answered
pub none_with : {X : Type 0} (O : FileName → Type 0) (W : Damage → Type 0) (T : Type 0) (files : Files) (r : Result X PageFault) → NotDamaged r
    → OnDamage r (IsEvidentWith O W T files)
none_with O W T files r whole = on_damage_weaker r (λ d. ⊥) (IsEvidentWith O W T files) (λ d h. absurd h) whole

pub none_evident : {X : Type 0} (T : Type 0) (files : Files) (r : Result X PageFault) → NotDamaged r → OnDamage r (IsEvident T files)
none_evident T files = none_with (λ file. ⊥) (IsOfEntries files) T files

-- the others of the one may be needed by the other, and what it shows of entries the other does
pub evident_by : (O P : FileName → Type 0) (V W : Damage → Type 0) (S T : Type 0) (files : Files) (d : Damage) → (T → S)
    → (T → (file : FileName) → O file → ∥ MayBeNeeded P files file ∥₁) → (T → (e : Damage) → V e → ∥ W e ∥₁) → IsEvidentWith O V S files d
    → IsEvidentWith P W T files d
evident_by O P V W S T files d back named more h = record {
  shows = h.shows;
  of_files = λ t. let truth = h.of_files (back t) in record { shows = truth.shows; carries = ∥∥₁_elim truth.carries ∥∥₁_prop (λ c. merely_carried t d c) };
}
  where
    needed : T → (file : FileName) → MayBeNeeded O files file → ∥ MayBeNeeded P files file ∥₁
    needed t file (inl looked) = merely (inl looked)
    needed t file (inr (inl whole)) = merely (inr (inl whole))
    needed t file (inr (inr other)) = named t file other

    merely_carried : T → (e : Damage) → IsTrueOf O V files e → ∥ IsTrueOf P W files e ∥₁
    merely_carried t (Doubled doc) c = more t (Doubled doc) c
    merely_carried t (Page file number bytes) c = ∥∥₁_map (needed t file c.1) (λ m. (c.0, m))
    merely_carried t (Leaf file number offset len bytes) c = ∥∥₁_map (needed t file c.1) (λ m. (c.0, m))
    merely_carried t (Body file bytes) c = merely c
    merely_carried t (Missing file) c = merely c
    merely_carried t (Size file size needed) c = merely c
    merely_carried t (Unequal file said found) (inl pair) = merely (inl pair)
    merely_carried t (Unequal file said found) (inr shown) = ∥∥₁_map (more t (Unequal file said found) shown) inr
    merely_carried t (NotGiven doc next) c = merely c

pub on_evident_by : {X : Type 0} (O P : FileName → Type 0) (V W : Damage → Type 0) (S T : Type 0) (files : Files) (r : Result X PageFault) → (T → S)
    → (T → (file : FileName) → O file → ∥ MayBeNeeded P files file ∥₁) → (T → (e : Damage) → V e → ∥ W e ∥₁)
    → OnDamage r (IsEvidentWith O V S files)
    → OnDamage r (IsEvidentWith P W T files)
on_evident_by O P V W S T files r back named more =
    on_damage_weaker r (IsEvidentWith O V S files) (IsEvidentWith P W T files) (λ d h. evident_by O P V W S T files d back named more h)

-- the same of entries, and others that may be needed
pub evident_named : (O P : FileName → Type 0) (W : Damage → Type 0) (S T : Type 0) (files : Files) (d : Damage) → (T → S)
    → (T → (file : FileName) → O file → ∥ MayBeNeeded P files file ∥₁)
    → IsEvidentWith O W S files d → IsEvidentWith P W T files d
evident_named O P W S T files d back named = evident_by O P W W S T files d back named (λ t e shown. merely shown)

pub on_evident_named : {X : Type 0} (O P : FileName → Type 0) (W : Damage → Type 0) (S T : Type 0) (files : Files) (r : Result X PageFault) → (T → S)
    → (T → (file : FileName) → O file → ∥ MayBeNeeded P files file ∥₁)
    → OnDamage r (IsEvidentWith O W S files) → OnDamage r (IsEvidentWith P W T files)
on_evident_named O P W S T files r back named = on_evident_by O P W W S T files r back named (λ t e shown. merely shown)

-- where no others are needed, none are of any
pub on_evident_wider : {X : Type 0} (P : FileName → Type 0) (S T : Type 0) (files : Files) (r : Result X PageFault) → (T → S) → OnDamage r (IsEvident S files)
    → OnDamage r (IsEvidentWith P (IsOfEntries files) T files)
on_evident_wider P S T files r back = on_evident_named (λ file. ⊥) P (IsOfEntries files) S T files r back (λ t file none. absurd none)

-- what is told of the files counts in an answer
pub on_told : {X : Type 0} (T : Type 0) (r : Result X PageFault) (P Q R : Damage → Type 0) → ((d : Damage) → (T → P d) → Q d → R d) → (T → OnDamage r P)
    → OnDamage r Q → OnDamage r R
on_told T (Ok x) P Q R f h k = tt
on_told T (Err Failed) P Q R f h k = tt
on_told T (Err (Damaged d)) P Q R f h k = f d h k
on_told T (Err Memory) P Q R f h k = tt

-- ---- the segments that a commit lists

pub segment_listed : (files : Files) (c : CommitData) (s : Listed) (file : FileName) → IsCommitFile (bytes_of (files Commit)) c
    → Contains c.listed s → file ≡ Segment s.segment → IsOfListed files file
segment_listed files c s file says there is = record { commit = c; says = says; listed = s; there = there; is = inl is }

pub live_listed : (files : Files) (c : CommitData) (s : Listed) (file : FileName) → IsCommitFile (bytes_of (files Commit)) c
    → Contains c.listed s → file ≡ Live s.segment s.generation → IsOfListed files file
live_listed files c s file says there is = record { commit = c; says = says; listed = s; there = there; is = inr is }

-- the pages that a file of a segment asks for
pages_asked : (files : Files) (file : FileName) (size needed : ℕ) → IsSizeOf (AsksFor file) files file size needed
    → IsSizeOf (AsksPages file) files file size needed
pages_asked files (Segment id) size needed h = h
pages_asked files (Live segment generation) size needed h = h
pages_asked files Commit size needed (inl h) = inl h
pages_asked files Commit size needed (inr h) = absurd h.first_asks
pages_asked files CommitNew size needed (inl h) = inl h
pages_asked files CommitNew size needed (inr h) = absurd h.first_asks

head_carried : (files : Files) (c : CommitData) → IsCommitFile (bytes_of (files Commit)) c → (s : Listed) → Contains c.listed s
    → (d : Damage) → IsHeadDamage s.segment d → IsHeadDamageOf c.dims files d
    → IsTrueOf (λ file. ⊥) (IsOfEntries files) files d
head_carried files c says s there (Page file number bytes) named h = (h, inl (inr (segment_listed files c s file says there named.0)))
head_carried files c says s there (Missing file) named h = (h, segment_listed files c s file says there named)
head_carried files c says s there (Size file size needed) named h =
    (pages_asked files file size needed h, inr (segment_listed files c s file says there named.0))
head_carried files c says s there (Body file bytes) named h = (h, inr (segment_listed files c s file says there named.0))
head_carried files c says s there (Unequal file said found) named h = inl (InHead c says s there named.0 h)
head_carried files c says s there (Leaf file number offset len bytes) named h = absurd h
head_carried files c says s there (NotGiven doc next) named h = absurd h
head_carried files c says s there (Doubled doc) named h = absurd h

live_carried : (files : Files) (c : CommitData) → IsCommitFile (bytes_of (files Commit)) c → (s : Listed) → Contains c.listed s
    → (d : Damage) → IsLiveDamage s.segment s.generation d → IsLiveDamageOf files d
    → IsTrueOf (λ file. ⊥) (IsOfEntries files) files d
live_carried files c says s there (Page file number bytes) named h = (h, inl (inr (live_listed files c s file says there named.0)))
live_carried files c says s there (Missing file) named h = (h, live_listed files c s file says there named)
live_carried files c says s there (Size file size needed) named h =
    (pages_asked files file size needed h, inr (live_listed files c s file says there named.0))
live_carried files c says s there (Body file bytes) named h = (h, inr (live_listed files c s file says there named.0))
live_carried files c says s there (Unequal file said found) named h = absurd h
live_carried files c says s there (Leaf file number offset len bytes) named h = absurd h
live_carried files c says s there (NotGiven doc next) named h = absurd h
live_carried files c says s there (Doubled doc) named h = absurd h

unequal_carried : (files : Files) (c : CommitData) → IsCommitFile (bytes_of (files Commit)) c → (s : Listed) → Contains c.listed s → (d : Damage)
    → IsUnequalOf files c s d → IsTrueOf (λ file. ⊥) (IsOfEntries files) files d
unequal_carried files c says s there (Unequal file said found) h = inl (InList c says s there h)
unequal_carried files c says s there (Page file number bytes) h = absurd h
unequal_carried files c says s there (Leaf file number offset len bytes) h = absurd h
unequal_carried files c says s there (Body file bytes) h = absurd h
unequal_carried files c says s there (Missing file) h = absurd h
unequal_carried files c says s there (Size file size needed) h = absurd h
unequal_carried files c says s there (NotGiven doc next) h = absurd h
unequal_carried files c says s there (Doubled doc) h = absurd h

misplaced_carried : (files : Files) (c : CommitData) → IsCommitFile (bytes_of (files Commit)) c → (sets : List LiveSet) → HaveLive files c sets → (d : Damage)
    → IsMisplaced (λ doc. 1 ≤ places doc sets) (λ doc. 2 ≤ places doc sets) c.next d → IsTrueOf (λ file. ⊥) (IsOfEntries files) files d
misplaced_carried files c says sets live (NotGiven doc next) h = record { commit = c; says = says; next_is = h.0; sets = sets; live = live; there = h.2 }
misplaced_carried files c says sets live (Doubled doc) h = InSets c says sets live h
misplaced_carried files c says sets live (Page file number bytes) h = absurd h
misplaced_carried files c says sets live (Leaf file number offset len bytes) h = absurd h
misplaced_carried files c says sets live (Body file bytes) h = absurd h
misplaced_carried files c says sets live (Missing file) h = absurd h
misplaced_carried files c says sets live (Size file size needed) h = absurd h
misplaced_carried files c says sets live (Unequal file said found) h = absurd h

attach_carried : (files : Files) (c : CommitData) → IsCommitFile (bytes_of (files Commit)) c → (d : Damage)
    → IsAttachDamageOf files c d → IsTrueOf (λ file. ⊥) (IsOfEntries files) files d
attach_carried files c says d (inl (s, there, inl h)) = head_carried files c says s there d h.0 h.1
attach_carried files c says d (inl (s, there, inr (inl h))) = live_carried files c says s there d h.0 h.1
attach_carried files c says d (inl (s, there, inr (inr h))) = unequal_carried files c says s there d h
attach_carried files c says d (inr (sets, live, h)) = misplaced_carried files c says sets live d h

pub attach_evident : (T : Type 0) (files : Files) (c : CommitData) (d : Damage) → (T → IsCommitFile (bytes_of (files Commit)) c)
    → (T → IsAttachDamageOf files c d) → IsAttachDamage c d → IsEvident T files d
attach_evident T files c d says truth h = record {
  shows = merely (attach_shows HasRanges c d h);
  of_files = λ t. record { shows = merely (attach_shows (IsHeadIn files) c d h); carries = merely (attach_carried files c (says t) d (truth t)) };
}

pub on_attach_evident : {X : Type 0} (T : Type 0) (files : Files) (c : CommitData) (r : Result X PageFault) → (T → IsCommitFile (bytes_of (files Commit)) c)
    → (T → OnDamage r (IsAttachDamageOf files c))
    → OnDamage r (IsAttachDamage c) → OnDamage r (IsEvident T files)
on_attach_evident T files c r says =
    on_told T r (IsAttachDamageOf files c) (IsAttachDamage c) (IsEvident T files) (λ d truth h. attach_evident T files c d says truth h)

-- ---- the Commit file

commit_shows : (P : ℕ → Head → Type 0) (d : Damage) → IsCommitDamage d → IsShown (LacksLeaf P) HasNoBody d
commit_shows P (Page file number bytes) h = h.1
commit_shows P (Missing file) h = tt
commit_shows P (Size file size needed) h = h.1
commit_shows P (Body file bytes) h = subst (λ (name : FileName). HasNoBody name bytes) (sym h.0) h.1
commit_shows P (Leaf file number offset len bytes) h = absurd h
commit_shows P (Unequal file said found) h = absurd h
commit_shows P (NotGiven doc next) h = absurd h
commit_shows P (Doubled doc) h = absurd h

commit_carried : (files : Files) (d : Damage) → IsCommitDamage d → IsCommitDamageOf files d → IsTrueOf (λ file. ⊥) (IsOfEntries files) files d
commit_carried files (Page file number bytes) shown h = (h, inl (inl shown.0))
commit_carried files (Missing file) shown h = absurd h
commit_carried files (Size file size needed) shown h = (
  subst (λ (name : FileName). IsSizeOf AsksCommit files name size needed → IsSizeOf (AsksPages name) files name size needed) (sym shown.0) (λ k. k) h,
  inl shown.0,
)
commit_carried files (Body file bytes) shown h = (h, inl shown.0)
commit_carried files (Leaf file number offset len bytes) shown h = absurd h
commit_carried files (Unequal file said found) shown h = absurd h
commit_carried files (NotGiven doc next) shown h = absurd h
commit_carried files (Doubled doc) shown h = absurd h

pub commit_evident : (T : Type 0) (files : Files) (d : Damage) → (T → IsCommitDamageOf files d) → IsCommitDamage d → IsEvident T files d
commit_evident T files d truth h = record {
  shows = merely (commit_shows HasRanges d h);
  of_files = λ t. record { shows = merely (commit_shows (IsHeadIn files) d h); carries = merely (commit_carried files d h (truth t)) };
}

pub on_commit_evident : {X : Type 0} (T : Type 0) (files : Files) (r : Result X PageFault) → (T → OnDamage r (IsCommitDamageOf files))
    → OnDamage r IsCommitDamage → OnDamage r (IsEvident T files)
on_commit_evident T files r = on_told T r (IsCommitDamageOf files) IsCommitDamage (IsEvident T files) (λ d truth h. commit_evident T files d truth h)

-- the commit that was read is that of the files after reading it
pub says_after : (old new : Files) (c : CommitData) → new ≡ old → IsCommitFile (bytes_of (old Commit)) c → IsCommitFile (bytes_of (new Commit)) c
says_after old new c same says = subst (λ (f : Files). IsCommitFile (bytes_of (f Commit)) c) (sym same) says
