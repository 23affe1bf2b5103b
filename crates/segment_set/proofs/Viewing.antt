-- What a set keeps of its files stays theirs where it is looked at, where snapshots come and go, and where it is made anew; and what a damage shows there.
use Rattle.std.proofs.Common.{◌≡◌, ◌≢◌, ℕ, Bool, not, List, get_or, Option, Result, IsTrue, inl, inr, refl, sym, ap, subst}
use Rattle.std.specs.List.{All, AllZip, Contains}
use Rattle.std.specs.Str.{bytes_eq}
use Rattle.std.proofs.lemmas.Grind.{merely}
use Rattle.std.proofs.lemmas.List.Elements.{All-contains_itself, All-filter, All-nil, All-push}
use Rattle.outer_io.specs.declared.file_name.FileName.{FileName}
use Rattle.outer_io.specs.declared.file_name.FileName.TheVariants.{Segment}
use Rattle.outer_io.specs.Files.{Files, SameBut, bytes_of}
use Rattle.page_cache.specs.declared.cache.PageCache.{PageCache}
use Rattle.page_cache.specs.declared.faults.PageFault.{PageFault}
use Rattle.page_cache.specs.Cache.{Agrees, KeepsFile}
use Rattle.page_cache.specs.Evidence.{OnDamage}
use Rattle.page_cache.proofs.Agreement.{agrees_other}
use Rattle.commit_list.specs.declared.listed.Listed.{Listed}
use Rattle.commit_list.specs.Commits.{CommitData}
use Rattle.segment_file.specs.Segments.{IsHeadOf}
use Rattle.segment_file.specs.Damages.{IsLeafDamageOf}
use Rattle.stored_index.specs.Stored.{HasHead}
use Rattle.segment_view.specs.Calm.{IsCalm}
use Rattle.segment_view.specs.Damages.{IsPartDamage}
use Rattle.segment_view.specs.LiveSegments.{LiveSegment, parts_among}
use Rattle.file_names.specs.Names.{NameList}
use Rattle.segment_set.specs.Sets.{NamedView, SetData, viewed_parts}
use Rattle.index_opening.specs.Opened.{IsOpened}
use Rattle.segment_set.specs.Swept.{IsUnneeded}
use Rattle.index_opening.specs.Evidence.{IsEvidentOf, IsOfPart, IsOfEntries}
use Rattle.segment_set.specs.Faithful.{HasFileHead, IsFaithful}
use Rattle.index_opening.proofs.Ordered.{zip_right}
use Rattle.segment_set.proofs.BegunKept.{begun_alike, begun_none}
use Rattle.segment_set.proofs.Attaching.{attached}
use Rattle.segment_set.proofs.Empty.{empty_set}
use Rattle.index_opening.proofs.Evident.{on_evident_at}
use Rattle.index_opening.proofs.LeafEvident.{of_part, on_part_evident}
use Rattle.segment_set.proofs.Snapped.{set_released, set_snapped}
use Rattle.segment_set.proofs.Viewed.{viewed_all}

-- ---- a call that looks at a view and keeps pages of its segments alone. `s` is the set as its fields have it, `t` as the caller sees it

pub viewed_heads : (D : ℕ) (files : Files) (view : Option (List ℕ)) (s : SetData) → IsFaithful D files s → All (HasFileHead D files) (viewed_parts view s)
viewed_heads D files view s keeps = viewed_all (All (HasFileHead D files)) (All-nil (HasFileHead D files)) view s keeps.heads keeps.kept

pub looked_faithful : (D : ℕ) (told : Bool) (f g : Files) (s t : SetData) (ids : List ℕ) (cache : PageCache) → s ≡ t → IsCalm told f g s.cache cache ids
    → IsTrue told → IsFaithful D f t → IsFaithful D g (record s { cache = cache })
looked_faithful D told f g s t ids cache same calm told_is keeps =
    let here : IsFaithful D f s = subst (IsFaithful D f) (sym same) keeps in
    subst (λ (h : Files). IsFaithful D h (record s { cache = cache })) (sym (calm.files told_is))
    (record { pages = calm.agrees told_is here.pages; heads = here.heads; kept = here.kept; begun = here.begun })

pub looked_evident : {X : Type 0} (D : ℕ) (told : Bool) (f g : Files) (s t : SetData) (view : Option (List ℕ)) (segments : List LiveSegment) (ids : List ℕ)
    (cache : PageCache) (r : Result X PageFault) → s ≡ t
    → segments ≡ viewed_parts view t → IsCalm told f g s.cache cache ids → OnDamage r (IsPartDamage D segments)
    → (IsTrue told → Agrees f s.cache → OnDamage r (IsLeafDamageOf f))
    → OnDamage r (IsEvidentOf (viewed_parts view t) (IsTrue told × IsFaithful D f t) g)
looked_evident D told f g s t view segments ids cache r same is calm shown of_files =
    subst (λ (ps : List LiveSegment). OnDamage r (IsEvidentOf ps (IsTrue told × IsFaithful D f t) g)) is
    (on_evident_at (λ u. IsOfPart segments) IsOfEntries (IsTrue told × IsFaithful D f t) (IsTrue told × IsFaithful D f t) f g r (λ h. h) (λ h. calm.files h.0)
    (on_part_evident (IsOfPart segments) (IsOfEntries f) (IsTrue told × IsFaithful D f t) D f segments r
    (λ h. subst (All (HasFileHead D f)) (sym is) (viewed_heads D f view t h.1)) (λ h p there. of_part f segments p there)
    (λ h. of_files h.0 (subst (λ (u : SetData). Agrees f u.cache) (sym same) h.1.pages)) shown))

-- ---- snapshots

pub faithful_snapped : (D : ℕ) (files : Files) (s : SetData) (name : List ℕ) → IsFaithful D files s → IsFaithful D files (set_snapped name s)
faithful_snapped D files s name keeps = record {
  pages = keeps.pages;
  heads = keeps.heads;
  kept = All-push (λ (v : NamedView). All (HasFileHead D files) v.parts) s.snapshots (record { name = name; parts = s.parts; buffer = s.buffer }) keeps.kept
      keeps.heads;
  begun = keeps.begun;
}

pub faithful_released : (D : ℕ) (files : Files) (s : SetData) (name : List ℕ) → IsFaithful D files s → IsFaithful D files (set_released name s)
faithful_released D files s name keeps = record {
  pages = keeps.pages;
  heads = keeps.heads;
  kept = All-filter (λ (v : NamedView). not (bytes_eq v.name name)) (λ (v : NamedView). All (HasFileHead D files) v.parts) s.snapshots keeps.kept;
  begun = keeps.begun;
}

-- ---- a set that is made anew

pub faithful_empty : (D leaf_size : ℕ) (names : NameList) (cache : PageCache) (files : Files) → Agrees files cache
    → IsFaithful D files (empty_set leaf_size names cache)
faithful_empty D leaf_size names cache files agrees = record {
  pages = agrees;
  heads = All-nil (HasFileHead D files);
  kept = All-nil (λ (v : NamedView). All (HasFileHead D files) v.parts);
  begun = begun_none D files (empty_set leaf_size names cache) refl;
}

-- the head of a listed segment is that of the file of its own id
listed_head : (D : ℕ) (files : Files) (c : CommitData) (s : Listed) (p : LiveSegment) → c.dims ≡ D → HasHead c.dims files s p.head → HasFileHead D files p
listed_head D files c s p dims has =
    merely (subst (λ n. IsHeadOf D (bytes_of (files (Segment n))) p.head) (sym has.id)
    (subst (λ n. IsHeadOf n (bytes_of (files (Segment s.segment))) p.head) dims has.is))

pub faithful_attached : (D : ℕ) (told : Type 0) (files : Files) (c : CommitData) (names : NameList) (parts : List LiveSegment) (cache : PageCache) → c.dims ≡ D
    → told
    → AllZip (IsOpened told files c) c.listed parts
    → Agrees files cache → IsFaithful D files (attached c names parts cache)
faithful_attached D told files c names parts cache dims t all agrees = record {
  pages = agrees;
  heads = zip_right (IsOpened told files c) (λ (s : Listed). Unit {0}) (HasFileHead D files) c.listed parts
      (λ s p u one. listed_head D files c s p dims (one.head t)) (λ k s lt. tt) all;
  kept = All-nil (λ (v : NamedView). All (HasFileHead D files) v.parts);
  begun = begun_none D files (attached c names parts cache) refl;
}

-- ---- the set after a file is taken away that no view needs

heads_still : (D : ℕ) (before after : Files) (name : FileName) (parts : List LiveSegment) → SameBut name before after
    → ((p : LiveSegment) → Contains parts p → Segment p.head.id ≢ name) → All (HasFileHead D before) parts
    → All (HasFileHead D after) parts
heads_still D before after name parts same apart all k p lt =
    subst (λ (file : Option (List ℕ)). ∥ IsHeadOf D (bytes_of file) (get_or parts k p).head ∥₁)
    (sym (same (Segment (get_or parts k p).head.id) (apart (get_or parts k p) (All-contains_itself parts k p lt)))) (all k p lt)

pub faithful_swept : (D : ℕ) (s t : SetData) (k : CommitData) (name : FileName) (before after : Files) → IsUnneeded s k name
    → ((id : ℕ) → name ≡ Segment id → KeepsFile t.cache id → ⊥) → SameBut name before after
    → Agrees before t.cache → t.parts ≡ s.parts → t.snapshots ≡ s.snapshots → t.begun ≡ s.begun → IsFaithful D before s → IsFaithful D after t
faithful_swept D s t k name before after un none same agrees parts snapshots begun keeps = record {
  pages = agrees_other before after t.cache (λ id kept. same (Segment id) (λ e. none id (sym e) kept)) agrees;
  heads =
      subst (All (HasFileHead D after)) (sym parts) (heads_still D before after name s.parts same (λ p there e. un.shown (inl (p, there, sym e))) keeps.heads);
  kept = subst (All (λ (v : NamedView). All (HasFileHead D after) v.parts)) (sym snapshots)
      (λ k v lt. heads_still D before after name (get_or s.snapshots k v).parts same
      (λ p there e. un.shown (inr (get_or s.snapshots k v, All-contains_itself s.snapshots k v lt, (p, there, sym e)))) (keeps.kept k v lt));
  begun = begun_alike D before after s t begun (λ b was. ap (parts_among b.inputs) parts)
      (λ p there. same (Segment p.head.id) (λ e. un.shown (inl (p, there, sym e)))) keeps.begun;
}
