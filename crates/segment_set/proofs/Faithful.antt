-- What a set keeps of its files stays theirs.
use Rattle.std.proofs.Common.{◌≡◌, ℕ, true, List, get_or, Option, None, refl, sym, ap, subst, ◌⊎◌, inl, ⊎_elim}
use Rattle.std.proofs.Math.Logic.{∥∥₁_map}
use Rattle.std.specs.List.{All, Contains}
use Rattle.std.proofs.lemmas.List.Elements.{All-contains, All-contains_itself, All-map, All-weaker}
use Rattle.outer_io.specs.declared.file_name.FileName.{FileName}
use Rattle.outer_io.specs.declared.file_name.FileName.TheVariants.{Segment}
use Rattle.outer_io.specs.Files.{Files, bytes_of}
use Rattle.live_bits.specs.LiveSet.{live_set_without}
use Rattle.page_cache.specs.Cache.{Agrees}
use Rattle.page_cache.proofs.Agreement.{agrees_other}
use Rattle.commit_list.specs.Commits.{CommitData}
use Rattle.segment_file.specs.Heads.{Head}
use Rattle.segment_file.specs.Segments.{IsHeadOf}
use Rattle.segment_file.proofs.Unique.{head_of_segment}
use Rattle.segment_view.specs.LiveSegments.{LiveSegment, parts_among}
use Rattle.file_names.specs.Names.{NameList, is_named}
use Rattle.segment_set.specs.Sets.{BegunMerge, IsNamed, IsWell, IsWellTo, NamedView, SetData, inputs_of, set_but}
use Rattle.segment_set.specs.Kept.{AreCanonical, Follows, HasCanonical, KeepsNamed}
use Rattle.segment_set.specs.Merged.{Rearranges}
use Rattle.segment_set.specs.Faithful.{HasFileHead, IsFaithful}
use Rattle.segment_set.proofs.BegunKept.{begun_alike, begun_none, begun_without}

-- ---- the heads of segments

-- a head of another file that is the same
head_alike : (D : ℕ) (f g : Files) (p q : LiveSegment) → p.head ≡ q.head → g (Segment q.head.id) ≡ f (Segment q.head.id) → HasFileHead D f q → HasFileHead D g p
head_alike D f g p q same file has =
    subst (λ (h : Head). ∥ IsHeadOf D (bytes_of (g (Segment h.id))) h ∥₁) (sym same)
    (subst (λ b. ∥ IsHeadOf D (bytes_of b) q.head ∥₁) (sym file) has)

heads_alike : (D : ℕ) (f g : Files) (names : NameList) (parts : List LiveSegment) → All (IsNamed names) parts
    → ((m : FileName) → is_named names.names m ≡ true → g m ≡ f m)
    → All (HasFileHead D f) parts → All (HasFileHead D g) parts
heads_alike D f g names parts named same has k p lt = head_alike D f g (get_or parts k p) (get_or parts k p) refl (same _ (named k p lt)) (has k p lt)

views_alike : (D : ℕ) (f g : Files) (names : NameList) (views : List NamedView) → All (λ v. All (IsNamed names) v.parts) views
    → ((m : FileName) → is_named names.names m ≡ true → g m ≡ f m)
    → All (λ v. All (HasFileHead D f) v.parts) views → All (λ v. All (HasFileHead D g) v.parts) views
views_alike D f g names views named same has k v lt = heads_alike D f g names _ (named k v lt) same (has k v lt)

-- of segments that were there, and of canonical ones of new names
pub faithful_parts : (D : ℕ) (f g : Files) (names : NameList) (old new : List LiveSegment) → All (IsNamed names) old
    → ((m : FileName) → is_named names.names m ≡ true → g m ≡ f m) → Follows names old new
    → AreCanonical D g names new → All (HasFileHead D f) old → All (HasFileHead D g) new
faithful_parts D f g names old new named same follows canon has =
    All-weaker (Contains new) (HasFileHead D g) (λ p there. ⊎_elim
    (λ fresh. written p (canon p there fresh).canon)
    (λ r. head_alike D f g p r.0 r.2 (same (Segment r.0.head.id) (All-contains (IsNamed names) old r.0 named r.1))
    (All-contains (HasFileHead D f) old r.0 has r.1))
    (follows.each p there)) new (All-contains_itself new)
  where
    written : (p : LiveSegment) → HasCanonical D g p.head → HasFileHead D g p
    written p is = ∥∥₁_map is (λ c. head_of_segment D (bytes_of (g (Segment p.head.id))) p.head c.0 c.1)

-- ---- the set

-- the files of its segments are those of names
pub part_files : {most : ℕ} (D : ℕ) {f g : Files} (s : SetData) → IsWellTo most D s → ((m : FileName) → is_named s.names.names m ≡ true → g m ≡ f m)
    → (p : LiveSegment)
    → Contains s.parts p → g (Segment p.head.id) ≡ f (Segment p.head.id)
part_files D s well same p there = same (Segment p.head.id) (All-contains (IsNamed s.names) s.parts p well.named there)

-- where merges and flushes arranged it anew
pub faithful_rearranged : {most : ℕ} (D : ℕ) (told : Type 0) (f g : Files) (s t : SetData) → IsWellTo most D s → Rearranges D told f g s t → told
    → (Agrees f s.cache → Agrees g t.cache) → IsFaithful D f s → IsFaithful D g t
faithful_rearranged D told f g s t well moves is_told agrees is = record {
  pages = agrees is.pages;
  heads = faithful_parts D f g s.names s.parts t.parts well.named (moves.kept.files is_told) moves.follows (moves.canon is_told) is.heads;
  kept = subst (λ (vs : List NamedView). All (λ v. All (HasFileHead D g) v.parts) vs) (sym moves.stays.snapshots)
      (views_alike D f g s.names s.snapshots well.kept (moves.kept.files is_told) is.kept);
  begun = begun_alike D f g s t moves.begun
      (λ b was. subst (λ (o : Option BegunMerge). parts_among (inputs_of o) t.parts ≡ parts_among (inputs_of o) s.parts) was moves.pinned)
      (part_files D s well (λ m. moves.kept.files is_told m)) is.begun;
}

-- where no named file changed, and a begun merge is so still, or none is
pub faithful_named : (D : ℕ) (f g : Files) (s t : SetData) → IsWell D s → ((m : FileName) → is_named s.names.names m ≡ true → g m ≡ f m) → t.parts ≡ s.parts
    → (t.begun ≡ s.begun) ⊎ (t.begun ≡ None) → t.snapshots ≡ s.snapshots → t.cache ≡ s.cache
    → IsFaithful D f s → IsFaithful D g t
faithful_named D f g s t well same parts begun snapshots cache is = record {
  pages = subst (Agrees g) (sym cache) (agrees_other f g s.cache (λ id kept. same (Segment id) (well.cached id kept)) is.pages);
  heads = subst (All (HasFileHead D g)) (sym parts) (heads_alike D f g s.names s.parts well.named same is.heads);
  kept = subst (λ (vs : List NamedView). All (λ v. All (HasFileHead D g) v.parts) vs) (sym snapshots)
      (views_alike D f g s.names s.snapshots well.kept same is.kept);
  begun = ⊎_elim
      (λ still. begun_alike D f g s t still (λ b was. ap (parts_among b.inputs) parts) (part_files D s well same) is.begun)
      (λ none. begun_none D g t none) begun;
}

-- of names that were added and a commit that was saved
pub faithful_saved : (D : ℕ) (told : Type 0) (f g : Files) (s : SetData) (names : NameList) (saved : Option CommitData) → IsWell D s
    → KeepsNamed told s.names names f g → told → IsFaithful D f s
    → IsFaithful D g (record s { names = names; saved = saved })
faithful_saved D told f g s names saved well kept is_told is =
    faithful_named D f g s (record s { names = names; saved = saved }) well (kept.files is_told) refl (inl refl) refl refl is

-- without the document of a number
pub faithful_but : (D : ℕ) (files : Files) (number : ℕ) (s : SetData) → IsFaithful D files s → IsFaithful D files (set_but number s)
faithful_but D files number s is = record {
  pages = is.pages;
  heads = All-map (HasFileHead D files) (λ (p : LiveSegment). record p { live = live_set_without number p.live }) s.parts is.heads;
  kept = is.kept;
  begun = begun_without D files number s is.begun;
}
