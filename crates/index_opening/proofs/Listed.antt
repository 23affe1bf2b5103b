-- What shows that files are not as the commit lists them, and what they are where an index is stored.
use Rattle.std.proofs.Common.{◌≡◌, ◌≢◌, ℕ, ◌≤◌, inl, inr, List, [], ◌∷◌, length, map, refl, sym, ap, subst, ◌∙◌, arith, ◌++◌}
use Rattle.std.specs.List.{AllZip, Contains, All, filter}
use Rattle.outer_io.specs.declared.file_name.FileName.{FileName}
use Rattle.outer_io.specs.declared.file_name.FileName.TheVariants.{Commit, Live, Segment}
use Rattle.outer_io.specs.Files.{Files, bytes_of}
use Rattle.live_bits.specs.LiveSet.{LiveSet, is_live}
use Rattle.documents.specs.Documents.{Document}
use Rattle.page_cache.specs.declared.faults.Damage.{Damage}
use Rattle.page_cache.specs.declared.faults.Damage.TheVariants.{Page, Leaf, Body, Missing, Size, Unequal, NotGiven, Doubled}
use Rattle.page_cache.specs.declared.faults.PageFault.{PageFault}
use Rattle.page_cache.specs.declared.faults.PageFault.TheVariants as page
use Rattle.page_cache.specs.Evidence.{FaultShows}
use Rattle.page_cache.proofs.Damages.{fault_both, fault_weaker}
use Rattle.commit_list.specs.declared.listed.Listed.{Listed}
use Rattle.commit_list.specs.Commits.{CommitData}
use Rattle.commit_list.specs.CommitFiles.{IsCommitFile}
use Rattle.segment_file.specs.Heads.{Head}
use Rattle.segment_file.specs.Segments.{IsHeadOf}
use Rattle.segment_file.specs.Damages.{IsHeadDamage, IsHeadDamageOf, IsLiveDamage, IsLiveDamageOf, IsPairDamage}
use Rattle.segment_file.proofs.Unique.{head_of_segment, one_head}
use Rattle.segment_file.proofs.LiveLemmas.{one_live_set}
use Rattle.stored_index.specs.Segments.{SegmentData, live_sets, places, all_live_entries, live_entries}
use Rattle.stored_index.specs.Stored.{HasHead, HasLive, HaveHeads, HaveLive, HoldAll, HoldsFiles, HoldsIndex, IsStored, IsUndefined}
use Rattle.stored_index.proofs.Pairwise.{zip_map, zip_once}
use Rattle.stored_index.proofs.Parts.{held_head, held_live}
use Rattle.stored_index.proofs.Places.{none_from_next}
use Rattle.stored_index.proofs.Whole.{held_for}
use Rattle.index_model.specs.State.{State}
use Rattle.segment_view.specs.LiveSegments.{LiveSegment, lives_of, live_segment, Contents, live_in_parts}
use Rattle.index_opening.specs.Damages.{Entries, IsAttachDamage, IsAttachDamageOf, IsListedDamage, IsListedDamageOf, IsMisplaced, IsPair, LeafSize, LiveCount}
use Rattle.index_opening.specs.Opened.{IsOpened}
use Rattle.point_codec.specs.Points.{Item}
use Rattle.std.proofs.lemmas.List.Elements.{All-head, All-tail}

-- ---- what shows that a file isn't as the commit says

pub unequal_of : (files : Files) (c : CommitData) (s : Listed) (name : FileName) (m n : ℕ) → IsPair files c s name m n → (d : Damage)
    → IsPairDamage name m n d × (m ≢ n) → IsListedDamageOf files c s d
unequal_of files c s name m n is (Unequal file said found) (pair, apart) =
    inr (inr (subst (λ (f : FileName). IsPair files c s f said found) (sym pair.0)
    (subst (λ k. IsPair files c s name k found) (sym pair.1) (subst (IsPair files c s name m) (sym pair.2) is))))
unequal_of files c s name m n is (Page file number bytes) (pair, apart) = absurd pair
unequal_of files c s name m n is (Leaf file number offset len bytes) (pair, apart) = absurd pair
unequal_of files c s name m n is (Body file bytes) (pair, apart) = absurd pair
unequal_of files c s name m n is (Missing file) (pair, apart) = absurd pair
unequal_of files c s name m n is (Size file size needed) (pair, apart) = absurd pair
unequal_of files c s name m n is (NotGiven doc next) (pair, apart) = absurd pair
unequal_of files c s name m n is (Doubled doc) (pair, apart) = absurd pair

pub leaf_pair : (files : Files) (c : CommitData) (s : Listed) (head : Head) (m n : ℕ) → HasHead c.dims files s head → m ≡ c.leaf_size → n ≡ head.leaf_size
    → IsPair files c s (Segment s.segment) m n
leaf_pair files c s head m n has said found =
    subst (λ k. IsPair files c s (Segment s.segment) k n) (sym said) (subst (IsPair files c s (Segment s.segment) c.leaf_size) (sym found) (LeafSize head has))

pub entries_pair : (files : Files) (c : CommitData) (s : Listed) (head : Head) (m n : ℕ) → HasHead c.dims files s head → m ≡ s.entries → n ≡ head.entries
    → IsPair files c s (Segment s.segment) m n
entries_pair files c s head m n has said found =
    subst (λ k. IsPair files c s (Segment s.segment) k n) (sym said) (subst (IsPair files c s (Segment s.segment) s.entries) (sym found) (Entries head has))

pub live_pair : (files : Files) (c : CommitData) (s : Listed) (live : LiveSet) (m n : ℕ) → HasLive files s live → m ≡ s.live → n ≡ length live.live
    → IsPair files c s (Live s.segment s.generation) m n
live_pair files c s live m n has said found =
    subst (λ k. IsPair files c s (Live s.segment s.generation) k n) (sym said)
    (subst (IsPair files c s (Live s.segment s.generation) s.live) (sym found) (LiveCount live has))

pub pair_fault : (files : Files) (c : CommitData) (s : Listed) (name : FileName) (m n : ℕ) (f : PageFault) → IsPair files c s name m n
    → FaultShows (λ d. IsPairDamage name m n d × (m ≢ n)) f
    → FaultShows (IsListedDamageOf files c s) f
pair_fault files c s name m n f is = fault_weaker f (λ d. IsPairDamage name m n d × (m ≢ n)) (IsListedDamageOf files c s) (unequal_of files c s name m n is)

pub head_fault : (D : ℕ) (files : Files) (c : CommitData) (s : Listed) (f : PageFault) → c.dims ≡ D
    → FaultShows (IsHeadDamage s.segment) f → FaultShows (IsHeadDamageOf D files) f
    → FaultShows (IsListedDamageOf files c s) f
head_fault D files c s f dims =
    fault_both f (IsHeadDamage s.segment) (IsHeadDamageOf D files) (IsListedDamageOf files c s)
    (λ d shown h. inl (shown, subst (λ (n : ℕ). IsHeadDamageOf n files d) (sym dims) h))

pub live_fault : (files : Files) (c : CommitData) (s : Listed) (f : PageFault)
    → FaultShows (IsLiveDamage s.segment s.generation) f → FaultShows (IsLiveDamageOf files) f
    → FaultShows (IsListedDamageOf files c s) f
live_fault files c s f =
    fault_both f (IsLiveDamage s.segment s.generation) (IsLiveDamageOf files) (IsListedDamageOf files c s) (λ d shown h. inr (inl (shown, h)))

pub equal_fault : (name : FileName) (m n : ℕ) (f : PageFault) → m ≡ n → FaultShows (λ d. IsPairDamage name m n d × (m ≢ n)) f → FaultShows (λ _. ⊥) f
equal_fault name m n f same = fault_weaker f (λ d. IsPairDamage name m n d × (m ≢ n)) (λ _. ⊥) (λ d h. h.1 same)

pub listed_head : (D : ℕ) (files : Files) (c : CommitData) (s : Listed) (head : Head) → c.dims ≡ D → head.id ≡ s.segment
    → IsHeadOf D (bytes_of (files (Segment s.segment))) head → HasHead c.dims files s head
listed_head D files c s head dims id is = record { id = id; is = subst (λ n. IsHeadOf n (bytes_of (files (Segment s.segment))) head) (sym dims) is }

pub head_held : (files : Files) (c : CommitData) (s : Listed) (d : SegmentData) (head : Head) → HoldsFiles files c s d → HasHead c.dims files s head
    → head ≡ d.head
head_held files c s d head held has =
    held_head c.dims c.leaf_size s (bytes_of (files (Segment s.segment))) (bytes_of (files (Live s.segment s.generation))) d head held has.id has.is

pub live_held : (files : Files) (c : CommitData) (s : Listed) (d : SegmentData) (live : LiveSet) → HoldsFiles files c s d → HasLive files s live → live ≡ d.live
live_held files c s d live held has =
    held_live c.dims c.leaf_size s (bytes_of (files (Segment s.segment))) (bytes_of (files (Live s.segment s.generation))) d live held has

pub is_held : (D : ℕ) (files : Files) (c : CommitData) (s : Listed) (d : SegmentData) → c.dims ≡ D → HoldsFiles files c s d
    → IsHeadOf D (bytes_of (files (Segment s.segment))) d.head
is_held D files c s d dims held =
    subst (λ n. IsHeadOf n (bytes_of (files (Segment s.segment))) d.head) dims
    (head_of_segment c.dims (bytes_of (files (Segment s.segment))) d.head d.entries held.segment)

pub listed_shown : (c : CommitData) (d : Damage) → (s : Listed) × Contains c.listed s × IsListedDamage s d → IsAttachDamage c d
listed_shown c d (s, there, shown) = inl (s, there, shown)

pub listed_of : (files : Files) (c : CommitData) (d : Damage) → (s : Listed) × Contains c.listed s × IsListedDamageOf files c s d → IsAttachDamageOf files c d
listed_of files c d (s, there, true_of) = inl (s, there, true_of)

pub misplaced_shown : (P Q : ℕ → Type 0) (c : CommitData) (d : Damage) → IsMisplaced P Q c.next d → IsAttachDamage c d
misplaced_shown P Q c (NotGiven doc next) h = inr (h.0, h.1, tt)
misplaced_shown P Q c (Doubled doc) h = inr tt
misplaced_shown P Q c (Page file number bytes) h = absurd h
misplaced_shown P Q c (Leaf file number offset len bytes) h = absurd h
misplaced_shown P Q c (Body file bytes) h = absurd h
misplaced_shown P Q c (Missing file) h = absurd h
misplaced_shown P Q c (Size file size needed) h = absurd h
misplaced_shown P Q c (Unequal file said found) h = absurd h

pub placed_right : (sets : List LiveSet) (n : ℕ) → ((number : ℕ) → places number sets ≤ 1) → ((number : ℕ) → n ≤ number → places number sets ≡ 0)
    → (d : Damage) → IsMisplaced (λ doc. 1 ≤ places doc sets) (λ doc. 2 ≤ places doc sets) n d → ⊥
placed_right sets n alone below (NotGiven doc next) h = omega (arith, h.2, below doc h.1)
placed_right sets n alone below (Doubled doc) h = omega (arith, h, alone doc)
placed_right sets n alone below (Page file number bytes) h = h
placed_right sets n alone below (Leaf file number offset len bytes) h = h
placed_right sets n alone below (Body file bytes) h = h
placed_right sets n alone below (Missing file) h = h
placed_right sets n alone below (Size file size needed) h = h
placed_right sets n alone below (Unequal file said found) h = h

-- a damage that no stored state lets be shows that none is stored
pub undefined_fault : (files : Files) (f : PageFault) → ((state : State) → IsStored files state → FaultShows (λ _. ⊥) f) → FaultShows (λ _. IsUndefined files) f
undefined_fault files page.Failed whole = tt
undefined_fault files (page.Damaged d) whole = whole
undefined_fault files page.Memory whole = tt

-- ---- the parts that the files hold

abbrev pub as_part : SegmentData → LiveSegment
as_part d = live_segment d.head d.live

abbrev HasPart : Files → CommitData → Listed → LiveSegment → Type 0
HasPart files c s p = HasHead c.dims files s p.head × HasLive files s p.live

-- the heads and the live sets that the files have are those of the segments that are held
pub parts_held : (files : Files) (c : CommitData) (parts : List LiveSegment) (held : List SegmentData)
    → HaveHeads files c (map (λ (p : LiveSegment). p.head) parts)
    → HaveLive files c (lives_of parts) → HoldAll files c held
    → parts ≡ map as_part held
parts_held files c parts held heads lives all =
    zip_once (HasPart files c) once c.listed parts (map as_part held) (pairs c.listed parts heads lives)
    (zip_map (HoldsFiles files c) (HasPart files c) as_part c.listed held
    (λ s d there h. (record { id = h.id; is = head_of_segment c.dims (bytes_of (files (Segment s.segment))) d.head d.entries h.segment }, h.live)) all)
  where
    once : (s : Listed) (p q : LiveSegment) → HasPart files c s p → HasPart files c s q → p ≡ q
    once s p q has have =
        let head : p.head ≡ q.head = one_head c.dims (bytes_of (files (Segment s.segment))) p.head q.head (has.0.id ∙ sym have.0.id) has.0.is have.0.is in
        let live : p.live ≡ q.live = one_live_set s.segment s.generation (bytes_of (files (Live s.segment s.generation))) p.live q.live has.1 have.1 in
        λ i. record { head = head i; live = live i }

    pairs : (ss : List Listed) (ps : List LiveSegment) → AllZip (HasHead c.dims files) ss (map (λ (p : LiveSegment). p.head) ps)
        → AllZip (HasLive files) ss (lives_of ps)
        → AllZip (HasPart files c) ss ps
    pairs [] [] hs ls = tt
    pairs [] (p ∷ ps) hs ls = absurd hs
    pairs (s ∷ ss) [] hs ls = absurd hs
    pairs (s ∷ ss) (p ∷ ps) hs ls = ((hs.0, ls.0), pairs ss ps hs.1 ls.1)

pub opened_heads : (told : Type 0) (files : Files) (c : CommitData) (parts : List LiveSegment) → told → AllZip (IsOpened told files c) c.listed parts
    → HaveHeads files c (map (λ (p : LiveSegment). p.head) parts)
opened_heads told files c parts t all =
    zip_map (IsOpened told files c) (HasHead c.dims files) (λ (p : LiveSegment). p.head) c.listed parts (λ s p there one. one.head t) all

pub opened_lives : (told : Type 0) (files : Files) (c : CommitData) (parts : List LiveSegment) → told → AllZip (IsOpened told files c) c.listed parts
    → HaveLive files c (lives_of parts)
opened_lives told files c parts t all =
    zip_map (IsOpened told files c) (HasLive files) (λ (p : LiveSegment). p.live) c.listed parts (λ s p there one. one.live t) all

pub lives_map : (held : List SegmentData) → lives_of (map as_part held) ≡ live_sets held
lives_map [] = refl
lives_map (d ∷ ds) = ap (λ (ss : List LiveSet). d.live ∷ ss) (lives_map ds)

-- in what is held each number is where it may be
pub lives_placed : (files : Files) (c : CommitData) (docs : List Document) (parts : List LiveSegment) (held : HoldsIndex files c docs)
    → parts ≡ map as_part held.parts
    → (d : Damage)
    → IsMisplaced (λ doc. 1 ≤ places doc (lives_of parts)) (λ doc. 2 ≤ places doc (lives_of parts)) c.next d → ⊥
lives_placed files c docs parts held is =
    placed_right (lives_of parts) c.next
    (λ number. subst (λ (ss : List LiveSet). places number ss ≤ 1) (sym same) (held.alone number))
    (λ number le. subst (λ (ss : List LiveSet). places number ss ≡ 0) (sym same) (none_from_next files c docs held number le))
  where
    same : lives_of parts ≡ live_sets held.parts
    same = ap lives_of is ∙ lives_map held.parts

-- ---- what an error of it says

pub whole_listed : (files : Files) (c : CommitData) (f : PageFault) → ((held : List SegmentData) → HoldAll files c held → FaultShows (λ _. ⊥) f)
    → IsCommitFile (bytes_of (files Commit)) c
    → (state : State) → IsStored files state → FaultShows (λ _. ⊥) f
whole_listed files c f whole says state stored = let found = held_for files c state stored says in whole found.1.parts found.1.segments

pub whole_placed : (files : Files) (c : CommitData) (parts : List LiveSegment) (f : PageFault) → HaveHeads files c (map (λ (p : LiveSegment). p.head) parts)
    → HaveLive files c (lives_of parts)
    → FaultShows (IsMisplaced (λ doc. 1 ≤ places doc (lives_of parts)) (λ doc. 2 ≤ places doc (lives_of parts)) c.next) f
    → IsCommitFile (bytes_of (files Commit)) c
    → (state : State) → IsStored files state → FaultShows (λ _. ⊥) f
whole_placed files c parts f heads lives shown says state stored =
    let found = held_for files c state stored says in
    fault_weaker f (IsMisplaced (λ doc. 1 ≤ places doc (lives_of parts)) (λ doc. 2 ≤ places doc (lives_of parts)) c.next) (λ _. ⊥)
    (lives_placed files c found.0 parts found.1 (parts_held files c parts found.1.parts heads lives found.1.segments)) shown

-- the numbers and the sets as they are handed on
pub misplaced_at : (m n : ℕ) (lives sets : List LiveSet) (f : PageFault) → m ≡ n → lives ≡ sets
    → FaultShows (IsMisplaced (λ doc. 1 ≤ places doc lives) (λ doc. 2 ≤ places doc lives) m) f
    → FaultShows (IsMisplaced (λ doc. 1 ≤ places doc sets) (λ doc. 2 ≤ places doc sets) n) f
misplaced_at m n lives sets f next same shown =
    subst (λ (k : ℕ). FaultShows (IsMisplaced (λ doc. 1 ≤ places doc sets) (λ doc. 2 ≤ places doc sets) k) f) next
    (subst (λ (ss : List LiveSet). FaultShows (IsMisplaced (λ doc. 1 ≤ places doc ss) (λ doc. 2 ≤ places doc ss) m) f) same shown)

pub misplaced_of : (files : Files) (c : CommitData) (sets : List LiveSet) (f : PageFault) → HaveLive files c sets
    → FaultShows (IsMisplaced (λ doc. 1 ≤ places doc sets) (λ doc. 2 ≤ places doc sets) c.next) f
    → FaultShows (IsAttachDamageOf files c) f
misplaced_of files c sets f have =
    fault_weaker f (IsMisplaced (λ doc. 1 ≤ places doc sets) (λ doc. 2 ≤ places doc sets) c.next) (IsAttachDamageOf files c) (λ d h. inr (sets, have, h))

pub entries_map : (es : Contents) (held : List SegmentData) → All (λ (d : SegmentData). es d.head.id ≡ d.entries) held
    → live_in_parts es (map as_part held) ≡ all_live_entries held
entries_map es [] all = refl
entries_map es (d ∷ ds) all =
    ap (λ (xs : List Item). filter (λ (x : Item). is_live d.live x.doc) xs ++ live_in_parts es (map as_part ds))
    (All-head (λ (e : SegmentData). es e.head.id ≡ e.entries) d ds all)
    ∙ ap (λ (xs : List Item). live_entries d ++ xs) (entries_map es ds (All-tail (λ (e : SegmentData). es e.head.id ≡ e.entries) d ds all))
