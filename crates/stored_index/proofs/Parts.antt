-- The files of listed segments hold one list of segments.
use Rattle.std.proofs.Common.{◌≡◌, ℕ, ◌<◌, List, [], ◌∷◌, map, false, eqb, refl, sym, ap, subst, ◌∙◌, inl, inr, arith}
use Rattle.std.specs.List.{All, AllPairs, Contains}
use Rattle.std.specs.List.Sorted.{IsStrictlyIncreasing}
use Rattle.std.proofs.lemmas.Bool.{eq-eqb}
use Rattle.std.proofs.lemmas.Bool.Decides.{nat_tests}
use Rattle.std.proofs.lemmas.List.Elements.{All-weaker, All-contains_itself}
use Rattle.std.proofs.lemmas.List.Kept.{AllPairs-from_increasing}
use Rattle.outer_io.specs.declared.file_name.FileName.{FileName}
use Rattle.outer_io.specs.declared.file_name.FileName.TheVariants.{Segment, Live}
use Rattle.outer_io.specs.Files.{Files, bytes_of}
use Rattle.point_codec.specs.Points.{Item}
use Rattle.live_bits.specs.LiveSet.{LiveSet}
use Rattle.documents.proofs.Lists.{cons_cases, nil_none, in_map, pairs_head, pairs_tail}
use Rattle.commit_list.specs.declared.listed.Listed.{Listed}
use Rattle.commit_list.specs.Commits.{CommitData, ids_of}
use Rattle.segment_file.specs.Heads.{Head}
use Rattle.segment_file.specs.Segments.{IsHeadOf, IsSegment}
use Rattle.segment_file.specs.LiveFiles.{IsLiveFile}
use Rattle.segment_file.proofs.Unique.{one_head, head_of_segment}
use Rattle.segment_file.proofs.LiveLemmas.{one_live_set}
use Rattle.stored_index.specs.Segments.{SegmentData, HoldsListed, live_sets, entries_at}
use Rattle.stored_index.specs.Stored.{HoldsFiles, HoldAll, HasHead, HasLive, HaveHeads, HaveLive}
use Rattle.stored_index.specs.Kept.{ListsFile}
use Rattle.stored_index.proofs.Pairwise.{zip_once, zip_map, zip_moved, zip_same}

-- a head and the bytes of its file have one list of entries at most (a law of segment files)
abbrev pub EntriesOnce : Type 0
EntriesOnce = (D : ℕ) (bytes : List ℕ) (h : Head) (xs ys : List Item) → IsSegment D bytes h xs → IsSegment D bytes h ys → xs ≡ ys

pub held_head : (dims leaf_size : ℕ) (s : Listed) (a b : List ℕ) (d : SegmentData) (head : Head) → HoldsListed dims leaf_size s a b d → head.id ≡ s.segment
    → IsHeadOf dims a head → head ≡ d.head
held_head dims leaf_size s a b d head p id is = one_head dims a head d.head (id ∙ sym p.id) is (head_of_segment dims a d.head d.entries p.segment)

pub held_live : (dims leaf_size : ℕ) (s : Listed) (a b : List ℕ) (d : SegmentData) (live : LiveSet) → HoldsListed dims leaf_size s a b d
    → IsLiveFile s.segment s.generation b live → live ≡ d.live
held_live dims leaf_size s a b d live p is = one_live_set s.segment s.generation b live d.live is p.live

pub held_once : EntriesOnce → (dims leaf_size : ℕ) (s : Listed) (a b : List ℕ) (d e : SegmentData) → HoldsListed dims leaf_size s a b d
    → HoldsListed dims leaf_size s a b e → d ≡ e
held_once once dims leaf_size s a b d e p q =
    let head : d.head ≡ e.head = held_head dims leaf_size s a b e d.head q p.id (head_of_segment dims a d.head d.entries p.segment) in
    let entries : d.entries ≡ e.entries =
    once dims a e.head d.entries e.entries (subst (λ (h : Head). IsSegment dims a h d.entries) head p.segment) q.segment in
    let live : d.live ≡ e.live = held_live dims leaf_size s a b e d.live q p.live in
    λ i. record { head = head i; entries = entries i; live = live i }

pub all_once : EntriesOnce → (files : Files) (c : CommitData) (xs ys : List SegmentData) → HoldAll files c xs → HoldAll files c ys → xs ≡ ys
all_once once files c xs ys p q =
    zip_once (HoldsFiles files c)
    (λ s d e h k. held_once once c.dims c.leaf_size s (bytes_of (files (Segment s.segment))) (bytes_of (files (Live s.segment s.generation))) d e h k) c.listed
    xs ys
    p q

-- ---- heads and live sets of a list of segments

pub heads_once : (files : Files) (c : CommitData) (gs hs : List Head) → HaveHeads files c gs → HaveHeads files c hs → gs ≡ hs
heads_once files c gs hs p q =
    zip_once (HasHead c.dims files) (λ s g h a b. one_head c.dims (bytes_of (files (Segment s.segment))) g h (a.id ∙ sym b.id) a.is b.is) c.listed gs hs p q

abbrev pub head_in : SegmentData → Head
head_in d = d.head

pub held_heads : (files : Files) (c : CommitData) (parts : List SegmentData) → HoldAll files c parts → HaveHeads files c (map head_in parts)
held_heads files c parts h =
    zip_map (HoldsFiles files c) (HasHead c.dims files) head_in c.listed parts
    (λ s d there held. record { id = held.id; is = head_of_segment c.dims (bytes_of (files (Segment s.segment))) d.head d.entries held.segment }) h

pub heads_are : (files : Files) (c : CommitData) (parts : List SegmentData) (heads : List Head) → HoldAll files c parts → HaveHeads files c heads
    → heads ≡ map head_in parts
heads_are files c parts heads h have = heads_once files c heads (map head_in parts) have (held_heads files c parts h)

pub held_sets : (files : Files) (c : CommitData) (parts : List SegmentData) → HoldAll files c parts → HaveLive files c (live_sets parts)
held_sets files c parts h = zip_map (HoldsFiles files c) (HasLive files) (λ (d : SegmentData). d.live) c.listed parts (λ s d there held. held.live) h

pub sets_are : (files : Files) (c : CommitData) (parts : List SegmentData) (sets : List LiveSet) → HoldAll files c parts → HaveLive files c sets
    → sets ≡ live_sets parts
sets_are files c parts sets h have =
    zip_once (HasLive files) (λ s a b p q. one_live_set s.segment s.generation (bytes_of (files (Live s.segment s.generation))) a b p q) c.listed sets
    (live_sets parts) have (held_sets files c parts h)

-- ---- as long as the files stay

pub stays : (old new : Files) (c : CommitData) (s : Listed) (d : SegmentData) → new (Segment s.segment) ≡ old (Segment s.segment)
    → new (Live s.segment s.generation) ≡ old (Live s.segment s.generation) → HoldsFiles old c s d → HoldsFiles new c s d
stays old new c s d segment live h =
    subst (λ (b : List ℕ). HoldsListed c.dims c.leaf_size s (bytes_of (new (Segment s.segment))) b d) (sym (ap bytes_of live))
    (subst (λ (a : List ℕ). HoldsListed c.dims c.leaf_size s a (bytes_of (old (Live s.segment s.generation))) d) (sym (ap bytes_of segment)) h)

pub all_stay : (old new : Files) (c : CommitData) (parts : List SegmentData) → ((name : FileName) → ListsFile c name → new name ≡ old name)
    → HoldAll old c parts → HoldAll new c parts
all_stay old new c parts same h =
    zip_moved (HoldsFiles old c) (HoldsFiles new c) c.listed parts
    (λ s d there held. stays old new c s d (same (Segment s.segment) (s, there, refl)) (same (Live s.segment s.generation) (s, there, refl, refl)) held) h

-- ---- entries by the id of their segment

abbrev pub id_of : SegmentData → ℕ
id_of d = d.head.id

held_ids : (files : Files) (c : CommitData) (parts : List SegmentData) → HoldAll files c parts → map id_of parts ≡ ids_of c.listed
held_ids files c parts h = zip_same (HoldsFiles files c) (λ (s : Listed). s.segment) id_of (λ s d held. held.id) c.listed parts h

found_at : (parts : List SegmentData) → AllPairs (λ (m n : ℕ). m < n) (map id_of parts) → (d : SegmentData) → Contains parts d
    → entries_at parts d.head.id ≡ d.entries
found_at [] up d h = nil_none d _ h
found_at (e ∷ es) up d h = elim (cons_cases e es d h) [
  | inl here ↦ subst (λ (f : SegmentData). entries_at (e ∷ es) f.head.id ≡ f.entries) here (rw (eq-eqb e.head.id e.head.id refl) refl)
  | inr later ↦
      let lt : e.head.id < d.head.id = pairs_head (λ (m n : ℕ). m < n) (id_of e) (map id_of es) up d.head.id (in_map id_of es d later) in
      rw (other e.head.id d.head.id lt) (found_at es (pairs_tail (λ (m n : ℕ). m < n) (id_of e) (map id_of es) up) d later)
]
  where
    other : (m n : ℕ) → m < n → eqb m n ≡ false
    other m n lt = grind (arith, nat_tests)

pub contents : (files : Files) (c : CommitData) (parts : List SegmentData) → IsStrictlyIncreasing (ids_of c.listed) → HoldAll files c parts
    → All (λ (d : SegmentData). entries_at parts d.head.id ≡ d.entries) parts
contents files c parts up h =
    let rising = AllPairs-from_increasing (map id_of parts) (subst IsStrictlyIncreasing (sym (held_ids files c parts h)) up) in
    All-weaker (Contains parts) (λ (d : SegmentData). entries_at parts d.head.id ≡ d.entries) (λ d there. found_at parts rising d there) parts
    (All-contains_itself parts)
