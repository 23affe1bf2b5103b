-- How many documents an index holds: as many as there are live numbers, which the commit says of each segment.
use Rattle.std.proofs.Common.{◌≡◌, ℕ, ◌+◌, ◌<◌, ◌≤◌, ◌⊎◌, Bool, true, false, ◌||◌, eqb, List, [], ◌∷◌, length, map, refl, sym, ap, ◌∙◌, inl, inr, arith}
use Rattle.std.specs.List.{All, AllPairs, AllZip, Contains, sum_by}
use Rattle.std.proofs.lemmas.Bool.{both_ways, cases_lt}
use Rattle.std.proofs.lemmas.List.{length-map}
use Rattle.std.proofs.lemmas.List.Elements.{All-contains_itself, All-head, All-map, All-tail, All-weaker}
use Rattle.std.proofs.lemmas.List.Kept.{AllPairs-from_increasing}
use Rattle.std.proofs.lemmas.List.Sums.{sum_by-cons}
use Rattle.outer_io.specs.Files.{Files}
use Rattle.live_bits.specs.LiveSet.{LiveSet, is_live}
use Rattle.documents.specs.Documents.{Document, is_live as is_live_doc}
use Rattle.documents.specs.Entries.{is_among}
use Rattle.documents.proofs.Lists.{in_map, pairs_map}
use Rattle.commit_list.specs.declared.listed.Listed.{Listed}
use Rattle.commit_list.specs.Commits.{CommitData}
use Rattle.segment_file.specs.LiveFiles.{IsLiveFile}
use Rattle.segment_file.proofs.LiveReads.{set_is}
use Rattle.stored_index.specs.Segments.{SegmentData, live_sets, places}
use Rattle.stored_index.specs.Stored.{HoldsFiles, HoldsIndex}
use Rattle.stored_index.proofs.Pairwise.{partner_of}
use Rattle.stored_index.proofs.Places.{doc_of_place, none_from_next, place_of_doc, some_place}
use Rattle.folder_check.proofs.Entries.{number_live, one_if}
use Rattle.folder_check.proofs.Totals.{total, total_alike, total_among, total_none, total_sum}

-- ---- of sets

-- the numbers of a set ascend, and are below n
pub record IsOrdered (n : ℕ) (s : LiveSet) : Type 0 where
  pub up : AllPairs (λ (a b : ℕ). a < b) s.live
  pub low : All (λ x. x < n) s.live

live_among : (s : LiveSet) (m : ℕ) → is_live s m ≡ is_among s.live m
unfolding is_live
live_among s m = refl

pub total_places : (sets : List LiveSet) (n : ℕ) → All (IsOrdered n) sets → total (λ m. places m sets) n ≡ sum_by (λ (s : LiveSet). length s.live) sets
total_places [] n ordered = total_none (λ m. places m []) n (λ m lt. refl)
total_places (s ∷ ss) n ordered =
    total_alike (λ m. places m (s ∷ ss)) (λ m. one_if (is_among s.live m) + places m ss) n
    (λ m lt. sum_by-cons (λ (t : LiveSet). one_if (is_live t m)) s ss ∙ ap (λ (b : Bool). one_if b + places m ss) (live_among s m))
    ∙ total_sum (λ m. one_if (is_among s.live m)) (λ m. places m ss) n
    ∙ both (total_places ss n (All-tail (IsOrdered n) s ss ordered))
  where
    both : total (λ m. places m ss) n ≡ sum_by (λ (t : LiveSet). length t.live) ss
        → total (λ m. one_if (is_among s.live m)) n + total (λ m. places m ss) n ≡ sum_by (λ (t : LiveSet). length t.live) (s ∷ ss)
    both rest =
        let here = All-head (IsOrdered n) s ss ordered in
        let one = total_among s.live n here.up here.low in
        omega (arith, one, rest, sum_by-cons (λ (t : LiveSet). length t.live) s ss)

-- ---- of documents

doc_among : (m : ℕ) (docs : List Document) → is_live_doc m docs ≡ is_among (map (λ (d : Document). d.number) docs) m
doc_among m [] = refl
doc_among m (d ∷ ds) = ap (λ (b : Bool). eqb d.number m || b) (doc_among m ds)

-- ---- of what is held

set_ordered : (files : Files) (c : CommitData) (docs : List Document) (held : HoldsIndex files c docs) (d : SegmentData) → Contains held.parts d
    → IsOrdered c.next d.live
unfolding IsLiveFile
set_ordered files c docs held d there =
    let part = partner_of (HoldsFiles files c) c.listed held.parts held.segments d there in
    let s : Listed = part.0 in
    let set = set_is s.segment s.generation d.live part.2.live.body part.2.live.set in
    record {
      up = AllPairs-from_increasing d.live.live set.ascending;
      low = All-weaker (Contains d.live.live) (λ x. x < c.next) (λ x h. below x h (cases_lt x c.next)) d.live.live (All-contains_itself d.live.live);
    }
  where
    below : (x : ℕ) → Contains d.live.live x → (x < c.next) ⊎ (c.next ≤ x) → x < c.next
    below x h (inl lt) = lt
    below x h (inr le) =
        absurd (omega (
          arith,
          none_from_next files c docs held x le,
          some_place x (live_sets held.parts) d.live (in_map (λ (e : SegmentData). e.live) held.parts d there) (number_live d.live x h),
        ))

sets_ordered : (files : Files) (c : CommitData) (docs : List Document) (held : HoldsIndex files c docs) → All (IsOrdered c.next) (live_sets held.parts)
sets_ordered files c docs held =
    All-map (IsOrdered c.next) (λ (d : SegmentData). d.live) held.parts
    (All-weaker (Contains held.parts) (λ (d : SegmentData). IsOrdered c.next d.live) (set_ordered files c docs held) held.parts
    (All-contains_itself held.parts))

-- what the commit says of each segment
counts_said : (files : Files) (c : CommitData) (listed : List Listed) (parts : List SegmentData) → AllZip (HoldsFiles files c) listed parts
    → sum_by (λ (s : LiveSet). length s.live) (live_sets parts) ≡ sum_by (λ (s : Listed). s.live) listed
counts_said files c [] [] all = refl
counts_said files c [] (d ∷ ds) all = absurd all
counts_said files c (s ∷ ss) [] all = absurd all
counts_said files c (s ∷ ss) (d ∷ ds) all =
    omega (
      arith,
      sum_by-cons (λ (t : LiveSet). length t.live) d.live (live_sets ds),
      sum_by-cons (λ (t : Listed). t.live) s ss,
      all.0.live_count,
      counts_said files c ss ds all.1,
    )

pub documents_counted : (files : Files) (c : CommitData) (docs : List Document) → HoldsIndex files c docs
    → length docs ≡ sum_by (λ (s : Listed). s.live) c.listed
documents_counted files c docs held =
    sym (length-map docs (λ (d : Document). d.number))
    ∙ sym (total_among (map (λ (d : Document). d.number) docs) c.next (pairs_map (λ (a b : ℕ). a < b) (λ (d : Document). d.number) docs held.are_docs.ascend)
    (All-map (λ x. x < c.next) (λ (d : Document). d.number) docs held.are_docs.below))
    ∙ total_alike (λ m. one_if (is_among (map (λ (d : Document). d.number) docs) m)) (λ m. places m (live_sets held.parts)) c.next
    (λ m lt. ap one_if (sym (doc_among m docs)) ∙ same m)
    ∙ total_places (live_sets held.parts) c.next (sets_ordered files c docs held)
    ∙ counts_said files c c.listed held.parts held.segments
  where
    same : (m : ℕ) → one_if (is_live_doc m docs) ≡ places m (live_sets held.parts)
    same m = by (is_live_doc m docs) refl
      where
        by : (b : Bool) → is_live_doc m docs ≡ b → one_if b ≡ places m (live_sets held.parts)
        by true live = let some = place_of_doc files c docs held m live in let one = held.alone m in omega (arith, some, one)
        by false dead = omega (arith, none)
          where
            none : places m (live_sets held.parts) ≤ 0
            none = elim (cases_lt (places m (live_sets held.parts)) 1) [
              | inl less ↦ omega (arith, less)
              | inr some ↦ absurd (both_ways (is_live_doc m docs) dead (doc_of_place files c docs held m some))
            ]
