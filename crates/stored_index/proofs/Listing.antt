-- What a segment is listed with.
use Rattle.std.proofs.Common.{◌≡◌, ◌≤◌, ◌<◌, ℕ, ◌+◌, Bool, true, false, not, ◌||◌, eqb, List, [], ◌∷◌, length, refl, sym, ap, subst, ◌∙◌, arith}
use Rattle.std.specs.List.{AllPairs, Contains}
use Rattle.std.proofs.lemmas.Bool.Decides.{nat_tests}
use Rattle.std.proofs.lemmas.List.Kept.{AllPairs-from_increasing}
use Rattle.std.proofs.lemmas.List.Sums.{length-filter, count_by-le-length}
use Rattle.point_codec.specs.Points.{Item}
use Rattle.live_bits.specs.LiveSet.{LiveSet, IsLiveSet, is_live}
use Rattle.documents.specs.Entries.{has_entry, entries_but}
use Rattle.documents.proofs.Kept.{among_from}
use Rattle.documents.proofs.Lists.{cons_head, cons_tail, in_filter, pairs_head, pairs_tail}
use Rattle.commit_list.specs.Commits.{IsListed}
use Rattle.segment_file.specs.Heads.{Head}
use Rattle.segment_file.specs.Segments.{IsSegment}
use Rattle.segment_file.proofs.Counted.{segment_counted, segment_ranges}
use Rattle.stored_index.proofs.Places.{some_entry, entry_there}

fewer : (number : ℕ) (xs : List Item) → length (entries_but number xs) ≤ length xs
fewer number xs = omega (arith, length-filter (λ (x : Item). not (eqb x.doc number)) xs, count_by-le-length (λ (x : Item). not (eqb x.doc number)) xs)

-- without the entries of a number that has some there are fewer
one_fewer : (number : ℕ) (xs : List Item) → has_entry number xs ≡ true → length (entries_but number xs) + 1 ≤ length xs
one_fewer number [] h = cc
one_fewer number (x ∷ xs) h = by (eqb x.doc number) refl (one_fewer number xs)
  where
    by : (b : Bool) → eqb x.doc number ≡ b → (has_entry number xs ≡ true → length (entries_but number xs) + 1 ≤ length xs)
        → length (entries_but number (x ∷ xs)) + 1 ≤ length (x ∷ xs)
    by true e more = rw e (omega (arith, fewer number xs))
    by false e more = rw e (omega (arith, more (sym (ap (λ (b : Bool). b || has_entry number xs) e) ∙ h)))

still_there : (number other : ℕ) (xs : List Item) → number < other → has_entry other xs ≡ true → has_entry other (entries_but number xs) ≡ true
still_there number other xs lt h =
    let found = some_entry other xs h in
    let kept : not (eqb found.0.doc number) ≡ true = is_other found.0.doc (omega (arith, found.2, lt)) in
    subst (λ (n : ℕ). has_entry n (entries_but number xs) ≡ true) found.2
    (entry_there (entries_but number xs) found.0 (in_filter (λ (x : Item). not (eqb x.doc number)) xs found.0 found.1 kept))
  where
    is_other : (m : ℕ) → number < m → not (eqb m number) ≡ true
    is_other m less = grind (arith, nat_tests)

-- numbers that are different and have entries are no more than the entries
numbers_fit : (numbers : List ℕ) (xs : List Item) → AllPairs (λ (m n : ℕ). m < n) numbers → ((n : ℕ) → Contains numbers n → has_entry n xs ≡ true)
    → length numbers ≤ length xs
numbers_fit [] xs up has = omega arith
numbers_fit (n ∷ ns) xs up has =
    omega (
      arith,
      one_fewer n xs (has n (cons_head n ns)),
      numbers_fit ns (entries_but n xs) (pairs_tail (λ (a b : ℕ). a < b) n ns up)
          (λ m there. still_there n m xs (pairs_head (λ (a b : ℕ). a < b) n ns up m there) (has m (cons_tail n ns m there))),
    )

live_number : (live : LiveSet) (number : ℕ) → Contains live.live number → is_live live number ≡ true
unfolding is_live
live_number live number h = among_from live.live number h

pub live_fit : (live : LiveSet) (xs : List Item) → IsLiveSet live → ((number : ℕ) → is_live live number ≡ true → has_entry number xs ≡ true)
    → length live.live ≤ length xs
live_fit live xs set found = numbers_fit live.live xs (AllPairs-from_increasing live.live set.ascending) (λ n h. found n (live_number live n h))

pub may_be_listed : (D : ℕ) (bytes : List ℕ) (head : Head) (entries : List Item) (live : LiveSet) (generation next_segment : ℕ) → IsSegment D bytes head entries
    → IsLiveSet live
    → ((number : ℕ) → is_live live number ≡ true → has_entry number entries ≡ true) → head.id < next_segment
    → IsListed next_segment (record { segment = head.id; generation = generation; entries = head.entries; live = length live.live })
may_be_listed D bytes head entries live generation next_segment h set found below =
    let ranges = segment_ranges D bytes head entries h in
    record {
      id = below;
      some = ranges.some;
      most = ranges.few;
      live = omega (arith, live_fit live entries set found, segment_counted D bytes head entries h);
    }
