-- Entries of which a segment is built, and the segment that is built of them.
use Rattle.std.proofs.Common.{◌≡◌, ℕ, ◌≤◌, ◌<◌, Bool, true, eqb, cond, List, [], ◌∷◌, ◌++◌, length, get_or, refl, sym, ap, subst, ◌∙◌, arith}
use Rattle.std.proofs.lemmas.Grind.{merely}
use Rattle.std.specs.List.{All, AllPairs, Contains, filter}
use Rattle.std.specs.List.Sorted.{IsPermutation}
use Rattle.std.proofs.lemmas.List.{length-append, length-map, get_or_append_left}
use Rattle.std.proofs.lemmas.List.Elements.{All-contains, All-contains_itself, All-head, All-tail, All-weaker}
use Rattle.std.proofs.lemmas.List.Sorted.{length_permutation, list_any-IsPermutation}
use Rattle.std.proofs.lemmas.List.Sums.{sum_by-append}
use Rattle.point_codec.specs.Points.{Item}
use Rattle.point_codec.specs.Seen.{items_of}
use Rattle.point_codec.specs.declared.entries.Entry.{Entry}
use Rattle.live_bits.specs.LiveSet.{LiveSet, IsLiveSet, is_live}
use Rattle.documents.specs.Documents.{Document}
use Rattle.documents.specs.Entries.{AreDocs, MakeDocs, SameTotals, has_entry}
use Rattle.documents.proofs.Kept.{reordered}
use Rattle.documents.proofs.Making.{docs_make}
use Rattle.documents.proofs.Totals.{permuted, totals}
use Rattle.stored_index.proofs.Listing.{live_fit}
use Rattle.stored_index.proofs.Places.{entry_there, some_entry}
use Rattle.segment_view.specs.LiveSegments.{LiveSegment, has_live}
use Rattle.document_checks.specs.Crowded.{AreUncrowded}
use Rattle.segment_build.specs.NewSegments.{NewSegmentData, HasEntries}
use Rattle.segment_set.specs.Merges.{HoldsLive, IsGathered, IsMade}
use Rattle.segment_set.proofs.Counted.{uncrowded_permuted}
use Rattle.segment_set.proofs.Replaced.{all_front}

pub items_length : {D : ℕ} (es : List (Entry D)) → length (items_of es) ≡ length es
items_length es = length-map es (λ e. record { doc = e.doc; at = e.point.c })

-- ---- some of the entries of documents

front_once : (xs ys : List Item) → AllPairs (λ x y. x ≡ y → ⊥) (xs ++ ys) → AllPairs (λ x y. x ≡ y → ⊥) xs
front_once xs ys once i j d lt in_range =
    subst (λ (x : Item). x ≡ get_or xs j d → ⊥) (get_or_append_left xs ys d i (omega arith))
    (subst (λ (y : Item). get_or (xs ++ ys) i d ≡ y → ⊥) (get_or_append_left xs ys d j in_range)
    (once i j d lt (omega (arith, in_range, length-append xs ys))))

front_docs : (next : ℕ) (xs ys : List Item) → MakeDocs next (xs ++ ys) → MakeDocs next xs
front_docs next xs ys make = record {
  below = all_front (λ (x : Item). x.doc < next) xs ys make.below;
  few = λ number. omega (arith, make.few number, sum_by-append (λ (x : Item). cond (eqb x.doc number) 1 0) xs ys);
  once = front_once xs ys make.once;
}

pub some_docs : (next : ℕ) (all some rest : List Item) (docs : List Document) → AreDocs next all docs → SameTotals all (some ++ rest) → MakeDocs next some
some_docs next all some rest docs are same =
    front_docs next some rest (docs_make next (some ++ rest) docs (reordered next all (some ++ rest) docs are (permuted all (some ++ rest) same)))

-- ---- what is built

pub filter_whole : (p : Item → Bool) (xs : List Item) → All (λ x. p x ≡ true) xs → filter p xs ≡ xs
filter_whole p [] all = refl
filter_whole p (x ∷ xs) all =
    ap (λ (b : Bool). cond b (x ∷ filter p xs) (filter p xs)) (All-head (λ (y : Item). p y ≡ true) x xs all)
    ∙ ap (λ (ys : List Item). x ∷ ys) (filter_whole p xs (All-tail (λ (y : Item). p y ≡ true) x xs all))

module _ (D : ℕ) (entries items : List Item) (n : NewSegmentData) (same : IsPermutation entries items) (has : HasEntries D items n)
    (live : is_live n.live ≡ (λ number. has_entry number entries)) where
  pub live_is : (number : ℕ) → is_live n.live number ≡ has_entry number items
  live_is number = ap (λ (f : ℕ → Bool). f number) live ∙ list_any-IsPermutation (λ (x : Item). eqb x.doc number) entries items same

  -- all its entries are live
  pub all_live : All (λ (x : Item). is_live n.live x.doc ≡ true) items
  all_live = All-weaker (Contains items) (λ (x : Item). is_live n.live x.doc ≡ true) (λ x there. live_is x.doc ∙ entry_there items x there) items
      (All-contains_itself items)

  pub holds_live : HoldsLive D entries n
  holds_live = record {
    items = items;
    has = has;
    found = λ number is. sym (live_is number) ∙ is;
    same = subst (SameTotals entries) (sym (filter_whole (λ (x : Item). is_live n.live x.doc) items all_live)) (totals entries items same);
  }

  some_live : (s : LiveSet) (number : ℕ) → is_live s number ≡ true → 1 ≤ length s.live
  unfolding is_live
  some_live s number is = by s.live is
    where
      by : (ns : List ℕ) → is_live (record s { live = ns }) number ≡ true → 1 ≤ length ns
      by [] h = cc
      by (m ∷ ms) h = omega arith

  pub made : (leaf_size : ℕ) → n.leaf_size ≡ leaf_size → IsLiveSet n.live → 1 ≤ length entries → AreUncrowded entries → IsMade D leaf_size n
  made leaf_size leaf_is set some fair = record {
    leaf_size = leaf_is;
    has = merely (record { items = items; has = has; uncrowded = uncrowded_permuted entries items same fair; found = λ number is. sym (live_is number) ∙ is });
    fits = omega (arith, live_fit n.live items set (λ number is. sym (live_is number) ∙ is), has.counted);
    some = by items has.counted all_live (omega (arith, some, length_permutation entries items same));
  }
    where
      by : (xs : List Item) → n.entries ≡ length xs → All (λ (x : Item). is_live n.live x.doc ≡ true) xs → 1 ≤ length xs → 1 ≤ length n.live.live
      by [] counted all h = absurd (omega (arith, h))
      by (x ∷ xs) counted all h = some_live n.live x.doc (All-head (λ (y : Item). is_live n.live y.doc ≡ true) x xs all)

-- a number of the entries is live in the segments that they came from
pub within : (entries : List Item) (parts : List LiveSegment) → All (λ (x : Item). has_live x.doc parts ≡ true) entries → (number : ℕ)
    → has_entry number entries ≡ true → has_live number parts ≡ true
within entries parts all number there =
    let found = some_entry number entries there in
    subst (λ (m : ℕ). has_live m parts ≡ true) found.2 (All-contains (λ (x : Item). has_live x.doc parts ≡ true) entries found.0 all found.1)

-- what is built of entries that are live in segments
pub gathered_of : (D leaf_size : ℕ) (entries items : List Item) (n : NewSegmentData) (parts : List LiveSegment) → IsPermutation entries items
    → HasEntries D items n → is_live n.live ≡ (λ number. has_entry number entries)
    → n.leaf_size ≡ leaf_size → IsLiveSet n.live → 1 ≤ length entries → All (λ (x : Item). has_live x.doc parts ≡ true) entries → AreUncrowded entries
    → IsGathered D leaf_size parts n
gathered_of D leaf_size entries items n parts same has live leaf_is set some all fair = record {
  made = made D entries items n same has live leaf_size leaf_is set some fair;
  all = merely (record { items = items; has = has; all = all_live D entries items n same has live });
  within = λ number is. within entries parts all number (sym (ap (λ (f : ℕ → Bool). f number) live) ∙ is);
}
