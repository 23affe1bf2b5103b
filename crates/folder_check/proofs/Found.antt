-- What is found of the entries that were read.
use Rattle.std.proofs.Common.{◌≡◌, ℕ, ◌+◌, ◌-◌, ◌≤◌, List, not, eqb, filter, length, Option, None, true, refl, sym, ap, subst, ◌∙◌, arith}
use Rattle.std.specs.Prelude.{IfNone, IfSome}
use Rattle.std.specs.List.{Contains, count_by, list_any}
use Rattle.std.proofs.lemmas.List.{length-map}
use Rattle.std.proofs.lemmas.List.Filters.{length-filter_both}
use Rattle.std.proofs.lemmas.List.Sums.{count_by-le-length, length-filter}
use Rattle.outer_io.specs.declared.file_name.FileName.TheVariants.{Segment}
use Rattle.outer_io.specs.Files.{Files, bytes_of}
use Rattle.point_codec.specs.Points.{Item}
use Rattle.point_codec.specs.Seen.{items_of}
use Rattle.point_codec.specs.declared.entries.Entry.{Entry}
use Rattle.leaf_codec.specs.LeafOrder.{NoneTwice}
use Rattle.live_bits.specs.LiveSet.{LiveSet, IsLiveSet, is_live}
use Rattle.documents.specs.Entries.{has_entry}
use Rattle.segment_file.specs.Heads.{Head}
use Rattle.segment_file.specs.Segments.{IsSegment}
use Rattle.segment_file.specs.Sinks.{set_without_entries}
use Rattle.segment_file.proofs.Counted.{segment_counted}
use Rattle.segment_view.specs.LiveSegments.{live_segment}
use Rattle.document_checks.specs.Crowded.{AreFew, IsLeastCrowded, count_of}
use Rattle.document_checks.proofs.Moved.{lone}
use Rattle.folder_check.specs.declared.findings.Finding.{Finding}
use Rattle.folder_check.specs.Found.{AreTallied, IsFinding}
use Rattle.folder_check.proofs.Entries.{all_pass, has_live_entry, live_found, number_live}
use Rattle.folder_check.proofs.OneEach.{one_each}

pub found_of : (D : ℕ) (files : Files) (head : Head) (live : LiveSet) (items : List Item) (entries : List (Entry D)) (f : Finding)
    → IsSegment D (bytes_of (files (Segment head.id))) head items
    → items_of entries ≡ filter (λ x. is_live live x.doc) items
    → f.found ≡ count_by (λ number. has_entry number (items_of entries)) live.live
    → IfNone f.crowded (NoneTwice (items_of entries) × AreFew (items_of entries)) → IfSome f.crowded (λ number. IsLeastCrowded number (items_of entries))
    → f.entries ≡ length entries
    → IsFinding D files (live_segment head live) f
found_of D files head live items entries f held read found none some long = record {
  items = items;
  held = held;
  of = record {
    found = found ∙ ap (λ (xs : List Item). count_by (λ number. has_entry number xs) live.live) read ∙ live_found live items;
    tallied = λ all. record {
      none = subst (λ (xs : List Item). IfNone f.crowded (NoneTwice xs × AreFew xs)) read none;
      some = subst (λ (xs : List Item). IfSome f.crowded (λ number. IsLeastCrowded number xs)) read some;
      entries = long ∙ sym (length-map entries (λ (e : Entry D). record { doc = e.doc; at = e.point.c })) ∙ ap length read;
    };
  };
}

-- ---- by the numbers alone

-- the numbers that have an entry, and the others
with_entry : (items : List Item) (numbers : List ℕ)
    → count_by (λ n. has_entry n items) numbers + length (filter (λ n. not (list_any (λ (x : Item). eqb x.doc n) items)) numbers) ≡ length numbers
with_entry items numbers =
    omega (
      arith,
      length-filter (λ n. has_entry n items) numbers,
      length-filter_both (λ n. has_entry n items) (λ n. not (list_any (λ (x : Item). eqb x.doc n) items)) (λ n. refl) numbers,
    )

-- where there are as many entries as numbers, and each number has one, all are live and none is crowded
tallied_of : (live : LiveSet) (items : List Item) (f : Finding) → IsLiveSet live → length items ≡ length live.live
    → count_by (λ n. has_entry n items) live.live ≡ length live.live → f.crowded ≡ None → f.entries ≡ length items
    → AreTallied (filter (λ x. is_live live x.doc) items) f
tallied_of live items f set many all none entries = record {
  none = subst (λ (o : Option ℕ). IfNone o (NoneTwice xs × AreFew xs)) (sym none) (lone xs one.0);
  some = subst (λ (o : Option ℕ). IfSome o (λ number. IsLeastCrowded number xs)) (sym none) tt;
  entries = omega (arith, entries, many, short, one.1);
}
  where
    xs : List Item
    xs = filter (λ x. is_live live x.doc) items

    short : length xs ≤ length items
    short = omega (arith, length-filter (λ (x : Item). is_live live x.doc) items, count_by-le-length (λ (x : Item). is_live live x.doc) items)

    each : (n : ℕ) → Contains live.live n → has_entry n xs ≡ true
    each n there = has_live_entry live items n (number_live live n there) ∙ all_pass (λ m. has_entry m items) live.live all n there

    one : ((m : ℕ) → count_of m xs ≤ 1) × (length live.live ≤ length xs)
    one = one_each live xs set (omega (arith, many, short)) each

pub numbers_of : (D : ℕ) (files : Files) (head : Head) (live left : LiveSet) (items : List Item) (f : Finding) → IsLiveSet live
    → head.entries ≡ length live.live → IsSegment D (bytes_of (files (Segment head.id))) head items → left ≡ set_without_entries items live
    → f.found ≡ length live.live - length left.live → f.crowded ≡ None → f.entries ≡ head.entries
    → IsFinding D files (live_segment head live) f
numbers_of D files head live left items f set many held is found none entries = record {
  items = items;
  held = held;
  of = record {
    found = found_is;
    tallied = λ all. tallied_of live items f set (long ∙ many) (sym found_is ∙ all) none (entries ∙ sym long);
  };
}
  where
    long : length items ≡ head.entries
    long = segment_counted D (bytes_of (files (Segment head.id))) head items held

    found_is : f.found ≡ count_by (λ n. has_entry n items) live.live
    found_is = omega (arith, found, ap (λ (s : LiveSet). length s.live) is, with_entry items live.live)

-- no more numbers are left than there were
pub fewer_left : (live left : LiveSet) (items : List Item) → left ≡ set_without_entries items live → length left.live ≤ length live.live
fewer_left live left items is = omega (arith, ap (λ (s : LiveSet). length s.live) is, with_entry items live.live)
