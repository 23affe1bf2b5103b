-- A set that a document was added to or taken out of.
use Rattle.std.proofs.Common.{◌≡◌, ℕ, ◌+◌, ◌≤◌, ◌<◌, ◌^◌, ◌↔◌, IsTrue, ℤ, Bool, true, false, not, ◌&&◌, ◌||◌, eqb, cond, List}
use Rattle.std.proofs.Common.{[], ◌∷◌, ◌++◌, length, Option, Some, None, is_some, refl, sym, ap, subst, ◌∙◌, append_assoc, arith}
use Rattle.std.specs.List.{filter}
use Rattle.std.proofs.lemmas.Bool.{both_ways, eq-eqb, eqb-true}
use Rattle.std.proofs.lemmas.List.{length-append, length-map}
use Rattle.std.proofs.lemmas.List.Elements.{filter-append}
use Rattle.std.proofs.lemmas.List.Folds.{list_any-append}
use Rattle.std.proofs.lemmas.List.Sums.{count_by-le-length, length-filter}
use Rattle.outer_io.specs.Files.{Files}
use Rattle.point_codec.specs.Points.{ArePoints, Item}
use Rattle.live_bits.specs.LiveSet.{LiveSet, is_live, live_set_without}
use Rattle.live_bits.proofs.LiveNumbers.{is_live-without}
use Rattle.documents.specs.Documents.{Ascend, Document, docs_without, hits, is_live as is_live_doc, passes, docs_failing as without_passing}
use Rattle.documents.specs.Entries.{AreDocs, SameTotals, entries_but, entries_of, entry_of, has_entry, is_among}
use Rattle.documents.proofs.Kept.{added, among_hits, but_one, live as live_docs}
use Rattle.documents.proofs.Lists.{filter_alike, filter_twice}
use Rattle.documents.proofs.Totals.{sum_by-filter}
use Rattle.index_model.specs.State.{Index}
use Rattle.segment_view.specs.LiveSegments.{LiveSegment, Contents, cleared_parts, has_live, live_in_parts, parts_among}
use Rattle.segment_view.proofs.Living.{live_cleared, live_numbers, read_cleared}
use Rattle.segment_build.specs.NewSegments.{NewSegmentData}
use Rattle.segment_set.specs.Sets.{BegunMerge, SetData, begun_but, built_but, is_live_in, set_but, set_with}
use Rattle.segment_set.specs.Kept.{StaysAlone}
use Rattle.segment_set.specs.Seen.{BegunStands, MergesInto, Sees, StandsOver, entries_seen}
use Rattle.segment_set.proofs.Standing.{shown_later}
use Rattle.segment_set.proofs.Well.{among_cleared, left_of, live_but}

-- ---- a document taken out

totals_filter : (p : Item → Bool) (xs ys : List Item) → SameTotals xs ys → SameTotals (filter p xs) (filter p ys)
totals_filter p xs ys same f = sum_by-filter f p ys ∙ same (λ x. cond (p x) (f x) 0) ∙ sym (sum_by-filter f p xs)

one_cleared : (s : LiveSet) (number : ℕ) (xs : List Item)
    → entries_but number (filter (λ (x : Item). is_live s x.doc) xs) ≡ filter (λ (x : Item). is_live (live_set_without number s) x.doc) xs
one_cleared s number xs =
    filter_twice (λ (x : Item). not (eqb x.doc number)) (λ (x : Item). is_live s x.doc) xs
    ∙ filter_alike (λ (x : Item). is_live s x.doc && not (eqb x.doc number)) (λ (x : Item). is_live (live_set_without number s) x.doc) xs
    (λ x h. sym (is_live-without s number x.doc))

merges_but : (D number : ℕ) (c : Contents) (inputs : List LiveSegment) (n : Option NewSegmentData) → MergesInto D c inputs n
    → MergesInto D c (cleared_parts number inputs) (built_but number n)
merges_but D number c inputs None none = live_cleared c number inputs ∙ ap (entries_but number) none
merges_but D number c inputs (Some n) is = record {
  items = is.items;
  has = record { built = is.has.built; counted = is.has.counted; fits = is.has.fits };
  found = λ m live. is.found m (left_of (is_live n.live m) (not (eqb m number)) (sym (is_live-without n.live number m) ∙ live));
  same = subst (λ (xs : List Item). SameTotals xs (filter (λ (x : Item). is_live (live_set_without number n.live) x.doc) is.items))
      (sym (live_cleared c number inputs))
      (subst (SameTotals (entries_but number (live_in_parts c inputs))) (one_cleared n.live number is.items)
      (totals_filter (λ (x : Item). not (eqb x.doc number)) (live_in_parts c inputs) (filter (λ (x : Item). is_live n.live x.doc) is.items) is.same));
}

begun_stands_but : (D number : ℕ) (c : Contents) (parts : List LiveSegment) (begun : Option BegunMerge) → BegunStands D c parts begun
    → BegunStands D c (cleared_parts number parts) (begun_but number begun)
begun_stands_but D number c parts None stands = tt
begun_stands_but D number c parts (Some b) stands =
    subst (λ (ps : List LiveSegment). MergesInto D c ps (built_but number b.built)) (sym (among_cleared number b.inputs parts))
    (merges_but D number c (parts_among b.inputs parts) b.built stands)

pub stands_but : (D number : ℕ) (files : Files) (c : Contents) (s : SetData) → StandsOver D files c s → StandsOver D files c (set_but number s)
stands_but D number files c s stands = record {
  now = read_cleared D files c number s.parts stands.now;
  kept = stands.kept;
  begun = begun_stands_but D number c s.parts s.begun stands.begun;
  agrees = stands.agrees;
}

seen_but : (number : ℕ) (c : Contents) (s : SetData)
    → entries_seen c (cleared_parts number s.parts) (entries_but number s.buffer) ≡ entries_but number (entries_seen c s.parts s.buffer)
seen_but number c s =
    ap (λ (xs : List Item). xs ++ entries_but number s.buffer) (live_cleared c number s.parts)
    ∙ sym (filter-append (λ (x : Item). not (eqb x.doc number)) (live_in_parts c s.parts) s.buffer)

pub sees_but : (D number : ℕ) (files : Files) (s : SetData) (i : Index) → Sees D files s i
    → Sees D files (set_but number s) (record i { docs = docs_without number i.docs })
sees_but D number files s i seen = record {
  contents = seen.contents;
  stands = stands_but D number files seen.contents s seen.stands;
  dims = seen.dims;
  leaf_size = seen.leaf_size;
  next = seen.next;
  points_given = seen.points_given;
  begun = seen.begun ∙ flag s.begun;
  docs = subst (λ (xs : List Item). AreDocs s.next xs (docs_without number i.docs)) (sym (seen_but number seen.contents s))
      (but_one s.next (entries_seen seen.contents s.parts s.buffer) i.docs number seen.docs);
  few = omega (
    arith,
    seen.few,
    ap length (seen_but number seen.contents s),
    length-filter (λ (x : Item). not (eqb x.doc number)) (entries_seen seen.contents s.parts s.buffer),
    count_by-le-length (λ (x : Item). not (eqb x.doc number)) (entries_seen seen.contents s.parts s.buffer),
  );
  snapshots = seen.snapshots;
}
  where
    flag : (begun : Option BegunMerge) → is_some begun ≡ is_some (begun_but number begun)
    flag None = refl
    flag (Some b) = refl

-- a number is live in a set exactly where a document has it
pub live_seen : (D number : ℕ) (files : Files) (s : SetData) (i : Index) → Sees D files s i → is_live_in s number ≡ is_live_doc number i.docs
live_seen D number files s i seen =
    either (has_live number s.parts) (has_entry number s.buffer)
    ∙ ap (λ b. b || has_entry number s.buffer) (live_numbers D files seen.contents number s.parts seen.stands.now)
    ∙ sym (list_any-append (λ (x : Item). eqb x.doc number) (live_in_parts seen.contents s.parts) s.buffer)
    ∙ sym (live_docs s.next (entries_seen seen.contents s.parts s.buffer) i.docs number seen.docs)
  where
    either : (a b : Bool) → cond a true b ≡ (a || b)
    either true b = refl
    either false b = refl

-- ---- a document added

abbrev pub index_with : List (List ℤ) → Index → Index
index_with points i =
    record i { next = i.next + 1; points_given = i.points_given + length points; docs = i.docs ++ record { number = i.next; points = points } ∷ [] }

pub sees_with : (D : ℕ) (files : Files) (s : SetData) (i : Index) (points : List (List ℤ)) → ArePoints points → Sees D files s i
    → Sees D files (set_with points s) (index_with points i)
sees_with D files s i points ok seen = record {
  contents = seen.contents;
  stands = record { now = seen.stands.now; kept = seen.stands.kept; begun = seen.stands.begun; agrees = seen.stands.agrees };
  dims = seen.dims;
  leaf_size = seen.leaf_size;
  next = ap (λ n. n + 1) seen.next;
  points_given = ap (λ n. n + length points) seen.points_given;
  begun = seen.begun;
  docs = subst (λ n. AreDocs (s.next + 1) (entries_seen seen.contents s.parts (s.buffer ++ mine)) (i.docs ++ record { number = n; points = points } ∷ []))
      (sym seen.next)
      (subst (λ (xs : List Item). AreDocs (s.next + 1) xs (i.docs ++ record { number = s.next; points = points } ∷ [])) whole
      (added s.next old i.docs points seen.docs ok));
  few =
      let few = seen.few in
      let long = ap length (sym whole) in
      let both = length-append old mine in
      let one = length-map points (entry_of s.next) in
      omega arith;
  snapshots = shown_later seen.contents s.next (s.next + 1) s.snapshots i.snapshots (omega arith) seen.snapshots;
}
  where
    mine : List Item
    mine = entries_of (record { number = s.next; points = points })

    old : List Item
    old = entries_seen seen.contents s.parts s.buffer

    whole : old ++ mine ≡ entries_seen seen.contents s.parts (s.buffer ++ mine)
    whole = append_assoc (live_in_parts seen.contents s.parts) s.buffer mine

-- whether it may be added
pub full_given : {b : Bool} (points_given n m : ℕ) → IsTrue b ↔ (2 ^ 24 < points_given + n) → b ≡ true → n ≡ m → 2 ^ 24 < points_given + m
full_given points_given n m full is same = subst (λ k. 2 ^ 24 < points_given + k) same (full.0 is)

pub not_full : {b : Bool} (points_given n m : ℕ) → IsTrue b ↔ (2 ^ 24 < points_given + n) → b ≡ false → n ≡ m → 2 ^ 24 < points_given + m → ⊥
not_full {b} points_given n m full never same more = both_ways b never (full.1 (subst (λ k. 2 ^ 24 < points_given + k) (sym same) more))

-- it leaves the segments and adds its points to the buffer
pub parts_with : (s t u : SetData) (points : List (List ℤ)) → t ≡ s → u ≡ set_with points t
    → (u.parts ≡ s.parts) × (length u.buffer ≤ length s.buffer + length points)
parts_with s t u points room put =
    subst (λ (v : SetData). (v.parts ≡ s.parts) × (length v.buffer ≤ length s.buffer + length points)) (sym (put ∙ ap (set_with points) room))
    (refl, omega (arith, length-append s.buffer (entries_of (record { number = s.next; points = points })), length-map points (entry_of s.next)))

-- ---- the set from its fields

-- the parts that a deletion changes
pub set_but_is : (number : ℕ) (s : SetData) (next : ℕ) (parts : List LiveSegment) (buffer : List Item) (begun : Option BegunMerge) → next ≡ s.next
    → parts ≡ cleared_parts number s.parts → buffer ≡ entries_but number s.buffer → begun ≡ begun_but number s.begun
    → record s { next = next; parts = parts; buffer = buffer; begun = begun } ≡ set_but number s
set_but_is number s next parts buffer begun n p b m = λ i. record s { next = n i; parts = p i; buffer = b i; begun = m i }

-- a number is live in the segments or in the buffer
pub live_either : (number : ℕ) (s : SetData) (a b : Bool) → a ≡ has_live number s.parts → b ≡ has_entry number s.buffer → (a || b) ≡ is_live_in s number
live_either number s a b p q = ap (λ x. x || b) p ∙ ap (λ y. has_live number s.parts || y) q ∙ either (has_live number s.parts) (has_entry number s.buffer)
  where
    either : (x y : Bool) → (x || y) ≡ cond x true y
    either true y = refl
    either false y = refl

pub live_without : (number : ℕ) (s : SetData) → is_live_in (set_but number s) ≡ (λ n. is_live_in s n && not (eqb n number))
live_without number s = λ i n. live_but number n s i

pub stays_but : (number : ℕ) (s : SetData) → StaysAlone s (set_but number s)
stays_but number s = record {
  leaf_size = refl;
  next = refl;
  points_given = refl;
  snapshots = refl;
  begun = flag s.begun;
  live = λ n e. left_of (is_live_in s n) (not (eqb n number)) (sym (live_but number n s) ∙ e);
}
  where
    flag : (begun : Option BegunMerge) → is_some (begun_but number begun) ≡ is_some begun
    flag None = refl
    flag (Some b) = refl

-- ---- one document after another

-- the documents of other numbers than these
abbrev pub docs_but : List ℕ → List Document → List Document
docs_but numbers docs = filter (λ (d : Document). not (is_among numbers d.number)) docs

pub docs_none : (docs : List Document) → docs_but [] docs ≡ docs
docs_none [] = refl
docs_none (d ∷ ds) = ap (λ es. d ∷ es) (docs_none ds)

pub docs_more : (numbers : List ℕ) (number : ℕ) (docs : List Document) → docs_without number (docs_but numbers docs) ≡ docs_but (numbers ++ number ∷ []) docs
docs_more numbers number docs =
    filter_twice (λ (d : Document). not (eqb d.number number)) (λ (d : Document). not (is_among numbers d.number)) docs
    ∙ filter_alike (λ (d : Document). not (is_among numbers d.number) && not (eqb d.number number))
    (λ (d : Document). not (is_among (numbers ++ number ∷ []) d.number)) docs (λ d h. at d.number)
  where
    same_tests : (b c : Bool) → (b ≡ true → c ≡ true) → (c ≡ true → b ≡ true) → b ≡ c
    same_tests true c f g = sym (f refl)
    same_tests false true f g = g refl
    same_tests false false f g = refl

    flipped : (a b : ℕ) → eqb a b ≡ eqb b a
    flipped a b = same_tests _ _ (λ e. eq-eqb b a (sym (eqb-true a b e))) (λ e. eq-eqb a b (sym (eqb-true b a e)))

    both : (a b : Bool) → (not a && not b) ≡ not (a || (b || false))
    both true b = refl
    both false true = refl
    both false false = refl

    at : (n : ℕ) → (not (is_among numbers n) && not (eqb n number)) ≡ not (is_among (numbers ++ number ∷ []) n)
    at n =
        ap (λ b. not (is_among numbers n) && not b) (flipped n number)
        ∙ both (is_among numbers n) (eqb number n)
        ∙ ap not (sym (list_any-append (λ k. eqb k n) numbers (number ∷ [])))

-- without the hits there are just the documents that don't pass
pub docs_hit : (test : List ℤ → Bool) (docs : List Document) → Ascend docs → docs_but (hits test docs) docs ≡ without_passing test docs
docs_hit test docs up =
    filter_alike (λ (d : Document). not (is_among (hits test docs) d.number)) (λ d. not (passes test d)) docs (λ d h. ap not (among_hits test docs up d h))

-- the parts that an addition changes
pub set_with_is : (points : List (List ℤ)) (s : SetData) (next points_given : ℕ) (buffer : List Item) → next ≡ s.next + 1
    → points_given ≡ s.points_given + length points
    → buffer ≡ s.buffer ++ entries_of (record { number = s.next; points = points })
    → record s { next = next; points_given = points_given; buffer = buffer } ≡ set_with points s
set_with_is points s next points_given buffer n m b = λ i. record s { next = n i; points_given = m i; buffer = b i }
