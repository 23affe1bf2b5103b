-- Segments of which each entry is live.
use Rattle.std.proofs.Common.{◌≡◌, ℕ, ◌≤◌, Bool, true, false, not, cond, List, [], ◌∷◌, length, Option, None, Some, refl, sym, ap, subst, ◌∙◌, arith}
use Rattle.std.proofs.Math.Logic.{∥∥₁_elim}
use Rattle.std.proofs.Props.{props}
use Rattle.std.specs.List.{All, Contains, filter}
use Rattle.std.proofs.lemmas.List.Elements.{All-cons, All-contains, All-contains_itself, All-nil, All-weaker, Contains-append_right}
use Rattle.std.proofs.lemmas.List.Filters.{length-filter_both}
use Rattle.outer_io.specs.declared.file_name.FileName.TheVariants.{Segment}
use Rattle.outer_io.specs.Files.{Files, bytes_of}
use Rattle.point_codec.specs.Points.{Item}
use Rattle.live_bits.specs.LiveSet.{is_live}
use Rattle.documents.specs.Entries.{has_entry, is_among}
use Rattle.documents.proofs.Lists.{cons_head, in_filter, nil_none}
use Rattle.segment_file.proofs.Counted.{segment_counted}
use Rattle.stored_index.proofs.Listing.{live_fit}
use Rattle.stored_index.proofs.Places.{entry_there, some_entry}
use Rattle.segment_view.specs.LiveSegments.{LiveSegment, Contents, IsPlaced, IsRead, AreRead, ids_of, parts_among, parts_but}
use Rattle.segment_build.specs.NewSegments.{NewSegmentData}
use Rattle.file_names.specs.Names.{NameList, is_named}
use Rattle.segment_set.specs.Merged.{IsWhole}
use Rattle.segment_set.specs.Merges.{HasLiveEntries, IsGathered, IsMerged, Swaps, Replaces, part_at}
use Rattle.segment_set.proofs.OneList.{entries_once}
use Rattle.segment_set.proofs.Carried.{placed_cases}
use Rattle.segment_set.proofs.Replaced.{all_but, but_placed}
use Rattle.segment_set.proofs.Weller.{free_id}
use Rattle.segment_set.proofs.Wholes.{among_free, none_free}

-- ---- lists

filter_few : (p : Item → Bool) (xs : List Item) → length (filter p xs) ≤ length xs
filter_few p xs = omega (arith, length-filter_both p (λ x. not (p x)) (λ x. refl) xs)

pub all_pass : (p : Item → Bool) (xs : List Item) → length xs ≤ length (filter p xs) → All (λ x. p x ≡ true) xs
all_pass p [] few = All-nil (λ (x : Item). p x ≡ true)
all_pass p (x ∷ xs) few = by (p x) refl (λ le. all_pass p xs le)
  where
    by : (b : Bool) → p x ≡ b → (length xs ≤ length (filter p xs) → All (λ y. p y ≡ true) xs) → All (λ y. p y ≡ true) (x ∷ xs)
    by true is rest =
        All-cons (λ (y : Item). p y ≡ true) x xs is (rest (omega (arith, few, ap (λ (b : Bool). length (cond b (x ∷ filter p xs) (filter p xs))) is)))
    by false is rest = absurd (omega (arith, few, ap (λ (b : Bool). length (cond b (x ∷ filter p xs) (filter p xs))) is, filter_few p xs))

-- ---- segments

-- as many numbers are live as there are entries, and each is that of one of them
pub whole_lives : (D : ℕ) (files : Files) (c : Contents) (p : LiveSegment) → IsWhole p → IsRead D files c p
    → All (λ x. is_live p.live x.doc ≡ true) (c p.head.id)
whole_lives D files c p whole read =
    let entries = c p.head.id in
    let live = filter (λ (x : Item). is_live p.live x.doc) entries in
    all_pass (λ (x : Item). is_live p.live x.doc) entries
    (omega (
      arith,
      live_fit p.live live whole.set (λ number is. there number is),
      whole.live,
      segment_counted D (bytes_of (files (Segment p.head.id))) p.head entries read.held,
    ))
  where
    there : (number : ℕ) → is_live p.live number ≡ true → has_entry number (filter (λ (x : Item). is_live p.live x.doc) (c p.head.id)) ≡ true
    there number is =
        let found = some_entry number (c p.head.id) (read.found number is) in
        let passes : is_live p.live found.0.doc ≡ true = ap (is_live p.live) found.2 ∙ is in
        subst (λ (n : ℕ). has_entry n (filter (λ (x : Item). is_live p.live x.doc) (c p.head.id)) ≡ true) found.2
        (entry_there (filter (λ (x : Item). is_live p.live x.doc) (c p.head.id)) found.0
        (in_filter (λ (x : Item). is_live p.live x.doc) (c p.head.id) found.0 found.1 passes))

-- a segment that was built of what was live
pub built_lives : (D : ℕ) (told : Type 0) (before after : NameList) (files : Files) (ids : List ℕ) (n : NewSegmentData) (old new : List LiveSegment)
    (c : Contents)
    → told → ∥ HasLiveEntries D n ∥₁
    → (put : Swaps D told before after files ids n old new) → IsRead D files c (part_at put.id n) → All (λ x. is_live n.live x.doc ≡ true) (c put.id)
built_lives D told before after files ids n old new c is_told all put read k d lt = ∥∥₁_elim all (hlevel props) (λ h.
    subst (λ (xs : List Item). All (λ x. is_live n.live x.doc ≡ true) xs)
    (entries_once D (bytes_of (files (Segment put.id))) (part_at put.id n).head h.items (c put.id) (put.written is_told h.items h.has) read.held) h.all k d lt)

-- ---- a merge of all segments

abbrev pub AllLive : Contents → List LiveSegment → Type 0
AllLive c parts = All (λ p. All (λ x. is_live p.live x.doc ≡ true) (c p.head.id)) parts

-- where the segments but the inputs are whole, all their entries are live
pub settled_lives : (D : ℕ) (files : Files) (c : Contents) (inputs ids : List ℕ) (parts : List LiveSegment)
    → ids ≡ filter (λ id. not (is_among inputs id)) (ids_of parts) → All IsWhole (parts_among ids parts) → AreRead D files c parts
    → AllLive c (parts_but inputs parts)
settled_lives D files c inputs ids parts are whole reads =
    let all : All IsWhole (parts_but inputs parts) = subst (All IsWhole) (among_free inputs ids parts are) whole in
    let read : AreRead D files c (parts_but inputs parts) = all_but (IsRead D files c) inputs parts reads in
    λ k p lt. whole_lives D files c _ (all k p lt) (read k p lt)

-- one that builds a segment
pub merged_lives : (D : ℕ) (told : Type 0) (leaf_size : ℕ) (before after : NameList) (files new_files : Files) (inputs ids : List ℕ)
    (old new : List LiveSegment) (c : Contents) → told
    → ids ≡ filter (λ id. not (is_among inputs id)) (ids_of old) → ((id : ℕ) → is_among inputs id ≡ true → is_named before.names (Segment id) ≡ true)
    → IsMerged D told leaf_size before after files new_files ids old new → AreRead D new_files c new → AllLive c (parts_but inputs new)
merged_lives D told leaf_size before after files new_files inputs ids old new c is_told are named m reads = by m.built m.replaces m.gathered
  where
    none : parts_but inputs (parts_but ids old) ≡ []
    none = none_free inputs ids old are

    by : (built : Option NewSegmentData) → Replaces D told before after new_files ids built old new
        → ((n : NewSegmentData) → built ≡ Some n → IsGathered D leaf_size (parts_among ids old) n) → AllLive c (parts_but inputs new)
    by None r gathered =
        subst (AllLive c) (sym (ap (parts_but inputs) r ∙ none)) (All-nil (λ (p : LiveSegment). All (λ x. is_live p.live x.doc ≡ true) (c p.head.id)))
    by (Some n) r gathered =
        All-weaker (Contains (parts_but inputs new)) (λ (p : LiveSegment). All (λ x. is_live p.live x.doc ≡ true) (c p.head.id)) each (parts_but inputs new)
        (All-contains_itself (parts_but inputs new))
      where
        placed : IsPlaced (part_at r.id n) (parts_but inputs (parts_but ids old)) (parts_but inputs new)
        placed =
            but_placed inputs (part_at r.id n) (parts_but ids old) new r.placed (free_id D told before after new_files ids old new inputs r.id r.fresh named)

        here : Contains new (part_at r.id n)
        here = subst (λ (ps : List LiveSegment). Contains ps (part_at r.id n)) (sym r.placed.after)
            (Contains-append_right r.placed.front (part_at r.id n ∷ r.placed.back) (part_at r.id n) (cons_head (part_at r.id n) r.placed.back))

        alive : All (λ x. is_live n.live x.doc ≡ true) (c r.id)
        alive = built_lives D told before after new_files ids n old new c is_told (gathered n refl).all r
            (All-contains (IsRead D new_files c) new (part_at r.id n) reads here)

        each : (q : LiveSegment) → Contains (parts_but inputs new) q → All (λ x. is_live q.live x.doc ≡ true) (c q.head.id)
        each q there =
            placed_cases (part_at r.id n) (parts_but inputs (parts_but ids old)) (parts_but inputs new) placed q there
            (λ e. subst (λ (s : LiveSegment). All (λ x. is_live s.live x.doc ≡ true) (c s.head.id)) e alive)
            (λ h. nil_none q _ (subst (λ (ps : List LiveSegment). Contains ps q) none h))
