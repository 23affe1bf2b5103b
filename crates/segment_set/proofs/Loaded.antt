-- Documents of one point each that are added at once: the set is seen as if their entries had waited, and then went to a segment.
use Rattle.std.proofs.Common.{◌≡◌, ℕ, ◌+◌, ◌≤◌, ◌<◌, ◌^◌, ◌||◌, ℤ, Bool, true, false, cond, eqb, List, [], ◌∷◌, ◌++◌, length}
use Rattle.std.proofs.Common.{suc, inl, inr, refl, sym, ap, subst, ◌∙◌, append_assoc, arith}
use Rattle.std.specs.Prelude.{fold}
use Rattle.std.specs.List.{All, count_by}
use Rattle.std.proofs.lemmas.List.Sums.{sum_by-append}
use Rattle.std.specs.List.Sorted.{IsStrictlySortedBy}
use Rattle.std.proofs.lemmas.Bool.{cases_Bool, eqb-true}
use Rattle.std.proofs.lemmas.List.{append-nil, length-append}
use Rattle.std.proofs.lemmas.List.Folds.{list_any-append}
use Rattle.outer_io.specs.Files.{Files}
use Rattle.outer_io.specs.declared.file_name.FileName.TheVariants.{Segment}
use Rattle.point_codec.specs.Points.{ArePoints, Item}
use Rattle.point_codec.specs.Seen.{items_of}
use Rattle.point_codec.specs.declared.entries.Entry.{Entry}
use Rattle.leaf_codec.specs.LeafOrder.{NoneTwice, same_item}
use Rattle.documents.specs.Entries.{entry_of, has_entry}
use Rattle.document_checks.specs.Crowded.{AreFew}
use Rattle.index_model.specs.State.{Index}
use Rattle.page_cache.proofs.Agreement.{agrees_other}
use Rattle.segment_view.specs.LiveSegments.{LiveSegment}
use Rattle.file_names.specs.Names.{NameList}
use Rattle.segment_set.specs.Sets.{IsWell, IsWellTo, SetData, is_live_in, set_with}
use Rattle.segment_set.specs.Seen.{Sees}
use Rattle.segment_set.specs.Kept.{KeepsNamed}
use Rattle.segment_set.specs.Losing.{KeepsCounts}
use Rattle.segment_set.specs.Merges.{IsBufferWritten}
use Rattle.segment_set.specs.AtOnce.{AreNumbered, points_in, with_points}
use Rattle.segment_set.specs.Effects.{Rewrites}
use Rattle.segment_set.specs.Faithful.{IsFaithful}
use Rattle.segment_set.proofs.Changed.{sees_with}
use Rattle.segment_set.proofs.Counts.{counts_added, counts_none, counts_then}
use Rattle.segment_set.proofs.DocumentEntries.{well_with}
use Rattle.segment_set.proofs.Faithful.{faithful_rearranged}
use Rattle.segment_set.proofs.Lossless.{live_with}
use Rattle.segment_set.proofs.Rearranged.{rearranges_after, waiting_below}
use Rattle.segment_set.proofs.Replaced.{all_back, one_if}
use Rattle.segment_set.proofs.Steps.{IsAfter}
use Rattle.segment_set.proofs.Trusted.{faithful_with}
use Rattle.segment_set.proofs.WrittenBuffer.{IsSplit, after_written, kept_well}

pub one_point : (p : List ℤ) → ArePoints (p ∷ [])
unfolding IsStrictlySortedBy
one_point p = record { some = omega arith; few = omega arith; ascending = (tt, tt) }

-- ---- the entries

-- one of each point, with the numbers from first on
abbrev pub entries_from : ℕ → List (List ℤ) → List Item
entries_from first [] = []
entries_from first (p ∷ ps) = entry_of first p ∷ entries_from (first + 1) ps

pub items_numbered : {D : ℕ} (first : ℕ) (es : List (Entry D)) → AreNumbered first es → items_of es ≡ entries_from first (points_in es)
items_numbered first [] numbered = refl
items_numbered {D} first (e ∷ es) numbered =
    let here : e.doc ≡ first = numbered 0 (omega arith) ∙ omega arith in
    let rest = items_numbered (first + 1) es (λ k lt. numbered (suc k) (omega (arith, lt)) ∙ omega arith) in
    ap (λ n. entry_of n e.point.c ∷ items_of es) here ∙ ap (λ xs. entry_of first e.point.c ∷ xs) rest

numbers_from : (first m : ℕ) (points : List (List ℤ)) → has_entry m (entries_from first points) ≡ true → first ≤ m
numbers_from first m [] h = absurd cc
numbers_from first m (p ∷ ps) h = elim (cases_Bool (eqb first m)) [
  | inl here ↦ let same = eqb-true first m here in omega (arith, same)
  | inr other ↦
      omega (arith, numbers_from (first + 1) m ps (sym (ap (λ b. b || has_entry m (entries_from (first + 1) ps)) other) ∙ h))
]

-- those of a set as if they waited
pub record AreWaiting (items : List Item) : Type 0 where
  pub below : All (λ x. x.doc < 2 ^ 24) items
  pub once : NoneTwice items
  pub sixteen : AreFew items

waiting_back : {most D : ℕ} (s : SetData) (front items : List Item) → s.buffer ≡ front ++ items → IsWellTo most D s → AreWaiting items
unfolding NoneTwice
waiting_back {most} {D} s front items is well = record {
  below = all_back (λ (x : Item). x.doc < 2 ^ 24) front items (subst (All (λ (x : Item). x.doc < 2 ^ 24)) is (waiting_below {most = most} {D = D} s well));
  once = λ x. let some = sum_by-append (λ (z : Item). cond (same_item x z) 1 0) front items in
      omega (arith, some, well.once x, ap (count_by (same_item x)) is);
  sixteen = λ number. let some = sum_by-append (λ (z : Item). cond (eqb z.doc number) 1 0) front items in
      omega (arith, some, well.sixteen number, ap (count_by (λ (z : Item). eqb z.doc number)) is);
}

-- ---- as if they waited

abbrev pub waiting_all : List (List ℤ) → SetData → SetData
waiting_all points s = fold (λ t p. set_with (p ∷ []) t) s points

-- the same set by its fields
abbrev pub loaded : List (List ℤ) → SetData → SetData
loaded points s = record s {
  next = s.next + length points;
  points_given = s.points_given + length points;
  buffer = s.buffer ++ entries_from s.next points;
}

loaded_is : (points : List (List ℤ)) (s : SetData) → waiting_all points s ≡ loaded points s
loaded_is [] s = λ i. record s {
  next = next i;
  points_given = given i;
  buffer = buffer i;
}
  where
    next : s.next ≡ s.next + 0
    next = omega arith

    given : s.points_given ≡ s.points_given + 0
    given = omega arith

    buffer : s.buffer ≡ s.buffer ++ []
    buffer = sym (append-nil s.buffer)
loaded_is (p ∷ ps) s = loaded_is ps (set_with (p ∷ []) s) ∙ (λ i. record s { next = next i; points_given = given i; buffer = buffer i })
  where
    next : s.next + 1 + length ps ≡ s.next + length (p ∷ ps)
    next = omega arith

    given : s.points_given + 1 + length ps ≡ s.points_given + length (p ∷ ps)
    given = omega arith

    buffer : (s.buffer ++ entry_of s.next p ∷ []) ++ entries_from (s.next + 1) ps ≡ s.buffer ++ entries_from s.next (p ∷ ps)
    buffer = append_assoc s.buffer (entry_of s.next p ∷ []) (entries_from (s.next + 1) ps)

well_all : {most : ℕ} (D : ℕ) (points : List (List ℤ)) (s : SetData) → length s.buffer + length points ≤ most → s.points_given + length points ≤ 2 ^ 24
    → IsWellTo most D s → IsWellTo most D (waiting_all points s)
well_all D [] s room given well = well
well_all D (p ∷ ps) s room given well =
    well_all D ps (set_with (p ∷ []) s) (omega (arith, room, length-append s.buffer (entry_of s.next p ∷ []))) (omega (arith, given))
    (well_with D s (p ∷ []) (one_point p) (omega (arith, room)) (omega (arith, given)) well)

sees_all : (D : ℕ) (files : Files) (points : List (List ℤ)) (s : SetData) (i : Index) → Sees D files s i
    → Sees D files (waiting_all points s) (with_points i points)
sees_all D files [] s i seen = seen
sees_all D files (p ∷ ps) s i seen = sees_all D files ps (set_with (p ∷ []) s) (with_points i (p ∷ [])) (sees_with D files s i (p ∷ []) (one_point p) seen)

live_all : (points : List (List ℤ)) (s : SetData) (number : ℕ) → is_live_in s number ≡ true → is_live_in (waiting_all points s) number ≡ true
live_all [] s number live = live
live_all (p ∷ ps) s number live = live_all ps (set_with (p ∷ []) s) number (live_with (p ∷ []) s number live)

counts_all : {D : ℕ} {files : Files} {s : SetData} (points : List (List ℤ)) (t : SetData) → KeepsCounts D files files s t
    → KeepsCounts D files files s (waiting_all points t)
counts_all [] t counts = counts
counts_all (p ∷ ps) t counts = counts_all ps (set_with (p ∷ []) t) (counts_added (p ∷ []) counts)

faithful_all : (D : ℕ) (files : Files) (points : List (List ℤ)) (s : SetData) → IsFaithful D files s → IsFaithful D files (waiting_all points s)
faithful_all D files [] s faithful = faithful
faithful_all D files (p ∷ ps) s faithful = faithful_all D files ps (set_with (p ∷ []) s) (faithful_with D files (p ∷ []) s faithful)

well_wider : (n D : ℕ) (s : SetData) → IsWell D s → IsWellTo (16384 + n) D s
well_wider n D s well = record {
  some_dims = well.some_dims;
  few_dims = well.few_dims;
  least_leaf = well.least_leaf;
  greatest_leaf = well.greatest_leaf;
  numbered = well.numbered;
  most_given = well.most_given;
  spread = well.spread;
  room = omega (arith, well.room);
  ordered = well.ordered;
  once = well.once;
  sixteen = well.sixteen;
  few = well.few;
  leaf_size = well.leaf_size;
  live_fits = well.live_fits;
  named = well.named;
  kept = well.kept;
  own = well.own;
  few_snapshots = well.few_snapshots;
  rooms = well.rooms;
  inputs = well.inputs;
  few_inputs = well.few_inputs;
  built = well.built;
  cached = well.cached;
  unhidden = well.unhidden;
}

pub well_loaded : (D : ℕ) (points : List (List ℤ)) (s : SetData) → s.points_given + length points ≤ 2 ^ 24 → IsWell D s
    → IsWellTo (16384 + length points) D (loaded points s)
well_loaded D points s given well = subst (IsWellTo (16384 + length points) D) (loaded_is points s)
    (well_all D points s (omega (arith, well.room)) given (well_wider (length points) D s well))

pub waiting_loaded : (D : ℕ) (points : List (List ℤ)) (s : SetData) → s.points_given + length points ≤ 2 ^ 24 → IsWell D s
    → AreWaiting (entries_from s.next points)
waiting_loaded D points s given well = waiting_back (loaded points s) s.buffer (entries_from s.next points) refl (well_loaded D points s given well)

-- those that wait have numbers below the next
split_loaded : (D : ℕ) (points : List (List ℤ)) (s : SetData) → IsWell D s → IsSplit (loaded points s).buffer (entries_from s.next points) s.buffer
split_loaded D points s well = record { whole = refl; apart = λ m. by m (has_entry m (entries_from s.next points)) refl }
  where
    both : (m : ℕ) → has_entry m (s.buffer ++ entries_from s.next points) ≡ (has_entry m s.buffer || has_entry m (entries_from s.next points))
    both m = list_any-append (λ (x : Item). eqb x.doc m) s.buffer (entries_from s.next points)

    or_false : (b : Bool) → (b || false) ≡ b
    or_false true = refl
    or_false false = refl

    by : (m : ℕ) (b : Bool) → has_entry m (entries_from s.next points) ≡ b
        → one_if (has_entry m (entries_from s.next points)) + one_if (has_entry m s.buffer) ≤ one_if (has_entry m (s.buffer ++ entries_from s.next points))
    by m true e =
        let none = (well.spread.below m (numbers_from s.next m points e)).1 in
        let all : has_entry m (s.buffer ++ entries_from s.next points) ≡ true =
        both m ∙ ap (λ b. b || has_entry m (entries_from s.next points)) none ∙ e in
        omega (arith, ap one_if e, ap one_if none, ap one_if all)
    by m false e =
        let all : has_entry m (s.buffer ++ entries_from s.next points) ≡ has_entry m s.buffer =
        both m ∙ ap (λ b. has_entry m s.buffer || b) e ∙ or_false (has_entry m s.buffer) in
        omega (arith, ap one_if e, ap one_if all)

-- ---- and then went to a segment

-- the set afterwards
abbrev pub written_set : List (List ℤ) → SetData → NameList → List LiveSegment → SetData
written_set points s names parts = record s {
  names = names;
  parts = parts;
  next = s.next + length points;
  points_given = s.points_given + length points;
}

-- it keeps to its rules and is seen with the documents, and files are written under new names alone
pub record IsLoaded (D : ℕ) (told : Type 0) (files new_files : Files) (points : List (List ℤ)) (s t : SetData) : Type 0 where
  pub well : IsWell D t
  pub seen : told → (i : Index) → Sees D files s i → Sees D new_files t (with_points i points)
  pub rewrites : Rewrites D told files new_files s t

pub loaded_after : (D : ℕ) (told : Type 0) (files new_files : Files) (points : List (List ℤ)) (s : SetData) (well : IsWell D s) (names : NameList)
    (parts : List LiveSegment) → length s.parts < 200 → s.points_given + length points ≤ 2 ^ 24 → KeepsNamed told s.names names files new_files
    → IsBufferWritten D told s.leaf_size s.names names new_files (entries_from s.next points) s.parts parts
    → IsLoaded D told files new_files points s (written_set points s names parts)
loaded_after D told files new_files points s well names parts few given kept written = record {
  well = after.well;
  seen = λ t i seen. after.seen t (with_points i points)
      (subst (λ u. Sees D files u (with_points i points)) (loaded_is points s) (sees_all D files points s i seen));
  rewrites = record {
    kept = kept;
    follows = after.follows;
    canon = after.canon;
    faithful = λ t faithful. faithful_rearranged D told files new_files (loaded points s) (written_set points s names parts) wider
        (rearranges_after D told files new_files {s = loaded points s} names parts s.buffer s.cache kept after) t
        (agrees_other files new_files s.cache (λ id keeps. kept.files t (Segment id) (well.cached id keeps)))
        (subst (IsFaithful D files) (loaded_is points s) (faithful_all D files points s faithful));
    loses = λ t before faithful number live. after.loses t faithful.heads number
        (subst (λ u. is_live_in u number ≡ true) (loaded_is points s) (live_all points s number live));
    counts = λ t before faithful. counts_then D files files new_files s (loaded points s) (written_set points s names parts)
        (subst (KeepsCounts D files files s) (loaded_is points s) (counts_all points s (counts_none D files s)))
        (after.counts t faithful.heads);
  };
}
  where
    wider : IsWellTo (16384 + length points) D (loaded points s)
    wider = well_loaded D points s given well

    after : IsAfter D told files new_files (loaded points s) (written_set points s names parts)
    after = after_written D told files new_files {s = loaded points s} names parts (entries_from s.next points) s.buffer
        (split_loaded D points s well) kept written wider few (kept_well s well)
