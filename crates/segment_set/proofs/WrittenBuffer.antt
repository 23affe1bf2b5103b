-- What a flush of the buffer does to a set.
use Rattle.std.proofs.Common.{◌≡◌, ℕ, ◌+◌, ◌≤◌, ◌<◌, ◌||◌, Bool, true, false, eqb, List, [], ◌++◌, length, Some}
use Rattle.std.proofs.Common.{Result, Err, is_some, refl, sym, ap, subst, ◌∙◌, ◌⊎◌, inl, inr, ⊎_elim, arith}
use Rattle.std.specs.Result.{OnOk, OnErr}
use Rattle.std.specs.List.{filter, sum_by}
use Rattle.std.proofs.lemmas.Grind.{merely}
use Rattle.std.specs.List.Sorted.{IsNonDecreasingBy}
use Rattle.std.proofs.lemmas.List.{length-append}
use Rattle.std.proofs.lemmas.List.Folds.{list_any-append}
use Rattle.std.proofs.lemmas.List.Sums.{sum_by-append}
use Rattle.outer_io.specs.Files.{Files}
use Rattle.point_codec.specs.Points.{Item}
use Rattle.leaf_codec.specs.LeafOrder.{NoneTwice}
use Rattle.live_bits.specs.LiveSet.{is_live}
use Rattle.documents.specs.Entries.{SameTotals, has_entry, is_among}
use Rattle.index_model.specs.State.{Index}
use Rattle.segment_view.specs.LiveSegments.{LiveSegment, live_in_parts, parts_among, has_live}
use Rattle.document_checks.specs.Crowded.{AreFew}
use Rattle.file_names.specs.Names.{NameList}
use Rattle.segment_set.specs.Sets.{SetData, IsBuiltOf, IsWell, IsWellTo, inputs_of}
use Rattle.segment_set.specs.Seen.{Sees}
use Rattle.segment_set.specs.Kept.{KeepsNamed}
use Rattle.segment_set.specs.Losing.{IsLossless, KeepsCounts}
use Rattle.segment_set.specs.Merges.{IsMade, IsBufferWritten}
use Rattle.segment_set.proofs.Standing.{sees_same}
use Rattle.segment_set.proofs.Replaced.{one_if, ids_stay}
use Rattle.segment_set.proofs.Weller.{length_replaced}
use Rattle.segment_set.proofs.Moved.{Moves, moved, inputs_stay, well_moved, stays_moved, follows_moved, canon_moved, seen_moved, begun_moved}
use Rattle.segment_set.proofs.Lossless.{lossless_moved}
use Rattle.segment_set.proofs.Counts.{FitsIn, counts_moved}
use Rattle.segment_set.proofs.SomeHeld.{some_none, sum_one}
use Rattle.segment_set.proofs.Steps.{IsAfter, merge_after, none_among, ok_or_err}

none_twice_none : NoneTwice []
unfolding NoneTwice
none_twice_none x = omega arith

few_none : AreFew []
few_none number = omega arith

-- what a buffer keeps to
pub record IsKept (buffer : List Item) : Type 0 where
  pub room : length buffer ≤ 16384
  pub ordered : IsNonDecreasingBy (λ x. x.doc) buffer
  pub once : NoneTwice buffer
  pub sixteen : AreFew buffer

kept_none : IsKept []
kept_none = record { room = omega arith; ordered = λ i j d le lt. absurd (omega (arith, lt)); once = none_twice_none; sixteen = few_none }

pub kept_well : {D : ℕ} (s : SetData) → IsWell D s → IsKept s.buffer
kept_well s well = record { room = well.room; ordered = well.ordered; once = well.once; sixteen = well.sixteen }

pub some_is : {X : Type 0} (x y : X) → Some x ≡ Some y → x ≡ y
some_is x y h = cc

-- of each number that waits there are entries among those that were written, or among those that are left, and not in both
pub record IsSplit (all written left : List Item) : Type 0 where
  pub whole : all ≡ left ++ written
  pub apart : (number : ℕ) → one_if (has_entry number written) + one_if (has_entry number left) ≤ one_if (has_entry number all)

pub split_whole : (all : List Item) → IsSplit all all []
split_whole all = record { whole = refl; apart = λ number. omega arith }

covers : (all written left : List Item) → IsSplit all written left → (number : ℕ) → has_entry number all ≡ true
    → (has_entry number written ≡ true) ⊎ (has_entry number left ≡ true)
covers all written left split number there = by (has_entry number left) refl
  where
    by : (b : Bool) → has_entry number left ≡ b → (has_entry number written ≡ true) ⊎ (has_entry number left ≡ true)
    by true e = inr e
    by false e = inl (
        sym (ap (λ b. b || has_entry number written) e)
        ∙ sym (list_any-append (λ (x : Item). eqb x.doc number) left written)
        ∙ ap (has_entry number) (sym split.whole) ∙ there)

module _ (D : ℕ) (told : Type 0) (files new_files : Files) {s : SetData} (names : NameList) (parts : List LiveSegment) (entries left : List Item)
    (split : IsSplit s.buffer entries left) (kept : KeepsNamed told s.names names files new_files)
    (sp : IsBufferWritten D told s.leaf_size s.names names new_files entries s.parts parts) {most : ℕ} (well : IsWellTo most D s) where
  written_moves : Moves D told files new_files s names [] parts left
  written_moves = record {
    kept = kept;
    built = Some sp.n;
    replaces = sp.put;
    made = λ n is. subst (IsMade D s.leaf_size) (some_is sp.n n is) sp.made;
    fewer = λ number.
        let same : one_if (is_live sp.n.live number) ≡ one_if (has_entry number entries) = ap (λ (f : ℕ → Bool). one_if (f number)) sp.live in
        omega (arith, same, split.apart number);
  }

  apart_none : (id : ℕ) → is_among [] id ≡ true → is_among (inputs_of s.begun) id ≡ false
  apart_none id h = cc

  written_pinned : parts_among (inputs_of s.begun) parts ≡ parts_among (inputs_of s.begun) s.parts
  written_pinned = inputs_stay D told files new_files s names [] parts left written_moves well apart_none

  written_well : length s.parts < 200 → IsKept left → IsWell D (moved s names parts left s.begun s.cache)
  written_well few waits =
      let stay = written_pinned in
      well_moved D told files new_files s names [] parts left written_moves well s.begun s.cache
      (omega (arith, few, length_replaced D told s.names names new_files [] s.parts parts (Some sp.n) sp.put)) waits.room
      waits.ordered waits.once waits.sixteen
      (ids_stay (inputs_of s.begun) s.parts parts stay well.inputs) well.few_inputs
      (λ n is. subst (λ (ps : List LiveSegment). IsBuiltOf D s.leaf_size ps n) (sym stay) (well.built n is)) well.cached
      (λ i n offset len page known. known)

  written_loses : IsLossless D files s (moved s names parts left s.begun s.cache)
  unfolding written_moves
  written_loses = lossless_moved D told files new_files s names [] parts left written_moves s.begun s.cache
      (λ number live. let never : false ≡ true = sym (ap (has_live number) (none_among s.parts)) ∙ live in cc)
      (λ number there. ⊎_elim (λ h. inl (ap (λ (f : ℕ → Bool). f number) sp.live ∙ h)) inr (covers s.buffer entries left split number there))

  written_counts : told → KeepsCounts D files new_files s (moved s names parts left s.begun s.cache)
  unfolding written_moves
  written_counts is_told = counts_moved D told files new_files s names [] parts left written_moves is_told well s.begun s.cache (λ none. absurd cc)
      (λ n is. merely (subst (FitsIn D files (parts_among [] s.parts) left s.buffer) (some_is sp.n n is) (record {
        entries = sp.holds.items;
        has = sp.holds.has;
        items = [];
        held = some_none D files (parts_among [] s.parts);
        few = let live = filter (λ (x : Item). is_live sp.n.live x.doc) sp.holds.items in
            omega (arith, sp.holds.same (λ _. 1), sum_one live, sum_one entries, ap length split.whole, length-append left entries);
      })))

  written_seen : told → (i : Index) → Sees D files s i → Sees D new_files (moved s names parts left s.begun s.cache) i
  unfolding written_moves
  written_seen is_told i h =
      sees_same D new_files (moved s names parts left s.begun s.cache) i (is_some s.begun) (sym h.begun)
      (seen_moved D told files new_files s names [] parts left written_moves is_told well i h entries sp.holds same s.begun s.cache
      (λ d alike. begun_moved D told files new_files s names [] parts left written_moves well apart_none h.contents d alike h.stands.begun)
      well.cached h.stands.agrees)
    where
      same : SameTotals (live_in_parts h.contents (parts_among [] s.parts) ++ s.buffer) (entries ++ left)
      same f =
          let none : sum_by f (live_in_parts h.contents (parts_among [] s.parts)) ≡ 0 =
          ap (λ (ps : List LiveSegment). sum_by f (live_in_parts h.contents ps)) (none_among s.parts) in
          omega (
            arith,
            none,
            sum_by-append f (live_in_parts h.contents (parts_among [] s.parts)) s.buffer,
            ap (sum_by f) split.whole,
            sum_by-append f left entries,
            sum_by-append f entries left,
          )

  pub after_written : length s.parts < 200 → IsKept left → IsAfter D told files new_files s (moved s names parts left s.begun s.cache)
  after_written few waits = record {
    well = written_well few waits;
    seen = written_seen;
    stays = stays_moved D told files new_files s names [] parts left written_moves s.begun s.cache refl;
    follows = follows_moved D told files new_files s names [] parts left written_moves;
    canon = λ is_told. canon_moved D told files new_files s names [] parts left written_moves is_told well;
    pinned = written_pinned;
    loses = λ t heads. written_loses;
    counts = λ t heads. written_counts t;
  }

-- nothing was written but perhaps a file under a new name, and the set is as it was
pub refused_after : (D : ℕ) (told : Type 0) (files new_files : Files) {s : SetData} (well : IsWell D s) (names : NameList)
    → KeepsNamed told s.names names files new_files
    → IsAfter D told files new_files s (moved s names s.parts s.buffer s.begun s.cache)
refused_after D told files new_files {s} well names kept =
    merge_after D told files new_files well names [] s.parts s.cache kept (λ id h. cc) (λ t agrees. agrees) (λ id h. inl h)
    (λ i n offset len page known. known) {T = ℕ} {E = ℕ} (Err 0) tt refl

pub written_after : (D : ℕ) (told : Type 0) (files new_files : Files) {s : SetData} (well : IsWell D s) (names : NameList) (parts : List LiveSegment)
    (left : List Item)
    → length s.parts < 200
    → KeepsNamed told s.names names files new_files → {T E : Type 0} (r : Result T E)
    → OnOk r (IsBufferWritten D told s.leaf_size s.names names new_files s.buffer s.parts parts × (left ≡ [])) → OnErr r ((parts ≡ s.parts) × (left ≡ s.buffer))
    → IsAfter D told files new_files s (moved s names parts left s.begun s.cache)
written_after D told files new_files {s} well names parts left few kept r written refused = elim (ok_or_err r written refused) [
  | inl sp ↦ subst (λ (es : List Item). IsAfter D told files new_files s (moved s names parts es s.begun s.cache)) (sym sp.1)
      (after_written D told files new_files names parts s.buffer [] (split_whole s.buffer) kept sp.0 well few kept_none)
  | inr same ↦
      subst (λ (es : List Item). IsAfter D told files new_files s (moved s names parts es s.begun s.cache)) (sym same.1)
      (subst (λ (ps : List LiveSegment). IsAfter D told files new_files s (moved s names ps s.buffer s.begun s.cache)) (sym same.0)
      (refused_after D told files new_files well names kept))
]
