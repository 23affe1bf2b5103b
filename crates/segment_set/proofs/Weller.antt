-- What every set keeps to is kept where what was built takes the place of some segments.
use Rattle.std.proofs.Common.{◌≡◌, ℕ, ◌+◌, ◌≤◌, Bool, true, false, List, length, Option, None, Some, refl, sym, ap, subst, ◌∙◌, arith}
use Rattle.std.specs.List.{All, sum_by}
use Rattle.std.proofs.lemmas.Bool.{true≢false, false_from_ne_true}
use Rattle.outer_io.specs.declared.file_name.FileName.TheVariants.{Segment}
use Rattle.outer_io.specs.Files.{Files}
use Rattle.point_codec.specs.Points.{Item}
use Rattle.live_bits.specs.LiveSet.{is_live}
use Rattle.documents.specs.Entries.{has_entry, is_among}
use Rattle.stored_index.specs.Segments.{places}
use Rattle.segment_view.specs.LiveSegments.{LiveSegment, lives_of, parts_among, parts_but}
use Rattle.segment_build.specs.NewSegments.{NewSegmentData}
use Rattle.file_names.specs.Names.{NameList, is_named}
use Rattle.segment_set.specs.Sets.{IsSpread}
use Rattle.segment_set.specs.Merges.{part_at, Replaces}
use Rattle.segment_set.proofs.Replaced.{one_if, place_in, places_in, parted, length_parted, total_placed}
use Rattle.segment_set.proofs.Replaced.{length_placed, all_placed, all_but, among_placed, among_but}

-- 1 where the number is live in what was built
abbrev pub place_built : ℕ → Option NewSegmentData → ℕ
place_built number None = 0
place_built number (Some n) = one_if (is_live n.live number)

module _ (D : ℕ) (told : Type 0) (before after : NameList) (files : Files) (ids : List ℕ) (old new : List LiveSegment) where
  -- what holds of the others and of the one that came holds of all
  pub all_replaced : (P : LiveSegment → Type 0) (built : Option NewSegmentData) → Replaces D told before after files ids built old new
      → ((id : ℕ) (n : NewSegmentData) → built ≡ Some n → is_named after.names (Segment id) ≡ true → P (part_at id n)) → All P old → All P new
  all_replaced P None r here all = subst (All P) (sym r) (all_but P ids old all)
  all_replaced P (Some n) r here all = all_placed P (part_at r.id n) (parts_but ids old) new r.placed (here r.id n refl r.named) (all_but P ids old all)

  -- places of the others, and of what came
  pub total_replaced : (number : ℕ) (built : Option NewSegmentData) → Replaces D told before after files ids built old new
      → sum_by (place_in number) new + sum_by (place_in number) (parts_among ids old) ≡ place_built number built + sum_by (place_in number) old
  total_replaced number None r =
      let same : sum_by (place_in number) new ≡ sum_by (place_in number) (parts_but ids old) = ap (sum_by (place_in number)) r in
      omega (arith, parted (place_in number) ids old)
  total_replaced number (Some n) r =
      omega (arith, total_placed (place_in number) (part_at r.id n) (parts_but ids old) new r.placed, parted (place_in number) ids old)

  pub length_replaced : (built : Option NewSegmentData) → Replaces D told before after files ids built old new
      → length new + length (parts_among ids old) ≤ length old + 1
  length_replaced None r = let same : length new ≡ length (parts_but ids old) = ap length r in omega (arith, length_parted ids old)
  length_replaced (Some n) r = omega (arith, length_placed (part_at r.id n) (parts_but ids old) new r.placed, length_parted ids old)

  -- the new one is none of these where these are named
  pub free_id : (these : List ℕ) (id : ℕ) → is_named before.names (Segment id) ≡ false
      → ((n : ℕ) → is_among these n ≡ true → is_named before.names (Segment n) ≡ true) → is_among these id ≡ false
  free_id these id free named = false_from_ne_true (is_among these id) (λ among. true≢false (sym (named id among) ∙ free))

  -- segments of other ids, whose files are named, stay
  pub among_replaced : (these : List ℕ) (built : Option NewSegmentData) → Replaces D told before after files ids built old new
      → ((id : ℕ) → is_among ids id ≡ true → is_among these id ≡ false) → ((id : ℕ) → is_among these id ≡ true → is_named before.names (Segment id) ≡ true)
      → parts_among these new ≡ parts_among these old
  among_replaced these None r apart named = ap (parts_among these) r ∙ among_but these ids old apart
  among_replaced these (Some n) r apart named =
      among_placed these (part_at r.id n) (parts_but ids old) new r.placed (free_id these r.id r.fresh named) ∙ among_but these ids old apart

  no_entry : (b : Bool) → one_if b ≤ 0 → b ≡ false
  no_entry true h = absurd (omega (arith, h))
  no_entry false h = refl

  -- each number is live in one place alone
  pub spread_replaced : (next : ℕ) (built : Option NewSegmentData) (buffer left : List Item) → Replaces D told before after files ids built old new
      → IsSpread next old buffer
      → ((number : ℕ)
      → place_built number built + one_if (has_entry number left) ≤ sum_by (place_in number) (parts_among ids old) + one_if (has_entry number buffer))
      → IsSpread next new left
  spread_replaced next built buffer left r spread fewer = record {
    alone = λ number. omega (arith, spread.alone number, fewer number, total_replaced number built r, places_in number old, places_in number new);
    below = λ number le.
        let none = spread.below number le in
        let gone : one_if (has_entry number buffer) ≡ 0 = ap one_if none.1 in
        let sum : places number (lives_of new) + one_if (has_entry number left) ≤ 0 =
        omega (arith, none.0, gone, fewer number, total_replaced number built r, places_in number old, places_in number new) in
        (omega (arith, sum), no_entry (has_entry number left) (omega (arith, sum)));
  }
