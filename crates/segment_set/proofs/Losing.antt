-- A live number of segments that are merged is that of an entry, or no entry of its segment has it.
use Rattle.std.proofs.Common.{◌≡◌, ℕ, ◌++◌, Bool, true, false, ◌&&◌, ◌||◌, ◌⊎◌, eqb, List, [], ◌∷◌, Option, Some, refl, sym, ap, ◌∙◌, inl, inr, arith}
use Rattle.std.specs.List.{All}
use Rattle.std.proofs.Math.Logic.{∥∥₁_map}
use Rattle.std.proofs.lemmas.Bool.{both_ways}
use Rattle.std.proofs.lemmas.List.Folds.{list_any-append}
use Rattle.outer_io.specs.Files.{Files}
use Rattle.point_codec.specs.Points.{Item}
use Rattle.live_bits.specs.LiveSet.{is_live}
use Rattle.documents.proofs.Lists.{cons_head, cons_tail}
use Rattle.documents.specs.Entries.{has_entry}
use Rattle.segment_view.specs.LiveSegments.{LiveSegment, has_live, parts_among}
use Rattle.segment_view.specs.Held.{HasOwnHead, IsHeld, AreHeld}
use Rattle.segment_build.specs.NewSegments.{NewSegmentData}
use Rattle.segment_set.specs.Losing.{HasNoEntry, is_built_live}
use Rattle.segment_set.specs.Merges.{HoldsLive, LosesNone}
use Rattle.segment_set.proofs.Evident.{gathered_of_files}
use Rattle.segment_set.proofs.Lossless.{dead_of}
use Rattle.segment_set.proofs.SomeHeld.{some_held}
use Rattle.segment_set.proofs.Well.{has_filtered}

or_left : (a b : Bool) → (a || b) ≡ false → a ≡ false
or_left false b e = refl
or_left true b e = e

or_right : (a b : Bool) → (a || b) ≡ false → b ≡ false
or_right false b e = e
or_right true b e = absurd cc

or_other : (a b : Bool) → a ≡ false → (a || b) ≡ true → b ≡ true
or_other false b e h = h
or_other true b e h = absurd cc

and_live : (a b : Bool) → b ≡ true → (a && b) ≡ false → a ≡ false
and_live false b e h = refl
and_live true b e h = sym e ∙ h

-- of a joined list neither part has an entry that it has none of
none_in : (number : ℕ) (items xs ys : List Item) → items ≡ xs ++ ys → has_entry number items ≡ false → (has_entry number xs || has_entry number ys) ≡ false
none_in number items xs ys joined none = sym (list_any-append (λ x. eqb x.doc number) xs ys) ∙ sym (ap (has_entry number) joined) ∙ none

here : (D : ℕ) (files : Files) (p : LiveSegment) (ps : List LiveSegment) (items : List Item) (number : ℕ) → is_live p.live number ≡ true
    → IsHeld D files p items → has_entry number items ≡ false → HasNoEntry D files (p ∷ ps) number
here D files p ps items number live (inl dead) none = absurd (both_ways (is_live p.live number) (dead_of p.live number dead.0) live)
here D files p ps items number live (inr (entries, held, is)) none = record {
  part = p;
  there = cons_head p ps;
  live = live;
  items = entries;
  held = held;
  none = and_live (has_entry number entries) (is_live p.live number) live
      (sym (has_filtered (is_live p.live) number entries) ∙ sym (ap (has_entry number) is) ∙ none);
}

no_entry : (D : ℕ) (files : Files) (parts : List LiveSegment) (items : List Item) (number : ℕ) → AreHeld D files parts items
    → has_live number parts ≡ true → has_entry number items ≡ false → HasNoEntry D files parts number
no_entry D files [] items number held live none = absurd cc
no_entry D files (p ∷ ps) items number held live none = by (is_live p.live number) refl
    (no_entry D files ps held.back_items number held.back_holds)
  where
    neither : (has_entry number held.front_items || has_entry number held.back_items) ≡ false
    neither = none_in number items held.front_items held.back_items held.joined none

    by : (b : Bool) → is_live p.live number ≡ b
        → (has_live number ps ≡ true → has_entry number held.back_items ≡ false → HasNoEntry D files ps number) → HasNoEntry D files (p ∷ ps) number
    by true e rest = here D files p ps held.front_items number e held.front_holds (or_left _ _ neither)
    by false e rest =
        let behind = rest (or_other (is_live p.live number) (has_live number ps) e live) (or_right _ _ neither) in
        record {
          part = behind.part;
          there = cons_tail p ps behind.part behind.there;
          live = behind.live;
          items = behind.items;
          held = behind.held;
          none = behind.none;
        }

-- what was built of the entries that were gathered
pub loses_none : (D : ℕ) (told : Type 0) (files : Files) (ids : List ℕ) (parts : List LiveSegment) (items : List Item) (built : Option NewSegmentData)
    → (told → All (HasOwnHead D files) parts → AreHeld D files (parts_among ids parts) items)
    → ((number : ℕ) → is_built_live number built ≡ has_entry number items)
    → ((n : NewSegmentData) → built ≡ Some n → HoldsLive D items n)
    → LosesNone D told files ids parts built
loses_none D told files ids parts items built held same makes is_told heads = record {
  numbers = λ number live. by number live (has_entry number items) refl;
  entries = λ n is. ∥∥₁_map (gathered_of_files D files ids parts items heads (held is_told)) (λ h. record {
    entries = (makes n is).items;
    has = (makes n is).has;
    items = items;
    held = some_held D files (parts_among ids parts) items h;
    fewer = λ f. omega (arith, (makes n is).same f);
  });
}
  where
    by : (number : ℕ) → has_live number (parts_among ids parts) ≡ true → (b : Bool) → has_entry number items ≡ b
        → (is_built_live number built ≡ true) ⊎ ∥ HasNoEntry D files (parts_among ids parts) number ∥₁
    by number live true e = inl (same number ∙ e)
    by number live false e = inr (∥∥₁_map (gathered_of_files D files ids parts items heads (held is_told))
        (λ h. no_entry D files (parts_among ids parts) items number h live e))
