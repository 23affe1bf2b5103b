-- No document is lost by merges and flushes, one after another, whatever the files hold.
use Rattle.std.proofs.Common.{◌≡◌, ℕ, zero, suc, ◌≤◌, ◌++◌, ◌||◌, ℤ, Bool, true, false, cond, eqb, List, [], Option, None, Some, refl, sym, ap, subst}
use Rattle.std.proofs.Common.{◌∙◌, ◌⊎◌, inl, inr, ⊎_elim, arith}
use Rattle.std.proofs.Math.Logic.{∥∥₁_map}
use Rattle.std.specs.List.{Contains, list_any, sum_by}
use Rattle.std.proofs.lemmas.Bool.{both_ways}
use Rattle.std.proofs.lemmas.List.Folds.{list_any-append}
use Rattle.outer_io.specs.declared.file_name.FileName.TheVariants.{Segment}
use Rattle.outer_io.specs.Files.{Files, bytes_of}
use Rattle.point_codec.specs.Points.{Item}
use Rattle.live_bits.specs.LiveSet.{LiveSet, is_live}
use Rattle.documents.specs.Entries.{entries_of, has_entry, is_among}
use Rattle.documents.proofs.Lists.{of_filter}
use Rattle.page_cache.specs.declared.cache.PageCache.{PageCache}
use Rattle.segment_file.specs.Heads.{Head}
use Rattle.segment_file.specs.Segments.{IsSegment}
use Rattle.segment_view.specs.LiveSegments.{LiveSegment, has_live, parts_among}
use Rattle.segment_build.specs.NewSegments.{NewSegmentData}
use Rattle.file_names.specs.Names.{NameList}
use Rattle.segment_set.specs.Sets.{BegunMerge, SetData, is_live_in, set_with}
use Rattle.segment_set.specs.Kept.{AreCanonical, Follows}
use Rattle.segment_set.specs.Losing.{HasNoEntry, IsLossless, KeepsNumbers, is_built_live}
use Rattle.segment_set.proofs.Replaced.{one_if, parted, place_in, some_place, live_placed}
use Rattle.segment_set.proofs.Weller.{place_built, total_replaced}
use Rattle.segment_set.proofs.Moved.{Moves, moved}

-- ---- entries that no segment has

-- of some of the segments
pub no_entry_among : (D : ℕ) (files : Files) (ids : List ℕ) (parts : List LiveSegment) (number : ℕ) → HasNoEntry D files (parts_among ids parts) number
    → HasNoEntry D files parts number
no_entry_among D files ids parts number h = record {
  part = h.part;
  there = (of_filter (λ (q : LiveSegment). is_among ids q.head.id) parts h.part h.there).0;
  live = h.live;
  items = h.items;
  held = h.held;
  none = h.none;
}

-- in files where those of the segments are the same
pub no_entry_alike : (D : ℕ) (f g : Files) (parts : List LiveSegment) (number : ℕ)
    → ((p : LiveSegment) → Contains parts p → g (Segment p.head.id) ≡ f (Segment p.head.id)) → HasNoEntry D f parts number → HasNoEntry D g parts number
no_entry_alike D f g parts number same h = record {
  part = h.part;
  there = h.there;
  live = h.live;
  items = h.items;
  held = subst (λ b. IsSegment D (bytes_of b) h.part.head h.items) (sym (same h.part h.there)) h.held;
  none = h.none;
}

-- a segment of now whose file has no entry of a live number is one of before
pub no_entry_before : (D : ℕ) (f g : Files) (names : NameList) (old new : List LiveSegment) (number : ℕ)
    → ((p : LiveSegment) → Contains old p → g (Segment p.head.id) ≡ f (Segment p.head.id)) → Follows names old new → AreCanonical D g names new
    → HasNoEntry D g new number → HasNoEntry D f old number
no_entry_before D f g names old new number same follows canon h = ⊎_elim
    (λ fresh. absurd (both_ways (has_entry number h.items) h.none ((canon h.part h.there fresh).found number h.live h.items h.held)))
    (λ (q, here, head, within). record {
      part = q;
      there = here;
      live = within.live number h.live;
      items = h.items;
      held = subst (λ b. IsSegment D (bytes_of b) q.head h.items) (same q here)
          (subst (λ (x : Head). IsSegment D (bytes_of (g (Segment x.id))) x h.items) head h.held);
      none = h.none;
    })
    (follows.each h.part h.there)

pub dead_of : (s : LiveSet) (number : ℕ) → s.live ≡ [] → is_live s number ≡ false
unfolding is_live
dead_of s number none = ap (λ ns. list_any (λ d. eqb d number) ns) none

-- ---- one call after another

pub lossless_then : (D : ℕ) (f g : Files) (names : NameList) (a b c : SetData)
    → ((p : LiveSegment) → Contains a.parts p → g (Segment p.head.id) ≡ f (Segment p.head.id)) → Follows names a.parts b.parts
    → AreCanonical D g names b.parts → IsLossless D f a b → IsLossless D g b c → IsLossless D f a c
lossless_then D f g names a b c same follows canon first second number live = ⊎_elim
    (λ here. ⊎_elim inl
    (λ none. inr (∥∥₁_map none (no_entry_before D f g names a.parts b.parts number same follows canon)))
    (second number here))
    inr
    (first number live)

-- where the segments and the buffer stay
pub lossless_same : (D : ℕ) (files : Files) (a b c : SetData) → c.parts ≡ b.parts → c.buffer ≡ b.buffer → IsLossless D files a b → IsLossless D files a c
lossless_same D files a b c parts buffer first number live = ⊎_elim
    (λ here. inl (ap (λ (ps : List LiveSegment). cond (has_live number ps) true (has_entry number c.buffer)) parts
    ∙ ap (λ (es : List Item). cond (has_live number b.parts) true (has_entry number es)) buffer ∙ here))
    inr
    (first number live)

both_true : (b : Bool) → cond b true true ≡ true
both_true true = refl
both_true false = refl

-- a document that came takes none away
pub live_with : (points : List (List ℤ)) (s : SetData) (number : ℕ) → is_live_in s number ≡ true → is_live_in (set_with points s) number ≡ true
live_with points s number live = by (has_live number s.parts) refl
  where
    mine : List Item
    mine = entries_of (record { number = s.next; points = points })

    more : has_entry number s.buffer ≡ true → has_entry number (s.buffer ++ mine) ≡ true
    more there = list_any-append (λ x. eqb x.doc number) s.buffer mine ∙ ap (λ b. b || has_entry number mine) there

    by : (b : Bool) → has_live number s.parts ≡ b → cond (has_live number s.parts) true (has_entry number (s.buffer ++ mine)) ≡ true
    by true e = ap (λ b. cond b true (has_entry number (s.buffer ++ mine))) e
    by false e =
        ap (λ b. cond b true (has_entry number (s.buffer ++ mine))) e
        ∙ more (sym (ap (λ b. cond b true (has_entry number s.buffer)) e) ∙ live)

-- ---- what was built took the place of segments

none_place : (number : ℕ) (parts : List LiveSegment) → has_live number parts ≡ false → sum_by (place_in number) parts ≡ 0
none_place number parts dead = by (sum_by (place_in number) parts) refl
  where
    by : (n : ℕ) → sum_by (place_in number) parts ≡ n → n ≡ 0
    by zero e = refl
    by (suc n) e = absurd (both_ways (has_live number parts) dead (live_placed number parts (omega (arith, e))))

one_built : (number : ℕ) (built : Option NewSegmentData) → is_built_live number built ≡ true → 1 ≤ place_built number built
one_built number None live = cc
one_built number (Some n) live = omega (arith, ap one_if live)

module _ (D : ℕ) (told : Type 0) (files new_files : Files) (s : SetData) (names : NameList) (ids : List ℕ) (parts : List LiveSegment) (left : List Item)
    (m : Moves D told files new_files s names ids parts left) where
  built_here : (number : ℕ) → is_built_live number m.built ≡ true → has_live number parts ≡ true
  built_here number live =
      live_placed number parts (omega (
        arith,
        total_replaced D told s.names names new_files ids s.parts parts number m.built m.replaces,
        parted (place_in number) ids s.parts,
        one_built number m.built live,
      ))

  stays_here : (number : ℕ) → has_live number s.parts ≡ true → has_live number (parts_among ids s.parts) ≡ false → has_live number parts ≡ true
  stays_here number live apart =
      live_placed number parts (omega (
        arith,
        total_replaced D told s.names names new_files ids s.parts parts number m.built m.replaces,
        none_place number (parts_among ids s.parts) apart,
        some_place number s.parts live,
      ))

  pub lossless_moved : (begun : Option BegunMerge) (cache : PageCache) → KeepsNumbers D files (parts_among ids s.parts) m.built
      → ((number : ℕ) → has_entry number s.buffer ≡ true → (is_built_live number m.built ≡ true) ⊎ (has_entry number left ≡ true))
      → IsLossless D files s (moved s names parts left begun cache)
  lossless_moved begun cache keeps waiting number live = by (has_live number s.parts) refl
    where
      now : Type 0
      now = (cond (has_live number parts) true (has_entry number left) ≡ true) ⊎ ∥ HasNoEntry D files s.parts number ∥₁

      here : has_live number parts ≡ true → now
      here h = inl (ap (λ b. cond b true (has_entry number left)) h)

      among : (b : Bool) → has_live number (parts_among ids s.parts) ≡ b → has_live number s.parts ≡ true → now
      among true e there = ⊎_elim (λ built. here (built_here number built)) (λ none. inr (∥∥₁_map none (no_entry_among D files ids s.parts number)))
          (keeps number e)
      among false e there = here (stays_here number there e)

      by : (b : Bool) → has_live number s.parts ≡ b → now
      by true e = among (has_live number (parts_among ids s.parts)) refl e
      by false e = ⊎_elim (λ built. here (built_here number built))
          (λ stays. inl (ap (cond (has_live number parts) true) stays ∙ both_true (has_live number parts)))
          (waiting number (sym (ap (λ b. cond b true (has_entry number s.buffer)) e) ∙ live))
