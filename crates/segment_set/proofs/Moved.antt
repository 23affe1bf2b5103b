-- A set in which what was built took the place of some segments: what every set keeps to, and how it is seen.
use Rattle.std.proofs.Common.{◌≡◌, ℕ, ◌+◌, ◌≤◌, Bool, true, false, not, cond, List, ◌++◌, length}
use Rattle.std.proofs.Common.{Option, None, Some, is_some, refl, sym, ap, subst, ◌∙◌, inl, inr, arith}
use Rattle.std.proofs.Math.Logic.{∥∥₁_elim, ∥∥₁_prop}
use Rattle.std.proofs.lemmas.Grind.{merely}
use Rattle.std.proofs.Props.{props}
use Rattle.std.specs.List.{All, sum_by}
use Rattle.std.specs.List.Sorted.{IsNonDecreasingBy}
use Rattle.std.proofs.lemmas.Bool.{cases_Bool}
use Rattle.std.proofs.lemmas.List.Elements.{All-contains, All-weaker}
use Rattle.std.proofs.lemmas.List.Sums.{sum_by-append}
use Rattle.outer_io.specs.declared.file_name.FileName.TheVariants.{Segment}
use Rattle.outer_io.specs.Files.{Files, bytes_of}
use Rattle.point_codec.specs.Points.{Item}
use Rattle.leaf_codec.specs.LeafOrder.{NoneTwice}
use Rattle.documents.specs.Entries.{SameTotals, has_entry, is_among}
use Rattle.documents.proofs.Kept.{among_to}
use Rattle.page_cache.specs.declared.cache.PageCache.{PageCache}
use Rattle.page_cache.specs.Cache.{Agrees, KeepsFile}
use Rattle.page_cache.proofs.Agreement.{agrees_other}
use Rattle.index_model.specs.State.{Index}
use Rattle.segment_view.specs.LiveSegments.{LiveSegment, Contents, has_live, ids_of, live_in_parts, parts_among, parts_but}
use Rattle.document_checks.specs.Crowded.{AreFew}
use Rattle.segment_build.specs.NewSegments.{NewSegmentData, HasEntries, IsCanonical}
use Rattle.file_names.specs.Names.{NameList, is_named}
use Rattle.segment_set.specs.Sets.{BegunMerge, SetData, IsBuiltOf, IsNamed, IsWell, IsWellTo, built_of, inputs_of, is_live_in}
use Rattle.segment_set.specs.Seen.{BegunStands, MergesInto, Sees}
use Rattle.segment_set.specs.Kept.{KeepsNamed, StaysAlone, Follows, AreCanonical}
use Rattle.segment_set.specs.Merges.{MakesLive, IsMade, part_at, Replaces}
use Rattle.segment_set.proofs.Standing.{IsAlike, alike_begun, alike_kept_views, ids_named, sees_moved}
use Rattle.segment_set.proofs.OneList.{entries_once}
use Rattle.segment_set.proofs.Carried.{canon_filter, canon_named, canon_placed, follows_filter, follows_placed}
use Rattle.segment_set.proofs.Replaced.{one_if, place_in, some_place, live_placed}
use Rattle.segment_set.proofs.Grown.{Grown, grown}
use Rattle.segment_set.proofs.Weller.{place_built, all_replaced, total_replaced, among_replaced, spread_replaced}
use Rattle.page_cache.specs.Cache.{MarksGo}
use Rattle.segment_set.proofs.Unhidden.{unhidden_follow}

-- the set with other names, segments, buffer, begun merge and cache
abbrev pub moved : SetData → NameList → List LiveSegment → List Item → Option BegunMerge → PageCache → SetData
moved s names parts buffer begun cache = record s { names = names; parts = parts; buffer = buffer; begun = begun; cache = cache }

-- Names were added and files written, and what was built took the place of the segments of these ids. No number has more places than before,
-- where some of the buffer's entries are left.
pub record Moves (D : ℕ) (told : Type 0) (files new_files : Files) (s : SetData) (names : NameList) (ids : List ℕ) (parts : List LiveSegment)
    (left : List Item) : Type 0 where
  pub kept : KeepsNamed told s.names names files new_files
  pub built : Option NewSegmentData
  pub replaces : Replaces D told s.names names new_files ids built s.parts parts
  pub made : (n : NewSegmentData) → built ≡ Some n → IsMade D s.leaf_size n
  pub fewer : (number : ℕ)
      → place_built number built + one_if (has_entry number left) ≤ sum_by (place_in number) (parts_among ids s.parts) + one_if (has_entry number s.buffer)

module _ (D : ℕ) (told : Type 0) (files new_files : Files) (s : SetData) (names : NameList) (ids : List ℕ) (parts : List LiveSegment) (left : List Item)
    (m : Moves D told files new_files s names ids parts left) where
  -- ---- the set alone

  -- of these ids none is an input of the begun merge, whose inputs stay then
  pub inputs_stay : {most : ℕ} → IsWellTo most D s → ((id : ℕ) → is_among ids id ≡ true → is_among (inputs_of s.begun) id ≡ false)
      → parts_among (inputs_of s.begun) parts ≡ parts_among (inputs_of s.begun) s.parts
  inputs_stay well apart =
      among_replaced D told s.names names new_files ids s.parts parts (inputs_of s.begun) m.built m.replaces apart (λ id among. named id among)
    where
      named : (id : ℕ) → is_among (inputs_of s.begun) id ≡ true → is_named s.names.names (Segment id) ≡ true
      named id among = ids_named s.names s.parts well.named id
          (among_to (ids_of s.parts) id
          (All-contains (λ n. is_among (ids_of s.parts) n ≡ true) (inputs_of s.begun) id well.inputs (among_to (inputs_of s.begun) id among)))

  pub follows_moved : Follows s.names s.parts parts
  follows_moved = by m.built m.replaces
    where
      by : (built : Option NewSegmentData) → Replaces D told s.names names new_files ids built s.parts parts → Follows s.names s.parts parts
      by None r = subst (Follows s.names s.parts) (sym r) (follows_filter s.names (λ p. not (is_among ids p.head.id)) s.parts)
      by (Some n) r =
          follows_placed s.names (part_at r.id n) s.parts (parts_but ids s.parts) parts r.placed r.fresh
          (follows_filter s.names (λ p. not (is_among ids p.head.id)) s.parts)

  pub well_moved : {most : ℕ} → IsWellTo most D s → (begun : Option BegunMerge) (cache : PageCache) → length parts ≤ 200 → length left ≤ 16384
      → IsNonDecreasingBy (λ x. x.doc) left
      → NoneTwice left → AreFew left
      → All (λ id. is_among (ids_of parts) id ≡ true) (inputs_of begun) → length (inputs_of begun) ≤ 64
      → ((n : NewSegmentData) → built_of begun ≡ Some n → IsBuiltOf D s.leaf_size (parts_among (inputs_of begun) parts) n)
      → ((id : ℕ) → KeepsFile cache id → is_named s.names.names (Segment id) ≡ true) → MarksGo s.cache cache
      → IsWell D (moved s names parts left begun cache)
  well_moved well begun cache few room ordered once sixteen inputs few_inputs built cached go = record {
    some_dims = well.some_dims;
    few_dims = well.few_dims;
    least_leaf = well.least_leaf;
    greatest_leaf = well.greatest_leaf;
    numbered = well.numbered;
    most_given = well.most_given;
    spread = spread_replaced D told s.names names new_files ids s.parts parts s.next m.built s.buffer left m.replaces well.spread m.fewer;
    room = room;
    ordered = ordered;
    once = once;
    sixteen = sixteen;
    few = few;
    leaf_size = all_replaced D told s.names names new_files ids s.parts parts (λ (p : LiveSegment). p.head.leaf_size ≡ s.leaf_size) m.built m.replaces
        (λ id n is named. (m.made n is).leaf_size) well.leaf_size;
    live_fits = all_replaced D told s.names names new_files ids s.parts parts (λ (p : LiveSegment). length p.live.live ≤ p.head.entries) m.built m.replaces
        (λ id n is named. (m.made n is).fits) well.live_fits;
    named = all_replaced D told s.names names new_files ids s.parts parts (IsNamed names) m.built m.replaces (λ id n is named. named)
        (All-weaker (IsNamed s.names) (IsNamed names) (λ p is. m.kept.more (Segment p.head.id) is) s.parts well.named);
    kept = λ k v lt. All-weaker (IsNamed s.names) (IsNamed names) (λ p is. m.kept.more (Segment p.head.id) is) _ (well.kept k v lt);
    own = m.kept.own ∙ well.own;
    few_snapshots = well.few_snapshots;
    rooms = well.rooms;
    inputs = inputs;
    few_inputs = few_inputs;
    built = built;
    cached = λ id keeps. m.kept.more (Segment id) (cached id keeps);
    unhidden = unhidden_follow D s.names s.parts parts s.cache cache follows_moved go cached well.unhidden;
  }

  -- no number is live that wasn't
  live_before : (number : ℕ) (begun : Option BegunMerge) (cache : PageCache) → is_live_in (moved s names parts left begun cache) number ≡ true
      → is_live_in s number ≡ true
  live_before number begun cache live =
      let total = total_replaced D told s.names names new_files ids s.parts parts number m.built m.replaces in
      live_from s.parts s.buffer (omega (arith, total, m.fewer number, places_from parts left live))
    where
      both : (b : Bool) → cond b true true ≡ true
      both true = refl
      both false = refl

      places_from : (ps : List LiveSegment) (es : List Item) → cond (has_live number ps) true (has_entry number es) ≡ true
          → 1 ≤ sum_by (place_in number) ps + one_if (has_entry number es)
      places_from ps es h = elim (cases_Bool (has_live number ps)) [
        | inl here ↦ omega (arith, some_place number ps here)
        | inr none ↦ let there : has_entry number es ≡ true = sym (ap (λ (b : Bool). cond b true (has_entry number es)) none) ∙ h in
            omega (arith, ap one_if there)
      ]

      live_from : (ps : List LiveSegment) (es : List Item) → 1 ≤ sum_by (place_in number) ps + one_if (has_entry number es)
          → cond (has_live number ps) true (has_entry number es) ≡ true
      live_from ps es h = elim (cases_Bool (has_entry number es)) [
        | inl there ↦ ap (cond (has_live number ps) true) there ∙ both (has_live number ps)
        | inr none ↦ ap (λ (b : Bool). cond b true (has_entry number es)) (live_placed number ps (omega (arith, h, ap one_if none)))
      ]

  pub stays_moved : (begun : Option BegunMerge) (cache : PageCache) → is_some begun ≡ is_some s.begun → StaysAlone s (moved s names parts left begun cache)
  stays_moved begun cache same =
      record { leaf_size = refl; next = refl; points_given = refl; snapshots = refl; begun = same; live = λ number live. live_before number begun cache live }

  -- ---- the segments

  pub canon_moved : {most : ℕ} → told → IsWellTo most D s → AreCanonical D new_files s.names parts
  canon_moved is_told well = by m.built m.replaces m.made
    where
      canonical : (id : ℕ) (n : NewSegmentData) (items : List Item) → HasEntries D items n → IsCanonical D (part_at id n).head items
      canonical id n items has =
          record { root = has.built.root; tree = has.built.tree; canon = has.built.canon; form = has.built.form; index = has.built.index }

      others : AreCanonical D new_files s.names (parts_but ids s.parts)
      others = canon_filter D new_files s.names (λ p. not (is_among ids p.head.id)) s.parts (canon_named D new_files s.names s.parts well.named)

      by : (built : Option NewSegmentData) → Replaces D told s.names names new_files ids built s.parts parts
          → ((n : NewSegmentData) → built ≡ Some n → IsMade D s.leaf_size n) → AreCanonical D new_files s.names parts
      by None r made = subst (AreCanonical D new_files s.names) (sym r) others
      by (Some n) r made =
          canon_placed D new_files s.names (part_at r.id n) (parts_but ids s.parts) parts r.placed
          (record {
            canon = ∥∥₁_elim (made n refl).has ∥∥₁_prop
                (λ some. merely (some.items, r.written is_told some.items some.has, canonical r.id n some.items some.has, some.uncrowded));
            found = λ number live items held.
                ∥∥₁_elim (made n refl).has (hlevel props)
                (λ some. subst (λ (xs : List Item). has_entry number xs ≡ true)
                (entries_once D (bytes_of (new_files (Segment r.id))) (part_at r.id n).head some.items items (r.written is_told some.items some.has) held)
                (some.found number live));
          }) others

  -- ---- how it is seen

  pub seen_moved : {most : ℕ} → told → IsWellTo most D s → (i : Index) (h : Sees D files s i) (entries : List Item) → MakesLive D entries m.built
      → SameTotals (live_in_parts h.contents (parts_among ids s.parts) ++ s.buffer) (entries ++ left)
      → (begun : Option BegunMerge) (cache : PageCache)
      → ((d : Contents) → IsAlike s.names files new_files h.contents d → BegunStands D d parts begun)
      → ((id : ℕ) → KeepsFile cache id → is_named s.names.names (Segment id) ≡ true) → Agrees files cache
      → Sees D new_files (moved s names parts left begun cache) (record i { begun = is_some begun })
  seen_moved is_told well i h entries makes same begun cache stands cached agrees =
      sees_moved D files new_files s (moved s names parts left begun cache) i g.after h well g.alike
      (record {
        now = g.now;
        kept = alike_kept_views D s.names files new_files h.contents g.after s.snapshots g.alike well.kept h.stands.kept;
        begun = stands g.after g.alike;
        agrees = agrees_other files new_files cache (λ id keeps. m.kept.files is_told (Segment id) (cached id keeps)) agrees;
      })
      (record { leaf_size = refl; next = refl; points_given = refl; snapshots = refl })
      (λ f.
      omega (
        arith,
        g.totals f,
        same f,
        sum_by-append f (live_in_parts h.contents (parts_among ids s.parts)) s.buffer,
        sum_by-append f entries left,
        sum_by-append f (live_in_parts h.contents s.parts) s.buffer,
        sum_by-append f (live_in_parts g.after parts) left,
      ))
    where
      g : Grown D files new_files s.names h.contents ids entries s.parts parts
      g = grown D told files new_files s.names names h.contents ids entries m.built s.parts parts (m.kept.files is_told) well.named h.stands.now is_told makes
          m.replaces

  -- a begun merge whose inputs stay stands
  pub begun_moved : {most : ℕ} → IsWellTo most D s → ((id : ℕ) → is_among ids id ≡ true → is_among (inputs_of s.begun) id ≡ false) → (c d : Contents)
      → IsAlike s.names files new_files c d
      → BegunStands D c s.parts s.begun → BegunStands D d parts s.begun
  begun_moved well apart c d alike stands = by s.begun refl (alike_begun D s.names files new_files c d s.parts s.begun alike well.named stands)
    where
      by : (begun : Option BegunMerge) → s.begun ≡ begun → BegunStands D d s.parts begun → BegunStands D d parts begun
      by None is h = tt
      by (Some b) is h = subst (λ (ps : List LiveSegment). MergesInto D d ps b.built)
          (sym (subst (λ (o : Option BegunMerge). parts_among (inputs_of o) parts ≡ parts_among (inputs_of o) s.parts) is (inputs_stay well apart))) h
