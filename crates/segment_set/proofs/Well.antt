-- What every set keeps to, after each change.
use Rattle.std.proofs.Common.{◌≡◌, ℕ, ◌+◌, ◌≤◌, Bool, true, false, not, ◌&&◌, ◌||◌, eqb, cond, List}
use Rattle.std.proofs.Common.{[], ◌∷◌, length, Option, Some, None, refl, sym, ap, subst, ◌∙◌, arith}
use Rattle.std.specs.List.{All, filter}
use Rattle.std.proofs.lemmas.Bool.{eqb-true}
use Rattle.std.proofs.lemmas.List.{length-map}
use Rattle.std.proofs.lemmas.List.Elements.{All-map, All-weaker}
use Rattle.std.proofs.lemmas.List.Kept.{IsNonDecreasingBy-filter}
use Rattle.std.proofs.Math.Logic.{∥∥₁_elim, ∥∥₁_prop}
use Rattle.std.proofs.lemmas.Grind.{merely}
use Rattle.std.proofs.lemmas.List.Sums.{count_by-le-length, length-filter, sum_by-cons}
use Rattle.outer_io.specs.declared.file_name.FileName.TheVariants.{Segment}
use Rattle.point_codec.specs.Points.{Item}
use Rattle.live_bits.specs.LiveSet.{LiveSet, is_live, live_set_without}
use Rattle.live_bits.proofs.LiveNumbers.{is_live-without}
use Rattle.documents.specs.Entries.{entries_but, has_entry, is_among}
use Rattle.page_cache.specs.declared.cache.PageCache.{PageCache}
use Rattle.page_cache.specs.Cache.{KeepsFile}
use Rattle.stored_index.specs.Segments.{places}
use Rattle.segment_view.specs.LiveSegments.{LiveSegment, cleared_parts, ids_of, lives_of, parts_among, has_live as is_live_in_parts}
use Rattle.segment_view.proofs.Living.{any_cleared, ids_cleared}
use Rattle.segment_build.specs.NewSegments.{NewSegmentData}
use Rattle.file_names.specs.Names.{is_named}
use Rattle.segment_set.specs.Sets.{BegunMerge, IsBuiltOf, IsNamed, IsSpread, IsWell, SetData, begun_but, built_but, built_of, inputs_of, is_live_in, set_but}
use Rattle.segment_set.proofs.Counted.{few_filter, none_twice_filter}
use Rattle.segment_view.specs.Unhidden.{HidesNoneOf}
use Rattle.segment_set.proofs.Unhidden.{hides_fewer}

-- ---- entries of numbers that are kept

pub has_filtered : (keeps : ℕ → Bool) (m : ℕ) (xs : List Item) → has_entry m (filter (λ (x : Item). keeps x.doc) xs) ≡ (has_entry m xs && keeps m)
has_filtered keeps m [] = refl
has_filtered keeps m (x ∷ xs) = by (keeps x.doc) refl (eqb x.doc m) refl (has_filtered keeps m xs)
  where
    and_false : (b : Bool) → (b && false) ≡ false
    and_false true = refl
    and_false false = refl

    by : (k : Bool) → keeps x.doc ≡ k → (e : Bool) → eqb x.doc m ≡ e → has_entry m (filter (λ (y : Item). keeps y.doc) xs) ≡ (has_entry m xs && keeps m)
        → has_entry m (cond k (x ∷ filter (λ (y : Item). keeps y.doc) xs) (filter (λ (y : Item). keeps y.doc) xs))
        ≡ ((eqb x.doc m || has_entry m xs) && keeps m)
    by true k true e rest = ap (λ b. b || has_entry m (filter (λ (y : Item). keeps y.doc) xs)) e
        ∙ sym (ap (λ b. (b || has_entry m xs) && keeps m) e ∙ sym (ap keeps (eqb-true x.doc m e)) ∙ k)
    by true k false e rest = ap (λ b. b || has_entry m (filter (λ (y : Item). keeps y.doc) xs)) e ∙ rest ∙ ap (λ b. (b || has_entry m xs) && keeps m) (sym e)
    by false k true e rest =
        let dead : keeps m ≡ false = sym (ap keeps (eqb-true x.doc m e)) ∙ k in
        rest ∙ ap (λ b. has_entry m xs && b) dead ∙ and_false (has_entry m xs) ∙ sym (and_false (eqb x.doc m || has_entry m xs))
        ∙ ap (λ b. (eqb x.doc m || has_entry m xs) && b) (sym dead)
    by false k false e rest = rest ∙ ap (λ b. (b || has_entry m xs) && keeps m) (sym e)

pub left_of : (a b : Bool) → (a && b) ≡ true → a ≡ true
left_of true b e = refl
left_of false b e = e

-- the numbers of fewer entries are fewer
cond_le : (a b : Bool) → (a ≡ true → b ≡ true) → cond a 1 0 ≤ cond b 1 0
cond_le true b h = subst (λ c. 1 ≤ cond c 1 0) (sym (h refl)) (omega arith)
cond_le false b h = omega arith

-- ---- numbers that are live

pub places_cons : (m : ℕ) (s : LiveSet) (ss : List LiveSet) → places m (s ∷ ss) ≡ cond (is_live s m) 1 0 + places m ss
places_cons m s ss = sum_by-cons (λ (t : LiveSet). cond (is_live t m) 1 0) s ss

pub fewer_places : (number m : ℕ) (parts : List LiveSegment) → places m (lives_of (cleared_parts number parts)) ≤ places m (lives_of parts)
fewer_places number m [] = omega arith
fewer_places number m (p ∷ ps) =
    let one = cond_le (is_live (live_set_without number p.live) m) (is_live p.live m)
    (λ e. left_of (is_live p.live m) (not (eqb m number)) (sym (is_live-without p.live number m) ∙ e)) in
    omega (
      arith,
      one,
      places_cons m (live_set_without number p.live) (lives_of (cleared_parts number ps)),
      places_cons m p.live (lives_of ps),
      fewer_places number
          m ps,
    )

-- the number is live exactly where it was and is another one
pub live_but : (number m : ℕ) (s : SetData) → is_live_in (set_but number s) m ≡ (is_live_in s m && not (eqb m number))
live_but number m s = ap (λ b. cond b true (has_entry m (entries_but number s.buffer))) (any_cleared number m s.parts)
    ∙ ap (λ b. cond (is_live_in_parts m s.parts && not (eqb m number)) true b) (has_filtered (λ n. not (eqb n number)) m s.buffer)
    ∙ both (is_live_in_parts m s.parts) (has_entry m s.buffer) (not (eqb m number))
  where
    both : (a b k : Bool) → cond (a && k) true (b && k) ≡ (cond a true b && k)
    both true true true = refl
    both true true false = refl
    both true false true = refl
    both true false false = refl
    both false b k = refl

pub spread_fewer : (next : ℕ) (parts others : List LiveSegment) (buffer rest : List Item) → ((m : ℕ) → places m (lives_of others) ≤ places m (lives_of parts))
    → ((m : ℕ) → has_entry m rest ≡ true → has_entry m buffer ≡ true) → IsSpread next parts buffer → IsSpread next others rest
spread_fewer next parts others buffer rest fewer kept spread = record {
  alone = λ m. let one = cond_le (has_entry m rest) (has_entry m buffer) (kept m) in omega (arith, one, fewer m, spread.alone m);
  below = λ m le. (let none = (spread.below m le).0 in omega (arith, none, fewer m), by m le (has_entry m rest) refl);
}
  where
    by : (m : ℕ) → next ≤ m → (b : Bool) → has_entry m rest ≡ b → b ≡ false
    by m le true e = sym (kept m e) ∙ (spread.below m le).1
    by m le false e = refl

-- ---- a document taken out

length_but : (number : ℕ) (s : LiveSet) → length (live_set_without number s).live ≤ length s.live
length_but number s = omega (arith, length-filter (λ n. not (eqb n number)) s.live, count_by-le-length (λ n. not (eqb n number)) s.live)

pub among_cleared : (number : ℕ) (ids : List ℕ) (parts : List LiveSegment)
    → parts_among ids (cleared_parts number parts) ≡ cleared_parts number (parts_among ids parts)
among_cleared number ids [] = refl
among_cleared number ids (p ∷ ps) = by (is_among ids p.head.id) (among_cleared number ids ps)
  where
    by : (b : Bool) → parts_among ids (cleared_parts number ps) ≡ cleared_parts number (parts_among ids ps)
        → cond b (record p { live = live_set_without number p.live } ∷ parts_among ids (cleared_parts number ps)) (parts_among ids (cleared_parts number ps))
        ≡ cleared_parts number (cond b (p ∷ parts_among ids ps) (parts_among ids ps))
    by true rest = ap (λ (qs : List LiveSegment). record p { live = live_set_without number p.live } ∷ qs) rest
    by false rest = rest

inputs_but : (number : ℕ) (begun : Option BegunMerge) → inputs_of (begun_but number begun) ≡ inputs_of begun
inputs_but number None = refl
inputs_but number (Some b) = refl

-- what is built without a number is what was built, without it
built_back : (number : ℕ) (begun : Option BegunMerge) (n : NewSegmentData) → built_of (begun_but number begun) ≡ Some n
    → (old : NewSegmentData) × (built_of begun ≡ Some old) × (n ≡ record old { live = live_set_without number old.live })
built_back number None n is = cc
built_back number (Some b) n is = by b.built refl is
  where
    by : (o : Option NewSegmentData) → b.built ≡ o → built_but number o ≡ Some n
        → (old : NewSegmentData) × (b.built ≡ Some old) × (n ≡ record old { live = live_set_without number old.live })
    by None e h = cc
    by (Some old) e h = (old, e, cc)

built_of_but : (D leaf_size number : ℕ) (inputs : List LiveSegment) (n : NewSegmentData) → IsBuiltOf D leaf_size inputs n
    → IsBuiltOf D leaf_size (cleared_parts number inputs) (record n { live = live_set_without number n.live })
built_of_but D leaf_size number inputs n is = record {
  leaf_size = is.leaf_size;
  has = ∥∥₁_elim is.has ∥∥₁_prop
      (λ some. merely
      (record {
        items = some.items;
        has = record { built = some.has.built; counted = some.has.counted; fits = some.has.fits };
        uncrowded = some.uncrowded;
        found = λ m live. some.found m (left_of (is_live n.live m) (not (eqb m number)) (sym (is_live-without n.live number m) ∙ live));
      }));
  fits = omega (arith, is.fits, length_but number n.live);
  within = λ m live.
      let both = sym (is_live-without n.live number m) ∙ live in
      any_cleared number m inputs ∙ ap (λ b. b && not (eqb m number)) (is.within m (left_of (is_live n.live m) (not (eqb m number)) both))
      ∙ right_of (is_live n.live m) (not (eqb m number)) both;
}
  where
    right_of : (a b : Bool) → (a && b) ≡ true → b ≡ true
    right_of true b e = e
    right_of false true e = refl
    right_of false false e = e

pub well_but : (D number : ℕ) (s : SetData) → IsWell D s → IsWell D (set_but number s)
well_but D number s well = record {
  some_dims = well.some_dims;
  few_dims = well.few_dims;
  least_leaf = well.least_leaf;
  greatest_leaf = well.greatest_leaf;
  numbered = well.numbered;
  most_given = well.most_given;
  spread = spread_fewer s.next s.parts (cleared_parts number s.parts) s.buffer (entries_but number s.buffer) (λ m. fewer_places number m s.parts)
      (λ m e. left_of (has_entry m s.buffer) (not (eqb m number)) (sym (has_filtered (λ n. not (eqb n number)) m s.buffer) ∙ e)) well.spread;
  room = omega (
    arith,
    well.room,
    length-filter (λ (x : Item). not (eqb x.doc number)) s.buffer,
    count_by-le-length (λ (x : Item). not (eqb x.doc number)) s.buffer,
  );
  ordered = IsNonDecreasingBy-filter (λ (x : Item). x.doc) (λ (x : Item). not (eqb x.doc number)) s.buffer well.ordered;
  once = none_twice_filter (λ (x : Item). not (eqb x.doc number)) s.buffer well.once;
  sixteen = few_filter (λ (x : Item). not (eqb x.doc number)) s.buffer well.sixteen;
  few = omega (arith, well.few, length-map s.parts clear);
  leaf_size = All-map (λ (p : LiveSegment). p.head.leaf_size ≡ s.leaf_size) clear s.parts well.leaf_size;
  live_fits = All-map (λ (p : LiveSegment). length p.live.live ≤ p.head.entries) clear s.parts
      (All-weaker (λ (p : LiveSegment). length p.live.live ≤ p.head.entries)
      (λ (p : LiveSegment). length (live_set_without number p.live).live ≤ p.head.entries)
      (λ p h. omega (arith, h, length_but number p.live)) s.parts well.live_fits);
  named = All-map (IsNamed s.names) clear s.parts well.named;
  kept = well.kept;
  own = well.own;
  few_snapshots = well.few_snapshots;
  rooms = well.rooms;
  inputs = subst (λ (ns : List ℕ). All (λ id. is_among (ids_of (cleared_parts number s.parts)) id ≡ true) ns) (sym (inputs_but number s.begun))
      (subst (λ (ids : List ℕ). All (λ id. is_among ids id ≡ true) (inputs_of s.begun)) (sym (ids_cleared number s.parts)) well.inputs);
  few_inputs = subst (λ (ns : List ℕ). length ns ≤ 64) (sym (inputs_but number s.begun)) well.few_inputs;
  built = λ n is.
      let old = built_back number s.begun n is in
      subst (λ (ns : List ℕ). IsBuiltOf D s.leaf_size (parts_among ns (cleared_parts number s.parts)) n) (sym (inputs_but number s.begun))
      (subst (λ (ps : List LiveSegment). IsBuiltOf D s.leaf_size ps n) (sym (among_cleared number (inputs_of s.begun) s.parts))
      (subst (IsBuiltOf D s.leaf_size (cleared_parts number (parts_among (inputs_of s.begun) s.parts))) (sym old.2)
      (built_of_but D s.leaf_size number (parts_among (inputs_of s.begun) s.parts) old.0 (well.built old.0 old.1))));
  cached = well.cached;
  unhidden = All-map (HidesNoneOf D s.cache) clear s.parts
      (All-weaker (HidesNoneOf D s.cache) (λ (p : LiveSegment). HidesNoneOf D s.cache (clear p))
      (λ p h. hides_fewer D s.cache p.head.id (live_set_without number p.live) p.live
      (λ m live. left_of (is_live p.live m) (not (eqb m number)) (sym (is_live-without p.live number m) ∙ live)) h) s.parts well.unhidden);
}
  where
    clear : LiveSegment → LiveSegment
    clear p = record p { live = live_set_without number p.live }

-- ---- another cache

pub well_cache : (D : ℕ) (s : SetData) (cache : PageCache) → IsWell D s → ((id : ℕ) → KeepsFile cache id → is_named s.names.names (Segment id) ≡ true)
    → All (HidesNoneOf D cache) s.parts → IsWell D (record s { cache = cache })
well_cache D s cache well cached unhidden = record {
  some_dims = well.some_dims;
  few_dims = well.few_dims;
  least_leaf = well.least_leaf;
  greatest_leaf = well.greatest_leaf;
  numbered = well.numbered;
  most_given = well.most_given;
  spread = well.spread;
  room = well.room;
  ordered = well.ordered;
  once = well.once;
  sixteen = well.sixteen;
  few = well.few;
  leaf_size = well.leaf_size;
  live_fits = well.live_fits;
  named = well.named;
  kept = well.kept;
  own = well.own;
  few_snapshots = well.few_snapshots;
  rooms = well.rooms;
  inputs = well.inputs;
  few_inputs = well.few_inputs;
  built = well.built;
  cached = cached;
  unhidden = unhidden;
}
