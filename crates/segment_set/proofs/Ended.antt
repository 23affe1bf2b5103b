-- What the end of a begun merge does to a set.
use Rattle.std.proofs.Common.{◌≡◌, ℕ, ◌≤◌, Bool, true, false, eqb, List, [], ◌∷◌, length, Option, None, Some, refl, sym, ap, subst, ◌∙◌, ◌⊎◌, inl, inr, arith}
use Rattle.std.proofs.Common.{⊎_elim}
use Rattle.std.proofs.Math.Logic.{∥∥₁_map}
use Rattle.std.specs.List.{filter, list_any, sum_by}
use Rattle.std.proofs.lemmas.Bool.{both_ways, cases_Bool}
use Rattle.std.proofs.lemmas.List.Elements.{All-nil}
use Rattle.std.proofs.lemmas.List.Sums.{sum_by-cons}
use Rattle.outer_io.specs.Files.{Files}
use Rattle.point_codec.specs.Points.{Item}
use Rattle.live_bits.specs.LiveSet.{LiveSet, is_live}
use Rattle.documents.specs.Entries.{SameTotals, is_among}
use Rattle.index_model.specs.State.{Index}
use Rattle.segment_view.specs.LiveSegments.{LiveSegment, Contents, ids_of, live_in_parts, parts_among, parts_but}
use Rattle.segment_build.specs.NewSegments.{NewSegmentData}
use Rattle.file_names.specs.Names.{NameList}
use Rattle.segment_set.specs.Sets.{BegunMerge, SetData, IsBuiltOf, IsWell, inputs_of, built_of}
use Rattle.segment_set.specs.Seen.{BegunStands, MergesInto, Sees}
use Rattle.segment_set.specs.Kept.{KeepsNamed, StaysAlone, Follows, AreCanonical}
use Rattle.segment_set.specs.Merged.{HasCome, IsEnded}
use Rattle.segment_set.specs.Losing.{IsLossless, KeepsCounts, KeepsNumbers, TakesOver, is_built_live}
use Rattle.segment_set.specs.Merges.{MakesLive, IsMade, Replaces, living, with_live, part_at}
use Rattle.segment_set.proofs.Replaced.{one_if, place_in, some_place, length_parted}
use Rattle.segment_set.proofs.Weller.{place_built, length_replaced}
use Rattle.segment_set.proofs.Moved.{Moves, moved, well_moved, stays_moved, follows_moved, canon_moved, seen_moved}
use Rattle.segment_set.proofs.Lossless.{dead_of, lossless_moved}
use Rattle.segment_set.proofs.Counts.{counts_moved, fits_inputs}
use Rattle.segment_set.proofs.Steps.{live_number}
use Rattle.segment_set.proofs.WrittenBuffer.{some_is}

-- either no number is live in what was built, or it is what is living
pub living_cases : (n : NewSegmentData) → ((n.live.live ≡ []) × (living (Some n) ≡ None)) ⊎ ((1 ≤ length n.live.live) × (living (Some n) ≡ Some n))
living_cases n = by n.live.live refl
  where
    by : (ns : List ℕ) → n.live.live ≡ ns → ((n.live.live ≡ []) × (living (Some n) ≡ None)) ⊎ ((1 ≤ length n.live.live) × (living (Some n) ≡ Some n))
    by [] is = inl (is, ap (λ (ms : List ℕ). with_live ms n) is)
    by (m ∷ ms) is = inr (subst (λ (ks : List ℕ). 1 ≤ length ks) (sym is) (omega arith), ap (λ (ks : List ℕ). with_live ks n) is)

living_is : (o : Option NewSegmentData) (n : NewSegmentData) → living o ≡ Some n → (o ≡ Some n) × (1 ≤ length n.live.live)
living_is None n h = cc
living_is (Some m) n h = elim (living_cases m) [
  | inl none ↦ let clash = none.1 in cc
  | inr some ↦
      let same : Some m ≡ Some n = sym some.1 ∙ h in
      (same, subst (λ (k : NewSegmentData). 1 ≤ length k.live.live) (some_is m n same) some.0)
]

-- a number that is live in what was built is so in what is living of it
built_living : (number : ℕ) (o : Option NewSegmentData) → is_built_live number o ≡ true → is_built_live number (living o) ≡ true
built_living number None live = live
built_living number (Some n) live = elim (living_cases n) [
  | inl none ↦ absurd (both_ways (is_live n.live number) (dead_of n.live number none.0) live)
  | inr some ↦ ap (is_built_live number) some.1 ∙ live
]

filter_none : (p : Item → Bool) (xs : List Item) → ((x : Item) → p x ≡ false) → filter p xs ≡ []
filter_none p [] none = refl
filter_none p (x ∷ xs) none = rw (none x) (filter_none p xs none)

none_live : (s : LiveSet) (items : List Item) → s.live ≡ [] → filter (λ (x : Item). is_live s x.doc) items ≡ []
unfolding is_live
none_live s items none = filter_none (λ (x : Item). is_live s x.doc) items (λ x. ap (λ (ns : List ℕ). list_any (λ d. eqb d x.doc) ns) none)

empty_from : (xs ys : List Item) → ys ≡ [] → SameTotals xs ys → xs ≡ []
empty_from [] ys none same = refl
empty_from (x ∷ xs) ys none same = absurd (omega (arith, same (λ _. 1), ap (sum_by (λ (y : Item). 1)) none, sum_by-cons (λ (y : Item). 1) x xs))

-- what is living has the live entries of the inputs
pub living_makes : (D : ℕ) (c : Contents) (inputs : List LiveSegment) (o : Option NewSegmentData) → MergesInto D c inputs o
    → MakesLive D (live_in_parts c inputs) (living o)
living_makes D c inputs None h = h
living_makes D c inputs (Some n) h = elim (living_cases n) [
  | inl none ↦
      subst (MakesLive D (live_in_parts c inputs)) (sym none.1)
      (empty_from (live_in_parts c inputs) (filter (λ (x : Item). is_live n.live x.doc) h.items) (none_live n.live h.items none.0) h.same)
  | inr some ↦ subst (MakesLive D (live_in_parts c inputs)) (sym some.1) (record { items = h.items; has = h.has; found = h.found; same = h.same })
]

module _ (D : ℕ) (told : Type 0) (files new_files : Files) {s : SetData} (names : NameList) (parts : List LiveSegment)
    (kept : KeepsNamed told s.names names files new_files) (b : BegunMerge) (begun : s.begun ≡ Some b)
    (replaces : Replaces D told s.names names new_files b.inputs (living b.built) s.parts parts) (well : IsWell D s) where
  inputs_are : inputs_of s.begun ≡ b.inputs
  inputs_are = ap inputs_of begun

  built_is : (n : NewSegmentData) → living b.built ≡ Some n → IsBuiltOf D s.leaf_size (parts_among b.inputs s.parts) n × (1 ≤ length n.live.live)
  built_is n is =
      let living = living_is b.built n is in
      (subst (λ (ids : List ℕ). IsBuiltOf D s.leaf_size (parts_among ids s.parts) n) inputs_are (well.built n (ap built_of begun ∙ living.0)), living.1)

  is_made : (n : NewSegmentData) → living b.built ≡ Some n → IsMade D s.leaf_size n
  is_made n is = let of = built_is n is in record { leaf_size = of.0.leaf_size; has = of.0.has; fits = of.0.fits; some = of.1 }

  fewer_living : (o : Option NewSegmentData) (number : ℕ)
      → ((n : NewSegmentData) → o ≡ Some n → IsBuiltOf D s.leaf_size (parts_among b.inputs s.parts) n × (1 ≤ length n.live.live))
      → place_built number o ≤ sum_by (place_in number) (parts_among b.inputs s.parts)
  fewer_living None number of = omega arith
  fewer_living (Some n) number of = elim (cases_Bool (is_live n.live number)) [
    | inl here ↦ omega (arith, ap one_if here, some_place number (parts_among b.inputs s.parts) ((of n refl).0.within number here))
    | inr dead ↦ omega (arith, ap one_if dead)
  ]

  end_moves : Moves D told files new_files s names b.inputs parts s.buffer
  end_moves = record {
    kept = kept;
    built = living b.built;
    replaces = replaces;
    made = is_made;
    fewer = λ number. omega (arith, fewer_living (living b.built) number built_is);
  }

  few_parts : (o : Option NewSegmentData) → Replaces D told s.names names new_files b.inputs o s.parts parts
      → ((n : NewSegmentData) → o ≡ Some n → IsBuiltOf D s.leaf_size (parts_among b.inputs s.parts) n × (1 ≤ length n.live.live))
      → length parts ≤ length s.parts
  few_parts None r of = let same : length parts ≡ length (parts_but b.inputs s.parts) = ap length r in omega (arith, length_parted b.inputs s.parts)
  few_parts (Some n) r of =
      let live =
      live_number D s.leaf_size n (record { leaf_size = (of n refl).0.leaf_size; has = (of n refl).0.has; fits = (of n refl).0.fits; some = (of n refl).1 }) in
      omega (
        arith,
        some (place_in live.0) (parts_among b.inputs s.parts) (some_place live.0 (parts_among b.inputs s.parts) ((of n refl).0.within live.0 live.1)),
        length_replaced D told s.names names new_files b.inputs s.parts parts (Some n) r,
      )
    where
      some : (g : LiveSegment → ℕ) (ps : List LiveSegment) → 1 ≤ sum_by g ps → 1 ≤ length ps
      some g [] h = absurd (omega (arith, h))
      some g (p ∷ ps) h = omega arith

  pub end_well : IsWell D (moved s names parts s.buffer None s.cache)
  end_well =
      well_moved D told files new_files s names b.inputs parts s.buffer end_moves well None s.cache
      (omega (arith, well.few, few_parts (living b.built) replaces built_is)) well.room well.ordered well.once well.sixteen
      (All-nil (λ (id : ℕ). is_among (ids_of parts) id ≡ true)) (omega arith) (λ n is. cc) well.cached
      (λ i n offset len page known. known)

  -- all stays as it was but the flag that a merge is begun
  pub end_stays : StaysAlone s (moved s names parts s.buffer s.begun s.cache)
  end_stays = stays_moved D told files new_files s names b.inputs parts s.buffer end_moves s.begun s.cache refl

  pub end_follows : Follows s.names s.parts parts
  end_follows = follows_moved D told files new_files s names b.inputs parts s.buffer end_moves

  pub end_canon : told → AreCanonical D new_files s.names parts
  end_canon is_told = canon_moved D told files new_files s names b.inputs parts s.buffer end_moves is_told well

  -- what was built keeps the numbers of its inputs, and so no document is lost
  pub end_loses : KeepsNumbers D files (parts_among b.inputs s.parts) b.built → IsLossless D files s (moved s names parts s.buffer None s.cache)
  unfolding end_moves
  end_loses keeps = lossless_moved D told files new_files s names b.inputs parts s.buffer end_moves None s.cache
      (λ number live. ⊎_elim (λ here. inl (built_living number b.built here)) inr (keeps number live)) (λ number there. inr there)

  -- nor does any entry come from nowhere
  pub end_counts : told → TakesOver D files (parts_among b.inputs s.parts) b.built
      → KeepsCounts D files new_files s (moved s names parts s.buffer None s.cache)
  unfolding end_moves
  end_counts is_told takes =
      counts_moved D told files new_files s names b.inputs parts s.buffer end_moves is_told well None s.cache (λ none. omega arith)
      (λ n is. ∥∥₁_map (takes.entries n (living_is b.built n is).0) (fits_inputs D files (parts_among b.inputs s.parts) s.buffer n))

  pub end_seen : told → (i : Index) → Sees D files s i → Sees D new_files (moved s names parts s.buffer None s.cache) (record i { begun = false })
  unfolding end_moves
  end_seen is_told i h =
      seen_moved D told files new_files s names b.inputs parts s.buffer end_moves is_told well i h (live_in_parts h.contents (parts_among b.inputs s.parts))
      (living_makes D h.contents (parts_among b.inputs s.parts) b.built (subst (BegunStands D h.contents s.parts) begun h.stands.begun))
      (λ f. refl) None s.cache (λ d alike. tt) well.cached h.stands.agrees

  -- the built segment came, unless nothing of it is live
  pub end_parts : IsEnded b s.parts parts
  end_parts = by b.built replaces
    where
      by : (o : Option NewSegmentData) → Replaces D told s.names names new_files b.inputs (living o) s.parts parts
          → HasCome o (parts_but b.inputs s.parts) parts
      by None r = r
      by (Some n) r = elim (living_cases n) [
        | inl none ↦ inl (none.0, subst (λ (o : Option NewSegmentData). Replaces D told s.names names new_files b.inputs o s.parts parts) none.1 r)
        | inr some ↦
            let put = subst (λ (o : Option NewSegmentData). Replaces D told s.names names new_files b.inputs o s.parts parts) some.1 r in
            inr (λ none. omega (arith, some.0, ap length none), (part_at put.id n, (refl, refl), put.placed))
      ]

-- a segment that has a live number is what is living of it
pub living_whole : (o : Option NewSegmentData) → ((n : NewSegmentData) → o ≡ Some n → 1 ≤ length n.live.live) → living o ≡ o
living_whole None some = refl
living_whole (Some n) some = elim (living_cases n) [
  | inl none ↦ let long = some n refl in let empty : length n.live.live ≡ 0 = ap length none.0 in absurd (omega arith)
  | inr is ↦ is.1
]
