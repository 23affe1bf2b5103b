-- What one merge, one flush and the end of a merge do to a set.
use Rattle.std.proofs.Common.{◌≡◌, ℕ, ◌≤◌, true, false, List, [], ◌∷◌, length, Option, None, Some}
use Rattle.std.proofs.Common.{Result, Ok, Err, is_some, refl, sym, ap, subst, ◌∙◌, ◌⊎◌, inl, inr, arith}
use Rattle.std.proofs.Math.Logic.{∥∥₁_map}
use Rattle.std.specs.List.{All, Contains, sum_by}
use Rattle.std.specs.Result.{OnOk, OnErr}
use Rattle.std.proofs.lemmas.Bool.{cases_Bool}
use Rattle.outer_io.specs.declared.file_name.FileName.TheVariants.{Segment}
use Rattle.outer_io.specs.Files.{Files}
use Rattle.live_bits.specs.LiveSet.{is_live}
use Rattle.documents.specs.Entries.{is_among}
use Rattle.documents.proofs.Kept.{among_from}
use Rattle.documents.proofs.Lists.{cons_head}
use Rattle.page_cache.specs.declared.cache.PageCache.{PageCache}
use Rattle.page_cache.specs.Cache.{Agrees, KeepsFile}
use Rattle.index_model.specs.State.{Index}
use Rattle.segment_view.specs.LiveSegments.{LiveSegment, Contents, AreRead, has_live, ids_of, live_in_parts, parts_among, parts_but}
use Rattle.segment_build.specs.NewSegments.{NewSegmentData}
use Rattle.file_names.specs.Names.{NameList, is_named}
use Rattle.segment_set.specs.Sets.{SetData, IsBuiltOf, IsNamed, IsWell, inputs_of}
use Rattle.segment_set.specs.Seen.{Sees}
use Rattle.segment_set.specs.Kept.{KeepsNamed, StaysAlone, Follows, AreCanonical}
use Rattle.segment_set.specs.Losing.{IsLossless, KeepsCounts, TakesOver}
use Rattle.segment_set.specs.Faithful.{HasFileHead}
use Rattle.segment_set.specs.Merges.{MakesLive, IsMade, IsGathered, IsMerged, Replaces}
use Rattle.segment_set.proofs.Standing.{ids_named, sees_same}
use Rattle.segment_set.proofs.Replaced.{one_if, place_in, some_place, length_parted, all_among, ids_stay}
use Rattle.segment_set.proofs.Weller.{place_built, length_replaced}
use Rattle.segment_set.proofs.Moved.{Moves, moved, inputs_stay, well_moved, stays_moved, follows_moved, canon_moved, seen_moved, begun_moved}
use Rattle.segment_set.proofs.Lossless.{lossless_moved}
use Rattle.segment_set.proofs.Counts.{counts_moved, fits_inputs}
use Rattle.page_cache.specs.Cache.{MarksGo}

pub ok_or_err : {T E P Q : Type 0} (r : Result T E) → OnOk r P → OnErr r Q → P ⊎ Q
ok_or_err (Ok v) p q = inl p
ok_or_err (Err e) p q = inr q

pub none_among : (parts : List LiveSegment) → parts_among [] parts ≡ []
none_among [] = refl
none_among (p ∷ ps) = none_among ps

pub but_none : (parts : List LiveSegment) → parts_but [] parts ≡ parts
but_none [] = refl
but_none (p ∷ ps) = ap (λ (qs : List LiveSegment). p ∷ qs) (but_none ps)

-- a live number of a segment that was built
pub live_number : (D leaf_size : ℕ) (n : NewSegmentData) → IsMade D leaf_size n → (number : ℕ) × (is_live n.live number ≡ true)
unfolding is_live
live_number D leaf_size n made = by n.live.live refl made.some
  where
    by : (ns : List ℕ) → n.live.live ≡ ns → 1 ≤ length ns → (number : ℕ) × (is_live n.live number ≡ true)
    by [] is h = absurd (omega (arith, h))
    by (m ∷ ms) is h = (m, ap (λ (ns : List ℕ). is_among ns m) is ∙ among_from (m ∷ ms) m (cons_head m ms))

-- ---- one merge

-- some of these segments, all or none, gave way to what was built of them
pub record IsStep (D : ℕ) (told : Type 0) (files new_files : Files) (cache : PageCache) (s : SetData) (names : NameList) (ids : List ℕ)
    (parts : List LiveSegment) : Type 0 where
  pub gone : List ℕ
  pub some : (id : ℕ) → is_among gone id ≡ true → is_among ids id ≡ true
  pub moves : Moves D told files new_files s names gone parts s.buffer
  pub makes : told → Agrees files cache → (c : Contents) → AreRead D files c s.parts → MakesLive D (live_in_parts c (parts_among gone s.parts)) moves.built
  pub few : length parts ≤ length s.parts
  pub loses : told → All (HasFileHead D files) s.parts → TakesOver D files (parts_among gone s.parts) moves.built

module _ (D : ℕ) (told : Type 0) (files new_files : Files) (cache : PageCache) (s : SetData) (names : NameList) (ids : List ℕ) (parts : List LiveSegment)
    (kept : KeepsNamed told s.names names files new_files) where
  step_none : parts ≡ s.parts → IsStep D told files new_files cache s names ids parts
  step_none same = record {
    gone = [];
    some = λ id h. cc;
    moves = record {
      kept = kept;
      built = None;
      replaces = same ∙ sym (but_none s.parts);
      made = λ n is. cc;
      fewer = λ number. let none : sum_by (place_in number) (parts_among [] s.parts) ≡ 0 = ap (sum_by (place_in number)) (none_among s.parts) in omega arith;
    };
    makes = λ t agrees c reads. ap (live_in_parts c) (none_among s.parts);
    few = subst (λ (ps : List LiveSegment). length parts ≤ length ps) same (omega arith);
    loses = λ t heads. record {
      numbers = λ number live. let never : false ≡ true = sym (ap (has_live number) (none_among s.parts)) ∙ live in cc;
      entries = λ n is. absurd cc;
    };
  }

  fewer_built : (built : Option NewSegmentData) (inputs : List LiveSegment) (number : ℕ)
      → ((n : NewSegmentData) → built ≡ Some n → is_live n.live number ≡ true → has_live number inputs ≡ true)
      → place_built number built ≤ sum_by (place_in number) inputs
  fewer_built None inputs number within = omega arith
  fewer_built (Some n) inputs number within = elim (cases_Bool (is_live n.live number)) [
    | inl here ↦ omega (arith, ap one_if here, some_place number inputs (within n refl here))
    | inr dead ↦ omega (arith, ap one_if dead)
  ]

  length_built : (built : Option NewSegmentData) (inputs : List LiveSegment) → ((n : NewSegmentData) → built ≡ Some n → IsGathered D s.leaf_size inputs n)
      → (built ≡ None) ⊎ (1 ≤ length inputs)
  length_built None inputs gathered = inl refl
  length_built (Some n) inputs gathered =
      let live = live_number D s.leaf_size n (gathered n refl).made in
      inr (some (place_in live.0) inputs (some_place live.0 inputs ((gathered n refl).within live.0 live.1)))
    where
      some : (g : LiveSegment → ℕ) (ps : List LiveSegment) → 1 ≤ sum_by g ps → 1 ≤ length ps
      some g [] h = absurd (omega (arith, h))
      some g (p ∷ ps) h = omega arith

  step_merged : IsMerged D told s.leaf_size s.names names files new_files ids s.parts parts → IsStep D told files new_files cache s names ids parts
  step_merged m = record {
    gone = ids;
    some = λ id h. h;
    moves = record {
      kept = kept;
      built = m.built;
      replaces = m.replaces;
      made = λ n is. (m.gathered n is).made;
      fewer = λ number. omega (arith, fewer_built m.built (parts_among ids s.parts) number (λ n is. (m.gathered n is).within number));
    };
    makes = λ t agrees. m.makes t;
    few = elim (length_built m.built (parts_among ids s.parts) m.gathered) [
      | inl none ↦ fewer none
      | inr some ↦ omega (arith, some, length_replaced D told s.names names new_files ids s.parts parts m.built m.replaces)
    ];
    loses = m.loses;
  }
    where
      fewer : m.built ≡ None → length parts ≤ length s.parts
      fewer none =
          let only : parts ≡ parts_but ids s.parts =
          subst (λ (o : Option NewSegmentData). Replaces D told s.names names new_files ids o s.parts parts) none m.replaces in
          let same : length parts ≡ length (parts_but ids s.parts) = ap length only in
          omega (arith, length_parted ids s.parts)

  pub step : {T E : Type 0} (r : Result T E) → OnOk r (IsMerged D told s.leaf_size s.names names files new_files ids s.parts parts) → OnErr r (parts ≡ s.parts)
      → IsStep D told files new_files cache s names ids parts
  step r merged refused = elim (ok_or_err r merged refused) [ inl m ↦ step_merged m | inr same ↦ step_none same ]

-- a cache that keeps pages of more segments, all of them named
pub cached_more : (names : NameList) (parts : List LiveSegment) (before after : PageCache) (ids : List ℕ) → All (IsNamed names) parts
    → ((id : ℕ) → KeepsFile before id → is_named names.names (Segment id) ≡ true)
    → ((id : ℕ) → KeepsFile after id → KeepsFile before id ⊎ Contains (ids_of (parts_among ids parts)) id) → (id : ℕ) → KeepsFile after id
    → is_named names.names (Segment id) ≡ true
cached_more names parts before after ids named cached others id keeps = elim (others id keeps) [
  | inl old ↦ cached id old
  | inr read ↦ ids_named names (parts_among ids parts) (all_among (IsNamed names) ids parts named) id read
]

module _ (D : ℕ) (told : Type 0) (files new_files : Files) (before : PageCache) {s : SetData} (names : NameList) (ids : List ℕ) (parts : List LiveSegment)
    (st : IsStep D told files new_files before s names ids parts) (well : IsWell D s) where
  abbrev pub IsApart : Type 0
  IsApart = (id : ℕ) → is_among ids id ≡ true → is_among (inputs_of s.begun) id ≡ false

  pub step_pinned : IsApart → parts_among (inputs_of s.begun) parts ≡ parts_among (inputs_of s.begun) s.parts
  step_pinned apart = inputs_stay D told files new_files s names st.gone parts s.buffer st.moves well (λ id h. apart id (st.some id h))

  pub step_loses : told → All (HasFileHead D files) s.parts → (cache : PageCache) → IsLossless D files s (moved s names parts s.buffer s.begun cache)
  step_loses is_told heads cache =
      lossless_moved D told files new_files s names st.gone parts s.buffer st.moves s.begun cache (st.loses is_told heads).numbers
      (λ number there. inr there)

  pub step_counts : told → All (HasFileHead D files) s.parts → (cache : PageCache)
      → KeepsCounts D files new_files s (moved s names parts s.buffer s.begun cache)
  step_counts is_told heads cache =
      counts_moved D told files new_files s names st.gone parts s.buffer st.moves is_told well s.begun cache (λ none. omega arith)
      (λ n is. ∥∥₁_map ((st.loses is_told heads).entries n is) (fits_inputs D files (parts_among st.gone s.parts) s.buffer n))

  pub step_well : IsApart → (cache : PageCache) → ((id : ℕ) → KeepsFile cache id → is_named s.names.names (Segment id) ≡ true) → MarksGo s.cache cache
      → IsWell D (moved s names parts s.buffer s.begun cache)
  step_well apart cache cached go =
      let stay = step_pinned apart in
      well_moved D told files new_files s names st.gone parts s.buffer st.moves well s.begun cache
      (omega (arith, st.few, well.few)) well.room well.ordered well.once well.sixteen
      (ids_stay (inputs_of s.begun) s.parts parts stay well.inputs) well.few_inputs
      (λ n is. subst (λ (ps : List LiveSegment). IsBuiltOf D s.leaf_size ps n) (sym stay) (well.built n is)) cached go

  pub step_stays : (cache : PageCache) → StaysAlone s (moved s names parts s.buffer s.begun cache)
  step_stays cache = stays_moved D told files new_files s names st.gone parts s.buffer st.moves s.begun cache refl

  pub step_follows : Follows s.names s.parts parts
  step_follows = follows_moved D told files new_files s names st.gone parts s.buffer st.moves

  pub step_canon : told → AreCanonical D new_files s.names parts
  step_canon is_told = canon_moved D told files new_files s names st.gone parts s.buffer st.moves is_told well

  pub step_seen : told → IsApart → (i : Index) → Sees D files s i → before ≡ s.cache → (cache : PageCache)
      → ((id : ℕ) → KeepsFile cache id → is_named s.names.names (Segment id) ≡ true) → (Agrees files before → Agrees files cache)
      → Sees D new_files (moved s names parts s.buffer s.begun cache) i
  step_seen is_told apart i h is cache cached agrees =
      let agreed : Agrees files before = subst (Agrees files) (sym is) h.stands.agrees in
      sees_same D new_files (moved s names parts s.buffer s.begun cache) i (is_some s.begun) (sym h.begun)
      (seen_moved D told files new_files s names st.gone parts s.buffer st.moves is_told well i h (live_in_parts h.contents (parts_among st.gone s.parts))
      (st.makes is_told agreed h.contents h.stands.now) (λ f. refl) s.begun cache
      (λ d alike.
      begun_moved D told files new_files s names st.gone parts s.buffer st.moves well (λ id e. apart id (st.some id e)) h.contents d alike h.stands.begun)
      cached (agrees agreed))

-- ---- what a call leaves

-- over the files now the set now is seen as the set before was over the files before; it has no number live that wasn't, each of its segments
-- was there or has a new name, and those of new names are canonical. The inputs of a begun merge stay, and no document is lost
pub record IsAfter (D : ℕ) (told : Type 0) (files new_files : Files) (s t : SetData) : Type 0 where
  pub well : IsWell D t
  pub seen : told → (i : Index) → Sees D files s i → Sees D new_files t i
  pub stays : StaysAlone s t
  pub follows : Follows s.names s.parts t.parts
  pub canon : told → AreCanonical D new_files s.names t.parts
  pub pinned : parts_among (inputs_of s.begun) t.parts ≡ parts_among (inputs_of s.begun) s.parts
  pub loses : told → All (HasFileHead D files) s.parts → IsLossless D files s t
  pub counts : told → All (HasFileHead D files) s.parts → KeepsCounts D files new_files s t

pub merge_after : (D : ℕ) (told : Type 0) (files new_files : Files) {s : SetData} (well : IsWell D s) (names : NameList) (ids : List ℕ)
    (parts : List LiveSegment)
    (cache : PageCache)
    → KeepsNamed told s.names names files new_files
    → ((id : ℕ) → is_among ids id ≡ true → is_among (inputs_of s.begun) id ≡ false)
    → (told → Agrees files s.cache → Agrees files cache)
    → ((id : ℕ) → KeepsFile cache id → KeepsFile s.cache id ⊎ Contains (ids_of (parts_among ids s.parts)) id)
    → MarksGo s.cache cache
    → {T E : Type 0} (r : Result T E) → OnOk r (IsMerged D told s.leaf_size s.names names files new_files ids s.parts parts) → OnErr r (parts ≡ s.parts)
    → IsAfter D told files new_files s (moved s names parts s.buffer s.begun cache)
merge_after D told files new_files {s} well names ids parts cache kept apart agrees others go r merged refused =
    let st = step D told files new_files s.cache s names ids parts kept r merged refused in
    let cached = cached_more s.names s.parts s.cache cache ids well.named well.cached others in
    record {
      well = step_well D told files new_files s.cache names ids parts st well apart cache cached go;
      seen = λ t i h. step_seen D told files new_files s.cache names ids parts st well t apart i h refl cache cached (agrees t);
      stays = step_stays D told files new_files s.cache names ids parts st well cache;
      follows = step_follows D told files new_files s.cache names ids parts st well;
      canon = step_canon D told files new_files s.cache names ids parts st well;
      pinned = step_pinned D told files new_files s.cache names ids parts st well apart;
      loses = λ t heads. step_loses D told files new_files s.cache names ids parts st well t heads cache;
      counts = λ t heads. step_counts D told files new_files s.cache names ids parts st well t heads cache;
    }
