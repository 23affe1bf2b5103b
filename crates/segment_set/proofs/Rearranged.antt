-- One merge or flush after another.
use Rattle.std.proofs.Common.{◌≡◌, ℕ, ◌≤◌, ◌<◌, true, eqb, cond, ltb, List, [], ◌∷◌, length, Result}
use Rattle.std.proofs.Common.{Option, Ok, Err, ◌^◌, refl, subst, ◌∙◌, ◌⊎◌, inl, inr, ⊎_elim, arith}
use Rattle.std.specs.List.{All, Contains, sum_by}
use Rattle.std.specs.Result.{OnOk, OnErr}
use Rattle.std.proofs.lemmas.Bool.{cases_Bool, ltb-false, ltb-true}
use Rattle.std.proofs.lemmas.List.Elements.{All-cons, All-contains, All-contains_itself, All-head, All-nil, All-tail, All-weaker}
use Rattle.outer_io.specs.declared.file_name.FileName.{FileName}
use Rattle.outer_io.specs.declared.file_name.FileName.TheVariants.{Segment}
use Rattle.outer_io.specs.Files.{Files}
use Rattle.point_codec.specs.Points.{Item}
use Rattle.point_codec.specs.Seen.{items_of}
use Rattle.point_codec.specs.declared.entries.Entry.{Entry}
use Rattle.documents.specs.Entries.{SameTotals}
use Rattle.leaf_codec.specs.LeafOrder.{item_of, same_item}
use Rattle.page_cache.specs.declared.cache.PageCache.{PageCache}
use Rattle.page_cache.specs.declared.faults.Damage.{Damage}
use Rattle.page_cache.specs.declared.faults.Damage.TheVariants.{Page, Leaf, Body, Missing, Size, Unequal, NotGiven, Doubled}
use Rattle.page_cache.specs.Cache.{Agrees, KeepsFile}
use Rattle.page_cache.proofs.Agreement.{agrees_other}
use Rattle.stored_index.proofs.Places.{entry_there}
use Rattle.segment_view.specs.LiveSegments.{LiveSegment, ids_of, live_in_parts, parts_among}
use Rattle.segment_view.specs.Damages.{IsReadDamage}
use Rattle.file_names.specs.Names.{NameList, is_named}
use Rattle.segment_set.specs.Sets.{BegunMerge, SetData, IsNamed, IsWell, IsWellTo, inputs_of}
use Rattle.segment_set.specs.Kept.{KeepsNamed}
use Rattle.segment_set.specs.Merged.{KeepsEntries, Rearranges}
use Rattle.segment_set.specs.Merges.{IsMerged}
use Rattle.segment_set.specs.Damages.{Doubt, IsDoubt, IsMergeDamage, New, Read}
use Rattle.segment_set.proofs.Carried.{canon_named, canon_then, follows_none, follows_then, keeps_none, keeps_then, stays_none, stays_then, unnamed_before}
use Rattle.segment_set.proofs.Standing.{totals_length, totals_none, totals_then}
use Rattle.segment_set.proofs.Grown.{grown}
use Rattle.segment_set.proofs.Moved.{moved}
use Rattle.segment_set.proofs.Lossless.{lossless_then}
use Rattle.segment_set.proofs.Counts.{counts_none, counts_then}
use Rattle.segment_set.proofs.Faithful.{faithful_parts}
use Rattle.segment_set.proofs.Steps.{IsAfter, cached_more, step}

pub both_ok : {T E : Type 0} (P Q : Type 0) (r : Result T E) → OnOk r P → OnOk r Q → OnOk r (P × Q)
both_ok P Q (Ok x) p q = (p, q)
both_ok P Q (Err e) p q = tt

pub rearranges_none : (D : ℕ) (told : Type 0) (files : Files) (s : SetData) → All (IsNamed s.names) s.parts → Rearranges D told files files s s
rearranges_none D told files s named = record {
  seen = λ t i h. h;
  stays = stays_none s;
  kept = keeps_none told s.names files;
  follows = follows_none s.names s.parts;
  canon = λ t. canon_named D files s.names s.parts named;
  begun = refl;
  pinned = refl;
  saved = refl;
  loses = λ t well heads number live. inl live;
  counts = λ t well heads. counts_none D files s;
}

pub rearranges_then : (D : ℕ) (told : Type 0) (f g h : Files) (a b c : SetData) → IsWell D b → Rearranges D told f g a b → Rearranges D told g h b c
    → Rearranges D told f h a c
rearranges_then D told f g h a b c well first second = record {
  seen = λ t i sees. second.seen t i (first.seen t i sees);
  stays = stays_then a b c first.stays second.stays;
  kept = keeps_then told a.names b.names c.names f g h first.kept second.kept;
  follows = follows_then a.names b.names a.parts b.parts c.parts first.kept.more first.follows second.follows;
  canon = λ t.
      canon_then D told a.names b.names c.names g h b.parts c.parts t second.kept first.kept.more well.named (first.canon t) second.follows (second.canon t);
  begun = second.begun ∙ first.begun;
  pinned = subst (λ (o : Option BegunMerge). parts_among (inputs_of o) c.parts ≡ parts_among (inputs_of o) b.parts) first.begun second.pinned ∙ first.pinned;
  saved = second.saved ∙ first.saved;
  loses = λ t before heads. lossless_then D f g a.names a b c
      (λ p there. first.kept.files t (Segment p.head.id) (All-contains (IsNamed a.names) a.parts p before.named there)) first.follows (first.canon t)
      (first.loses t before heads)
      (second.loses t well
      (faithful_parts D f g a.names a.parts b.parts before.named (first.kept.files t) first.follows (first.canon t) heads));
  counts = λ t before heads. counts_then D f g h a b c (first.counts t before heads)
      (second.counts t well (faithful_parts D f g a.names a.parts b.parts before.named (first.kept.files t) first.follows (first.canon t) heads));
}

-- what a call left that changed names, segments, buffer and cache
pub rearranges_after : (D : ℕ) (told : Type 0) (files new_files : Files) {s : SetData} (names : NameList) (parts : List LiveSegment) (buffer : List Item)
    (cache : PageCache) → KeepsNamed told s.names names files new_files
    → IsAfter D told files new_files s (moved s names parts buffer s.begun cache)
    → Rearranges D told files new_files s (moved s names parts buffer s.begun cache)
rearranges_after D told files new_files names parts buffer cache kept after = record {
  seen = after.seen;
  stays = after.stays;
  kept = kept;
  follows = after.follows;
  canon = after.canon;
  begun = refl;
  pinned = after.pinned;
  saved = refl;
  loses = λ t well heads. after.loses t heads;
  counts = λ t well heads. after.counts t heads;
}

-- ---- the entries of the segments

pub entries_none : (D : ℕ) (told : Type 0) (files : Files) (s : SetData) → KeepsEntries D told files files s s
entries_none D told files s = record { agrees = λ t agrees. agrees; entries = λ t agrees c reads. (c, reads, totals_none (live_in_parts c s.parts)) }

pub entries_then : (D : ℕ) (told : Type 0) (f g h : Files) (a b c : SetData) → KeepsEntries D told f g a b → KeepsEntries D told g h b c
    → KeepsEntries D told f h a c
entries_then D told f g h a b c first second = record {
  agrees = λ t agrees. second.agrees t (first.agrees t agrees);
  entries = λ t agrees d reads.
      let mid = first.entries t agrees d reads in
      let last = second.entries t (first.agrees t agrees) mid.0 mid.1 in
      (last.0, last.1, totals_then (live_in_parts d a.parts) (live_in_parts mid.0 b.parts) (live_in_parts last.0 c.parts) mid.2 last.2);
}

pub entries_merged : (D : ℕ) (told : Type 0) (files new_files : Files) {s : SetData} (well : IsWell D s) (names : NameList) (ids : List ℕ)
    (parts : List LiveSegment)
    (cache : PageCache)
    → KeepsNamed told s.names names files new_files
    → (told → Agrees files s.cache → Agrees files cache)
    → ((id : ℕ) → KeepsFile cache id → KeepsFile s.cache id ⊎ Contains (ids_of (parts_among ids s.parts)) id)
    → {T E : Type 0} (r : Result T E) → OnOk r (IsMerged D told s.leaf_size s.names names files new_files ids s.parts parts) → OnErr r (parts ≡ s.parts)
    → KeepsEntries D told files new_files s (moved s names parts s.buffer s.begun cache)
entries_merged D told files new_files {s} well names ids parts cache kept agrees others r merged refused = record {
  agrees = λ t agreed. agrees_other files new_files cache
      (λ id keeps. kept.files t (Segment id) (cached_more s.names s.parts s.cache cache ids well.named well.cached others id keeps)) (agrees t agreed);
  entries = λ t agreed c reads.
      let st = step D told files new_files s.cache s names ids parts kept r merged refused in
      let some = live_in_parts c (parts_among st.gone s.parts) in
      let g = grown D told files new_files s.names names c st.gone some st.moves.built s.parts parts (kept.files t) well.named reads t
      (st.makes t agreed c reads) st.moves.replaces in
      (g.after, g.now, λ f. omega (arith, g.totals f));
}

-- ---- what a damage says of the set before

damage_named : (D points_given : ℕ) (a b : SetData) (now : NameList) (told : Type 0) (f g : Files) → Rearranges D told f g a b → All (IsNamed now) b.parts
    → (d : Damage) → IsMergeDamage D points_given b.names now b.parts d → IsMergeDamage D points_given a.names now a.parts d
damage_named D points_given a b now told f g moves named d (Read p there shows) = ⊎_elim
    (λ fresh. New p.head fresh (All-contains (IsNamed now) b.parts p named there) shows)
    (λ old. Read old.0 old.1 (subst (λ h. IsReadDamage D h d) old.2 shows))
    (moves.follows.each p there)
damage_named D points_given a b now told f g moves named d (New head fresh written shows) =
    New head (unnamed_before a.names.names b.names.names (Segment head.id) (moves.kept.more (Segment head.id)) fresh) written shows
damage_named D points_given a b now told f g moves named d (Doubt items doubt) = Doubt items doubt

-- names that the list has now are those of before, and what came since
pub damage_before : (D : ℕ) (told : Type 0) (f g : Files) (a b : SetData) (now : NameList) → Rearranges D told f g a b → All (IsNamed b.names) b.parts
    → ((m : FileName) → is_named b.names.names m ≡ true → is_named now.names m ≡ true)
    → (d : Damage) → IsMergeDamage D b.points_given b.names now b.parts d → IsMergeDamage D a.points_given a.names now a.parts d
damage_before D told f g a b now moves named more d shows =
    damage_named D a.points_given a b now told f g moves
    (All-weaker (IsNamed b.names) (IsNamed now) (λ (p : LiveSegment) there. more (Segment p.head.id) there) b.parts named)
    d (subst (λ n. IsMergeDamage D n b.names now b.parts d) moves.stays.points_given shows)

-- what is doubted of some entries is doubted of more
pub doubt_more : (points_given : ℕ) (xs ys : List Item) → length ys ≤ length xs → ((f : Item → ℕ) → sum_by f ys ≤ sum_by f xs)
    → (d : Damage) → IsDoubt points_given ys d
    → IsDoubt points_given xs d
doubt_more points_given xs ys long fewer (Unequal file said found) h = (h.0, h.1, h.2, omega (arith, long, h.3))
doubt_more points_given xs ys long fewer (Doubled doc) h = ⊎_elim
    (λ many. inl (omega (arith, many, fewer (λ x. cond (eqb x.doc doc) 1 0))))
    (λ twice. inr (twice.0, twice.1, omega (arith, twice.2, fewer (λ x. cond (same_item twice.0 x) 1 0))))
    h
doubt_more points_given xs ys long fewer (Page file number bytes) h = h
doubt_more points_given xs ys long fewer (Leaf file number offset len bytes) h = h
doubt_more points_given xs ys long fewer (Body file bytes) h = h
doubt_more points_given xs ys long fewer (Missing file) h = h
doubt_more points_given xs ys long fewer (Size file size needed) h = h
doubt_more points_given xs ys long fewer (NotGiven doc next) h = h

-- and of segments with the same live entries
pub doubt_same : (points_given : ℕ) (xs ys : List Item) → SameTotals xs ys → (d : Damage) → IsDoubt points_given ys d → IsDoubt points_given xs d
doubt_same points_given xs ys same d h = doubt_more points_given xs ys (omega (arith, totals_length xs ys same)) (λ f. omega (arith, same f)) d h

-- ---- what waits in the buffer

-- each number that waits is below 2 ^ 24
pub waiting_below : {most D : ℕ} (s : SetData) → IsWellTo most D s → All (λ x. x.doc < 2 ^ 24) s.buffer
waiting_below s well = All-weaker (Contains s.buffer) (λ (x : Item). x.doc < 2 ^ 24) below s.buffer (All-contains_itself s.buffer)
  where
    below : (x : Item) → Contains s.buffer x → x.doc < 2 ^ 24
    below x there = elim (cases_Bool (ltb x.doc s.next)) [
      | inl lt ↦ omega (arith, ltb-true x.doc s.next lt, well.numbered, well.most_given)
      | inr le ↦ let none = (well.spread.below x.doc (ltb-false x.doc s.next le)).1 in let some = entry_there s.buffer x there in cc
    ]

-- and so of entries of which these are seen
pub entries_below : {D : ℕ} (es : List (Entry D)) → All (λ x. x.doc < 2 ^ 24) (items_of es) → All (λ e. e.doc < 2 ^ 24) es
entries_below {D} [] h = All-nil (λ (e : Entry D). e.doc < 2 ^ 24)
entries_below {D} (e ∷ es) h =
    All-cons (λ (d : Entry D). d.doc < 2 ^ 24) e es (All-head (λ (x : Item). x.doc < 2 ^ 24) (item_of e) (items_of es) h)
    (entries_below es (All-tail (λ (x : Item). x.doc < 2 ^ 24) (item_of e) (items_of es) h))

pub empty_list : {X : Type 0} (xs : List X) → length xs ≡ 0 → xs ≡ []
empty_list [] none = refl
empty_list (x ∷ xs) none = absurd (omega (arith, none))
