-- Leaves that a cache knows to be dead: what is passed over for that, and what is known after a leaf was looked at.
use Rattle.std.proofs.Common.{◌≡◌, ℕ, ℤ, ◌+◌, ◌<◌, Bool, false, cond, List, [], ◌∷◌, ◌++◌, length, map, take, get_or, inl, inr, sym, ap, subst, ◌∙◌}
use Rattle.std.proofs.Common.{true≢false, arith}
use Rattle.std.proofs.lemmas.Bool.{cases_lt}
use Rattle.std.proofs.lemmas.List.{get_or-map, length-map}
use Rattle.std.proofs.lemmas.List.Elements.{filter_more}
use Rattle.std.proofs.lemmas.List.Kept.{AllPairs-from_increasing}
use Rattle.std.specs.Prelude.{IsTrue}
use Rattle.std.specs.List.Sorted.{IsStrictlyIncreasing}
use Rattle.outer_io.specs.Files.{Files, bytes_of}
use Rattle.outer_io.specs.declared.file_name.FileName.TheVariants.{Segment}
use Rattle.point_codec.specs.Points.{Item, Region}
use Rattle.point_codec.specs.declared.entries.Near.{Near}
use Rattle.live_bits.specs.LiveSet.{LiveSet, is_live}
use Rattle.leaf_codec.specs.Leaves.{SpellsLeaf}
use Rattle.leaf_codec.proofs.ReadLeaf.{one_leaf}
use Rattle.inner_pack.specs.Places.{Spot}
use Rattle.inner_pack.specs.Trees.{Leaf}
use Rattle.inner_pack.specs.Nodes.{IsPlaceOf}
use Rattle.inner_pack.specs.declared.place.LeafPlace.{LeafPlace}
use Rattle.page_cache.specs.declared.cache.PageCache.{PageCache}
use Rattle.page_cache.specs.FilePages.{page_at}
use Rattle.page_cache.specs.Cache.{Keeps, KeepsDead, MarksGo, Agrees}
use Rattle.page_cache.proofs.Agreement.{agreeing_page, dead_is_kept}
use Rattle.segment_file.specs.Heads.{Head, page_of}
use Rattle.segment_file.specs.Segments.{HoldsLeaf, part_of}
use Rattle.documents.specs.NearestEntries.{nears_of}
use Rattle.nearest_query.specs.declared.candidates.Candidates.{Candidates}
use Rattle.nearest_query.specs.Best.{AreBest, AreAdded}
use Rattle.nearest_query.specs.Segments.{live_items, no_head}
use Rattle.nearest_query.specs.Search.{no_live}
use Rattle.nearest_query.specs.Dead.{IsLeafDead, HidesNone, HideNone, MayPass, MarksDead, MarksOf}
use Rattle.nearest_query.proofs.Added.{added_none, added_same}

-- fewer marks hide no more
pub hides_still : (D : ℕ) (old new : PageCache) (id : ℕ) (live : LiveSet) → MarksGo old new → HidesNone D old id live → HidesNone D new id live
hides_still D old new id live go hides number offset len page known = hides number offset len page (go id number offset len page known)

-- one more entry that isn't live
pub none_more : (live : LiveSet) (xs : List Item) (i : ℕ) (x : Item) → i < length xs → x ≡ get_or xs i x → is_live live x.doc ≡ false
    → live_items live (take i xs) ≡ [] → live_items live (take (i + 1) xs) ≡ []
none_more live xs i x within is dead before =
    filter_more (λ y. is_live live y.doc) xs i x within
    ∙ ap (λ y. live_items live (take i xs) ++ cond (is_live live y.doc) (y ∷ []) []) (sym is)
    ∙ ap (λ b. live_items live (take i xs) ++ cond b (x ∷ []) []) dead
    ∙ ap (λ ys. ys ++ []) before

-- entries of which none is live change nothing
pub dead_added : (at : List ℤ) (live : LiveSet) (items : List Item) (seen : List Near) (found : Candidates) → live_items live items ≡ [] → AreBest seen found
    → AreAdded seen (nears_of at (live_items live items)) found
dead_added at live items seen found dead best = added_same seen [] _ found (added_none seen found best) (ap (nears_of at) dead)

-- the entries of a leaf that is known to be dead
pub passed_dead : (D : ℕ) (files : Files) (cache : PageCache) (head : Head) (number : ℕ) (s : Spot) (len : ℕ) (own : Region) (items : List Item)
    (live : LiveSet) (place : LeafPlace) (page : List ℕ) → Agrees files cache → HidesNone D cache head.id live → IsPlaceOf place s (Leaf len own)
    → KeepsDead cache head.id (page_of head place.page) place.offset place.length page
    → HoldsLeaf D (bytes_of (files (Segment head.id))) head number s len own items → live_items live items ≡ []
unfolding HoldsLeaf
passed_dead D files cache head number s len own items live place page agrees hides here known holds =
    let long : len ≡ place.length = (let is = here.is in cc) in
    let kept = dead_is_kept cache head.id (page_of head place.page) place.offset place.length page known in
    let bytes = bytes_of (files (Segment head.id)) in
    let same : page_at bytes (page_of head s.page) ≡ page =
    ap (λ (n : ℕ). page_at bytes (page_of head n)) (sym here.page) ∙ sym (agreeing_page files cache head.id (page_of head place.page) page agrees kept) in
    hides (page_of head place.page) place.offset place.length page known items
    (subst (λ (n : ℕ). SpellsLeaf D (part_of place.offset n page) items) long
    (subst (λ (n : ℕ). SpellsLeaf D (part_of n len page) items) (sym here.offset)
    (subst (λ (b : List ℕ). SpellsLeaf D (part_of s.offset len b) items) same holds.spells.spells)))

-- a leaf that was looked at, and had no live entry
pub seen_dead : (D : ℕ) (cache : PageCache) (id number offset len : ℕ) (view : List Item) (live : LiveSet)
    → ((page : List ℕ) → Keeps cache id number page → SpellsLeaf D (part_of offset len page) view) → live_items live view ≡ []
    → (i n o l : ℕ) (page : List ℕ) → Keeps cache i n page → i ≡ id → n ≡ number → o ≡ offset → l ≡ len → IsLeafDead D live o l page
seen_dead D cache id number offset len view live spelled dead i n o l page kept id_is number_is offset_is len_is items spells =
    let here : Keeps cache id number page =
    subst (λ (k : ℕ). Keeps cache id k page) number_is (subst (λ (k : ℕ). Keeps cache k n page) id_is kept) in
    let there : SpellsLeaf D (part_of offset len page) items =
    subst (λ (k : ℕ). SpellsLeaf D (part_of offset k page) items) len_is (subst (λ (k : ℕ). SpellsLeaf D (part_of k l page) items) offset_is spells) in
    ap (live_items live) (one_leaf D (part_of offset len page) items view there (spelled page here)) ∙ dead

-- ---- several segments

ids_apart : (heads : List Head) → IsStrictlyIncreasing (map (λ h. h.id) heads) → (i j : ℕ) → i < j → j < length heads
    → (get_or heads i no_head).id < (get_or heads j no_head).id
ids_apart heads up i j before within =
    let rises = AllPairs-from_increasing (map (λ h. h.id) heads) up i j 0 before (omega (arith, within, length-map heads (λ (h : Head). h.id))) in
    let a = get_or-map (λ (h : Head). h.id) heads i no_head 0 (omega (arith, before, within)) in
    let b = get_or-map (λ (h : Head). h.id) heads j no_head 0 within in
    omega (arith, rises, a, b)

one_place : (heads : List Head) → IsStrictlyIncreasing (map (λ h. h.id) heads) → (i j : ℕ) → i < length heads → j < length heads
    → (get_or heads i no_head).id ≡ (get_or heads j no_head).id → i ≡ j
one_place heads up i j in_i in_j same = elim (cases_lt i j) [
  | inl before ↦ let less = ids_apart heads up i j before in_j in absurd (omega (arith, less, same))
  | inr at_least ↦ elim (cases_lt j i) [
    | inl behind ↦ let less = ids_apart heads up j i behind in_i in absurd (omega (arith, less, same))
    | inr at_most ↦ omega (arith, at_least, at_most)
  ]
]

-- a call that marks nothing keeps to the rule of marks
pub marks_same : (D : ℕ) (watched : Bool) (heads : List Head) (lives : List LiveSet) (cache : PageCache) → (IsTrue watched → MayPass D cache heads lives)
    → MarksDead D watched heads lives cache cache
marks_same D watched heads lives cache passes =
    record { hides = λ on. (passes on).hides; go = λ off i number offset len page known. known }

-- and so do two calls in turn that keep to it
pub marks_then : (D : ℕ) (watched : Bool) (heads : List Head) (lives : List LiveSet) (old mid new : PageCache) → MarksDead D watched heads lives old mid
    → MarksDead D watched heads lives mid new → MarksDead D watched heads lives old new
marks_then D watched heads lives old mid new first second = record {
  hides = second.hides;
  go = λ off i number offset len page known. first.go off i number offset len page (second.go off i number offset len page known);
}

-- what holds of all of them holds of the one at k
pub hides_own : (D : ℕ) (heads : List Head) (lives : List LiveSet) (k : ℕ) (h : Head) (live : LiveSet) (cache : PageCache) → k < length heads
    → get_or heads k no_head ≡ h → get_or lives k no_live ≡ live → HideNone D cache heads lives → HidesNone D cache h.id live
hides_own D heads lives k h live cache inside head_is live_is hides =
    subst (λ (x : Head). HidesNone D cache x.id live) head_is
    (subst (λ (s : LiveSet). HidesNone D cache (get_or heads k no_head).id s) live_is (hides k inside))

-- a leaf of segment k may be newly known to be dead
pub hide_one : (D : ℕ) (watched : Bool) (heads : List Head) (lives : List LiveSet) (k : ℕ) (h : Head) (live : LiveSet) (old new : PageCache)
    → k < length heads → get_or heads k no_head ≡ h → get_or lives k no_live ≡ live → IsStrictlyIncreasing (map (λ h. h.id) heads)
    → MarksOf D watched h.id live old new → HideNone D old heads lives → HideNone D new heads lives
hide_one D watched heads lives k h live old new inside head_is live_is up marks hides i within number offset len page known =
    elim (marks (get_or heads i no_head).id number offset len page known) [
      | inl was ↦ hides i within number offset len page was
      | inr this ↦
          let same : k ≡ i = one_place heads up k i inside within (ap (λ (x : Head). x.id) head_is ∙ sym this.1) in
          subst (λ (s : LiveSet). IsLeafDead D s offset len page) (sym live_is ∙ ap (λ (n : ℕ). get_or lives n no_live) same) this.2
    ]

-- where nothing is watched over, none is
pub marks_none : (D : ℕ) (watched : Bool) (id : ℕ) (live : LiveSet) (old new : PageCache) → MarksOf D watched id live old new → watched ≡ false
    → MarksGo old new
marks_none D watched id live old new marks off i number offset len page known = elim (marks i number offset len page known) [
  | inl was ↦ was
  | inr this ↦ absurd (true≢false (sym this.0 ∙ off))
]
