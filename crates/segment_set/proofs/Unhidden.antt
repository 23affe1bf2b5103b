-- Of the live entries of the set's segments none is hidden by what its cache knows to be dead.
use Rattle.std.proofs.Common.{◌≡◌, ℕ, Bool, true, false, cond, List, [], ◌∷◌, inl, inr, refl, sym, subst, ◌∙◌, true≢false}
use Rattle.std.specs.Prelude.{All, Contains}
use Rattle.std.proofs.lemmas.List.Elements.{All-contains, All-contains_itself, All-weaker}
use Rattle.outer_io.specs.declared.file_name.FileName.TheVariants.{Segment}
use Rattle.point_codec.specs.Points.{Item}
use Rattle.live_bits.specs.LiveSet.{LiveSet, is_live}
use Rattle.page_cache.specs.declared.cache.PageCache.{PageCache}
use Rattle.page_cache.specs.Cache.{KeepsFile, MarksGo}
use Rattle.page_cache.proofs.Agreement.{dead_file_kept}
use Rattle.segment_file.specs.Heads.{Head}
use Rattle.nearest_query.specs.Segments.{live_items}
use Rattle.nearest_query.specs.Dead.{HidesNone}
use Rattle.nearest_query.proofs.Passed.{hides_still}
use Rattle.segment_view.specs.LiveSegments.{LiveSegment}
use Rattle.segment_view.specs.Unhidden.{HidesNoneOf}
use Rattle.file_names.specs.Names.{NameList, is_named}
use Rattle.segment_set.specs.Kept.{Follows}

-- of fewer live numbers no more are hidden
none_of_fewer : (s t : LiveSet) → ((number : ℕ) → is_live s number ≡ true → is_live t number ≡ true) → (items : List Item) → live_items t items ≡ []
    → live_items s items ≡ []
none_of_fewer s t fewer [] none = refl
none_of_fewer s t fewer (x ∷ xs) none =
    (elim (is_live t x.doc) as (λ b. is_live t x.doc ≡ b → cond b (x ∷ live_items t xs) (live_items t xs) ≡ [] → live_items s (x ∷ xs) ≡ []) [
      | true ↦ λ e some. absurd cc
      | false ↦ λ e rest. by_own (is_live s x.doc) refl e (none_of_fewer s t fewer xs rest)
    ]) refl none
  where
    by_own : (b : Bool) → is_live s x.doc ≡ b → is_live t x.doc ≡ false → live_items s xs ≡ []
        → cond b (x ∷ live_items s xs) (live_items s xs) ≡ []
    by_own true e dead rest = absurd (true≢false (sym (fewer x.doc e) ∙ dead))
    by_own false e dead rest = rest

pub hides_fewer : (D : ℕ) (cache : PageCache) (id : ℕ) (s t : LiveSet) → ((number : ℕ) → is_live s number ≡ true → is_live t number ≡ true)
    → HidesNone D cache id t → HidesNone D cache id s
hides_fewer D cache id s t fewer hides number offset len page known items spells =
    none_of_fewer s t fewer items (hides number offset len page known items spells)

-- a cache that lost marks hides no more than before
pub unhidden_still : (D : ℕ) (old new : PageCache) (parts : List LiveSegment) → MarksGo old new → All (HidesNoneOf D old) parts → All (HidesNoneOf D new) parts
unhidden_still D old new parts go hides =
    All-weaker (HidesNoneOf D old) (HidesNoneOf D new) (λ p h. hides_still D old new p.head.id p.live go h) parts hides

-- a cache that keeps no page
pub unhidden_nothing : (D : ℕ) (cache : PageCache) (parts : List LiveSegment) → ((id : ℕ) → KeepsFile cache id → ⊥) → All (HidesNoneOf D cache) parts
unhidden_nothing D cache parts none k p within number offset len page known = absurd (none _ (dead_file_kept cache _ number offset len page known))

-- each segment was there with no fewer live numbers, or its file has a name that wasn't in the list: the cache keeps no page of such a file
pub unhidden_follow : (D : ℕ) (names : NameList) (old new : List LiveSegment) (before after : PageCache) → Follows names old new → MarksGo before after
    → ((id : ℕ) → KeepsFile after id → is_named names.names (Segment id) ≡ true) → All (HidesNoneOf D before) old → All (HidesNoneOf D after) new
unhidden_follow D names old new before after follows go cached hides =
    All-weaker (λ p. Contains new p) (HidesNoneOf D after) of_each new (All-contains_itself new)
  where
    of_each : (p : LiveSegment) → Contains new p → HidesNoneOf D after p
    of_each p there = elim (follows.each p there) [
      | inl fresh ↦ λ number offset len page known.
          absurd (true≢false (sym (cached p.head.id (dead_file_kept after p.head.id number offset len page known)) ∙ fresh))
      | inr was ↦
          let here : HidesNone D before p.head.id was.0.live =
          subst (λ (h : Head). HidesNone D before h.id was.0.live) (sym was.2) (All-contains (HidesNoneOf D before) old was.0 hides was.1) in
          hides_still D before after p.head.id p.live go (hides_fewer D before p.head.id p.live was.0.live was.3.live here)
    ]
