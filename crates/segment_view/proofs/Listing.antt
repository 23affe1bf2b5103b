-- What is said of segments one by one, and of their heads and live sets by position.
use Rattle.std.proofs.Common.{◌≡◌, ℕ, ◌<◌, List, length, map, get_or, sym, subst, ap, ◌∙◌, arith}
use Rattle.std.proofs.lemmas.List.{get_or-map, length-map}
use Rattle.std.specs.List.{All}
use Rattle.std.specs.List.Sorted.{IsStrictlyIncreasing}
use Rattle.live_bits.specs.LiveSet.{LiveSet}
use Rattle.page_cache.specs.declared.cache.PageCache.{PageCache}
use Rattle.segment_file.specs.Heads.{Head}
use Rattle.nearest_query.specs.Segments.{no_head}
use Rattle.nearest_query.specs.Search.{no_live}
use Rattle.nearest_query.specs.Dead.{HidesNone, HideNone}
use Rattle.segment_view.specs.LiveSegments.{LiveSegment, live_segment, heads_of, lives_of, ids_of}
use Rattle.segment_view.specs.Unhidden.{HidesNoneOf}
use Rattle.segment_view.proofs.Beside.{ids_heads}

head_there : (parts : List LiveSegment) (i : ℕ) (d : LiveSegment) → i < length parts → get_or (heads_of parts) i no_head ≡ (get_or parts i d).head
head_there parts i d within = get_or-map (λ (p : LiveSegment). p.head) parts i d no_head within

live_there : (parts : List LiveSegment) (i : ℕ) (d : LiveSegment) → i < length parts → get_or (lives_of parts) i no_live ≡ (get_or parts i d).live
live_there parts i d within = get_or-map (λ (p : LiveSegment). p.live) parts i d no_live within

pub hide_by_place : (D : ℕ) (cache : PageCache) (parts : List LiveSegment) → All (HidesNoneOf D cache) parts
    → HideNone D cache (heads_of parts) (lives_of parts)
hide_by_place D cache parts all i within =
    let d = live_segment no_head no_live in
    let inside : i < length parts = omega (arith, within, length-map parts (λ (p : LiveSegment). p.head)) in
    subst (λ (h : Head). HidesNone D cache h.id (get_or (lives_of parts) i no_live)) (sym (head_there parts i d inside))
    (subst (HidesNone D cache (get_or parts i d).head.id) (sym (live_there parts i d inside)) (all i d inside))

pub hide_one_by_one : (D : ℕ) (cache : PageCache) (parts : List LiveSegment) → HideNone D cache (heads_of parts) (lives_of parts)
    → All (HidesNoneOf D cache) parts
hide_one_by_one D cache parts hide i d within =
    let inside : i < length (heads_of parts) = omega (arith, within, length-map parts (λ (p : LiveSegment). p.head)) in
    subst (λ (h : Head). HidesNone D cache h.id (get_or parts i d).live) (head_there parts i d within)
    (subst (HidesNone D cache (get_or (heads_of parts) i no_head).id) (live_there parts i d within) (hide i inside))

-- the same where the heads and the live sets are those of the segments
pub hide_these : (D : ℕ) (cache : PageCache) (parts : List LiveSegment) (heads : List Head) (lives : List LiveSet) → heads ≡ heads_of parts
    → lives ≡ lives_of parts → All (HidesNoneOf D cache) parts → HideNone D cache heads lives
hide_these D cache parts heads lives heads_are lives_are all =
    subst (λ (hs : List Head). HideNone D cache hs lives) (sym heads_are)
    (subst (HideNone D cache (heads_of parts)) (sym lives_are) (hide_by_place D cache parts all))

pub these_hide : (D : ℕ) (cache : PageCache) (parts : List LiveSegment) (heads : List Head) (lives : List LiveSet) → heads ≡ heads_of parts
    → lives ≡ lives_of parts → HideNone D cache heads lives → All (HidesNoneOf D cache) parts
these_hide D cache parts heads lives heads_are lives_are hide =
    hide_one_by_one D cache parts
    (subst (λ (hs : List Head). HideNone D cache hs (lives_of parts)) heads_are (subst (HideNone D cache heads) lives_are hide))

pub lives_beside : (parts : List LiveSegment) (heads : List Head) (lives : List LiveSet) → heads ≡ heads_of parts → lives ≡ lives_of parts
    → length lives ≡ length heads
lives_beside parts heads lives heads_are lives_are =
    ap length lives_are ∙ length-map parts (λ (p : LiveSegment). p.live) ∙ sym (length-map parts (λ (p : LiveSegment). p.head)) ∙ ap length (sym heads_are)

pub ids_of_these : (parts : List LiveSegment) (heads : List Head) → heads ≡ heads_of parts → IsStrictlyIncreasing (ids_of parts)
    → IsStrictlyIncreasing (map (λ h. h.id) heads)
ids_of_these parts heads heads_are up =
    subst IsStrictlyIncreasing (ids_heads parts ∙ ap (map (λ (h : Head). h.id)) (sym heads_are)) up
