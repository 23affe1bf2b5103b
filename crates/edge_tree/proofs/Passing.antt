-- How a run of edges passes the heights, and how it counts for a point beside its box.
use Rattle.std.proofs.Common.{◌≡◌, Option, Some, None, ℤ, Bool, true, false, not, ⊎_elim, List, [], ◌∷◌, ◌++◌, refl, sym, ap, ◌∙◌, arith, get_or}
use Rattle.std.specs.Prelude.{◌<ℤ◌, int_lt, All, IfSome}
use Rattle.std.specs.Bool.{beq}
use Rattle.std.proofs.lemmas.Bool.{or_cases, or_left, or_right}
use Rattle.std.proofs.lemmas.Int.{ints}
use Rattle.std.proofs.lemmas.List.Elements.{All-head, All-tail, All-nil, All-cons}
use Rattle.ring_parity.specs.Edges.{EdgeEnds, x_of, y_of, is_above, counts}
use Rattle.ring_parity.specs.Rings.{is_odd}
use Rattle.ring_parity.proofs.Crossing.{xor}
use Rattle.ring_parity.proofs.Parity.{oddly, oddly-cons, oddly-append, oddly_same}
use Rattle.ring_parity.proofs.Rays.{counts_level, counts_west, counts_east}
use Rattle.edge_tree.specs.declared.outline.Bounds.{Bounds}
use Rattle.edge_tree.specs.declared.outline.Climb.{Climb}
use Rattle.edge_tree.specs.declared.outline.Outline.{Outline}
use Rattle.edge_tree.specs.Outlines.{IsBoxed, are_apart, is_off_ray, is_passed, climbs, pass_oddly, Outlines, IsLocation}
use Rattle.edge_tree.proofs.Boxes.{off_apart}
use Rattle.ring_parity.proofs.Steps.{differ}

alone : (a : Bool) → xor a false ≡ a
alone true = refl
alone false = refl

-- one edge alone is passed oddly where it is passed
pub pass_oddly-one : (e : EdgeEnds) (y : ℤ) → pass_oddly (e ∷ []) y ≡ is_passed (y_of e.0) (y_of e.1) y
pass_oddly-one e y = oddly-cons (λ (d : EdgeEnds). is_passed (y_of d.0) (y_of d.1) y) e [] ∙ alone (is_passed (y_of e.0) (y_of e.1) y)

-- two runs together are passed oddly where just one of them is
pub pass_oddly-append : (xs ys : List EdgeEnds) (y : ℤ) → pass_oddly (xs ++ ys) y ≡ not (beq (pass_oddly xs y) (pass_oddly ys y))
pass_oddly-append xs ys y =
    oddly-append (λ (d : EdgeEnds). is_passed (y_of d.0) (y_of d.1) y) xs ys ∙ sym (differ (pass_oddly xs y) (pass_oddly ys y))

pub none_odd : (test : EdgeEnds → Bool) (run : List EdgeEnds) → All (λ e. test e ≡ false) run → oddly test run ≡ false
none_odd test [] h = refl
none_odd test (e ∷ run) h =
    oddly-cons test e run ∙ (rw (All-head (λ d. test d ≡ false) e run h) (none_odd test run (All-tail (λ d. test d ≡ false) e run h)))

-- no edge counts for a point whose ray does not come to the box, nor has it
even_east : (b : Bounds) (run : List EdgeEnds) (p : List ℤ) → All (IsBoxed b) run → b.east <ℤ x_of p → is_odd run p ≡ false
even_east b run p i h =
    none_odd (λ e. counts e p) run (λ k d l.
    let boxed : IsBoxed b (get_or run k d) = i k d l in
    counts_west (get_or run k d) p (omega (arith, ints, boxed.start.east)) (omega (arith, ints, boxed.end.east)))

even_level : (b : Bounds) (run : List EdgeEnds) (p : List ℤ) → All (IsBoxed b) run → are_apart b.south b.north (y_of p) (y_of p) ≡ true → is_odd run p ≡ false
even_level b run p i h =
    none_odd (λ e. counts e p) run (λ k d l.
    let boxed : IsBoxed b (get_or run k d) = i k d l in
    counts_level (get_or run k d) p (⊎_elim
    (λ (north : int_lt b.north (y_of p) ≡ true).
    let start : is_above (get_or run k d).0 p ≡ false = sym (omega (arith, ints, boxed.start.north)) in
    let end : is_above (get_or run k d).1 p ≡ false = sym (omega (arith, ints, boxed.end.north)) in
    start ∙ sym end)
    (λ (south : int_lt (y_of p) b.south ≡ true).
    let start : is_above (get_or run k d).0 p ≡ true = sym (omega (arith, ints, boxed.start.south)) in
    let end : is_above (get_or run k d).1 p ≡ true = sym (omega (arith, ints, boxed.end.south)) in
    start ∙ sym end)
    (or_cases (int_lt b.north (y_of p)) (int_lt (y_of p) b.south) h)))

pub off_ray : (b : Bounds) (run : List EdgeEnds) (p : List ℤ) → All (IsBoxed b) run → is_off_ray b p ≡ true → IsLocation run p false false
off_ray b run p i h =
    ⊎_elim
    (λ (east : int_lt b.east (x_of p) ≡ true). record {
      on_is = off_apart b run p i
          (or_left (are_apart b.west b.east (x_of p) (x_of p)) (are_apart b.south b.north (y_of p) (y_of p))
          (or_left (int_lt b.east (x_of p)) (int_lt (x_of p) b.west) east));
      odd_is = even_east b run p i (omega (arith, ints));
    })
    (λ (level : are_apart b.south b.north (y_of p) (y_of p) ≡ true). record {
      on_is = off_apart b run p i (or_right (are_apart b.west b.east (x_of p) (x_of p)) (are_apart b.south b.north (y_of p) (y_of p)) level);
      odd_is = even_level b run p i level;
    })
    (or_cases (int_lt b.east (x_of p)) (are_apart b.south b.north (y_of p) (y_of p)) h)

-- for a point west of the box the edges count that pass its height
pub odd_west : (b : Bounds) (run : List EdgeEnds) (p : List ℤ) → All (IsBoxed b) run → int_lt (x_of p) b.west ≡ true
    → IsLocation run p false (pass_oddly run (y_of p))
odd_west b run p i h = record {
  on_is = off_apart b run p i
      (or_left (are_apart b.west b.east (x_of p) (x_of p)) (are_apart b.south b.north (y_of p) (y_of p))
      (or_right (int_lt b.east (x_of p)) (int_lt (x_of p) b.west) h));
  odd_is = oddly_same (λ e. counts e p) (λ (e : EdgeEnds). is_passed (y_of e.0) (y_of e.1) (y_of p)) run (λ k d l.
      let boxed : IsBoxed b (get_or run k d) = i k d l in
      counts_east (get_or run k d) p (omega (arith, ints, boxed.start.west)) (omega (arith, ints, boxed.end.west))
      ∙ sym (differ (is_above (get_or run k d).0 p) (is_above (get_or run k d).1 p)));
}

pub outlines_one : (e : EdgeEnds) (b : Bounds) (from to : ℤ) → IsBoxed b e → from ≡ y_of e.0 → to ≡ y_of e.1
    → Outlines (e ∷ []) (record { bounds = b; climb = Some (record { from = from; to = to }) })
outlines_one e b from to boxed f t = record {
  boxed = All-cons (IsBoxed b) e [] boxed (All-nil (IsBoxed b));
  climb = λ y. pass_oddly-one e y ∙ (rw (f, t) refl);
}

-- what a climb tells of two runs, each of which a climb tells of
pub climb_join : (xs ys : List EdgeEnds) (first second joined : Climb) → ((y : ℤ) → pass_oddly xs y ≡ climbs first y)
    → ((y : ℤ) → pass_oddly ys y ≡ climbs second y)
    → ((y : ℤ) → climbs joined y ≡ not (beq (climbs first y) (climbs second y))) → (y : ℤ) → pass_oddly (xs ++ ys) y ≡ climbs joined y
climb_join xs ys first second joined f s j y =
    pass_oddly-append xs ys y ∙ (rw (f y, s y) (sym (j y)))

pub climbs_joined : (xs ys : List EdgeEnds) (first second : Climb) (o n joined : Option Climb) → o ≡ Some first → n ≡ Some second
    → IfSome o (λ c. (y : ℤ) → pass_oddly xs y ≡ climbs c y) → IfSome n (λ c. (y : ℤ) → pass_oddly ys y ≡ climbs c y)
    → IfSome joined (λ c. (y : ℤ) → climbs c y ≡ not (beq (climbs first y) (climbs second y)))
    → IfSome joined (λ c. (y : ℤ) → pass_oddly (xs ++ ys) y ≡ climbs c y)
climbs_joined xs ys first second o n None p q f s j = tt
climbs_joined xs ys first second (Some a) (Some b) (Some d) p q f s j =
    let a_is : a ≡ first = cc in
    let b_is : b ≡ second = cc in
    climb_join xs ys first second d (λ y. f y ∙ ap (λ c. climbs c y) a_is) (λ y. s y ∙ ap (λ c. climbs c y) b_is) j
climbs_joined xs ys first second None n (Some d) p q f s j = cc
climbs_joined xs ys first second (Some a) None (Some d) p q f s j = cc

-- a point west of the box, beside a run that a climb tells of
pub place_west : (o : Outline) (run : List EdgeEnds) (p : List ℤ) (climb : Climb) (odd : Bool) → Outlines run o → int_lt (x_of p) o.bounds.west ≡ true
    → o.climb ≡ Some climb → odd ≡ climbs climb (y_of p) → IsLocation run p false odd
place_west o run p climb odd outlined west is passes =
    let place : IsLocation run p false (pass_oddly run (y_of p)) = odd_west o.bounds run p outlined.boxed west in
    let told : pass_oddly run (y_of p) ≡ climbs climb (y_of p) = (rw is at outlined.climb) (y_of p) in
    record { on_is = place.on_is; odd_is = place.odd_is ∙ told ∙ sym passes }
