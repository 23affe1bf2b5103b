-- Edges whose counting is told by their bounding boxes and heights alone, for the crates that put edges under boxes.
use Rattle.std.proofs.Common.{◌≡◌, ℤ, pos, Bool, true, false, not, ◌&&◌, ◌||◌, ⊎_elim, List, refl, sym, ◌∙◌, arith}
use Rattle.std.specs.Prelude.{◌<ℤ◌, ◌≤ℤ◌}
use Rattle.std.specs.Ordering.{int_eq}
use Rattle.std.specs.Bool.{beq}
use Rattle.std.proofs.lemmas.Bool.{or_left, or_cases}
use Rattle.std.proofs.lemmas.Bool.Decides.{Decides-int_eq}
use Rattle.std.proofs.lemmas.Int.{ints, by_lt_z}
use Rattle.std.specs.List.{list_all}
use Rattle.point_codec.specs.Points.{Region}
use Rattle.ring_parity.specs.Edges.{EdgeEnds, x_of, y_of, side, is_above, is_left, is_right, are_beyond, is_disjoint, on, corners, counts, misses}
use Rattle.ring_parity.proofs.Crossing.{xor, counted, InCell, tells_west, tells_east}
use Rattle.ring_parity.proofs.OneAnswer.{counts_is, side_is, beyond}
use Rattle.ring_parity.proofs.Signs.{rising_east, rising_west, falling_east, falling_west}

-- a point is a cell of its own
alone : (x y : ℤ) → InCell x y x y x y
alone x y = record { west = omega (arith, ints); east = omega (arith, ints); south = omega (arith, ints); north = omega (arith, ints) }

neither : (a b : Bool) → (xor a b && false) ≡ false
neither true true = refl
neither true false = refl
neither false true = refl
neither false false = refl

whole : (a : Bool) → (a && true) ≡ a
whole true = refl
whole false = refl

level : (start end left right : Bool) → start ≡ end → counted start end left right ≡ false
level true true left right h = refl
level true false left right h = cc
level false true left right h = cc
level false false left right h = refl

-- no edge counts that has both ends above the point, or none
pub counts_level : (e : EdgeEnds) (p : List ℤ) → is_above e.0 p ≡ is_above e.1 p → counts e p ≡ false
unfolding counts
counts_level e p h = level (is_above e.0 p) (is_above e.1 p) (is_left e p) (is_right e p) h

-- none that is west of the point
pub counts_west : (e : EdgeEnds) (p : List ℤ) → x_of e.0 <ℤ x_of p → x_of e.1 <ℤ x_of p → counts e p ≡ false
counts_west e p a b =
    counts_is e p ∙ (tells_west _ _ _ _ (x_of p) (y_of p) (x_of p) (y_of p) a b).counting (x_of p) (y_of p) (alone (x_of p) (y_of p))
    ∙ neither (is_above e.0 p) (is_above e.1 p)

-- and an edge east of the point counts where one of its ends is above it
pub counts_east : (e : EdgeEnds) (p : List ℤ) → x_of p <ℤ x_of e.0 → x_of p <ℤ x_of e.1 → counts e p ≡ xor (is_above e.0 p) (is_above e.1 p)
counts_east e p a b =
    counts_is e p ∙ (tells_east _ _ _ _ (x_of p) (y_of p) (x_of p) (y_of p) a b).counting (x_of p) (y_of p) (alone (x_of p) (y_of p))
    ∙ whole (xor (is_above e.0 p) (is_above e.1 p))

-- an edge whose bounding box is apart from the cell misses it
pub misses_disjoint : (e : EdgeEnds) (cell : Region) → is_disjoint e cell ≡ true → misses e cell ≡ true
unfolding misses
misses_disjoint e cell h =
    or_left (is_disjoint e cell || list_all (is_left e) (corners cell)) (list_all (is_right e) (corners cell))
    (or_left (is_disjoint e cell) (list_all (is_left e) (corners cell)) h)

-- a point at a height that the edge passes is not in its line where the bounding box is apart
off_line : (e : EdgeEnds) (p : List ℤ) → (is_above e.0 p ≡ is_above e.1 p → ⊥) → is_disjoint e (record { lo = p; hi = p }) ≡ true → side e p ≡ pos 0 → ⊥
off_line e p h apart zero =
    ⊎_elim
    (λ (across : are_beyond (x_of e.0) (x_of e.1) (x_of p) (x_of p) ≡ true).
    by_lt_z (y_of p) (y_of e.0)
    (λ (a : y_of p <ℤ y_of e.0).
    by_lt_z (y_of p) (y_of e.1)
    (λ (b : y_of p <ℤ y_of e.1). both_above e p h a b)
    (λ (b : y_of e.1 ≤ℤ y_of p).
    ⊎_elim
    (λ w. omega (arith, ints, zero, side_is e p, falling_west (x_of e.0) (y_of e.0) (x_of e.1) (y_of e.1) (x_of p) (y_of p) b a w.0 w.1))
    (λ w. omega (arith, ints, zero, side_is e p, falling_east (x_of e.0) (y_of e.0) (x_of e.1) (y_of e.1) (x_of p) (y_of p) b a w.0 w.1))
    (beyond (x_of e.0) (x_of e.1) (x_of p) (x_of p) across)))
    (λ (a : y_of e.0 ≤ℤ y_of p).
    by_lt_z (y_of p) (y_of e.1)
    (λ (b : y_of p <ℤ y_of e.1).
    ⊎_elim
    (λ w. omega (arith, ints, zero, side_is e p, rising_west (x_of e.0) (y_of e.0) (x_of e.1) (y_of e.1) (x_of p) (y_of p) a b w.0 w.1))
    (λ w. omega (arith, ints, zero, side_is e p, rising_east (x_of e.0) (y_of e.0) (x_of e.1) (y_of e.1) (x_of p) (y_of p) a b w.0 w.1))
    (beyond (x_of e.0) (x_of e.1) (x_of p) (x_of p) across))
    (λ (b : y_of e.1 ≤ℤ y_of p). none_above e p h a b)))
    (λ (along : are_beyond (y_of e.0) (y_of e.1) (y_of p) (y_of p) ≡ true).
    ⊎_elim
    (λ w. none_above e p h (omega (arith, ints, w.0)) (omega (arith, ints, w.1)))
    (λ w. both_above e p h w.0 w.1)
    (beyond (y_of e.0) (y_of e.1) (y_of p) (y_of p) along))
    (or_cases (are_beyond (x_of e.0) (x_of e.1) (x_of p) (x_of p)) (are_beyond (y_of e.0) (y_of e.1) (y_of p) (y_of p)) apart)
  where
    both_above : (e : EdgeEnds) (p : List ℤ) → (is_above e.0 p ≡ is_above e.1 p → ⊥) → y_of p <ℤ y_of e.0 → y_of p <ℤ y_of e.1 → ⊥
    both_above e p h a b =
        let start : true ≡ is_above e.0 p = omega (arith, ints) in let end : true ≡ is_above e.1 p = omega (arith, ints) in h (sym start ∙ end)

    none_above : (e : EdgeEnds) (p : List ℤ) → (is_above e.0 p ≡ is_above e.1 p → ⊥) → y_of e.0 ≤ℤ y_of p → y_of e.1 ≤ℤ y_of p → ⊥
    none_above e p h a b =
        let start : false ≡ is_above e.0 p = omega (arith, ints) in let end : false ≡ is_above e.1 p = omega (arith, ints) in h (sym start ∙ end)

pub same_from : (a b : Bool) → beq a b ≡ true → a ≡ b
same_from true true h = refl
same_from true false h = cc
same_from false true h = cc
same_from false false h = refl

pub other_from : (a b : Bool) → beq a b ≡ false → a ≡ b → ⊥
other_from true true h e = cc
other_from true false h e = cc
other_from false true h e = cc
other_from false false h e = cc

kept_if : (a b : Bool) → (a ≡ true → b ≡ true → ⊥) → (a && not b) ≡ a
kept_if true true h = absurd (h refl refl)
kept_if true false h = refl
kept_if false b h = refl

-- so an edge that passes the height of a point has it where the three are in one line
pub on_passed : (e : EdgeEnds) (p : List ℤ) → (is_above e.0 p ≡ is_above e.1 p → ⊥) → on e p ≡ int_eq (side e p) (pos 0)
unfolding on
on_passed e p h =
    kept_if (int_eq (side e p) (pos 0)) (is_disjoint e (record { lo = p; hi = p }))
    (λ t apart. off_line e p h apart ((Decides-int_eq (side e p) (pos 0)).0 t))
