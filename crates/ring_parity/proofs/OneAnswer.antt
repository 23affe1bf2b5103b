-- Where no edge of closed rings meets a cell, the even-odd rule has one answer on the cell.
use Rattle.std.proofs.Common.{◌≡◌, ℤ, pos, Bool, true, false, not, ◌&&◌, ◌||◌, ◌⊎◌, inl, inr, ⊎_elim, List, [], ◌∷◌, get_or, refl, sym, ◌∙◌, arith}
use Rattle.std.specs.Prelude.{◌<ℤ◌, ◌≤ℤ◌, int_lt, int_le, All}
use Rattle.std.specs.List.{list_all}
use Rattle.std.specs.Ordering.{int_eq}
use Rattle.std.proofs.lemmas.Bool.{and_parts, or_cases, or_parts, and_left, and_right, not_from_true}
use Rattle.std.proofs.lemmas.Bool.{not-false, or_left, or_right, and_from, false_from_ne_true}
use Rattle.std.proofs.lemmas.Bool.Decides.{Decides-int_eq}
use Rattle.std.proofs.lemmas.List.Elements.{All-nil, All-cons, All-weaker}
use Rattle.std.proofs.lemmas.List.Folds.{list_any_none}
use Rattle.std.proofs.lemmas.Int.{ints}
use Rattle.point_codec.specs.Points.{Region, all_le, in_box}
use Rattle.ring_parity.specs.Edges.{EdgeEnds, x_of, y_of, side, is_left, is_right, is_above, are_beyond, is_disjoint, on, counts, corners, misses}
use Rattle.ring_parity.specs.Rings.{AreClosed, is_on_any, is_odd, is_within, any_meets, all_edges, in_polygon, rings_cross, IsClosed, IsLinearRing, ArePolygon}
use Rattle.ring_parity.proofs.Signs.{turn, turn-turned, CornersLeft, left_of_line}
use Rattle.ring_parity.proofs.Crossing.{xor, counts_at, InCell, Tells, tells_west, tells_east, tells_south, tells_north, tells_left, tells_right}
use Rattle.ring_parity.proofs.Parity.{oddly_xor, oddly_same, AreClosed-marks, AreClosed-all_edges}

abbrev pub InRegion : Region → List ℤ → Type 0
InRegion cell p = InCell (x_of cell.lo) (y_of cell.lo) (x_of cell.hi) (y_of cell.hi) (x_of p) (y_of p)

abbrev TellsAt : EdgeEnds → Region → Bool → Type 0
TellsAt e cell bit = Tells (x_of e.0) (y_of e.0) (x_of e.1) (y_of e.1) (x_of cell.lo) (y_of cell.lo) (x_of cell.hi) (y_of cell.hi) bit

pub x_least : (p q : List ℤ) → all_le p q ≡ true → x_of p ≤ℤ x_of q
x_least (x ∷ p) (y ∷ q) h = let t : int_le x y ≡ true = (and_parts (int_le x y) (all_le p q) h).0 in omega (arith, ints)
x_least [] [] h = omega (arith, ints)
x_least (x ∷ p) [] h = cc
x_least [] (y ∷ q) h = cc

pub y_least : (p q : List ℤ) → all_le p q ≡ true → y_of p ≤ℤ y_of q
y_least (x ∷ p) (y ∷ q) h = x_least p q (and_parts (int_le x y) (all_le p q) h).1
y_least [] [] h = omega (arith, ints)
y_least (x ∷ p) [] h = cc
y_least [] (y ∷ q) h = cc

pub in_region : (cell : Region) (p : List ℤ) → in_box cell p ≡ true → InRegion cell p
in_region cell p h =
    let parts : (all_le cell.lo p ≡ true) × (all_le p cell.hi ≡ true) = and_parts (all_le cell.lo p) (all_le p cell.hi) h in
    record { west = x_least cell.lo p parts.0; east = x_least p cell.hi parts.1; south = y_least cell.lo p parts.0; north = y_least p cell.hi parts.1 }

-- how an edge misses a cell
pub data Misses (e : EdgeEnds) (cell : Region) : Type 0 where
  is_west : x_of e.0 <ℤ x_of cell.lo → x_of e.1 <ℤ x_of cell.lo → Misses e cell
  is_east : x_of cell.hi <ℤ x_of e.0 → x_of cell.hi <ℤ x_of e.1 → Misses e cell
  is_south : y_of e.0 <ℤ y_of cell.lo → y_of e.1 <ℤ y_of cell.lo → Misses e cell
  is_north : y_of cell.hi <ℤ y_of e.0 → y_of cell.hi <ℤ y_of e.1 → Misses e cell
  is_left_of : CornersLeft (x_of e.0) (y_of e.0) (x_of e.1) (y_of e.1) (x_of cell.lo) (y_of cell.lo) (x_of cell.hi) (y_of cell.hi) → Misses e cell
  is_right_of : CornersLeft (x_of e.1) (y_of e.1) (x_of e.0) (y_of e.0) (x_of cell.lo) (y_of cell.lo) (x_of cell.hi) (y_of cell.hi) → Misses e cell

pub beyond : (a b lo hi : ℤ) → are_beyond a b lo hi ≡ true → ((a <ℤ lo) × (b <ℤ lo)) ⊎ ((hi <ℤ a) × (hi <ℤ b))
beyond a b lo hi h =
    ⊎_elim
    (λ (l : (int_lt a lo && int_lt b lo) ≡ true).
    let both : (int_lt a lo ≡ true) × (int_lt b lo ≡ true) = and_parts (int_lt a lo) (int_lt b lo) l in
    inl (omega (arith, ints), omega (arith, ints)))
    (λ (r : (int_lt hi a && int_lt hi b) ≡ true).
    let both : (int_lt hi a ≡ true) × (int_lt hi b ≡ true) = and_parts (int_lt hi a) (int_lt hi b) r in
    inr (omega (arith, ints), omega (arith, ints)))
    (or_cases (int_lt a lo && int_lt b lo) (int_lt hi a && int_lt hi b) h)

pub side_is : (e : EdgeEnds) (p : List ℤ) → side e p ≡ turn (x_of e.0) (y_of e.0) (x_of e.1) (y_of e.1) (x_of p) (y_of p)
unfolding side turn
side_is e p = refl

pub counts_is : (e : EdgeEnds) (p : List ℤ) → counts e p ≡ counts_at (x_of e.0) (y_of e.0) (x_of e.1) (y_of e.1) (x_of p) (y_of p)
unfolding counts side turn
counts_is e p = refl

left_at : (e : EdgeEnds) (p : List ℤ) → is_left e p ≡ true → pos 0 <ℤ turn (x_of e.0) (y_of e.0) (x_of e.1) (y_of e.1) (x_of p) (y_of p)
left_at e p h = omega (arith, ints, side_is e p)

right_at : (e : EdgeEnds) (p : List ℤ) → is_right e p ≡ true → pos 0 <ℤ turn (x_of e.1) (y_of e.1) (x_of e.0) (y_of e.0) (x_of p) (y_of p)
right_at e p h = omega (arith, ints, side_is e p, turn-turned (x_of e.0) (y_of e.0) (x_of e.1) (y_of e.1) (x_of p) (y_of p))

four_parts : (a b c d : Bool) → (a && (b && (c && (d && true)))) ≡ true → (a ≡ true) × (b ≡ true) × (c ≡ true) × (d ≡ true)
four_parts true true true true h = (refl, refl, refl, refl)
four_parts true true true false h = cc
four_parts true true false d h = cc
four_parts true false c d h = cc
four_parts false b c d h = cc

all_left : (e : EdgeEnds) (cell : Region) → list_all (is_left e) (corners cell) ≡ true
    → CornersLeft (x_of e.0) (y_of e.0) (x_of e.1) (y_of e.1) (x_of cell.lo) (y_of cell.lo) (x_of cell.hi) (y_of cell.hi)
all_left e cell h =
    let parts = four_parts _ _ _ _ h in
    record { low_low = left_at e _ parts.0; low_high = left_at e _ parts.1; high_low = left_at e _ parts.2; high_high = left_at e _ parts.3 }

all_right : (e : EdgeEnds) (cell : Region) → list_all (is_right e) (corners cell) ≡ true
    → CornersLeft (x_of e.1) (y_of e.1) (x_of e.0) (y_of e.0) (x_of cell.lo) (y_of cell.lo) (x_of cell.hi) (y_of cell.hi)
all_right e cell h =
    let parts = four_parts _ _ _ _ h in
    record { low_low = right_at e _ parts.0; low_high = right_at e _ parts.1; high_low = right_at e _ parts.2; high_high = right_at e _ parts.3 }

pub misses_by : (e : EdgeEnds) (cell : Region) → misses e cell ≡ true → Misses e cell
unfolding misses
misses_by e cell h =
    ⊎_elim
    (λ (apart : (is_disjoint e cell || list_all (is_left e) (corners cell)) ≡ true).
    ⊎_elim
    (λ (disjoint : is_disjoint e cell ≡ true).
    ⊎_elim
    (λ (across : are_beyond (x_of e.0) (x_of e.1) (x_of cell.lo) (x_of cell.hi) ≡ true).
    ⊎_elim (λ w. is_west w.0 w.1) (λ w. is_east w.0 w.1) (beyond (x_of e.0) (x_of e.1) (x_of cell.lo) (x_of cell.hi) across))
    (λ (along : are_beyond (y_of e.0) (y_of e.1) (y_of cell.lo) (y_of cell.hi) ≡ true).
    ⊎_elim (λ w. is_south w.0 w.1) (λ w. is_north w.0 w.1) (beyond (y_of e.0) (y_of e.1) (y_of cell.lo) (y_of cell.hi) along))
    (or_cases (are_beyond (x_of e.0) (x_of e.1) (x_of cell.lo) (x_of cell.hi)) (are_beyond (y_of e.0) (y_of e.1) (y_of cell.lo) (y_of cell.hi)) disjoint))
    (λ (left : list_all (is_left e) (corners cell) ≡ true). is_left_of (all_left e cell left))
    (or_cases (is_disjoint e cell) (list_all (is_left e) (corners cell)) apart))
    (λ (right : list_all (is_right e) (corners cell) ≡ true). is_right_of (all_right e cell right))
    (or_cases (is_disjoint e cell || list_all (is_left e) (corners cell)) (list_all (is_right e) (corners cell)) h)

told : (e : EdgeEnds) (cell : Region) → Misses e cell → (bit : Bool) × TellsAt e cell bit
told e cell (is_west a b) = (false, tells_west _ _ _ _ _ _ _ _ a b)
told e cell (is_east a b) = (true, tells_east _ _ _ _ _ _ _ _ a b)
told e cell (is_south a b) = (false, tells_south _ _ _ _ _ _ _ _ a b)
told e cell (is_north a b) = (false, tells_north _ _ _ _ _ _ _ _ a b)
told e cell (is_left_of c) = (int_lt (y_of e.0) (y_of e.1), tells_left _ _ _ _ _ _ _ _ c)
told e cell (is_right_of c) = (int_lt (y_of e.1) (y_of e.0), tells_right _ _ _ _ _ _ _ _ c)

-- a position is marked where it stands between the heights of two points, east of the first
abbrev pub mark : List ℤ → List ℤ → List ℤ → Bool
mark p q v = xor (is_above v p) (is_above v q) && int_lt (x_of p) (x_of v)

by_height : (a b t bit : Bool) → (a ≡ true → b ≡ false → t ≡ bit) → (a ≡ false → b ≡ true → t ≡ bit) → (xor a b && t) ≡ (xor a b && bit)
by_height true true t bit g h = refl
by_height true false t bit g h = g refl refl
by_height false true t bit g h = h refl refl
by_height false false t bit g h = refl

mark_is : (cell : Region) (p q v : List ℤ) (bit : Bool) → InRegion cell p → InRegion cell q
    → (y_of cell.lo ≤ℤ y_of v → y_of v ≤ℤ y_of cell.hi → int_lt (x_of p) (x_of v) ≡ bit) → mark p q v ≡ (xor (is_above v p) (is_above v q) && bit)
mark_is cell p q v bit i j h =
    by_height (is_above v p) (is_above v q) (int_lt (x_of p) (x_of v)) bit
    (λ (a : int_lt (y_of p) (y_of v) ≡ true) (b : int_lt (y_of q) (y_of v) ≡ false). h (omega (arith, ints)) (omega (arith, ints)))
    (λ (a : int_lt (y_of p) (y_of v) ≡ false) (b : int_lt (y_of q) (y_of v) ≡ true). h (omega (arith, ints)) (omega (arith, ints)))

exchanged : (a b c d s : Bool) → xor (xor a b && s) (xor c d && s) ≡ xor (xor a c && s) (xor b d && s)
exchanged a b c d s = grind arith

-- an edge that misses the cell changes its count between two points of it where one of its ends is marked
pub change : (e : EdgeEnds) (cell : Region) (p q : List ℤ) → misses e cell ≡ true → InRegion cell p → InRegion cell q
    → xor (counts e p) (counts e q) ≡ xor (mark p q e.0) (mark p q e.1)
change e cell p q h i j =
    let both : (bit : Bool) × TellsAt e cell bit = told e cell (misses_by e cell h) in
    let bit : Bool = both.0 in
    let tells : TellsAt e cell bit = both.1 in
    let at_p : counts e p ≡ (xor (is_above e.0 p) (is_above e.1 p) && bit) = counts_is e p ∙ tells.counting (x_of p) (y_of p) i in
    let at_q : counts e q ≡ (xor (is_above e.0 q) (is_above e.1 q) && bit) = counts_is e q ∙ tells.counting (x_of q) (y_of q) j in
    let start : mark p q e.0 ≡ (xor (is_above e.0 p) (is_above e.0 q) && bit) = mark_is cell p q e.0 bit i j (tells.start (x_of p) i.west i.east) in
    let end : mark p q e.1 ≡ (xor (is_above e.1 p) (is_above e.1 q) && bit) = mark_is cell p q e.1 bit i j (tells.end (x_of p) i.west i.east) in
    rw (at_p, at_q) (exchanged (is_above e.0 p) (is_above e.1 p) (is_above e.0 q) (is_above e.1 q) bit ∙ (rw (start, end) refl))

from_xor : (a b : Bool) → xor a b ≡ false → a ≡ b
from_xor true true h = refl
from_xor true false h = cc
from_xor false true h = cc
from_xor false false h = refl

-- so the parity of closed edges that miss a cell is the same on the whole cell
pub same_parity : (edges : List EdgeEnds) (cell : Region) (p q : List ℤ) → AreClosed edges → All (λ e. misses e cell ≡ true) edges
    → in_box cell p ≡ true → in_box cell q ≡ true → is_odd edges p ≡ is_odd edges q
same_parity edges cell p q closed miss i j =
    from_xor (is_odd edges p) (is_odd edges q)
    (sym (oddly_xor (λ e. counts e p) (λ e. counts e q) edges)
    ∙ oddly_same (λ e. xor (counts e p) (counts e q)) (λ e. xor (mark p q e.0) (mark p q e.1)) edges
    (λ k d l. change (get_or edges k d) cell p q (miss k d l) (in_region cell p i) (in_region cell q j))
    ∙ AreClosed-marks edges closed (mark p q))

pub past : (e : EdgeEnds) (p : List ℤ) → is_disjoint e (record { lo = p; hi = p }) ≡ true → on e p ≡ false
unfolding on
past e p h =
    and_right (int_eq (side e p) (pos 0)) (not (is_disjoint e (record { lo = p; hi = p }))) (not_from_true (is_disjoint e (record { lo = p; hi = p })) h)

beside : (e : EdgeEnds) (p : List ℤ) → (side e p ≡ pos 0 → ⊥) → on e p ≡ false
unfolding on
beside e p h =
    and_left (int_eq (side e p) (pos 0)) (not (is_disjoint e (record { lo = p; hi = p })))
    (false_from_ne_true (int_eq (side e p) (pos 0)) (λ t. h ((Decides-int_eq (side e p) (pos 0)).0 t)))

both_below : (a b z : ℤ) → a <ℤ z → b <ℤ z → are_beyond a b z z ≡ true
both_below a b z p q =
    or_left (int_lt a z && int_lt b z) (int_lt z a && int_lt z b) (and_from (int_lt a z) (int_lt b z) (sym (omega (arith, ints))) (sym (omega (arith, ints))))

both_above : (a b z : ℤ) → z <ℤ a → z <ℤ b → are_beyond a b z z ≡ true
both_above a b z p q =
    or_right (int_lt a z && int_lt b z) (int_lt z a && int_lt z b) (and_from (int_lt z a) (int_lt z b) (sym (omega (arith, ints))) (sym (omega (arith, ints))))

-- no point of a cell is on an edge that misses it
pub not_on : (e : EdgeEnds) (cell : Region) (p : List ℤ) → Misses e cell → InRegion cell p → on e p ≡ false
not_on e cell p (is_west a b) i = past e p (or_left _ _ (both_below (x_of e.0) (x_of e.1) (x_of p) (omega (arith, ints)) (omega (arith, ints))))
not_on e cell p (is_east a b) i = past e p (or_left _ _ (both_above (x_of e.0) (x_of e.1) (x_of p) (omega (arith, ints)) (omega (arith, ints))))
not_on e cell p (is_south a b) i = past e p (or_right _ _ (both_below (y_of e.0) (y_of e.1) (y_of p) (omega (arith, ints)) (omega (arith, ints))))
not_on e cell p (is_north a b) i = past e p (or_right _ _ (both_above (y_of e.0) (y_of e.1) (y_of p) (omega (arith, ints)) (omega (arith, ints))))
not_on e cell p (is_left_of c) i =
    beside e p (λ (zero : side e p ≡ pos 0). omega (arith, ints, side_is e p, left_of_line _ _ _ _ _ _ _ _ (x_of p) (y_of p) c i.west i.east i.south i.north))
not_on e cell p (is_right_of c) i =
    beside e p (λ (zero : side e p ≡ pos 0). omega (
      arith,
      ints,
      side_is e p,
      turn-turned (x_of e.0) (y_of e.0) (x_of e.1) (y_of e.1) (x_of p) (y_of p),
      left_of_line _ _ _ _ _ _ _ _ (x_of p) (y_of p) c i.west i.east i.south i.north,
    ))

pub none_meets : (edges : List EdgeEnds) (cell : Region) → any_meets edges cell ≡ false → All (λ e. misses e cell ≡ true) edges
none_meets [] cell h = All-nil (λ e. misses e cell ≡ true)
none_meets (e ∷ edges) cell h =
    let parts : (not (misses e cell) ≡ false) × (any_meets edges cell ≡ false) = or_parts (not (misses e cell)) (any_meets edges cell) h in
    All-cons (λ d. misses d cell ≡ true) e edges (not-false (misses e cell) parts.0) (none_meets edges cell parts.1)

-- THE LAW OF THE EVEN-ODD RULE: a cell that no edge of closed edges meets lies whole within them or whole out of them
pub one_answer : (edges : List EdgeEnds) (cell : Region) → AreClosed edges → any_meets edges cell ≡ false
    → (p q : List ℤ) → in_box cell p ≡ true → in_box cell q ≡ true → is_within edges p ≡ is_within edges q
one_answer edges cell closed none p q i j =
    let miss : All (λ e. misses e cell ≡ true) edges = none_meets edges cell none in
    let off : (r : List ℤ) → in_box cell r ≡ true → is_on_any edges r ≡ false = λ r h.
    list_any_none (λ e. on e r) edges (λ k d l. not_on (get_or edges k d) cell r (misses_by (get_or edges k d) cell (miss k d l)) (in_region cell r h)) in
    rw (off p i, off q j) (same_parity edges cell p q closed miss i j)

-- the law for a polygon's rings
pub polygon_answer : (rings : List (List (List ℤ))) (cell : Region) → ArePolygon rings → rings_cross rings cell ≡ false
    → (p q : List ℤ) → in_box cell p ≡ true → in_box cell q ≡ true → in_polygon rings p ≡ in_polygon rings q
polygon_answer rings cell polygon none =
    one_answer (all_edges rings) cell (AreClosed-all_edges rings (All-weaker IsLinearRing IsClosed (λ ring h. h.closed) rings polygon.linear)) none
