-- Edges that turn a point: of closed edges those near a cell tell of its points, with one parity for all others.
use Rattle.std.proofs.Common.{◌≡◌, ℕ, suc, ℤ, ◌+◌, ◌%◌, Bool, true, false, not, cond, eqb, ◌&&◌, ◌||◌, List, [], ◌∷◌, map, get_or, refl, sym, ap, ◌∙◌, arith}
use Rattle.std.specs.Prelude.{int_lt, count_by, length}
use Rattle.std.specs.List.{list_any}
use Rattle.std.proofs.lemmas.List.Sums.{sum_by-cons}
use Rattle.std.proofs.lemmas.Bool.Decides.{nat_tests}
use Rattle.point_codec.specs.Points.{Region, all_le, in_box}
use Rattle.point_codec.specs.Cells.{within}
use Rattle.point_codec.proofs.Corners.{all_le-refl}
use Rattle.ring_parity.specs.Edges as EdgeSpecs
use Rattle.ring_parity.specs.Edges.{EdgeEnds, x_of, is_above, counts, misses}
use Rattle.ring_parity.specs.Rings.{AreClosed, is_odd, any_meets}
use Rattle.ring_parity.specs.Seen.{ends_of}
use Rattle.ring_parity.specs.declared.edges.Edge.{Edge}
use Rattle.ring_parity.proofs.Crossing.{xor}
use Rattle.ring_parity.proofs.Parity.{oddly, oddly_xor, oddly_same, AreClosed-marks, xor_self}
use Rattle.ring_parity.proofs.OneAnswer.{in_region, misses_by, mark, change, not_on}
use Rattle.ring_parity.proofs.Narrower.{missed_within}
use Rattle.edge_tree.specs.Levels.{differ, is_marked, turns, turn_oddly, AreNear, meeting}
use Rattle.edge_tree.proofs.Same.{any_counted}

pub differ_is : (a b : Bool) → differ a b ≡ xor a b
differ_is true true = refl
differ_is true false = refl
differ_is false true = refl
differ_is false false = refl

alone : (a : Bool) → xor a false ≡ a
alone true = refl
alone false = refl

back : (a b : Bool) → b ≡ xor a (xor a b)
back true true = refl
back true false = refl
back false b = refl

around : (a m n : Bool) → xor a (xor m n) ≡ xor n (xor a m)
around true true true = refl
around true true false = refl
around true false true = refl
around true false false = refl
around false true true = refl
around false true false = refl
around false false true = refl
around false false false = refl

both_by : (a b s : Bool) → (xor a b && s) ≡ xor (a && s) (b && s)
both_by true true true = refl
both_by true true false = refl
both_by true false true = refl
both_by true false false = refl
both_by false b s = refl

taken_over : (c a b x y : Bool) → xor c (xor a b) ≡ xor (xor c (xor (xor a x) (xor b y))) (xor x y)
taken_over c a b x y = grind arith

-- two points that an edge counts differently for have its marks differently
moved : (a x b y c d : Bool) → xor c d ≡ xor (xor a x) (xor b y) → xor c (xor a b) ≡ xor d (xor x y)
moved a x b y c d h = taken_over c a b x y ∙ ap (λ e. xor e (xor x y)) (ap (λ e. xor c e) (sym h) ∙ sym (back c d))

turns_is : (from q : List ℤ) (e : EdgeEnds) → turns from q e ≡ xor (counts e q) (xor (is_marked from q e.0) (is_marked from q e.1))
turns_is from q e =
    differ_is (counts e q) (differ (is_marked from q e.0) (is_marked from q e.1))
    ∙ ap (λ b. xor (counts e q) b) (differ_is (is_marked from q e.0) (is_marked from q e.1))

mark_is : (p q v : List ℤ) → mark p q v ≡ xor (is_marked p p v) (is_marked p q v)
mark_is p q v = both_by (is_above v p) (is_above v q) (int_lt (x_of p) (x_of v))

-- an edge that misses the cell turns all its points or none, and has none of them
turns_missed : (e : EdgeEnds) (cell : Region) (q : List ℤ) → all_le cell.lo cell.hi ≡ true → misses e cell ≡ true → in_box cell q ≡ true
    → turns cell.lo cell.lo e ≡ turns cell.lo q e
turns_missed e cell q ordered m i =
    let first : in_box cell cell.lo ≡ true = rw (all_le-refl cell.lo, ordered) refl in
    turns_is cell.lo cell.lo e
    ∙ moved (is_marked cell.lo cell.lo e.0) (is_marked cell.lo q e.0) (is_marked cell.lo cell.lo e.1) (is_marked cell.lo q e.1) (counts e cell.lo) (counts e q)
    (change e cell cell.lo q m (in_region cell cell.lo first) (in_region cell q i) ∙ ap (λ b. xor b (mark cell.lo q e.1)) (mark_is cell.lo q e.0)
    ∙ ap (λ b. xor (xor (is_marked cell.lo cell.lo e.0) (is_marked cell.lo q e.0)) b) (mark_is cell.lo q e.1))
    ∙ sym (turns_is cell.lo q e)

pub on_missed : (e : EdgeEnds) (cell : Region) (p : List ℤ) → misses e cell ≡ true → in_box cell p ≡ true → EdgeSpecs.on e p ≡ false
on_missed e cell p h i = not_on e cell p (misses_by e cell h) (in_region cell p i)

-- an odd number of closed edges turns a point where an odd number counts for it
odd_turned : (all : List EdgeEnds) (from q : List ℤ) → AreClosed all → turn_oddly from q all ≡ is_odd all q
odd_turned all from q closed =
    oddly_same (turns from q) (λ e. xor (counts e q) (xor (is_marked from q e.0) (is_marked from q e.1))) all (λ k d l. turns_is from q (get_or all k d))
    ∙ oddly_xor (λ e. counts e q) (λ e. xor (is_marked from q e.0) (is_marked from q e.1)) all
    ∙ ap (λ b. xor (is_odd all q) b) (AreClosed-marks all closed (is_marked from q)) ∙ alone (is_odd all q)

told_by : (a b m n k : Bool) → xor a b ≡ xor m n → xor a m ≡ k → b ≡ xor n k
told_by a b m n k e f = back a b ∙ ap (λ c. xor a c) e ∙ around a m n ∙ ap (λ c. xor n c) f

equal_xor : (a b : Bool) → a ≡ b → xor a b ≡ false
equal_xor a b e = ap (λ c. xor a c) (sym e) ∙ xor_self a

-- THE LAW OF A LEVEL: the edges near a cell tell the parity of its points, with that of all others at its least corner
pub odd_near : (all near : List EdgeEnds) (cell : Region) (q : List ℤ) (odd : Bool) → AreClosed all → AreNear cell near all → all_le cell.lo cell.hi ≡ true
    → differ (is_odd all cell.lo) (turn_oddly cell.lo cell.lo near) ≡ odd → in_box cell q ≡ true → is_odd all q ≡ differ (turn_oddly cell.lo q near) odd
odd_near all near cell q odd closed h ordered others i =
    let changes : EdgeEnds → Bool = λ e. xor (turns cell.lo cell.lo e) (turns cell.lo q e) in
    let same : oddly changes near ≡ oddly changes all =
    ap (λ n. eqb (n % 2) 1) (h changes (λ e m. equal_xor (turns cell.lo cell.lo e) (turns cell.lo q e) (turns_missed e cell q ordered m i))) in
    let in_all : oddly changes all ≡ xor (is_odd all cell.lo) (is_odd all q) =
    oddly_xor (turns cell.lo cell.lo) (turns cell.lo q) all ∙ ap (λ b. xor b (turn_oddly cell.lo q all)) (odd_turned all cell.lo cell.lo closed)
    ∙ ap (λ b. xor (is_odd all cell.lo) b) (odd_turned all cell.lo q closed) in
    told_by (is_odd all cell.lo) (is_odd all q) (turn_oddly cell.lo cell.lo near) (turn_oddly cell.lo q near) odd
    (sym in_all ∙ sym same ∙ oddly_xor (turns cell.lo cell.lo) (turns cell.lo q) near)
    (sym (differ_is (is_odd all cell.lo) (turn_oddly cell.lo cell.lo near)) ∙ others) ∙ sym (differ_is (turn_oddly cell.lo q near) odd)

pub near_any : (cell : Region) (near all : List EdgeEnds) (test : EdgeEnds → Bool) → AreNear cell near all
    → ((e : EdgeEnds) → misses e cell ≡ true → test e ≡ false)
    → list_any test all ≡ list_any test near
near_any cell near all test h local = any_counted test all ∙ ap (λ n. not (eqb n 0)) (sym (h test local)) ∙ sym (any_counted test near)

nothing_more : (n : ℕ) → n ≡ 0 + n
nothing_more n = omega arith

-- edges that miss the cell are left out
count_meeting : (test : EdgeEnds → Bool) (cell : Region) → ((e : EdgeEnds) → misses e cell ≡ true → test e ≡ false) → (es : List Edge)
    → count_by test (map ends_of (meeting cell es)) ≡ count_by test (map ends_of es)
count_meeting test cell local [] = refl
count_meeting test cell local (e ∷ es) = by (misses (ends_of e) cell) refl (count_meeting test cell local es)
  where
    by : (m : Bool) → misses (ends_of e) cell ≡ m → count_by test (map ends_of (meeting cell es)) ≡ count_by test (map ends_of es)
        → count_by test (map ends_of (meeting cell (e ∷ es))) ≡ count_by test (map ends_of (e ∷ es))
    by true is rest =
        ap (λ (m : Bool). count_by test (map ends_of (cond (not m) (e ∷ meeting cell es) (meeting cell es)))) is ∙ rest
        ∙ nothing_more (count_by test (map ends_of es))
        ∙ sym (sum_by-cons (λ d. cond (test d) 1 0) (ends_of e) (map ends_of es)
        ∙ ap (λ (b : Bool). cond b 1 0 + count_by test (map ends_of es)) (local (ends_of e) is))
    by false is rest =
        ap (λ (m : Bool). count_by test (map ends_of (cond (not m) (e ∷ meeting cell es) (meeting cell es)))) is
        ∙ sum_by-cons (λ d. cond (test d) 1 0) (ends_of e) (map ends_of (meeting cell es))
        ∙ ap (λ n. cond (test (ends_of e)) 1 0 + n) rest
        ∙ sym (sum_by-cons (λ d. cond (test d) 1 0) (ends_of e) (map ends_of es))

-- what is near a cell is near each cell within it, of those edges that meet it
pub near_within : (outer inner : Region) (es : List Edge) (all : List EdgeEnds) → within inner outer ≡ true → all_le inner.lo inner.hi ≡ true
    → AreNear outer (map ends_of es) all → AreNear inner (map ends_of (meeting inner es)) all
near_within outer inner es all lies ordered h = λ test local.
    count_meeting test inner local es ∙ h test (λ e m. local e (missed_within e outer inner lies ordered m))

pub meets_within : (outer inner : Region) (near all : List EdgeEnds) → within inner outer ≡ true → all_le inner.lo inner.hi ≡ true
    → AreNear outer near all → any_meets all inner ≡ any_meets near inner
meets_within outer inner near all lies ordered h =
    near_any outer near all (λ e. not (misses e inner)) h (λ e m. ap not (missed_within e outer inner lies ordered m))

not_none : (n : ℕ) → true ≡ not (eqb (suc n) 0)
not_none n = grind (arith, nat_tests)

-- some edge meets the cell where not none is left
pub any_left : (cell : Region) (es : List Edge) → any_meets (map ends_of es) cell ≡ not (eqb (length (meeting cell es)) 0)
any_left cell [] = refl
any_left cell (e ∷ es) = by (misses (ends_of e) cell) refl (any_left cell es)
  where
    by : (m : Bool) → misses (ends_of e) cell ≡ m → any_meets (map ends_of es) cell ≡ not (eqb (length (meeting cell es)) 0)
        → (not (misses (ends_of e) cell) || any_meets (map ends_of es) cell) ≡ not (eqb (length (meeting cell (e ∷ es))) 0)
    by true is rest =
        ap (λ (m : Bool). not m || any_meets (map ends_of es) cell) is ∙ rest
        ∙ sym (ap (λ (m : Bool). not (eqb (length (cond (not m) (e ∷ meeting cell es) (meeting cell es))) 0)) is)
    by false is rest =
        ap (λ (m : Bool). not m || any_meets (map ends_of es) cell) is ∙ not_none (length (meeting cell es))
        ∙ sym (ap (λ (m : Bool). not (eqb (length (cond (not m) (e ∷ meeting cell es) (meeting cell es))) 0)) is)
