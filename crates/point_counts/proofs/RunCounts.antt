-- Runs of a leaf's entries: which cell they lie in, and how the counts rise by them.
use Rattle.std.proofs.Common.{◌≡◌, ℕ, zero, suc, ◌+◌, ◌-◌, ◌<◌, ◌≤◌, Bool, true, false, eqb, cond, List, [], ◌∷◌}
use Rattle.std.proofs.Common.{◌++◌, length, take, drop, set, get_or, map, ℤ, pos, int_le, ◌+ℤ◌, ◌<ℤ◌, refl, sym, ap, subst, ◌∙◌, arith}
use Rattle.std.specs.List.{All, count_by}
use Rattle.std.specs.Prelude.{FitsSigned}
use Rattle.std.specs.Int.{w32}
use Rattle.std.proofs.lemmas.Int.{ints, to_z-of_z}
use mir.Val.{to_z, of_z}
use Rattle.std.proofs.lemmas.List.{get_or-map, get_or-take, get_or-drop, length-take-le, length-drop, take-append-drop, drop-take}
use Rattle.std.proofs.lemmas.List.{take-take}
use Rattle.std.proofs.lemmas.List.Elements.{All-cons, All-head, All-nil, All-tail, All-take, All-drop}
use Rattle.std.proofs.lemmas.List.Sums.{sum_by-append, sum_by-cons, count_by-le-length}
use Rattle.point_codec.specs.Points.{Item, Region, all_le, in_box}
use Rattle.point_codec.proofs.Corners.{both_true}
use Rattle.leaf_codec.specs.Ascending.{AscendIn, coordinate}
use Rattle.live_bits.specs.LiveSet.{LiveSet, is_live}
use Rattle.bkd_reader.proofs.HitLemmas.{no_item}
use Rattle.point_counts.specs.Tables.{live_at, AddsCounts, RaisesCounts, LiesAs, is_settled, settled_at, is_up_to}
use Rattle.point_counts.specs.declared.sorting.Lie.{Lie}
use Rattle.point_counts.specs.declared.sorting.Lie.TheVariants.{Outside, At, Parted}
use Rattle.point_counts.proofs.Counts.{counts_as, none_at, all_there, live_join}

-- ---- a cell with other ends in one dimension

pub above_set : (l p : List ℤ) (d : ℕ) (x : ℤ) → all_le l p ≡ true → int_le x (get_or p d (pos 0)) ≡ true
    → all_le (set l d x) p ≡ true
above_set [] p d x h le = h
above_set (y ∷ ys) [] zero x h le = cc
above_set (y ∷ ys) [] (suc d) x h le = cc
above_set (y ∷ ys) (z ∷ zs) zero x h le = rw (le, (both_true (int_le y z) (all_le ys zs) h).1) refl
above_set (y ∷ ys) (z ∷ zs) (suc d) x h le =
    let both = both_true (int_le y z) (all_le ys zs) h in
    rw (both.0, above_set ys zs d x both.1 le) refl

pub below_set : (p h : List ℤ) (d : ℕ) (x : ℤ) → all_le p h ≡ true → int_le (get_or p d (pos 0)) x ≡ true
    → all_le p (set h d x) ≡ true
below_set [] [] d x h le = refl
below_set [] (y ∷ ys) d x h le = cc
below_set (z ∷ zs) [] d x h le = cc
below_set (z ∷ zs) (y ∷ ys) zero x h le = rw (le, (both_true (int_le z y) (all_le zs ys) h).1) refl
below_set (z ∷ zs) (y ∷ ys) (suc d) x h le =
    let both = both_true (int_le z y) (all_le zs ys) h in
    rw (both.0, below_set zs ys d x both.1 le) refl

pub in_narrowed : (cell : Region) (lo hi : List ℤ) (d : ℕ) (low high : ℤ) → lo ≡ set cell.lo d low
    → hi ≡ set cell.hi d high → (p : List ℤ) → in_box cell p ≡ true → int_le low (get_or p d (pos 0)) ≡ true
    → int_le (get_or p d (pos 0)) high ≡ true → in_box (record { lo = lo; hi = hi }) p ≡ true
in_narrowed cell lo hi d low high lows highs p inside above below =
    let both = both_true (all_le cell.lo p) (all_le p cell.hi) inside in
    rw (lows, highs, above_set cell.lo p d low both.0 above, below_set p cell.hi d high both.1 below) refl

-- ---- the entries of a run

abbrev pub run_of : (xs : List Item) (i next : ℕ) → List Item
run_of xs i next = take (next - i) (drop i xs)

-- they lie in the leaf's cell, between the coordinates of the first and the last
pub run_inside : (cell run : Region) (d : ℕ) (xs : List Item) (i next : ℕ) (low high : ℤ) → i < next
    → next ≤ length xs → AscendIn d xs → low ≡ coordinate d (get_or xs i no_item)
    → high ≡ coordinate d (get_or xs (next - 1) no_item)
    → ((p : List ℤ) → in_box cell p ≡ true → int_le low (get_or p d (pos 0)) ≡ true
    → int_le (get_or p d (pos 0)) high ≡ true → in_box run p ≡ true)
    → All (λ x. in_box cell x.at ≡ true) xs → All (λ x. in_box run x.at ≡ true) (run_of xs i next)
run_inside cell run d xs i next low high order within ascends first last narrow inside k e lt =
    let long : length (take (next - i) (drop i xs)) ≡ next - i =
    length-take-le (next - i) (drop i xs) (omega (arith, length-drop i xs, within, order)) in
    let here : i + k < length xs = omega (arith, lt, long, within) in
    let is : get_or (run_of xs i next) k e ≡ get_or xs (i + k) e =
    get_or-take (next - i) (drop i xs) k e (omega (arith, lt, long)) ∙ get_or-drop i xs k e in
    let x : Item = get_or xs (i + k) e in
    let at : (j : ℕ) → j < length xs → (f : Item) → get_or (map (coordinate d) xs) j (pos 0)
    ≡ coordinate d (get_or xs j f) = λ j under f. get_or-map (coordinate d) xs j f (pos 0) under in
    let above : int_le low (coordinate d x) ≡ true =
    ap (λ z. int_le z (coordinate d x)) (first ∙ sym (at i (omega (arith, order, within)) no_item))
    ∙ ap (λ z. int_le (get_or (map (coordinate d) xs) i (pos 0)) z) (sym (at (i + k) here e))
    ∙ ascends i (i + k) (omega arith) here in
    let below : int_le (coordinate d x) high ≡ true =
    ap (λ z. int_le (coordinate d x) z) (last ∙ sym (at (next - 1) (omega (arith, order, within)) no_item))
    ∙ ap (λ z. int_le z (get_or (map (coordinate d) xs) (next - 1) (pos 0))) (sym (at (i + k) here e))
    ∙ ascends (i + k) (next - 1) (omega (arith, lt, long, order)) (omega (arith, order, within)) in
    subst (λ (y : Item). in_box run y.at ≡ true) (sym is) (narrow x.at (inside (i + k) e here) above below)

pub run_alive : (live : LiveSet) (xs : List Item) (i next : ℕ) → All (λ x. is_live live x.doc ≡ true) xs
    → All (λ x. is_live live x.doc ≡ true) (run_of xs i next)
run_alive live xs i next alive =
    All-take (λ (x : Item). is_live live x.doc ≡ true) (next - i) (drop i xs)
    (All-drop (λ (x : Item). is_live live x.doc ≡ true) i xs alive)

pub run_long : (xs : List Item) (i next : ℕ) → i ≤ next → next ≤ length xs → length (run_of xs i next) ≡ next - i
run_long xs i next order within =
    length-take-le (next - i) (drop i xs) (omega (arith, length-drop i xs, within, order))

-- the entries before the next one are those before the run, and the run
pub run_joins : (xs : List Item) (i next : ℕ) → i ≤ next → take next xs ≡ take i xs ++ run_of xs i next
run_joins xs i next order =
    let far : i + (next - i) ≡ next = omega (arith, order) in
    sym (take-append-drop i (take next xs))
    ∙ ap (λ (ys : List Item). ys ++ drop i (take next xs)) (take-take i next xs order)
    ∙ ap (λ (ys : List Item). take i xs ++ ys)
    (ap (λ (m : ℕ). drop i (take m xs)) (sym far) ∙ drop-take i (next - i) xs)

-- ---- tables that rise

pub raises : (before more after : ℕ → ℕ) (old new : List ℕ) → ((k : ℕ) → after k ≡ before k + more k)
    → AddsCounts more old new → RaisesCounts before after old new
raises before more after old new both adds = record {
  counts = λ n was.
      counts_as (λ k. n k + before k + more k) (λ k. n k + after k) new (λ k. let e = both k in omega (arith, e))
      (adds.counts (λ k. n k + before k) was);
}

pub raises_same : (before after : ℕ → ℕ) (table : List ℕ) → ((k : ℕ) → before k ≡ after k)
    → RaisesCounts before after table table
raises_same before after table same = record {
  counts = λ n was. counts_as (λ k. n k + before k) (λ k. n k + after k) table
      (λ k. let e = same k in omega (arith, e)) was;
}

pub raises_then : (a b c : ℕ → ℕ) (old mid new : List ℕ) → RaisesCounts a b old mid → RaisesCounts b c mid new
    → RaisesCounts a c old new
raises_then a b c old mid new p q = record { counts = λ n was. q.counts n (p.counts n was) }

-- from nothing
pub raises_adds : (before after : ℕ → ℕ) (old new : List ℕ) → ((k : ℕ) → before k ≡ 0)
    → RaisesCounts before after old new → AddsCounts after old new
raises_adds before after old new none r = record {
  counts = λ n was. r.counts n
      (counts_as n (λ k. n k + before k) old (λ k. let e = none k in omega (arith, e)) was);
}

-- ---- a run in a settled cell

pub all_settled : (box : Region) (place : List ℤ → ℕ) (parts : Region → Bool) (live : LiveSet) (cell : Region)
    (lie : Lie) (xs : List Item) → LiesAs box place parts cell lie → is_settled lie ≡ true
    → All (λ x. in_box cell x.at ≡ true) xs → All (λ x. is_live live x.doc ≡ true) xs
    → (k : ℕ) → live_at box place live xs k ≡ settled_at lie (length xs) k
all_settled box place parts live cell Outside xs lies is inside alive k =
    none_at box place live cell xs lies.all inside k
all_settled box place parts live cell (At at) xs lies is inside alive k =
    sym (all_there box place live cell at xs lies.0.all lies.1 inside alive k)
all_settled box place parts live cell Parted xs lies is inside alive k = cc

pub run_settled : (box : Region) (place : List ℤ → ℕ) (parts : Region → Bool) (live : LiveSet) (cell : Region)
    (lie : Lie) (xs : List Item) (i next : ℕ) (old new : List ℕ) → i ≤ next → next ≤ length xs
    → LiesAs box place parts cell lie → is_settled lie ≡ true
    → All (λ x. in_box cell x.at ≡ true) (run_of xs i next) → All (λ x. is_live live x.doc ≡ true) xs
    → AddsCounts (settled_at lie (next - i)) old new
    → RaisesCounts (live_at box place live (take i xs)) (live_at box place live (take next xs)) old new
run_settled box place parts live cell lie xs i next old new order within lies is inside alive adds =
    raises (live_at box place live (take i xs)) (settled_at lie (next - i)) (live_at box place live (take next xs))
    old new
    (λ k. ap (λ (ys : List Item). live_at box place live ys k) (run_joins xs i next order)
    ∙ live_join box place live (take i xs) (run_of xs i next) k
    ∙ ap (λ (n : ℕ). live_at box place live (take i xs) k + n)
    (all_settled box place parts live cell lie (run_of xs i next) lies is inside (run_alive live xs i next alive) k
    ∙ ap (λ (n : ℕ). settled_at lie n k) (run_long xs i next order within))) adds

-- ---- a run in two settled cells

le_at : (l p : List ℤ) (d : ℕ) → all_le l p ≡ true → int_le (get_or l d (pos 0)) (get_or p d (pos 0)) ≡ true
le_at [] [] d h = refl
le_at [] (z ∷ zs) d h = cc
le_at (y ∷ ys) [] d h = cc
le_at (y ∷ ys) (z ∷ zs) zero h = (both_true (int_le y z) (all_le ys zs) h).0
le_at (y ∷ ys) (z ∷ zs) (suc d) h = le_at ys zs d (both_true (int_le y z) (all_le ys zs) h).1

pub from_low : (cell : Region) (d : ℕ) (p : List ℤ) → in_box cell p ≡ true
    → int_le (get_or cell.lo d (pos 0)) (get_or p d (pos 0)) ≡ true
from_low cell d p h = le_at cell.lo p d (both_true (all_le cell.lo p) (all_le p cell.hi) h).0

pub to_high : (cell : Region) (d : ℕ) (p : List ℤ) → in_box cell p ≡ true
    → int_le (get_or p d (pos 0)) (get_or cell.hi d (pos 0)) ≡ true
to_high cell d p h = le_at p cell.hi d (both_true (all_le cell.lo p) (all_le p cell.hi) h).1

-- what isn't up to the cut is behind it
pub behind : (x cut : ℤ) → int_le x cut ≡ false → int_le (cut +ℤ pos 1) x ≡ true
behind x cut h = grind (arith, ints)

-- the same of the coordinate behind the cut as it is reckoned in memory
pub behind_told : (x cut : ℤ) → FitsSigned w32 cut → cut <ℤ pos 2147483647 → int_le x cut ≡ false
    → int_le (to_z w32 (of_z w32 (to_z w32 (of_z w32 cut) +ℤ pos 1))) x ≡ true
behind_told x cut fits below h =
    let more : FitsSigned w32 (cut +ℤ pos 1) = omega (arith, ints, below) in
    ap (λ (z : ℤ). int_le (to_z w32 (of_z w32 (z +ℤ pos 1))) x) (to_z-of_z w32 cut fits)
    ∙ ap (λ (z : ℤ). int_le z x) (to_z-of_z w32 (cut +ℤ pos 1) more) ∙ behind x cut h

settled_none : (lie : Lie) (k : ℕ) → settled_at lie 0 k ≡ 0
settled_none Outside k = refl
settled_none (At place) k = none (eqb place k)
  where
    none : (b : Bool) → ◌≡◌ {A = ℕ} (cond b 0 0) 0
    none true = refl
    none false = refl
settled_none Parted k = refl

settled_more : (lie : Lie) (n k : ℕ) → settled_at lie (suc n) k ≡ settled_at lie 1 k + settled_at lie n k
settled_more Outside n k = refl
settled_more (At place) n k = more (eqb place k)
  where
    more : (b : Bool) → cond b (suc n) 0 ≡ cond b 1 0 + cond b n 0
    more true = omega arith
    more false = refl
settled_more Parted n k = refl

module _ (box : Region) (place : List ℤ → ℕ) (parts : Region → Bool) (live : LiveSet) (run front back : Region) (d : ℕ)
    (cut : ℤ) (one other : Lie) (front_lies : LiesAs box place parts front one) (front_is : is_settled one ≡ true)
    (back_lies : LiesAs box place parts back other) (back_is : is_settled other ≡ true)
    (in_front : (p : List ℤ) → in_box run p ≡ true → int_le (get_or p d (pos 0)) cut ≡ true → in_box front p ≡ true)
    (in_back : (p : List ℤ) → in_box run p ≡ true → int_le (get_or p d (pos 0)) cut ≡ false → in_box back p ≡ true)
  where
    abbrev fronts : List Item → ℕ
    fronts xs = count_by (is_up_to d cut) xs

    alone : (cell : Region) (lie : Lie) (x : Item) → LiesAs box place parts cell lie → is_settled lie ≡ true
        → in_box cell x.at ≡ true → is_live live x.doc ≡ true → (k : ℕ)
        → live_at box place live (x ∷ []) k ≡ settled_at lie 1 k
    alone cell lie x lies is inside alive k =
        all_settled box place parts live cell lie (x ∷ []) lies is
        (All-cons (λ (y : Item). in_box cell y.at ≡ true) x [] inside (All-nil (λ (y : Item). in_box cell y.at ≡ true)))
        (All-cons (λ (y : Item). is_live live y.doc ≡ true) x [] alive (All-nil (λ (y : Item). is_live live y.doc ≡ true)))
        k

    halves_step : (x : Item) (xs : List Item) → in_box run x.at ≡ true → is_live live x.doc ≡ true → (k : ℕ)
        → live_at box place live xs k ≡ settled_at one (fronts xs) k + settled_at other (length xs - fronts xs) k
        → live_at box place live (x ∷ xs) k
        ≡ settled_at one (fronts (x ∷ xs)) k + settled_at other (length (x ∷ xs) - fronts (x ∷ xs)) k
    halves_step x xs here living k rest = by (is_up_to d cut x) refl
      where
        joins : live_at box place live (x ∷ xs) k ≡ live_at box place live (x ∷ []) k + live_at box place live xs k
        joins = live_join box place live (x ∷ []) xs k

        counts : (b : Bool) → is_up_to d cut x ≡ b → fronts (x ∷ xs) ≡ cond b 1 0 + fronts xs
        counts b e = sum_by-cons (λ (y : Item). cond (is_up_to d cut y) 1 0) x xs
            ∙ ap (λ (c : Bool). cond c 1 0 + fronts xs) e

        few : fronts xs ≤ length xs
        few = count_by-le-length (is_up_to d cut) xs

        by : (b : Bool) → is_up_to d cut x ≡ b → live_at box place live (x ∷ xs) k
            ≡ settled_at one (fronts (x ∷ xs)) k + settled_at other (length (x ∷ xs) - fronts (x ∷ xs)) k
        by true e =
            let a = alone front one x front_lies front_is (in_front x.at here e) living k in
            let z : 1 + fronts xs ≡ suc (fronts xs) = omega arith in
            let n : fronts (x ∷ xs) ≡ suc (fronts xs) = counts true e ∙ z in
            let m : length (x ∷ xs) - fronts (x ∷ xs) ≡ length xs - fronts xs = omega (arith, n) in
            let left = ap (λ (j : ℕ). settled_at one j k) n ∙ settled_more one (fronts xs) k in
            let right = ap (λ (j : ℕ). settled_at other j k) m in
            omega (arith, a, joins, rest, left, right)
        by false e =
            let a = alone back other x back_lies back_is (in_back x.at here e) living k in
            let z : 0 + fronts xs ≡ fronts xs = omega arith in
            let n : fronts (x ∷ xs) ≡ fronts xs = counts false e ∙ z in
            let m : length (x ∷ xs) - fronts (x ∷ xs) ≡ suc (length xs - fronts xs) = omega (arith, n, few) in
            let left = ap (λ (j : ℕ). settled_at one j k) n in
            let right = ap (λ (j : ℕ). settled_at other j k) m ∙ settled_more other (length xs - fronts xs) k in
            omega (arith, a, joins, rest, left, right)

    pub halves_counted : (xs : List Item) → All (λ x. in_box run x.at ≡ true) xs
        → All (λ x. is_live live x.doc ≡ true) xs → (k : ℕ) → live_at box place live xs k
        ≡ settled_at one (fronts xs) k + settled_at other (length xs - fronts xs) k
    halves_counted [] inside alive k =
        let a = settled_none one k in let b = settled_none other k in omega (arith, a, b)
    halves_counted (x ∷ xs) inside alive k =
        halves_step x xs (All-head (λ (y : Item). in_box run y.at ≡ true) x xs inside)
        (All-head (λ (y : Item). is_live live y.doc ≡ true) x xs alive) k
        (halves_counted xs (All-tail (λ (y : Item). in_box run y.at ≡ true) x xs inside)
        (All-tail (λ (y : Item). is_live live y.doc ≡ true) x xs alive) k)

    pub run_halved : (xs : List Item) (i next below : ℕ) (old new : List ℕ) → i ≤ next → next ≤ length xs
        → All (λ x. in_box run x.at ≡ true) (run_of xs i next) → All (λ x. is_live live x.doc ≡ true) xs
        → fronts (take i xs) + below ≡ fronts (take next xs)
        → AddsCounts (λ k. settled_at one below k + settled_at other (next - i - below) k) old new
        → RaisesCounts (live_at box place live (take i xs)) (live_at box place live (take next xs)) old new
    run_halved xs i next below old new order within inside alive counted adds =
        let ys = run_of xs i next in
        let n : fronts ys ≡ below =
        let e = ap fronts (run_joins xs i next order)
        ∙ sum_by-append (λ (y : Item). cond (is_up_to d cut y) 1 0) (take i xs) ys in
        omega (arith, e, counted) in
        let m : length ys - fronts ys ≡ next - i - below =
        let long = run_long xs i next order within in omega (arith, n, long) in
        raises (live_at box place live (take i xs)) (λ k. settled_at one below k + settled_at other (next - i - below) k)
        (live_at box place live (take next xs)) old new
        (λ k. let all = halves_counted ys inside (run_alive live xs i next alive) k in
        let left = ap (λ (j : ℕ). settled_at one j k) n in
        let right = ap (λ (j : ℕ). settled_at other j k) m in
        let joins = ap (λ (zs : List Item). live_at box place live zs k) (run_joins xs i next order)
        ∙ live_join box place live (take i xs) ys k in
        omega (arith, all, left, right, joins)) adds
