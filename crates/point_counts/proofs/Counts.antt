-- Tables of counts that rise, one entry or one leaf at a time.
use Rattle.std.proofs.Common.{◌≡◌, ℕ, zero, suc, ◌+◌, ◌<◌, ◌≤◌, Bool, true, false, ◌&&◌, eqb, cond, min, List, [], ◌∷◌}
use Rattle.std.proofs.Common.{◌++◌, length, take, drop, set, filter, get_or, replicate, ℤ, refl, sym, ap, subst, ◌∙◌, arith}
use Rattle.std.specs.List.{All, count_by}
use Rattle.std.proofs.lemmas.Bool.{eqb-true, eq-eqb, true≢false}
use Rattle.std.proofs.lemmas.List.{take-append-drop, get_or-replicate, get_or-set_other, get_or-set_same, length-replicate, length-set}
use Rattle.std.proofs.lemmas.List.Elements.{All-cons, All-head, All-nil, All-tail}
use Rattle.std.proofs.lemmas.List.Sums.{sum_by-append, sum_by-cons, sum_by_more, count_by-le-length}
use Rattle.point_codec.specs.Points.{Item, Region, in_box}
use Rattle.point_codec.specs.Seen.{items_of}
use Rattle.point_codec.specs.declared.entries.Entry.{Entry}
use Rattle.live_bits.specs.LiveSet.{LiveSet, is_live}
use Rattle.cell_relate.specs.Relations.{AllAnswer}
use Rattle.bkd_reader.proofs.OutOfReach.{HasNone}
use Rattle.bkd_reader.proofs.HitLemmas.{no_item}
use Rattle.point_counts.specs.Grids.{number_in}
use Rattle.point_counts.specs.Tables.{is_at, all_at, live_at, HasCounts, AddsCounts}

-- ---- tables

pub counts_as : (m n : ℕ → ℕ) (table : List ℕ) → ((k : ℕ) → m k ≡ n k) → HasCounts m table → HasCounts n table
counts_as m n table same h = record { each = λ k lt. let e = h.each k lt in let s = same k in omega (arith, e, s) }

pub adds_as : (a b : ℕ → ℕ) (old new : List ℕ) → ((k : ℕ) → a k ≡ b k) → AddsCounts a old new → AddsCounts b old new
adds_as a b old new same h = record {
  counts = λ n was. counts_as (λ k. n k + a k) (λ k. n k + b k) new
      (λ k. ap (λ (m : ℕ). n k + m) (same k)) (h.counts n was);
}

pub adds_none : (more : ℕ → ℕ) (table : List ℕ) → ((k : ℕ) → more k ≡ 0) → AddsCounts more table table
adds_none more table none = record {
  counts = λ n was. counts_as n (λ k. n k + more k) table
      (λ k. let z = none k in omega (arith, z)) was;
}

pub adds_then : (a b c : ℕ → ℕ) (old mid new : List ℕ) → ((k : ℕ) → c k ≡ a k + b k) → AddsCounts a old mid → AddsCounts b mid new
    → AddsCounts c old new
adds_then a b c old mid new both p q = record {
  counts = λ n was.
      counts_as (λ k. n k + a k + b k) (λ k. n k + c k) new (λ k. let e = both k in omega (arith, e))
      (q.counts (λ k. n k + a k) (p.counts n was));
}

-- a count that rises at one place and stands still at the greatest number
pub add_here : (table : List ℕ) (place more sum : ℕ) → place < length table
    → sum ≡ min (get_or table place 0 + more) 18446744073709551615
    → AddsCounts (λ k. cond (eqb place k) more 0) table (set table place sum)
add_here table place more sum within is = record {
  counts =
      λ n was. record { each = λ k lt. by n was k (omega (arith, lt, length-set table place sum)) (eqb place k) refl };
}
  where
    by : (n : ℕ → ℕ) → HasCounts n table → (k : ℕ) → k < length table → (b : Bool) → eqb place k ≡ b
        → get_or (set table place sum) k 0 ≡ min (n k + cond b more 0) 18446744073709551615
    by n was k lt true e =
        let same = eqb-true place k e in
        let there : get_or (set table place sum) k 0 ≡ sum =
        subst (λ (j : ℕ). get_or (set table place sum) j 0 ≡ sum) same (get_or-set_same table place sum 0 within) in
        let old = was.each k lt in
        let sums = subst (λ (j : ℕ). sum ≡ min (get_or table j 0 + more) 18446744073709551615) same is in
        there ∙ omega (arith, old, sums)
    by n was k lt false e =
        let other = get_or-set_other table place k sum 0 (λ same. true≢false (sym (eq-eqb place k (sym same)) ∙ e)) in
        let old = was.each k lt in
        omega (arith, other, old)

-- behind the end nothing is counted
pub add_past : (table : List ℕ) (place more : ℕ) → length table ≤ place
    → AddsCounts (λ k. cond (eqb place k) more 0) table table
add_past table place more past = record { counts = λ n was. record { each = λ k lt. by n was k lt (eqb place k) refl } }
  where
    by : (n : ℕ → ℕ) → HasCounts n table → (k : ℕ) → k < length table → (b : Bool) → eqb place k ≡ b
        → get_or table k 0 ≡ min (n k + cond b more 0) 18446744073709551615
    by n was k lt true e = let same = eqb-true place k e in absurd (omega (arith, same, past, lt))
    by n was k lt false e = let old = was.each k lt in omega (arith, old)

-- a table of noughts says that nothing was counted
pub no_counts : (table : List ℕ) → ((k : ℕ) → k < length table → get_or table k 0 ≡ 0) → HasCounts (λ k. 0) table
no_counts table none = record { each = λ k lt. let z = none k lt in omega (arith, z) }

-- what such a table tells of entries that are counted in it
pub counted : (more : ℕ → ℕ) (old new : List ℕ) → HasCounts (λ k. 0) old → AddsCounts more old new → HasCounts more new
counted more old new none adds = counts_as (λ k. 0 + more k) more new (λ k. omega arith) (adds.counts (λ k. 0) none)

-- ---- entries at places, one more entry at a time

module _ (box : Region) (place : List ℤ → ℕ) (live : LiveSet) (xs : List Item) (i : ℕ) (within : i < length xs) where
  abbrev next : Item
  next = get_or xs i no_item

  more : (k : ℕ) → live_at box place live (take (i + 1) xs) k ≡ live_at box place live (take i xs) k
      + cond (is_live live next.doc && is_at box place k next.at) 1 0
  more k = sum_by_more (λ e. cond (is_live live e.doc && is_at box place k e.at) 1 0) xs i no_item within

  pub dead_more : is_live live next.doc ≡ false → (k : ℕ)
      → live_at box place live (take i xs) k ≡ live_at box place live (take (i + 1) xs) k
  dead_more dead k = sym (more k ∙ ap (λ b. live_at box place live (take i xs) k
      + cond (b && is_at box place k next.at) 1 0) dead ∙ omega arith)

  pub outside_more : in_box box next.at ≡ false → (k : ℕ)
      → live_at box place live (take i xs) k ≡ live_at box place live (take (i + 1) xs) k
  outside_more out k =
      sym (more k ∙ ap (λ b. live_at box place live (take i xs) k
      + cond (is_live live next.doc && (b && eqb (place next.at) k)) 1 0) out
      ∙ ap (λ b. live_at box place live (take i xs) k + cond b 1 0) (and_no (is_live live next.doc)) ∙ omega arith)
    where
      and_no : (b : Bool) → (b && false) ≡ false
      and_no true = refl
      and_no false = refl

  pub one_more : is_live live next.doc ≡ true → in_box box next.at ≡ true → (k : ℕ)
      → live_at box place live (take (i + 1) xs) k ≡ live_at box place live (take i xs) k
      + cond (eqb (place next.at) k) 1 0
  one_more alive inside k =
      more k ∙ ap (λ b. live_at box place live (take i xs) k + cond (b && is_at box place k next.at) 1 0) alive
      ∙ ap (λ b. live_at box place live (take i xs) k + cond (b && eqb (place next.at) k) 1 0) inside

-- the same of all entries
module _ (box : Region) (place : List ℤ → ℕ) (xs : List Item) (i : ℕ) (within : i < length xs) where
  each : (k : ℕ) → all_at box place (take (i + 1) xs) k ≡ all_at box place (take i xs) k
      + cond (is_at box place k (get_or xs i no_item).at) 1 0
  each k = sum_by_more (λ e. cond (is_at box place k e.at) 1 0) xs i no_item within

  pub outside_each : in_box box (get_or xs i no_item).at ≡ false → (k : ℕ)
      → all_at box place (take i xs) k ≡ all_at box place (take (i + 1) xs) k
  outside_each out k = sym (each k ∙ ap (λ b. all_at box place (take i xs) k
      + cond (b && eqb (place (get_or xs i no_item).at) k) 1 0) out ∙ omega arith)

  pub one_each : in_box box (get_or xs i no_item).at ≡ true → (k : ℕ)
      → all_at box place (take (i + 1) xs) k ≡ all_at box place (take i xs) k
      + cond (eqb (place (get_or xs i no_item).at) k) 1 0
  one_each inside k = each k ∙ ap (λ b. all_at box place (take i xs) k
      + cond (b && eqb (place (get_or xs i no_item).at) k) 1 0) inside

pub items_long : {D : ℕ} (buffer : List (Entry D)) → length (items_of buffer) ≡ length buffer
items_long [] = refl
items_long (x ∷ xs) = ap suc (items_long xs)

-- the point of an entry of a buffer
pub point_at : {D : ℕ} (buffer : List (Entry D)) (i : ℕ) (e : Entry D) → i < length buffer → e ≡ get_or buffer i e
    → (get_or (items_of buffer) i no_item).at ≡ e.point.c
point_at [] i e within is = absurd (omega (arith, within))
point_at (x ∷ xs) zero e within is = ap (λ y. y.point.c) (sym is)
point_at (x ∷ xs) (suc i) e within is = point_at xs i e (omega (arith, within)) is

-- ---- entries of two lists, and of a cell

module _ (P : Item → Type 0) where
  pub all_left : (xs ys : List Item) → All P (xs ++ ys) → All P xs
  all_left [] ys h = All-nil P
  all_left (x ∷ xs) ys h = All-cons P x xs (All-head P x (xs ++ ys) h) (all_left xs ys (All-tail P x (xs ++ ys) h))

  pub all_right : (xs ys : List Item) → All P (xs ++ ys) → All P ys
  all_right [] ys h = h
  all_right (x ∷ xs) ys h = all_right xs ys (All-tail P x (xs ++ ys) h)

pub live_join : (box : Region) (place : List ℤ → ℕ) (live : LiveSet) (xs ys : List Item) (k : ℕ)
    → live_at box place live (xs ++ ys) k ≡ live_at box place live xs k + live_at box place live ys k
live_join box place live xs ys k = sum_by-append (λ e. cond (is_live live e.doc && is_at box place k e.at) 1 0) xs ys

pub all_join : (box : Region) (place : List ℤ → ℕ) (xs ys : List Item) (k : ℕ)
    → all_at box place (xs ++ ys) k ≡ all_at box place xs k + all_at box place ys k
all_join box place xs ys k = sum_by-append (λ e. cond (is_at box place k e.at) 1 0) xs ys

-- the live ones are those of the live entries
pub live_kept : (box : Region) (place : List ℤ → ℕ) (live : LiveSet) (xs : List Item) (k : ℕ)
    → live_at box place live xs k ≡ all_at box place (filter (λ e. is_live live e.doc) xs) k
live_kept box place live [] k = refl
live_kept box place live (x ∷ xs) k =
    sum_by-cons (λ e. cond (is_live live e.doc && is_at box place k e.at) 1 0) x xs
    ∙ ap (λ (n : ℕ). cond (is_live live x.doc && is_at box place k x.at) 1 0 + n) (live_kept box place live xs k)
    ∙ one (is_live live x.doc)
  where
    kept : List Item
    kept = filter (λ e. is_live live e.doc) xs

    one : (b : Bool) → cond (b && is_at box place k x.at) 1 0 + all_at box place kept k
        ≡ all_at box place (cond b (x ∷ kept) kept) k
    one true = sym (sum_by-cons (λ e. cond (is_at box place k e.at) 1 0) x kept)
    one false = omega arith

-- in a cell of which the box has no point nothing is counted
pub none_at : (box : Region) (place : List ℤ → ℕ) (live : LiveSet) (cell : Region) (xs : List Item)
    → AllAnswer (in_box box) false cell → All (λ e. in_box cell e.at ≡ true) xs
    → (k : ℕ) → live_at box place live xs k ≡ 0
none_at box place live cell [] none inside k = refl
none_at box place live cell (x ∷ xs) none inside k =
    let here : in_box box x.at ≡ false = none x.at (All-head (λ e. in_box cell e.at ≡ true) x xs inside) in
    let rest = none_at box place live cell xs none (All-tail (λ e. in_box cell e.at ≡ true) x xs inside) k in
    sum_by-cons (λ e. cond (is_live live e.doc && is_at box place k e.at) 1 0) x xs
    ∙ ap (λ b. cond (is_live live x.doc && (b && eqb (place x.at) k)) 1 0 + live_at box place live xs k) here
    ∙ ap (λ (n : ℕ). cond (is_live live x.doc && false) 1 0 + n) rest ∙ no (is_live live x.doc)
  where
    no : (b : Bool) → cond (b && false) 1 0 + 0 ≡ 0
    no true = refl
    no false = refl

-- in one of which the box has all points, and which has one place, all live entries are counted there
pub all_there : (box : Region) (place : List ℤ → ℕ) (live : LiveSet) (cell : Region) (at : ℕ) (xs : List Item)
    → AllAnswer (in_box box) true cell
    → ((p : List ℤ) → in_box cell p ≡ true → place p ≡ at) → All (λ e. in_box cell e.at ≡ true) xs
    → All (λ e. is_live live e.doc ≡ true) xs
    → (k : ℕ) → cond (eqb at k) (length xs) 0 ≡ live_at box place live xs k
all_there box place live cell at [] all one inside alive k = none (eqb at k)
  where
    none : (b : Bool) → ◌≡◌ {A = ℕ} (cond b 0 0) 0
    none true = refl
    none false = refl
all_there box place live cell at (x ∷ xs) all one inside alive k =
    let cells = All-head (λ e. in_box cell e.at ≡ true) x xs inside in
    let rest = all_there box place live cell at xs all one (All-tail (λ e. in_box cell e.at ≡ true) x xs inside)
    (All-tail (λ e. is_live live e.doc ≡ true) x xs alive) k in
    more (eqb at k) rest
    ∙ sym (sum_by-cons (λ e. cond (is_live live e.doc && is_at box place k e.at) 1 0) x xs
    ∙ ap (λ b. cond (b && is_at box place k x.at) 1 0 + live_at box place live xs k)
    (All-head (λ e. is_live live e.doc ≡ true) x xs alive)
    ∙ ap (λ b. cond (b && eqb (place x.at) k) 1 0 + live_at box place live xs k) (all x.at cells)
    ∙ ap (λ (n : ℕ). cond (eqb n k) 1 0 + live_at box place live xs k) (one x.at cells))
  where
    more : (b : Bool) → cond b (length xs) 0 ≡ live_at box place live xs k
        → cond b (length (x ∷ xs)) 0 ≡ cond b 1 0 + live_at box place live xs k
    more true e = omega (arith, e)
    more false e = omega (arith, e)

-- where all points have one place it has the number of the box
pub at_one_place : (box : Region) (xs : List Item) → all_at box (λ p. 0) xs 0 ≡ number_in box xs
at_one_place box xs = λ i. count_by (λ e. and_true (in_box box e.at) i) xs
  where
    and_true : (b : Bool) → (b && true) ≡ b
    and_true true = refl
    and_true false = refl

-- a count that is below the greatest number is right
pub most_counted : (box : Region) (place : List ℤ → ℕ) (xs : List Item) (table : List ℕ) (k : ℕ) → k < length table
    → length xs < 18446744073709551616 → HasCounts (all_at box place xs) table
    → get_or table k 0 ≡ all_at box place xs k
most_counted box place xs table k lt few h =
    let at = h.each k lt in
    let most = count_by-le-length (λ (e : Item). is_at box place k e.at) xs in
    omega (arith, at, most, few)

pub noughts : (table : List ℕ) (n : ℕ) → table ≡ replicate n 0 → HasCounts (λ k. 0) table
noughts table n is = no_counts table (λ k lt. ap (λ (xs : List ℕ). get_or xs k 0) is
    ∙ get_or-replicate n k 0 0 (let long = ap length is in omega (arith, lt, long, length-replicate {A = ℕ} n 0)))

-- ---- entries that the box doesn't have

no_one : (b c : Bool) → ◌≡◌ {A = ℕ} (cond (b && (false && c)) 1 0) 0
no_one true c = refl
no_one false c = refl

pub none_placed : (box : Region) (place : List ℤ → ℕ) (live : LiveSet) (xs : List Item) → HasNone (in_box box) xs → (k : ℕ)
    → live_at box place live xs k ≡ 0
none_placed box place live [] none k = refl
none_placed box place live (x ∷ xs) none k =
    let one : Item → ℕ = λ e. cond (is_live live e.doc && is_at box place k e.at) 1 0 in
    let here : one x ≡ 0 =
    ap (λ b. cond (is_live live x.doc && (b && eqb (place x.at) k)) 1 0) (All-head (λ (y : Item). in_box box y.at ≡ false) x xs none)
    ∙ no_one (is_live live x.doc) (eqb (place x.at) k) in
    let rest : live_at box place live xs k ≡ 0 = none_placed box place live xs (All-tail (λ (y : Item). in_box box y.at ≡ false) x xs none) k in
    sum_by-cons one x xs ∙ omega (arith, here, rest)

pub none_more : (box : Region) (place : List ℤ → ℕ) (live : LiveSet) (xs : List Item) (n : ℕ) → HasNone (in_box box) (drop n xs) → (k : ℕ)
    → live_at box place live (take n xs) k ≡ live_at box place live xs k
none_more box place live xs n none k =
    let one : Item → ℕ = λ e. cond (is_live live e.doc && is_at box place k e.at) 1 0 in
    let rest = none_placed box place live (drop n xs) none k in
    omega (arith, rest, sum_by-append one (take n xs) (drop n xs), ap (λ ys. live_at box place live ys k) (take-append-drop n xs))
