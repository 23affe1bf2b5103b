-- The entries that a buffer has in memory. They ascend by the numbers with which they came, so those of one number are a
-- run, which is found by halves.
use Rattle.std.proofs.Common.{◌≡◌, ℕ, zero, suc, ◌≤◌, ◌<◌, ◌+◌, ◌-◌, ◌++◌, Bool, true, false, not, ◌||◌, eqb, leb, ltb, cond, List, [], ◌∷◌, length}
use Rattle.std.proofs.Common.{map, take, drop, get_or, set, refl, sym, ap, subst, ◌∙◌, arith}
use Rattle.std.specs.List.{AllWithin, filter}
use Rattle.std.specs.List.Sorted.{IsNonDecreasingBy, IsPartitionPoint}
use Rattle.std.proofs.lemmas.Bool.{le-ltb, lt-ltb, leb-true, leb-false, ltb-true, ltb-false, eq-eqb, ne_eqb}
use Rattle.std.proofs.lemmas.List.{get_or-map, length-map, map-append, take-append-drop}
use Rattle.std.proofs.lemmas.List.Sums.{count_by-le-length, length-filter}
use Rattle.point_codec.specs.Points.{Item}
use Rattle.point_codec.specs.Seen.{items_of}
use Rattle.point_codec.specs.declared.entries.Entry.{Entry}
use Rattle.leaf_codec.specs.LeafOrder.{item_of}
use Rattle.documents.specs.Entries.{entries_but, has_entry}
use Rattle.segment_set.specs.Runs.{IsRunOf}
use Rattle.segment_set.specs.Waiting.{came_as, gone_as, out_of, waiting, waits}

-- ---- the run of a number

module _ {X : Type 0} (n : X → ℕ) (number : ℕ) where
  abbrev Below : X → Type 0
  Below x = ltb (n x) number ≡ true

  abbrev NotBelow : X → Type 0
  NotBelow x = ltb (n x) number ≡ false

  abbrev UpTo : X → Type 0
  UpTo x = leb (n x) number ≡ true

  abbrev Above : X → Type 0
  Above x = leb (n x) number ≡ false

  differs : (x : X) → Below x → eqb (n x) number ≡ false
  differs x below = ne_eqb (n x) number (λ e. let lt = ltb-true (n x) number below in absurd (omega arith))

  differs_above : (x : X) → Above x → eqb (n x) number ≡ false
  differs_above x above = ne_eqb (n x) number (λ e. let lt = leb-false (n x) number above in absurd (omega arith))

  equals : (x : X) → NotBelow x → UpTo x → eqb (n x) number ≡ true
  equals x not_below up_to = let le = leb-true (n x) number up_to in let ge = ltb-false (n x) number not_below in eq-eqb (n x) number (omega arith)

  crossed : (x : X) → Below x → Above x → ⊥
  crossed x below above = let lt = ltb-true (n x) number below in let gt = leb-false (n x) number above in omega arith

  in_order : (xs : List X) (i j : ℕ) → i ≤ length xs → AllWithin Below xs 0 i → AllWithin Above xs j (length xs) → i ≤ j
  in_order [] i j li below above = omega (arith, li)
  in_order (x ∷ xs) i j li below above = by (leb i j) refl
    where
      by : (b : Bool) → leb i j ≡ b → i ≤ j
      by true e = leb-true i j e
      by false e =
          let gt = leb-false i j e in absurd (crossed (get_or (x ∷ xs) j x) (below j x (omega arith) gt) (above j x (omega arith) (omega (arith, gt, li))))

  pub run_is : (xs : List X) (i j : ℕ) → i ≤ length xs → j ≤ length xs → AllWithin Below xs 0 i → AllWithin NotBelow xs i (length xs)
      → AllWithin UpTo xs 0 j → AllWithin Above xs j (length xs) → IsRunOf n number xs i j
  run_is xs i j li lj below not_below up_to above = record {
    before = λ k d le lt. differs (get_or xs k d) (below k d le lt);
    inside = λ k d le lt. equals (get_or xs k d) (not_below k d le (omega (arith, lt, lj))) (up_to k d (omega arith) lt);
    after = λ k d le lt. differs_above (get_or xs k d) (above k d le lt);
    ordered = in_order xs i j li below above;
  }

-- where two partition points stand
pub points_run : {X : Type 0} (n : X → ℕ) (number : ℕ) (xs ys zs : List X) (i j : ℕ) → ys ≡ xs → zs ≡ xs → i ≤ length ys → j ≤ length zs
    → IsPartitionPoint (λ y. ltb (n y) number ≡ true) (λ y. ltb (n y) number ≡ false) ys i
    → IsPartitionPoint (λ y. leb (n y) number ≡ true) (λ y. leb (n y) number ≡ false) zs j → IsRunOf n number xs i j
points_run n number xs ys zs i j first second li lj from to =
    let lx = ap length first in
    let ly = ap length second in
    let one = subst (λ us. IsPartitionPoint (λ y. ltb (n y) number ≡ true) (λ y. ltb (n y) number ≡ false) us i) first from in
    let two = subst (λ us. IsPartitionPoint (λ y. leb (n y) number ≡ true) (λ y. leb (n y) number ≡ false) us j) second to in
    run_is n number xs i j (omega arith) (omega arith) one.0 one.1 two.0 two.1

-- ---- a change that leaves all but a run

module _ {X : Type 0} (P : X → Type 0) (f : X → X) (same : (x : X) → P x → f x ≡ x) where
  pub same_front : (xs : List X) (i : ℕ) → AllWithin P xs 0 i → map f (take i xs) ≡ take i xs
  same_front xs zero all = refl
  same_front [] (suc i) all = refl
  same_front (x ∷ xs) (suc i) all =
      ap (λ y. y ∷ map f (take i xs)) (same x (all 0 x (omega arith) (omega arith)))
      ∙ ap (λ ys. x ∷ ys) (same_front xs i (λ k d le lt. all (suc k) d (omega arith) (omega (arith, lt))))

  pub same_back : (xs : List X) (j : ℕ) → AllWithin P xs j (length xs) → map f (drop j xs) ≡ drop j xs
  same_back [] zero all = refl
  same_back (x ∷ xs) zero all =
      ap (λ y. y ∷ map f xs) (same x (all 0 x (omega arith) (omega arith)))
      ∙ ap (λ ys. x ∷ ys) (same_back xs zero (λ k d le lt. all (suc k) d (omega arith) (omega (arith, lt))))
  same_back [] (suc j) all = refl
  same_back (x ∷ xs) (suc j) all = same_back xs j (λ k d le lt. all (suc k) d (omega (arith, le)) (omega (arith, lt)))

-- ---- entries, and what the definitions see of them

-- the entry, which is gone where it came with this number
abbrev pub entry_out : {D : ℕ} → ℕ → Entry D → Entry D
entry_out number e = cond (eqb (came_as e.doc) number) (record e { doc = gone_as e.doc }) e

pub others_stay : {D : ℕ} (number : ℕ) (e : Entry D) → eqb (came_as e.doc) number ≡ false → entry_out number e ≡ e
others_stay number e is = ap (λ b. cond b (record e { doc = gone_as e.doc }) e) is

pub goes_out : {D : ℕ} (number : ℕ) (e : Entry D) → eqb (came_as e.doc) number ≡ true → entry_out number e ≡ record e { doc = gone_as e.doc }
goes_out number e is = ap (λ b. cond b (record e { doc = gone_as e.doc }) e) is

-- before the run nothing is changed
pub out_none : {D : ℕ} (number : ℕ) (xs : List (Entry D)) (i j : ℕ) → IsRunOf (λ (e : Entry D). came_as e.doc) number xs i j
    → xs ≡ map (entry_out number) (take i xs) ++ drop i xs
out_none {D} number xs i j run =
    sym (take-append-drop i xs)
    ∙ ap (λ ys. ys ++ drop i xs)
    (sym (same_front (λ (e : Entry D). eqb (came_as e.doc) number ≡ false) (entry_out number) (others_stay number) xs i run.before))

-- and behind it nothing more is
pub out_all : {D : ℕ} (number : ℕ) (xs ys : List (Entry D)) (i j : ℕ) → IsRunOf (λ (e : Entry D). came_as e.doc) number xs i j
    → ys ≡ map (entry_out number) (take j xs) ++ drop j xs → ys ≡ map (entry_out number) xs
out_all {D} number xs ys i j run is =
    is
    ∙ ap (λ zs. map (entry_out number) (take j xs) ++ zs)
    (sym (same_back (λ (e : Entry D). eqb (came_as e.doc) number ≡ false) (entry_out number) (others_stay number) xs j run.after))
    ∙ sym (map-append (entry_out number) (take j xs) (drop j xs))
    ∙ ap (map (entry_out number)) (take-append-drop j xs)

pub out_items : {D : ℕ} (number : ℕ) (xs : List (Entry D)) → items_of (map (entry_out number) xs) ≡ map (out_of number) (items_of xs)
out_items number [] = refl
out_items number (x ∷ xs) =
    ap (λ (y : Item). y ∷ items_of (map (entry_out number) xs)) (by (eqb (came_as x.doc) number))
    ∙ ap (λ ys. out_of number (item_of x) ∷ ys) (out_items number xs)
  where
    by : (b : Bool) → item_of (cond b (record x { doc = gone_as x.doc }) x) ≡ cond b (record { doc = gone_as x.doc; at = x.point.c }) (item_of x)
    by true = refl
    by false = refl

-- the entries that wait are seen as the items that wait
pub waiting_items : {D : ℕ} (xs : List (Entry D)) → items_of (filter (λ (e : Entry D). waits e.doc) xs) ≡ waiting (items_of xs)
waiting_items [] = refl
waiting_items {D} (x ∷ xs) = by (waits x.doc) (waiting_items xs)
  where
    by : (b : Bool) → items_of (filter (λ (e : Entry D). waits e.doc) xs) ≡ waiting (items_of xs)
        → items_of (cond b (x ∷ filter (λ (e : Entry D). waits e.doc) xs) (filter (λ (e : Entry D). waits e.doc) xs))
        ≡ cond b (item_of x ∷ waiting (items_of xs)) (waiting (items_of xs))
    by true rest = ap (λ ys. item_of x ∷ ys) rest
    by false rest = rest

pub count_items : {D : ℕ} (xs : List (Entry D)) → length (waiting (items_of xs)) ≡ length (filter (λ (e : Entry D). waits e.doc) xs)
count_items {D} xs = ap length (sym (waiting_items xs)) ∙ length-map (filter (λ (e : Entry D). waits e.doc) xs) item_of

-- entries ascend where what the definitions see of them does
pub ordered_items : {D : ℕ} (f : ℕ → ℕ) (xs : List (Entry D)) → IsNonDecreasingBy (λ (x : Item). f x.doc) (items_of xs)
    → IsNonDecreasingBy (λ (e : Entry D). f e.doc) xs
ordered_items f xs up i j d le lt =
    let long = length-map xs item_of in
    let low : i < length xs = omega arith in
    let under = up i j (item_of d) le (omega arith) in
    omega (
      arith,
      under,
      ap (λ (x : Item). f x.doc) (get_or-map item_of xs i d (item_of d) low),
      ap (λ (x : Item). f x.doc) (get_or-map item_of xs j d (item_of d) lt),
    )

-- ---- counts

pub filter_yes : {X : Type 0} (p : X → Bool) (x : X) (xs : List X) → p x ≡ true → filter p (x ∷ xs) ≡ x ∷ filter p xs
filter_yes p x xs e = ap (λ b. cond b (x ∷ filter p xs) (filter p xs)) e

pub filter_no : {X : Type 0} (p : X → Bool) (x : X) (xs : List X) → p x ≡ false → filter p (x ∷ xs) ≡ filter p xs
filter_no p x xs e = ap (λ b. cond b (x ∷ filter p xs) (filter p xs)) e

abbrev pub one_where : Bool → ℕ
one_where b = cond b 1 0

-- an element in the place of another
pub count_set : {X : Type 0} (p : X → Bool) (xs : List X) (i : ℕ) (d y : X) → i < length xs
    → length (filter p (set xs i y)) + one_where (p (get_or xs i d)) ≡ length (filter p xs) + one_where (p y)
count_set p [] i d y lt = absurd (omega (arith, lt))
count_set p (x ∷ xs) zero d y lt = by (p x) (p y)
  where
    by : (a b : Bool) → length (cond b (y ∷ filter p xs) (filter p xs)) + one_where a ≡ length (cond a (x ∷ filter p xs) (filter p xs)) + one_where b
    by true true = refl
    by true false = omega arith
    by false true = omega arith
    by false false = refl
count_set p (x ∷ xs) (suc i) d y lt = by (p x) (count_set p xs i d y (omega (arith, lt)))
  where
    by : (a : Bool) → length (filter p (set xs i y)) + one_where (p (get_or xs i d)) ≡ length (filter p xs) + one_where (p y)
        → length (cond a (x ∷ filter p (set xs i y)) (filter p (set xs i y))) + one_where (p (get_or xs i d))
        ≡ length (cond a (x ∷ filter p xs) (filter p xs)) + one_where (p y)
    by true rest = omega (arith, rest)
    by false rest = rest

-- a filter that leaves as many leaves all
pub filter_whole : {X : Type 0} (p : X → Bool) (xs : List X) → length xs ≤ length (filter p xs) → filter p xs ≡ xs
filter_whole p [] le = refl
filter_whole p (x ∷ xs) le = by (filter_whole p xs) (p x) refl
  where
    short : length (filter p xs) ≤ length xs
    short = omega (arith, length-filter p xs, count_by-le-length p xs)

    by : (length xs ≤ length (filter p xs) → filter p xs ≡ xs) → (b : Bool) → p x ≡ b → filter p (x ∷ xs) ≡ x ∷ xs
    by rest true e =
        let long = ap length (filter_yes p x xs e) in filter_yes p x xs e ∙ ap (λ ys. x ∷ ys) (rest (omega (arith, le, long)))
    by rest false e = let long = ap length (filter_no p x xs e) in absurd (omega (arith, le, long, short))

-- ---- what waits once a number is taken out

pub came_waiting : (doc : ℕ) → waits doc ≡ true → came_as doc ≡ doc
came_waiting doc e = ap (λ b. cond b doc (doc - 2147483648)) e

came_gone : (doc : ℕ) → waits doc ≡ false → came_as doc ≡ doc - 2147483648
came_gone doc e = ap (λ b. cond b doc (doc - 2147483648)) e

pub gone_waits_not : (doc : ℕ) → waits (gone_as doc) ≡ false
gone_waits_not doc = le-ltb (gone_as doc) 2147483648 (omega arith)

-- an entry that is gone came with the number with which it came
pub came_again : (doc : ℕ) → came_as (gone_as doc) ≡ came_as doc
came_again doc = came_gone (gone_as doc) (gone_waits_not doc) ∙ back
  where
    back : gone_as doc - 2147483648 ≡ came_as doc
    back = omega arith

pub waiting_out : (number : ℕ) (held : List Item) → waiting (map (out_of number) held) ≡ entries_but number (waiting held)
waiting_out number [] = refl
waiting_out number (x ∷ xs) = by (waiting_out number xs) (waits x.doc) (eqb (came_as x.doc) number) refl refl
  where
    goes : eqb (came_as x.doc) number ≡ true → out_of number x ≡ record x { doc = gone_as x.doc }
    goes e = ap (λ b. cond b (record x { doc = gone_as x.doc }) x) e

    stays : eqb (came_as x.doc) number ≡ false → out_of number x ≡ x
    stays e = ap (λ b. cond b (record x { doc = gone_as x.doc }) x) e

    gone : waiting (map (out_of number) xs) ≡ entries_but number (waiting xs) → eqb (came_as x.doc) number ≡ true
        → waiting (map (out_of number) (x ∷ xs)) ≡ entries_but number (waiting xs)
    gone more e =
        ap (λ (y : Item). waiting (y ∷ map (out_of number) xs)) (goes e)
        ∙ filter_no (λ (y : Item). waits y.doc) (record x { doc = gone_as x.doc }) (map (out_of number) xs) (gone_waits_not x.doc)
        ∙ more

    by : waiting (map (out_of number) xs) ≡ entries_but number (waiting xs) → (a b : Bool) → waits x.doc ≡ a → eqb (came_as x.doc) number ≡ b
        → waiting (map (out_of number) (x ∷ xs)) ≡ entries_but number (waiting (x ∷ xs))
    by more true true wait is =
        gone more is
        ∙ sym (ap (entries_but number) (filter_yes (λ (y : Item). waits y.doc) x xs wait)
        ∙ filter_no (λ (y : Item). not (eqb y.doc number)) x (waiting xs)
        (ap (λ n. not (eqb n number)) (sym (came_waiting x.doc wait)) ∙ ap not is))
    by more true false wait is =
        ap (λ (y : Item). waiting (y ∷ map (out_of number) xs)) (stays is)
        ∙ filter_yes (λ (y : Item). waits y.doc) x (map (out_of number) xs) wait
        ∙ ap (λ ys. x ∷ ys) more
        ∙ sym (ap (entries_but number) (filter_yes (λ (y : Item). waits y.doc) x xs wait)
        ∙ filter_yes (λ (y : Item). not (eqb y.doc number)) x (waiting xs)
        (ap (λ n. not (eqb n number)) (sym (came_waiting x.doc wait)) ∙ ap not is))
    by more false true wait is = gone more is ∙ sym (ap (entries_but number) (filter_no (λ (y : Item). waits y.doc) x xs wait))
    by more false false wait is =
        ap (λ (y : Item). waiting (y ∷ map (out_of number) xs)) (stays is)
        ∙ filter_no (λ (y : Item). waits y.doc) x (map (out_of number) xs) wait
        ∙ more
        ∙ sym (ap (entries_but number) (filter_no (λ (y : Item). waits y.doc) x xs wait))

-- fewer are left exactly where one had the number
pub some_out : (number : ℕ) (xs : List Item) (count : ℕ) → length (entries_but number xs) + count ≡ length xs → ltb 0 count ≡ has_entry number xs
some_out number [] zero is = refl
some_out number [] (suc count) is = absurd (omega (arith, is))
some_out number (x ∷ xs) count is = by (some_out number xs count) (eqb x.doc number) refl
  where
    other : Item → Bool
    other y = not (eqb y.doc number)

    short : length (entries_but number xs) ≤ length xs
    short = omega (arith, length-filter other xs, count_by-le-length other xs)

    by : (length (entries_but number xs) + count ≡ length xs → ltb 0 count ≡ has_entry number xs) → (b : Bool) → eqb x.doc number ≡ b
        → ltb 0 count ≡ has_entry number (x ∷ xs)
    by rest true e =
        let left = ap length (filter_no (λ (y : Item). not (eqb y.doc number)) x xs (ap not e)) in
        lt-ltb 0 count (omega (arith, is, left, short)) ∙ ap (λ b. b || has_entry number xs) (sym e)
    by rest false e =
        let left = ap length (filter_yes (λ (y : Item). not (eqb y.doc number)) x xs (ap not e)) in
        rest (omega (arith, is, left)) ∙ ap (λ b. b || has_entry number xs) (sym e)

-- what came with the same numbers
pub came_out : (number : ℕ) (x : Item) → came_as (out_of number x).doc ≡ came_as x.doc
came_out number x = by (eqb (came_as x.doc) number)
  where
    by : (b : Bool) → came_as (cond b (record x { doc = gone_as x.doc }) x).doc ≡ came_as x.doc
    by true = came_again x.doc
    by false = refl
