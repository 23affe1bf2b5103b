-- Clean segments: as many numbers as entries, each number that of an entry, so each entry has a number of its own.
use Rattle.std.proofs.Common.{◌≡◌, ℕ, ◌+◌, ◌<◌, ◌≤◌, Bool, true, false, eqb, cond, List, [], ◌∷◌, length, get_or, refl}
use Rattle.std.proofs.Common.{sym, ap, subst, ◌∙◌, ◌||◌, arith}
use Rattle.std.specs.List.{All, AllPairs, Contains, count_by, list_any, sum_by}
use Rattle.std.proofs.lemmas.Bool.{eqb-true, eq-eqb, true≢false}
use Rattle.std.proofs.lemmas.List.Elements.{All-cons, All-head, All-nil, All-tail, All-contains, Contains-get_or}
use Rattle.std.proofs.lemmas.List.Sums.{sum_by-cons}
use Rattle.std.proofs.lemmas.List.Kept.{AllPairs-from_increasing}
use Rattle.outer_io.specs.Files.{Files}
use Rattle.point_codec.specs.Points.{Item}
use Rattle.live_bits.specs.LiveSet.{LiveSet, IsLiveSet, is_live}
use Rattle.documents.specs.Entries.{has_entry}
use Rattle.documents.proofs.Kept.{among_from, among_to}
use Rattle.documents.proofs.Lists.{cons_head, cons_tail, pairs_head, pairs_tail}
use Rattle.segment_file.specs.Heads.{Head}
use Rattle.segment_file.proofs.Counted.{segment_counted}
use Rattle.segment_view.specs.LiveSegments.{LiveSegment, live_segment, Contents, IsRead}
use Rattle.point_counts.specs.Costs.{is_clean}

-- how many entries have the number, and how often an entry's number is among the numbers
of_number : List Item → ℕ → ℕ
of_number xs n = count_by (λ x. eqb x.doc n) xs

times : List ℕ → Item → ℕ
times ns x = count_by (λ n. eqb x.doc n) ns

-- ---- both ways of counting

sum_zero : {X : Type 0} (xs : List X) → sum_by (λ x. 0) xs ≡ 0
sum_zero [] = refl
sum_zero (x ∷ xs) = let a = sum_by-cons (λ y. 0) x xs in let rest = sum_zero xs in omega (arith, a, rest)

sum_both : {X : Type 0} (f g : X → ℕ) (xs : List X) → sum_by (λ x. f x + g x) xs ≡ sum_by f xs + sum_by g xs
sum_both f g [] = refl
sum_both f g (x ∷ xs) =
    let a = sum_by-cons (λ y. f y + g y) x xs in
    let b = sum_by-cons f x xs in
    let c = sum_by-cons g x xs in
    let rest = sum_both f g xs in
    omega (arith, a, b, c, rest)

exchanged : (xs : List Item) (ns : List ℕ) → sum_by (of_number xs) ns ≡ sum_by (times ns) xs
unfolding of_number times
exchanged xs [] = sym (sum_zero xs)
exchanged xs (n ∷ ns) =
    sum_by-cons (of_number xs) n ns
    ∙ ap (λ (m : ℕ). of_number xs n + m) (exchanged xs ns)
    ∙ sym (sum_both (λ x. cond (eqb x.doc n) 1 0) (times ns) xs)
    ∙ (λ i. sum_by (λ x. sym (sum_by-cons (λ m. cond (eqb x.doc m) 1 0) n ns) i) xs)

-- ---- how often at most, and at least

none_above : (m : ℕ) (ns : List ℕ) → ((k : ℕ) → Contains ns k → m < k) → count_by (λ n. eqb m n) ns ≡ 0
none_above m [] above = refl
none_above m (n ∷ ns) above =
    let rest = none_above m ns (λ k there. above k (cons_tail n ns k there)) in
    sum_by-cons (λ k. cond (eqb m k) 1 0) n ns ∙ ap (λ (k : ℕ). cond (eqb m n) 1 0 + k) rest ∙ by (eqb m n) refl
  where
    by : (b : Bool) → eqb m n ≡ b → cond b 1 0 + 0 ≡ 0
    by true e = let same = eqb-true m n e in let less = above n (cons_head n ns) in absurd (omega (arith, same, less))
    by false e = refl

once_at_most : (m : ℕ) (ns : List ℕ) → AllPairs (λ a b. a < b) ns → count_by (λ n. eqb m n) ns ≤ 1
once_at_most m [] up = omega arith
once_at_most m (n ∷ ns) up =
    let rest = once_at_most m ns (pairs_tail (λ a b. a < b) n ns up) in
    subst (λ (k : ℕ). k ≤ 1) (sym (sum_by-cons (λ k. cond (eqb m k) 1 0) n ns)) (by (eqb m n) refl rest)
  where
    by : (b : Bool) → eqb m n ≡ b → count_by (λ k. eqb m k) ns ≤ 1 → cond b 1 0 + count_by (λ k. eqb m k) ns ≤ 1
    by true e few =
        let same = eqb-true m n e in
        let none = none_above m ns (λ k there. let less = pairs_head (λ a b. a < b) n ns up k there in
        omega (arith, same, less)) in
        omega (arith, none)
    by false e few = omega (arith, few)

some_entry : (n : ℕ) (xs : List Item) → has_entry n xs ≡ true → 1 ≤ count_by (λ x. eqb x.doc n) xs
some_entry n [] e = absurd (true≢false (sym e))
some_entry n (x ∷ xs) e = subst (λ (k : ℕ). 1 ≤ k) (sym (sum_by-cons (λ y. cond (eqb y.doc n) 1 0) x xs))
    (by (some_entry n xs) (eqb x.doc n) e)
  where
    by : (has_entry n xs ≡ true → 1 ≤ count_by (λ y. eqb y.doc n) xs) → (b : Bool) → (b || has_entry n xs) ≡ true
        → 1 ≤ cond b 1 0 + count_by (λ y. eqb y.doc n) xs
    by rest true k = omega arith
    by rest false k = let more = rest k in omega (arith, more)

is_among_them : (m : ℕ) (ns : List ℕ) → 1 ≤ count_by (λ n. eqb m n) ns → list_any (λ d. eqb d m) ns ≡ true
is_among_them m [] some = absurd (omega (arith, some))
is_among_them m (n ∷ ns) some = by (is_among_them m ns) (eqb n m) refl
    (subst (λ (k : ℕ). 1 ≤ k) (sum_by-cons (λ k. cond (eqb m k) 1 0) n ns) some)
  where
    other : eqb n m ≡ false → (b : Bool) → eqb m n ≡ b → 1 ≤ cond b 1 0 + count_by (λ j. eqb m j) ns
        → 1 ≤ count_by (λ j. eqb m j) ns
    other e true f j = absurd (true≢false (sym (eq-eqb n m (sym (eqb-true m n f))) ∙ e))
    other e false f j = omega (arith, j)

    by : (1 ≤ count_by (λ j. eqb m j) ns → list_any (λ d. eqb d m) ns ≡ true) → (b : Bool) → eqb n m ≡ b
        → 1 ≤ cond (eqb m n) 1 0 + count_by (λ k. eqb m k) ns → (b || list_any (λ d. eqb d m) ns) ≡ true
    by rest true e k = refl
    by rest false e k = rest (other e (eqb m n) refl k)

-- ---- sums of ones

most_of_ones : {X : Type 0} (f : X → ℕ) (xs : List X) → All (λ x. f x ≤ 1) xs → sum_by f xs ≤ length xs
most_of_ones f [] all = omega arith
most_of_ones f (x ∷ xs) all =
    let one = All-head (λ y. f y ≤ 1) x xs all in
    let rest = most_of_ones f xs (All-tail (λ y. f y ≤ 1) x xs all) in
    let sum = sum_by-cons f x xs in
    omega (arith, one, rest, sum)

least_of_ones : {X : Type 0} (f : X → ℕ) (xs : List X) → All (λ x. 1 ≤ f x) xs → length xs ≤ sum_by f xs
least_of_ones f [] all = omega arith
least_of_ones f (x ∷ xs) all =
    let one = All-head (λ y. 1 ≤ f y) x xs all in
    let rest = least_of_ones f xs (All-tail (λ y. 1 ≤ f y) x xs all) in
    let sum = sum_by-cons f x xs in
    omega (arith, one, rest, sum)

all_ones_below : {X : Type 0} (f : X → ℕ) (xs : List X) → All (λ x. f x ≤ 1) xs → length xs ≤ sum_by f xs
    → All (λ x. 1 ≤ f x) xs
all_ones_below f [] all full = All-nil (λ x. 1 ≤ f x)
all_ones_below f (x ∷ xs) all full =
    let one = All-head (λ y. f y ≤ 1) x xs all in
    let tail = All-tail (λ y. f y ≤ 1) x xs all in
    let most = most_of_ones f xs tail in
    let sum = sum_by-cons f x xs in
    All-cons (λ y. 1 ≤ f y) x xs (omega (arith, most, sum, full))
    (all_ones_below f xs tail (omega (arith, one, sum, full)))

all_ones_above : {X : Type 0} (f : X → ℕ) (xs : List X) → All (λ x. 1 ≤ f x) xs → sum_by f xs ≤ length xs
    → All (λ x. f x ≡ 1) xs
all_ones_above f [] all full = All-nil (λ x. f x ≡ 1)
all_ones_above f (x ∷ xs) all full =
    let one = All-head (λ y. 1 ≤ f y) x xs all in
    let tail = All-tail (λ y. 1 ≤ f y) x xs all in
    let least = least_of_ones f xs tail in
    let sum = sum_by-cons f x xs in
    All-cons (λ y. f y ≡ 1) x xs (omega (arith, one, least, sum, full))
    (all_ones_above f xs tail (omega (arith, one, sum, full)))

-- ---- of a segment

module _ (D : ℕ) (files : Files) (c : Contents) (p : LiveSegment) (read : IsRead D files c p) (set : IsLiveSet p.live)
    (clean : is_clean p ≡ true) where
  as_many : length p.live.live ≡ length (c p.head.id)
  as_many = eqb-true (length p.live.live) p.head.entries clean
      ∙ sym (segment_counted D _ p.head (c p.head.id) read.held)

  at_most : All (λ x. times p.live.live x ≤ 1) (c p.head.id)
  unfolding times
  at_most = λ k d lt. once_at_most (get_or (c p.head.id) k d).doc p.live.live
      (AllPairs-from_increasing p.live.live set.ascending)

  at_least : All (λ n. 1 ≤ of_number (c p.head.id) n) p.live.live
  unfolding is_live of_number
  at_least = λ k d lt. some_entry (get_or p.live.live k d) (c p.head.id)
      (read.found (get_or p.live.live k d) (among_from p.live.live (get_or p.live.live k d)
      (Contains-get_or p.live.live k d lt)))

  pub all_live : All (λ e. is_live p.live e.doc ≡ true) (c p.head.id)
  unfolding is_live times
  all_live =
      let least = least_of_ones (of_number (c p.head.id)) p.live.live at_least in
      let same = exchanged (c p.head.id) p.live.live in
      let each = all_ones_below (times p.live.live) (c p.head.id) at_most (omega (arith, least, same, as_many)) in
      λ k d lt. is_among_them (get_or (c p.head.id) k d).doc p.live.live (each k d lt)

  pub all_once : All (λ e. count_by (λ f. eqb f.doc e.doc) (c p.head.id) ≡ 1) (c p.head.id)
  unfolding is_live of_number
  all_once =
      let most = most_of_ones (times p.live.live) (c p.head.id) at_most in
      let same = exchanged (c p.head.id) p.live.live in
      let each = all_ones_above (of_number (c p.head.id)) p.live.live at_least (omega (arith, most, same, as_many)) in
      λ k d lt. All-contains (λ n. of_number (c p.head.id) n ≡ 1) p.live.live (get_or (c p.head.id) k d).doc each
      (among_to p.live.live (get_or (c p.head.id) k d).doc (all_live k d lt))

-- told by what is read of both
pub clean_is : (live entries : ℕ) (head : Head) (set : LiveSet) → live ≡ length set.live → entries ≡ head.entries
    → is_clean (live_segment head set) ≡ eqb live entries
clean_is live entries head set a b = ap (λ (n : ℕ). eqb n head.entries) (sym a) ∙ ap (eqb live) (sym b)
