-- What every set of entries keeps to: those of a document have its number, and numbers ascend.
use Rattle.std.proofs.Common.{◌≡◌, ◌≢◌, ℕ, ◌+◌, ◌-◌, ◌≤◌, ◌^◌, ℤ, Bool, true, false, ◌&&◌, ◌||◌, eqb, leb, cond, List, [], ◌∷◌, ◌++◌}
use Rattle.std.proofs.Common.{length, map, get_or, ⊎_elim, Ordering, Less, Equal, Greater, refl, sym, ap, subst, ◌∙◌, append_assoc, arith}
use Rattle.std.specs.List.{AllPairs, Contains, count_by}
use Rattle.std.specs.List.Sorted.{IsNonDecreasingBy}
use Rattle.std.specs.Ordering.{int_cmp, is_eq}
use Rattle.std.specs.Cmp.Lexicographic.{lists_ties, slice_cmp}
use Rattle.std.proofs.lemmas.Bool.{both_ways, eq-eqb, eqb-true, leb-false, leb-true}
use Rattle.std.proofs.lemmas.List.{length-append, length-map, append-nil}
use Rattle.std.proofs.lemmas.List.Elements.{Contains-get_or, Contains-push_cases}
use Rattle.std.proofs.lemmas.List.Folds.{list_any-append}
use Rattle.std.proofs.lemmas.List.Sorted.{IsNonDecreasingBy-push}
use Rattle.std.proofs.lemmas.List.Sums.{sum_by-append, sum_by-cons}
use Rattle.point_codec.specs.Points.{ArePoints, Item}
use Rattle.point_codec.proofs.Ordered.{points_exact}
use Rattle.leaf_codec.specs.LeafOrder.{NoneTwice, same_item}
use Rattle.documents.specs.Entries.{MakeDocs, entries_of, entry_of, has_entry}
use Rattle.documents.proofs.Kept.{added, no_docs}
use Rattle.documents.proofs.Lists.{cons_head, cons_tail, pairs_head, pairs_tail}
use Rattle.documents.proofs.Making.{docs_make}
use Rattle.stored_index.specs.Segments.{places}
use Rattle.stored_index.proofs.Places.{entry_there}
use Rattle.segment_view.specs.LiveSegments.{lives_of}
use Rattle.document_checks.specs.Crowded.{AreFew}
use Rattle.segment_set.specs.Sets.{IsWellTo, SetData, set_with}
use Rattle.segment_set.proofs.Well.{left_of}

-- ---- what every set keeps to

left_or : (a b : Bool) → (a || b) ≡ true → a ≡ false → b ≡ true
left_or true b e none = absurd (both_ways true none refl)
left_or false b e none = e

-- entries of one document have its number
pub number_of : (n m : ℕ) (points : List (List ℤ)) → has_entry m (map (entry_of n) points) ≡ true → n ≡ m
number_of n m [] h = absurd (both_ways false refl h)
number_of n m (p ∷ ps) h = by (eqb n m) refl (number_of n m ps)
  where
    by : (b : Bool) → eqb n m ≡ b → (has_entry m (map (entry_of n) ps) ≡ true → n ≡ m) → n ≡ m
    by true e rest = eqb-true n m e
    by false e rest = rest (left_or (eqb n m) (has_entry m (map (entry_of n) ps)) h e)

is_equal : (o : Ordering) → is_eq o ≡ true → o ≡ Equal
is_equal Less h = absurd (both_ways false refl h)
is_equal Equal h = refl
is_equal Greater h = absurd (both_ways false refl h)

right_of : (a b : Bool) → (a && b) ≡ true → b ≡ true
right_of true b e = e
right_of false b e = absurd (both_ways false refl e)

same_doc : (x y : Item) → same_item x y ≡ true → x.doc ≡ y.doc
same_doc x y e = eqb-true x.doc y.doc (left_of _ _ e)

pub same_exact : (x y : Item) → same_item x y ≡ true → x ≡ y
same_exact x y e =
    let doc : x.doc ≡ y.doc = same_doc x y e in
    let at : x.at ≡ y.at =
    points_exact x.at y.at (is_equal (slice_cmp int_cmp x.at y.at) (sym (lists_ties int_cmp (λ a b. refl) x.at y.at) ∙ right_of _ _ e)) in
    λ i. record { doc = doc i; at = at i }

abbrev one_if : Bool → ℕ
one_if b = cond b 1 0

count_cons : (x y : Item) (ys : List Item) → count_by (same_item x) (y ∷ ys) ≡ one_if (same_item x y) + count_by (same_item x) ys
count_cons x y ys = sum_by-cons (λ (z : Item). cond (same_item x z) 1 0) y ys

-- an entry whose number isn't there isn't there
none_of : (x : Item) (ys : List Item) → has_entry x.doc ys ≡ false → count_by (same_item x) ys ≡ 0
none_of x [] none = refl
none_of x (y ∷ ys) none = by (same_item x y) refl (none_of x ys)
  where
    first : (a b : Bool) → (a || b) ≡ false → a ≡ false
    first true b e = absurd (both_ways true e refl)
    first false b e = refl

    second : (a b : Bool) → (a || b) ≡ false → b ≡ false
    second true b e = absurd (both_ways true e refl)
    second false b e = e

    by : (b : Bool) → same_item x y ≡ b → (has_entry x.doc ys ≡ false → count_by (same_item x) ys ≡ 0) → count_by (same_item x) (y ∷ ys) ≡ 0
    by true e rest = absurd (both_ways (eqb y.doc x.doc) (first (eqb y.doc x.doc) (has_entry x.doc ys) none) (eq-eqb y.doc x.doc (sym (same_doc x y e))))
    by false e rest =
        count_cons x y ys ∙ ap (λ b. one_if b + count_by (same_item x) ys) e ∙ omega (arith, rest (second (eqb y.doc x.doc) (has_entry x.doc ys) none))

absent : (x : Item) (ys : List Item) → ((y : Item) → Contains ys y → x ≢ y) → count_by (same_item x) ys ≡ 0
absent x [] none = refl
absent x (y ∷ ys) none = by (same_item x y) refl (absent x ys (λ z h. none z (cons_tail y ys z h)))
  where
    by : (b : Bool) → same_item x y ≡ b → count_by (same_item x) ys ≡ 0 → count_by (same_item x) (y ∷ ys) ≡ 0
    by true e rest = absurd (none y (cons_head y ys) (same_exact x y e))
    by false e rest = count_cons x y ys ∙ ap (λ b. one_if b + count_by (same_item x) ys) e ∙ omega (arith, rest)

once_each : (xs : List Item) → AllPairs (λ (x y : Item). x ≢ y) xs → (x : Item) → count_by (same_item x) xs ≤ 1
once_each [] apart x = omega arith
once_each (y ∷ ys) apart x = by (same_item x y) refl (once_each ys (pairs_tail (λ (a b : Item). a ≢ b) y ys apart) x)
  where
    by : (b : Bool) → same_item x y ≡ b → count_by (same_item x) ys ≤ 1 → count_by (same_item x) (y ∷ ys) ≤ 1
    by true e rest =
        let none = absent x ys (λ z h same. pairs_head (λ (a b : Item). a ≢ b) y ys apart z h (sym (same_exact x y e) ∙ same)) in
        omega (arith, count_cons x y ys, ap one_if e, none)
    by false e rest = omega (arith, count_cons x y ys, ap one_if e, rest)

of_one : (n : ℕ) (points : List (List ℤ)) → ArePoints points → MakeDocs (n + 1) (entries_of (record { number = n; points = points }))
of_one n points ok =
    docs_make (n + 1) (entries_of (record { number = n; points = points })) (record { number = n; points = points } ∷ []) (added n [] [] points (no_docs n) ok)

-- no entry of a document has another number
absent_other : (n m : ℕ) (points : List (List ℤ)) → eqb n m ≡ false → has_entry m (entries_of (record { number = n; points = points })) ≡ false
absent_other n m points other = by (has_entry m (entries_of (record { number = n; points = points }))) refl
  where
    by : (b : Bool) → has_entry m (entries_of (record { number = n; points = points })) ≡ b → b ≡ false
    by true h = absurd (both_ways (eqb n m) other (eq-eqb n m (number_of n m points h)))
    by false h = refl

none_twice_with : (n : ℕ) (buffer : List Item) (points : List (List ℤ)) → ArePoints points → has_entry n buffer ≡ false → NoneTwice buffer
    → NoneTwice (buffer ++ entries_of (record { number = n; points = points }))
unfolding NoneTwice
none_twice_with n buffer points ok fresh once x = by (eqb n x.doc) refl
  where
    mine : List Item
    mine = entries_of (record { number = n; points = points })

    both : count_by (same_item x) (buffer ++ mine) ≡ count_by (same_item x) buffer + count_by (same_item x) mine
    both = sum_by-append (λ (z : Item). cond (same_item x z) 1 0) buffer mine

    by : (b : Bool) → eqb n x.doc ≡ b → count_by (same_item x) (buffer ++ mine) ≤ 1
    by true e =
        let none = none_of x buffer (ap (λ m. has_entry m buffer) (sym (eqb-true n x.doc e)) ∙ fresh) in
        let one = once_each mine (of_one n points ok).once x in
        omega (arith, both, none, one)
    by false e = let none = none_of x mine (absent_other n x.doc points e) in let one = once x in omega (arith, both, none, one)

none_counted : (m : ℕ) (xs : List Item) → has_entry m xs ≡ false → count_by (λ (x : Item). eqb x.doc m) xs ≡ 0
none_counted m [] none = refl
none_counted m (x ∷ xs) none = by (eqb x.doc m) refl none (none_counted m xs)
  where
    by : (b : Bool) → eqb x.doc m ≡ b → (b || has_entry m xs) ≡ false → (has_entry m xs ≡ false → count_by (λ (y : Item). eqb y.doc m) xs ≡ 0)
        → count_by (λ (y : Item). eqb y.doc m) (x ∷ xs) ≡ 0
    by true e h rest = absurd (both_ways true h refl)
    by false e h rest = omega (arith, sum_by-cons (λ (y : Item). cond (eqb y.doc m) 1 0) x xs, ap one_if e, rest h)

few_with : (n : ℕ) (buffer : List Item) (points : List (List ℤ)) → ArePoints points → has_entry n buffer ≡ false → AreFew buffer
    → AreFew (buffer ++ entries_of (record { number = n; points = points }))
few_with n buffer points ok fresh few m = by (eqb n m) refl
  where
    mine : List Item
    mine = entries_of (record { number = n; points = points })

    both : count_by (λ (x : Item). eqb x.doc m) (buffer ++ mine) ≡ count_by (λ (x : Item). eqb x.doc m) buffer + count_by (λ (x : Item). eqb x.doc m) mine
    both = sum_by-append (λ (x : Item). cond (eqb x.doc m) 1 0) buffer mine

    by : (b : Bool) → eqb n m ≡ b → count_by (λ (x : Item). eqb x.doc m) (buffer ++ mine) ≤ 16
    by true e = omega (arith, both, none_counted m buffer (ap (λ k. has_entry k buffer) (sym (eqb-true n m e)) ∙ fresh), (of_one n points ok).few m)
    by false e = omega (arith, both, few m, none_counted m mine (absent_other n m points e))

-- numbers ascend where those that come aren't less than any before
ordered_with : (n : ℕ) (buffer : List Item) (points : List (List ℤ)) → ((x : Item) → Contains buffer x → x.doc ≤ n)
    → IsNonDecreasingBy (λ (x : Item). x.doc) buffer
    → IsNonDecreasingBy (λ (x : Item). x.doc) (buffer ++ map (entry_of n) points)
ordered_with n buffer [] below up = subst (IsNonDecreasingBy (λ (x : Item). x.doc)) (sym (append-nil buffer)) up
ordered_with n buffer (p ∷ ps) below up =
    subst (IsNonDecreasingBy (λ (x : Item). x.doc)) (append_assoc buffer (entry_of n p ∷ []) (map (entry_of n) ps))
    (ordered_with n (buffer ++ entry_of n p ∷ []) ps more
    (IsNonDecreasingBy-push (λ (x : Item). x.doc) buffer (entry_of n p) up
    (λ d some. below (get_or buffer (length buffer - 1) d) (Contains-get_or buffer (length buffer - 1) d (omega arith)))))
  where
    more : (x : Item) → Contains (buffer ++ entry_of n p ∷ []) x → x.doc ≤ n
    more x h = ⊎_elim (below x) (λ e. subst (λ (y : Item). y.doc ≤ n) e (omega arith)) (Contains-push_cases buffer (entry_of n p) x h)

pub well_with : {most : ℕ} (D : ℕ) (s : SetData) (points : List (List ℤ)) → ArePoints points → length s.buffer + length points ≤ most
    → s.points_given + length points ≤ 2 ^ 24
    → IsWellTo most D s → IsWellTo most D (set_with points s)
well_with D s points ok room points_given well = record {
  some_dims = well.some_dims;
  few_dims = well.few_dims;
  least_leaf = well.least_leaf;
  greatest_leaf = well.greatest_leaf;
  numbered = omega (arith, well.numbered, ok.some);
  most_given = points_given;
  spread = record { alone = alone; below = below };
  room = omega (arith, room, length-append s.buffer mine, length-map points (entry_of s.next));
  ordered = ordered_with s.next s.buffer points under well.ordered;
  once = none_twice_with s.next s.buffer points ok (well.spread.below s.next (omega arith)).1 well.once;
  sixteen = few_with s.next s.buffer points ok (well.spread.below s.next (omega arith)).1 well.sixteen;
  few = well.few;
  leaf_size = well.leaf_size;
  live_fits = well.live_fits;
  named = well.named;
  kept = well.kept;
  own = well.own;
  few_snapshots = well.few_snapshots;
  rooms = well.rooms;
  inputs = well.inputs;
  few_inputs = well.few_inputs;
  built = well.built;
  cached = well.cached;
  unhidden = well.unhidden;
}
  where
    mine : List Item
    mine = entries_of (record { number = s.next; points = points })

    has_both : (m : ℕ) → has_entry m (s.buffer ++ mine) ≡ (has_entry m s.buffer || has_entry m mine)
    has_both m = list_any-append (λ (x : Item). eqb x.doc m) s.buffer mine

    under : (x : Item) → Contains s.buffer x → x.doc ≤ s.next
    under x there = by (leb s.next x.doc) refl
      where
        by : (b : Bool) → leb s.next x.doc ≡ b → x.doc ≤ s.next
        by true e = absurd (both_ways (has_entry x.doc s.buffer) (well.spread.below x.doc (leb-true s.next x.doc e)).1 (entry_there s.buffer x there))
        by false e = let lt = leb-false s.next x.doc e in omega arith

    alone : (m : ℕ) → places m (lives_of s.parts) + cond (has_entry m (s.buffer ++ mine)) 1 0 ≤ 1
    alone m = by (has_entry m mine) refl
      where
        at_most : (b : Bool) → cond b 1 0 ≤ 1
        at_most true = omega arith
        at_most false = omega arith

        or_false : (b : Bool) → (b || false) ≡ b
        or_false true = refl
        or_false false = refl

        by : (b : Bool) → has_entry m mine ≡ b → places m (lives_of s.parts) + cond (has_entry m (s.buffer ++ mine)) 1 0 ≤ 1
        by true e =
            let none = (well.spread.below m (let same = number_of s.next m points e in omega arith)).0 in
            let one = at_most (has_entry m (s.buffer ++ mine)) in
            omega arith
        by false e =
            let same : has_entry m (s.buffer ++ mine) ≡ has_entry m s.buffer =
            has_both m ∙ ap (λ b. has_entry m s.buffer || b) e ∙ or_false (has_entry m s.buffer) in
            omega (arith, well.spread.alone m, ap one_if same)

    below : (m : ℕ) → s.next + 1 ≤ m → (places m (lives_of s.parts) ≡ 0) × (has_entry m (s.buffer ++ mine) ≡ false)
    below m le =
        let old = well.spread.below m (omega arith) in
        (old.0, has_both m ∙ ap (λ b. b || has_entry m mine) old.1 ∙ by (has_entry m mine) refl)
      where
        by : (b : Bool) → has_entry m mine ≡ b → b ≡ false
        by true e = absurd (let same = number_of s.next m points e in omega arith)
        by false e = refl
