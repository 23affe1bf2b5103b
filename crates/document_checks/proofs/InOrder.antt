-- Lists in order of number and coordinates: equal entries are neighbours, and those of one number stand in a row.
use Rattle.std.proofs.Common.{◌≡◌, ◌≢◌, ℕ, ◌+◌, ◌-◌, ◌<◌, ◌≤◌, Bool, true, false, ◌&&◌, eqb, leb, List, [], ◌∷◌, length}
use Rattle.std.proofs.Common.{get_or, take, drop, refl, sym, ap, subst, ◌∙◌, inl, inr, arith, Ordering, Less, Equal, Greater}
use Rattle.std.specs.List.{All, count_by}
use Rattle.std.specs.List.Sorted.{IsSorted}
use Rattle.std.specs.Ordering.{is_eq}
use Rattle.std.proofs.lemmas.Bool.{cases_eq, eq-eqb, eqb-true, le-leb, leb-true, or_parts, or_cases, and_parts, and_from, false≢true}
use Rattle.std.proofs.lemmas.List.{get_or-map, length-map, get_or-take, get_or-drop, get_or_default, length-drop, length-take-le, take-map}
use Rattle.std.proofs.lemmas.List.Sums.{sum_by-take-drop}
use Rattle.point_codec.specs.Points.{Item}
use Rattle.point_codec.specs.Seen.{items_of}
use Rattle.point_codec.specs.declared.entries.Entry.{Entry}
use Rattle.leaf_codec.specs.LeafOrder.{item_of, same_item, NoneTwice}
use Rattle.documents.proofs.Totals.{item_exact}
use Rattle.document_checks.specs.Crowded.{AreFew, IsCrowded, IsFirstRepeat, IsLeastCrowded, by_number, count_of, repeats_at}
use Rattle.document_checks.proofs.Once.{is_same, once_from, twice}
use Rattle.document_checks.proofs.Moved.{no_more}
use Rattle.document_checks.proofs.Rising.{NoTie, apart_from, Rises, rises, has, one_if, none_above, most, run}

-- ---- over entries

-- the two parts of the test
abbrev ties : {D : ℕ} → Entry D → List (Entry D) → ℕ → ℕ → Bool
ties d xs j k = is_eq (by_number (item_of (get_or xs j d)) (item_of (get_or xs k d)))

abbrev shares : {D : ℕ} → Entry D → List (Entry D) → ℕ → ℕ → Bool
shares d xs j k = leb 16 k && eqb (get_or xs j d).doc (get_or xs k d).doc

is_tie : (o : Ordering) → is_eq o ≡ true → o ≡ Equal
is_tie Less e = cc
is_tie Equal e = refl
is_tie Greater e = cc

module _ {D : ℕ} (xs : List (Entry D)) (up : IsSorted by_number (items_of xs)) where
  at : (k : ℕ) (d : Entry D) (e : Item) → k < length xs → get_or (items_of xs) k e ≡ item_of (get_or xs k d)
  at k d e lt = get_or-map (λ (x : Entry D). item_of x) xs k d e lt

  long : length (items_of xs) ≡ length xs
  long = length-map xs (λ (x : Entry D). item_of x)

  none_crowded : (d : Entry D) → ((k : ℕ) → 1 ≤ k → k < length xs → repeats_at d xs k ≡ false) → NoneTwice (items_of xs) × AreFew (items_of xs)
  none_crowded d none = (once_from (items_of xs) (apart_from (items_of xs) up apart), λ n. most n 16 (items_of xs) (rises (items_of xs) up) gap)
    where
      neither : (k : ℕ) → 1 ≤ k → k < length xs → (ties d xs (k - 1) k ≡ false) × (shares d xs (k - 16) k ≡ false)
      neither k some lt = or_parts (ties d xs (k - 1) k) (shares d xs (k - 16) k) (none k some lt)

      apart : NoTie (items_of xs)
      apart k e lt =
          let within : k + 1 < length xs = omega (arith, lt, long) in
          let back : k ≡ k + 1 - 1 = omega arith in
          (λ i. is_eq (by_number (at k d e (omega arith) i) (at (k + 1) d e within i)))
          ∙ ap (λ (j : ℕ). ties d xs j (k + 1)) back
          ∙ (neither (k + 1) (omega arith) within).0

      gap : (k : ℕ) (e : Item) → k + 16 < length (items_of xs) → (get_or (items_of xs) k e).doc ≢ (get_or (items_of xs) (k + 16) e).doc
      gap k e lt same =
          let within : k + 16 < length xs = omega (arith, lt, long) in
          let back : k + 16 - 16 ≡ k = omega arith in
          let docs : (get_or xs (k + 16 - 16) d).doc ≡ (get_or xs (k + 16) d).doc =
          ap (λ (j : ℕ). (get_or xs j d).doc) back
          ∙ ap (λ (x : Item). x.doc) (sym (at k d e (omega arith)))
          ∙ same
          ∙ ap (λ (x : Item). x.doc) (at (k + 16) d e within) in
          let shared : shares d xs (k + 16 - 16) (k + 16) ≡ true =
          and_from (leb 16 (k + 16)) (eqb (get_or xs (k + 16 - 16) d).doc (get_or xs (k + 16) d).doc) (le-leb 16 (k + 16) (omega arith))
          (eq-eqb (get_or xs (k + 16 - 16) d).doc (get_or xs (k + 16) d).doc docs) in
          false≢true (sym (neither (k + 16) (omega arith) within).1 ∙ shared)

  some_crowded : (d : Entry D) (k : ℕ) → 1 ≤ k → k < length xs → repeats_at d xs k ≡ true → IsCrowded (get_or xs k d).doc (items_of xs)
  some_crowded d k some lt repeats = elim (or_cases (ties d xs (k - 1) k) (shares d xs (k - 16) k) repeats) [
    | inl tie ↦
        let x : Item = item_of (get_or xs (k - 1) d) in
        let y : Item = item_of (get_or xs k d) in
        let same : x ≡ y = item_exact x y (is_tie (by_number x y) tie) in
        inr (
          y,
          refl,
          twice (same_item y) (items_of xs) (k - 1) k y (omega arith) (omega (arith, long, lt))
              (ap (same_item y) (at (k - 1) d y (omega arith)) ∙ is_same y x (sym same))
              (ap (same_item y) (at k d y lt) ∙ is_same y y refl),
        )
    | inr shared ↦
        let n = (get_or xs k d).doc in
        let parts = and_parts (leb 16 k) (eqb (get_or xs (k - 16) d).doc n) shared in
        let behind : 16 ≤ k = leb-true 16 k parts.0 in
        let y : Item = item_of (get_or xs k d) in
        let back : k - 16 + 16 ≡ k = omega arith in
        let first : (get_or (items_of xs) (k - 16) y).doc ≡ n =
        ap (λ (z : Item). z.doc) (at (k - 16) d y (omega arith)) ∙ eqb-true (get_or xs (k - 16) d).doc n parts.1 in
        let last : (get_or (items_of xs) (k - 16 + 16) y).doc ≡ n =
        ap (λ (j : ℕ). (get_or (items_of xs) j y).doc) back ∙ ap (λ (z : Item). z.doc) (at k d y lt) in
        inl (run n 16 (k - 16) (items_of xs) y (rises (items_of xs) up) (omega (arith, long, lt)) first last)
  ]

-- what the first repeated place tells, or that there is none
pub stand_once : {D : ℕ} (xs : List (Entry D)) → IsSorted by_number (items_of xs) → ((k : ℕ) (d : Entry D) → 1 ≤ k → k < length xs → repeats_at d xs k ≡ false)
    → NoneTwice (items_of xs) × AreFew (items_of xs)
stand_once {D} [] up none = (once_from (items_of {D = D} []) (λ i j d lt long. absurd (omega arith)), λ n. omega arith)
stand_once (x ∷ xs) up none = none_crowded (x ∷ xs) up x (λ k. none k x)

one_crowded : {D : ℕ} (xs : List (Entry D)) (n : ℕ) → IsSorted by_number (items_of xs) → IsFirstRepeat xs n → IsCrowded n (items_of xs)
one_crowded [] n up h = absurd (omega (arith, h.within))
one_crowded (x ∷ xs) n up h =
    subst (λ (m : ℕ). IsCrowded m (items_of (x ∷ xs))) (h.repeats x).1 (some_crowded (x ∷ xs) up x h.place h.some h.within (h.repeats x).0)

-- ---- of those in front of a place, and from it on

-- what stands from a place on has no lesser number than what stands there
no_lesser : (k m : ℕ) (xs : List Item) (d : Item) → Rises xs → m < (get_or xs k d).doc → count_of m (drop k xs) ≡ 0
no_lesser k m xs d up less = none_above m (drop k xs) above
  where
    above : All (λ (x : Item). m < x.doc) (drop k xs)
    above i e lt = elim (cases_eq i 0) [
      | inl first ↦
          let long : k < length xs = omega (arith, lt, length-drop k xs) in
          let here : get_or (drop k xs) i e ≡ get_or xs k d =
          get_or-drop k xs i e ∙ ap (λ (j : ℕ). get_or xs j e) (omega (arith, first)) ∙ get_or_default xs k e d long in
          subst (λ (x : Item). m < x.doc) (sym here) less
      | inr later ↦
          let long : k + i < length xs = omega (arith, lt, length-drop k xs) in
          let le : (get_or xs k d).doc ≤ (get_or xs (k + i) d).doc = up k (k + i) d (omega (arith, later)) long in
          let here : get_or (drop k xs) i e ≡ get_or xs (k + i) d = get_or-drop k xs i e ∙ get_or_default xs (k + i) e d long in
          subst (λ (x : Item). m < x.doc) (sym here) (omega (arith, le, less))
    ]

-- so a lesser number that is crowded is crowded in front of the place
crowded_before : (k m : ℕ) (xs : List Item) (d : Item) → Rises xs → m < (get_or xs k d).doc → IsCrowded m xs → IsCrowded m (take k xs)
crowded_before k m xs d up less (inl many) = inl (omega (arith, many, sum_by-take-drop (λ (x : Item). one_if (has m x)) xs k, no_lesser k m xs d up less))
crowded_before k m xs d up less (inr (x, is, two)) =
    let none = no_lesser k m xs d up less in
    let few : count_by (same_item x) (drop k xs) ≤ count_of m (drop k xs) =
    subst (λ (n : ℕ). count_by (same_item x) (drop k xs) ≤ count_of n (drop k xs)) is (no_more x (drop k xs)) in
    inr (x, is, omega (arith, two, sum_by-take-drop (λ (y : Item). one_if (same_item x y)) xs k, few, none))

not_crowded : (n : ℕ) (xs : List Item) → NoneTwice xs × AreFew xs → IsCrowded n xs → ⊥
unfolding NoneTwice
not_crowded n xs (once, few) (inl many) = omega (arith, many, few n)
not_crowded n xs (once, few) (inr (x, is, two)) = omega (arith, two, once x)

pub least_crowded : {D : ℕ} (xs : List (Entry D)) (n : ℕ) → IsSorted by_number (items_of xs) → IsFirstRepeat xs n → IsLeastCrowded n (items_of xs)
least_crowded [] n up h = absurd (omega (arith, h.within))
least_crowded {D} (x ∷ xs) n up h = record { crowded = one_crowded (x ∷ xs) n up h; least = least }
  where
    front : List (Entry D)
    front = take h.place (x ∷ xs)

    fronts : items_of front ≡ take h.place (items_of (x ∷ xs))
    fronts = sym (take-map (item_of {D = D}) h.place (x ∷ xs))

    front_sorted : IsSorted by_number (take h.place (items_of (x ∷ xs)))
    front_sorted k d low lt =
        let items = items_of (x ∷ xs) in
        let all : length items ≡ length (x ∷ xs) = length-map (x ∷ xs) (item_of {D = D}) in
        let inside : k + 1 < h.place = omega (arith, lt, length-take-le h.place items (omega (arith, h.within, all))) in
        rw (get_or-take h.place items (k + 1) d inside, get_or-take h.place items k d (omega (arith, inside)))
        (up k d low (omega (arith, inside, h.within, all)))

    in_order : IsSorted by_number (items_of front)
    in_order = subst (IsSorted by_number) (sym fronts) front_sorted

    none : (k : ℕ) (d : Entry D) → 1 ≤ k → k < length front → repeats_at d front k ≡ false
    none k d some lt =
        let inside : k < h.place = omega (arith, lt, length-take-le h.place (x ∷ xs) (omega (arith, h.within))) in
        rw (
          get_or-take h.place (x ∷ xs) k d inside,
          get_or-take h.place (x ∷ xs) (k - 1) d (omega (arith, inside)),
          get_or-take h.place (x ∷ xs) (k - 16) d (omega (arith, inside)),
        ) (h.before k d some inside)

    here : (get_or (items_of (x ∷ xs)) h.place (item_of x)).doc ≡ n
    here = ap (λ (y : Item). y.doc) (get_or-map (λ (y : Entry D). item_of y) (x ∷ xs) h.place x (item_of x) h.within) ∙ (h.repeats x).1

    least : (m : ℕ) → m < n → IsCrowded m (items_of (x ∷ xs)) → ⊥
    least m lt crowd =
        not_crowded m (items_of front) (stand_once front in_order none)
        (subst (IsCrowded m) (sym fronts)
        (crowded_before h.place m (items_of (x ∷ xs)) (item_of x) (rises (items_of (x ∷ xs)) up) (omega (arith, lt, here)) crowd))
