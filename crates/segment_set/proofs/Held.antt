-- What a buffer keeps to, as documents come and go.
use Rattle.std.proofs.Common.{◌≡◌, ℕ, ℤ, ◌≤◌, ◌<◌, ◌+◌, ◌-◌, ◌^◌, ◌++◌, Bool, true, false, List, [], ◌∷◌, length, map, get_or, refl, sym, ap, subst, ◌∙◌}
use Rattle.std.proofs.Common.{append_assoc, arith}
use Rattle.std.specs.List.{All}
use Rattle.std.specs.List.Sorted.{IsNonDecreasingBy}
use Rattle.std.proofs.lemmas.List.{append-nil, get_or-map, length-append, length-map}
use Rattle.std.proofs.lemmas.List.Elements.{All-append, All-filter, All-head, All-map, All-push, All-tail, All-weaker, filter-append}
use Rattle.std.proofs.lemmas.List.Kept.{IsNonDecreasingBy-filter}
use Rattle.std.proofs.lemmas.List.Sorted.{IsNonDecreasingBy-push}
use Rattle.point_codec.specs.Points.{Item}
use Rattle.documents.specs.Entries.{entries_but, entries_of, entry_of}
use Rattle.segment_set.specs.Waiting.{IsHeld, came_as, out_of, waiting, waits}
use Rattle.segment_set.proofs.Buffered.{came_out, came_waiting, filter_no, filter_yes, waiting_out}

abbrev came : Item → ℕ
came x = came_as x.doc

-- ---- a document more

-- numbers ascend where those that come aren't less than any before
ordered_more : (n : Item → ℕ) (top : ℕ) (held mine : List Item) → All (λ x. n x ≤ top) held → All (λ x. n x ≡ top) mine → IsNonDecreasingBy n held
    → IsNonDecreasingBy n (held ++ mine)
ordered_more n top held [] below same up = subst (IsNonDecreasingBy n) (sym (append-nil held)) up
ordered_more n top held (y ∷ ys) below same up =
    let here = All-head (λ x. n x ≡ top) y ys same in
    subst (IsNonDecreasingBy n) (append_assoc held (y ∷ []) ys)
    (ordered_more n top (held ++ y ∷ []) ys (All-push (λ x. n x ≤ top) held y below (omega (arith, here))) (All-tail (λ x. n x ≡ top) y ys same)
    (IsNonDecreasingBy-push n held y up (λ d some. omega (arith, here, below (length held - 1) d (omega (arith, some))))))

all_wait : (next : ℕ) (points : List (List ℤ)) → waits next ≡ true → waiting (map (entry_of next) points) ≡ map (entry_of next) points
all_wait next [] wait = refl
all_wait next (p ∷ ps) wait =
    filter_yes (λ (x : Item). waits x.doc) (entry_of next p) (map (entry_of next) ps) wait ∙ ap (λ ys. entry_of next p ∷ ys) (all_wait next ps wait)

pub waiting_with : (next : ℕ) (held : List Item) (points : List (List ℤ)) → waits next ≡ true
    → waiting (held ++ entries_of (record { number = next; points = points })) ≡ waiting held ++ entries_of (record { number = next; points = points })
waiting_with next held points wait =
    filter-append (λ (x : Item). waits x.doc) held (map (entry_of next) points) ∙ ap (λ ys. waiting held ++ ys) (all_wait next points wait)

pub held_with : (next live : ℕ) (held : List Item) (points : List (List ℤ)) → waits next ≡ true → IsHeld next live held
    → IsHeld (next + 1) (live + length points) (held ++ entries_of (record { number = next; points = points }))
held_with next live held points wait is = record {
  ordered = ordered_more came next held mine (All-weaker (λ x. came x < next) (λ x. came x ≤ next) (λ x lt. omega (arith, lt)) held is.below) same is.ordered;
  below = All-append (λ x. came x < next + 1) held mine
      (All-weaker (λ x. came x < next) (λ x. came x < next + 1) (λ x lt. omega (arith, lt)) held is.below)
      (All-weaker (λ x. came x ≡ next) (λ x. came x < next + 1) (λ x e. omega (arith, e)) mine same);
  counted =
      let whole = ap length (waiting_with next held points wait) in
      omega (arith, is.counted, whole, length-append (waiting held) mine, length-map points (entry_of next));
}
  where
    mine : List Item
    mine = map (entry_of next) points

    same : All (λ x. came x ≡ next) mine
    same = All-map (λ x. came x ≡ next) (entry_of next) points (λ k d lt. came_waiting next wait)

pub few_numbers : (next points_given : ℕ) → next ≤ points_given → points_given ≤ 2 ^ 24 → next ≤ 2 ^ 24
few_numbers next points_given numbered most = omega arith

pub few_entries : (n : ℕ) → n ≤ 16384 → n ≤ 2 ^ 24
few_entries n few = omega arith

-- ---- a document less

ordered_map : (n : Item → ℕ) (f : Item → Item) → ((x : Item) → n (f x) ≡ n x) → (xs : List Item) → IsNonDecreasingBy n xs → IsNonDecreasingBy n (map f xs)
ordered_map n f same xs up i j d le lt =
    let long = length-map xs f in
    let low : i < length xs = omega (arith, long, le, lt) in
    let high : j < length xs = omega (arith, long, lt) in
    let under = up i j d le high in
    omega (
      arith,
      under,
      ap n (get_or-map f xs i d d low),
      ap n (get_or-map f xs j d d high),
      same (get_or xs i d),
      same (get_or xs j d),
    )

pub held_out : (number next live left count : ℕ) (held now : List Item) → now ≡ map (out_of number) held
    → length (waiting now) + count ≡ length (waiting held) → left + count ≡ live → IsHeld next live held → IsHeld next left now
held_out number next live left count held now marked counts rest is =
    subst (IsHeld next left) (sym marked) (record {
      ordered = ordered_map came (out_of number) (came_out number) held is.ordered;
      below = All-map (λ x. came x < next) (out_of number) held
          (All-weaker (λ x. came x < next) (λ x. came (out_of number x) < next) (λ x lt. omega (arith, lt, came_out number x)) held is.below);
      counted = omega (arith, is.counted, counts, rest, ap (λ xs. length (waiting xs)) marked);
    })

pub left_out : (number : ℕ) (held now : List Item) → now ≡ map (out_of number) held → waiting now ≡ entries_but number (waiting held)
left_out number held now marked = ap waiting marked ∙ waiting_out number held

-- ---- what is gone goes

pub waiting_twice : (held : List Item) → waiting (waiting held) ≡ waiting held
waiting_twice [] = refl
waiting_twice (x ∷ xs) = by (waiting_twice xs) (waits x.doc) refl
  where
    by : waiting (waiting xs) ≡ waiting xs → (b : Bool) → waits x.doc ≡ b → waiting (waiting (x ∷ xs)) ≡ waiting (x ∷ xs)
    by more true e =
        ap waiting (filter_yes (λ (y : Item). waits y.doc) x xs e)
        ∙ filter_yes (λ (y : Item). waits y.doc) x (waiting xs) e
        ∙ ap (λ ys. x ∷ ys) more
        ∙ sym (filter_yes (λ (y : Item). waits y.doc) x xs e)
    by more false e =
        ap waiting (filter_no (λ (y : Item). waits y.doc) x xs e) ∙ more ∙ sym (filter_no (λ (y : Item). waits y.doc) x xs e)

pub held_dropped : (next live : ℕ) (held now : List Item) → now ≡ waiting held → IsHeld next live held → IsHeld next live now
held_dropped next live held now dropped is =
    subst (IsHeld next live) (sym dropped) (record {
      ordered = IsNonDecreasingBy-filter came (λ (x : Item). waits x.doc) held is.ordered;
      below = All-filter (λ (x : Item). waits x.doc) (λ x. came x < next) held is.below;
      counted = is.counted ∙ ap length (sym (waiting_twice held));
    })
