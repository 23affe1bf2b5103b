-- Which live numbers have an entry, and how many of them.
use Rattle.std.proofs.Common.{◌≡◌, ◌≢◌, ℕ, ◌+◌, Bool, true, false, ◌||◌, eqb, cond, List, [], ◌∷◌, length, filter, refl, sym, ap, ◌∙◌, inl, inr, arith}
use Rattle.std.specs.List.{Contains, count_by}
use Rattle.std.proofs.lemmas.Bool.{both_ways, eqb-true, false_from_ne_true}
use Rattle.std.proofs.lemmas.List.Sums.{count_by-le-length, sum_by-cons}
use Rattle.point_codec.specs.Points.{Item}
use Rattle.live_bits.specs.LiveSet.{LiveSet, is_live}
use Rattle.documents.specs.Entries.{has_entry}
use Rattle.documents.proofs.Kept.{among_from, among_to}
use Rattle.documents.proofs.Lists.{cons_cases, cons_head, cons_tail, nil_none}

-- ---- how many of a list pass a test

abbrev pub one_if : Bool → ℕ
one_if b = cond b 1 0

pub count-cons : {X : Type 0} (q : X → Bool) (x : X) (xs : List X) → count_by q (x ∷ xs) ≡ one_if (q x) + count_by q xs
count-cons q x xs = sum_by-cons (λ y. cond (q y) 1 0) x xs

pub count_alike : {X : Type 0} (p q : X → Bool) (xs : List X) → ((x : X) → Contains xs x → p x ≡ q x) → count_by p xs ≡ count_by q xs
count_alike p q [] same = refl
count_alike p q (x ∷ xs) same =
    let front : one_if (p x) ≡ one_if (q x) = ap one_if (same x (cons_head x xs)) in
    let back = count_alike p q xs (λ y h. same y (cons_tail x xs y h)) in
    omega (arith, count-cons p x xs, count-cons q x xs, front, back)

-- where as many pass as there are, each one does
pub all_pass : {X : Type 0} (q : X → Bool) (xs : List X) → count_by q xs ≡ length xs → (x : X) → Contains xs x → q x ≡ true
all_pass q [] e x h = nil_none x _ h
all_pass {X} q (y ∷ ys) e x h = by (all_pass q ys) (q y) refl
  where
    by : (count_by q ys ≡ length ys → (z : X) → Contains ys z → q z ≡ true) → (b : Bool) → q y ≡ b → q x ≡ true
    by rest true passes = elim (cons_cases y ys x h) [
      | inl same ↦ ap q (sym same) ∙ passes
      | inr later ↦ rest (let step = count-cons q y ys in let one = ap one_if passes in omega (arith, e, step, one)) x later
    ]
    by rest false fails =
        let step = count-cons q y ys in
        let none = ap one_if fails in
        absurd (omega (arith, e, step, none, count_by-le-length q ys))

-- and where not, one doesn't
pub one_fails : {X : Type 0} (q : X → Bool) (xs : List X) → count_by q xs ≢ length xs → (x : X) × Contains xs x × (q x ≡ false)
one_fails q [] ne = absurd (ne refl)
one_fails {X} q (y ∷ ys) ne = by (one_fails q ys) (q y) refl
  where
    by : (count_by q ys ≢ length ys → (x : X) × Contains ys x × (q x ≡ false)) → (b : Bool) → q y ≡ b → (x : X) × Contains (y ∷ ys) x × (q x ≡ false)
    by rest false fails = (y, cons_head y ys, fails)
    by rest true passes =
        let step = count-cons q y ys in
        let one = ap one_if passes in
        let found = rest (λ e. ne (omega (arith, e, step, one))) in
        (found.0, cons_tail y ys found.0 found.1, found.2)

-- ---- live numbers

pub live_number : (s : LiveSet) (n : ℕ) → is_live s n ≡ true → Contains s.live n
unfolding is_live
live_number s n e = among_to s.live n e

pub number_live : (s : LiveSet) (n : ℕ) → Contains s.live n → is_live s n ≡ true
unfolding is_live
number_live s n h = among_from s.live n h

-- a live number has an entry where it has a live one
pub has_live_entry : (s : LiveSet) (items : List Item) (n : ℕ) → is_live s n ≡ true → has_entry n (filter (λ x. is_live s x.doc) items) ≡ has_entry n items
has_live_entry s [] n live = refl
has_live_entry s (x ∷ xs) n live = by (has_live_entry s xs n live) (is_live s x.doc) refl
  where
    rest : List Item
    rest = filter (λ y. is_live s y.doc) xs

    by : has_entry n rest ≡ has_entry n xs → (b : Bool) → is_live s x.doc ≡ b → has_entry n (cond b (x ∷ rest) rest) ≡ has_entry n (x ∷ xs)
    by same true here = ap (λ (c : Bool). eqb x.doc n || c) same
    by same false dead =
        let other = false_from_ne_true (eqb x.doc n) (λ e. both_ways (is_live s x.doc) dead (ap (is_live s) (eqb-true x.doc n e) ∙ live)) in
        same ∙ sym (ap (λ (c : Bool). c || has_entry n xs) other)

-- as many live numbers have a live entry as have one
pub live_found : (s : LiveSet) (items : List Item)
    → count_by (λ n. has_entry n (filter (λ x. is_live s x.doc) items)) s.live ≡ count_by (λ n. has_entry n items) s.live
live_found s items =
    count_alike (λ n. has_entry n (filter (λ x. is_live s x.doc) items)) (λ n. has_entry n items) s.live (λ n h. has_live_entry s items n (number_live s n h))
