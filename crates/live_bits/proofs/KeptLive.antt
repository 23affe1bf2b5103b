-- Numbers that are kept because they are live.
use Rattle.std.proofs.Common.{◌≡◌, ◌<◌, ◌≤◌, ◌+◌, ◌-◌, ℕ, zero, suc, Bool, true, false, cond, List, [], ◌∷◌, ◌++◌, length, get_or}
use Rattle.std.proofs.Common.{take, drop, set, refl, sym, ap, ◌∙◌, arith, All, filter}
use Rattle.std.proofs.lemmas.List.{append-nil, append_assoc, length-set, length-take-le, get_or-drop, take_all, drop_all}
use Rattle.std.proofs.lemmas.List.{take_more, take_more_set, drop-drop, drop-append-le, drop-set-lt}
use Rattle.std.proofs.lemmas.List.Elements.{All-head, All-tail, filter-append}
use Rattle.live_bits.specs.LiveSet.{is_live}
use Rattle.live_bits.specs.LiveBody.{is_set, numbers_from, live_in, live_set}
use Rattle.live_bits.proofs.LiveNumbers.{numbers_from-length, numbers_from-at, live_inside}

-- ---- where all are live

filter_short : (p : ℕ → Bool) (xs : List ℕ) → length (filter p xs) ≤ length xs
filter_short p [] = omega arith
filter_short p (x ∷ xs) = either (p x) (filter_short p xs)
  where
    either : (b : Bool) → length (filter p xs) ≤ length xs → length (cond b (x ∷ filter p xs) (filter p xs)) ≤ length (x ∷ xs)
    either true le = omega (arith, le)
    either false le = omega (arith, le)

-- a filter that leaves out nothing
none_left_out : (p : ℕ → Bool) (xs : List ℕ) → length (filter p xs) ≡ length xs → (k d : ℕ) → k < length xs → p (get_or xs k d) ≡ true
none_left_out p [] same k d lt = absurd (omega arith)
none_left_out p (x ∷ xs) same k d lt = either (p x) refl same (none_left_out p xs) k lt
  where
    either : (b : Bool) → p x ≡ b → length (cond b (x ∷ filter p xs) (filter p xs)) ≡ length (x ∷ xs)
        → (length (filter p xs) ≡ length xs → (i e : ℕ) → i < length xs → p (get_or xs i e) ≡ true)
        → (j : ℕ) → j < length (x ∷ xs) → p (get_or (x ∷ xs) j d) ≡ true
    either true here same rest zero lt = here
    either true here same rest (suc j) lt = rest (omega (arith, same)) j d (omega arith)
    either false here same rest j lt = absurd (omega (arith, same, filter_short p xs))

-- where as many numbers are live as a span has, each of them is
pub full_live : (base span : ℕ) (bits : List ℕ) (n : ℕ) → length (live_in base span bits) ≡ span → base ≤ n → n < base + span
    → is_live (live_set base span bits) n ≡ true
unfolding live_in
full_live base span bits n full above below =
    let len = numbers_from-length base span in
    let within : n - base < span = omega (arith, above, below) in
    let far : base + (n - base) ≡ n = omega (arith, above) in
    let here : get_or (numbers_from base span) (n - base) 0 ≡ n = numbers_from-at base span (n - base) 0 within ∙ far in
    live_inside base span bits n above below
    ∙ ap (λ (m : ℕ). is_set bits (m - base)) (sym here)
    ∙ none_left_out (λ (m : ℕ). is_set bits (m - base)) (numbers_from base span) (full ∙ sym len) (n - base) 0 (omega (arith, within, len))

pub filter_all : (p : ℕ → Bool) (xs : List ℕ) → All (λ n. p n ≡ true) xs → filter p xs ≡ xs
filter_all p [] all = refl
filter_all p (x ∷ xs) all =
    ap (λ (b : Bool). cond b (x ∷ filter p xs) (filter p xs)) (All-head (λ (n : ℕ). p n ≡ true) x xs all)
    ∙ ap (λ (t : List ℕ). x ∷ t) (filter_all p xs (All-tail (λ (n : ℕ). p n ≡ true) x xs all))

-- ---- one after another

-- of the numbers from one place on, those before place i that pass stand behind the ones in front of it, up to place k; from
-- place i on each number is where it was
pub record KeptFrom (p : ℕ → Bool) (from : ℕ) (xs ys : List ℕ) (k i : ℕ) : Type 0 where
  pub front : take k ys ≡ take from xs ++ filter p (drop from (take i xs))
  pub rest : drop i ys ≡ drop i xs
  pub behind : k ≤ i
  pub begun : from ≤ i
  pub long : length ys ≡ length xs

pub kept_none : (p : ℕ → Bool) (from : ℕ) (xs : List ℕ) → from ≤ length xs → KeptFrom p from xs xs from from
kept_none p from xs le = record {
  front = sym (ap (λ (t : List ℕ). take from xs ++ filter p t) (drop_all from (take from xs) (omega (arith, length-take-le from xs le)))
      ∙ append-nil (take from xs));
  rest = refl;
  behind = omega arith;
  begun = omega arith;
  long = refl;
}

module _ (p : ℕ → Bool) (from : ℕ) (xs ys : List ℕ) (k i x : ℕ) (was : KeptFrom p from xs ys k i) (lt : i < length ys) (read : get_or ys i 0 ≡ x) where
  abbrev so_far : List ℕ
  so_far = filter p (drop from (take i xs))

  same_here : get_or xs i 0 ≡ x
  same_here =
      let z : i + 0 ≡ i = omega arith in
      ap (λ (n : ℕ). get_or xs n 0) (sym z) ∙ sym (get_or-drop i xs 0 0) ∙ ap (λ (t : List ℕ). get_or t 0 0) (sym was.rest)
      ∙ get_or-drop i ys 0 0 ∙ ap (λ (n : ℕ). get_or ys n 0) z ∙ read

  one_more : filter p (drop from (take (i + 1) xs)) ≡ so_far ++ cond (p x) (x ∷ []) []
  one_more =
      let long = was.long in
      let begun = was.begun in
      let under : i < length xs = omega (arith, lt, long) in
      ap (λ (t : List ℕ). filter p (drop from t)) (take_more xs i 0 under ∙ ap (λ (n : ℕ). take i xs ++ n ∷ []) same_here)
      ∙ ap (filter p) (drop-append-le from (take i xs) (x ∷ []) (omega (arith, begun, under, length-take-le i xs (omega (arith, under)))))
      ∙ filter-append p (drop from (take i xs)) (x ∷ [])

  next_rest : drop (i + 1) ys ≡ drop (i + 1) xs
  next_rest = sym (drop-drop 1 i ys) ∙ ap (drop 1) was.rest ∙ drop-drop 1 i xs

  pub kept_not : p x ≡ false → KeptFrom p from xs ys k (i + 1)
  kept_not dead = record {
    front = was.front ∙ ap (λ (t : List ℕ). take from xs ++ t)
        (sym (one_more ∙ ap (λ (b : Bool). so_far ++ cond b (x ∷ []) []) dead ∙ append-nil so_far));
    rest = next_rest;
    behind = (let behind = was.behind in omega (arith, behind));
    begun = (let begun = was.begun in omega (arith, begun));
    long = was.long;
  }

  pub kept_more : p x ≡ true → KeptFrom p from xs (set ys k x) (k + 1) (i + 1)
  kept_more alive =
      let behind = was.behind in
      let begun = was.begun in
      record {
        front = take_more_set ys k x (omega (arith, behind, lt)) ∙ ap (λ (t : List ℕ). t ++ x ∷ []) was.front
            ∙ append_assoc (take from xs) so_far (x ∷ [])
            ∙ ap (λ (t : List ℕ). take from xs ++ t) (sym (one_more ∙ ap (λ (b : Bool). so_far ++ cond b (x ∷ []) []) alive));
        rest = drop-set-lt (i + 1) ys k x (omega (arith, behind)) ∙ next_rest;
        behind = omega (arith, behind);
        begun = omega (arith, begun);
        long = length-set ys k x ∙ was.long;
      }

pub kept_all : (p : ℕ → Bool) (from : ℕ) (xs ys : List ℕ) (k i : ℕ) → KeptFrom p from xs ys k i → length xs ≤ i
    → take k ys ≡ take from xs ++ filter p (drop from xs)
kept_all p from xs ys k i was le = was.front ∙ ap (λ (t : List ℕ). take from xs ++ filter p (drop from t)) (take_all i xs le)
