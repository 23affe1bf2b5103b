-- The free positions below a bound, which a pass over the sizes has found so far.
use Rattle.std.proofs.Common.{◌≡◌, ℕ, ◌+◌, ◌<◌, ◌≤◌, Bool, true, false, not, ◌&&◌, List, [], ◌∷◌, ◌++◌, length}
use Rattle.std.proofs.Common.{get_or, take, Some, All, Contains, ◌⊎◌, inl, inr, refl, sym, ◌∙◌, ap, cond, arith}
use Rattle.std.specs.Prelude.{count_by}
use Rattle.std.specs.List.{zip}
use Rattle.std.specs.List.Sorted.{IsStrictlyIncreasing}
use Rattle.std.proofs.lemmas.List.{get_or_append_left, get_or_push, length_push}
use Rattle.std.proofs.lemmas.List.Elements.{All-push, Contains-push, Contains-append_left}
use Rattle.std.proofs.lemmas.List.Sums.{count_by_more_yes, count_by_more_no, sum_by-take-le}
use Rattle.std.proofs.lemmas.Slice.Zip.{get_or-zip, length-zip}
use Rattle.std.proofs.lemmas.Option.{slice_get-get_or, get_or_from_slice_get}
use Rattle.std.proofs.Math.Seq.{take-length}
use Rattle.std.proofs.lemmas.Bool.{cases_lt}
use Rattle.merge_policy.specs.Choice.{is_of_level, free_count, IsFree, AreFirstTen}

-- a size of the level beside no pin
abbrev pub is_free : ℕ → ℕ × Bool → Bool
is_free l s = is_of_level l s.0 && not s.1

-- these are the free positions below n, in order
pub record IsFront (l : ℕ) (sizes : List ℕ) (pinned : List Bool) (n : ℕ) (xs : List ℕ) : Type 0 where
  pub rising : IsStrictlyIncreasing xs
  pub below : All (λ i. i < n) xs
  pub free : All (IsFree l sizes pinned) xs
  pub whole : (i : ℕ) → i < n → IsFree l sizes pinned i → Contains xs i
  pub counted : count_by (is_free l) (take n (zip sizes pinned)) ≡ length xs

-- the test of a position's size and pin
free_at : (l : ℕ) (sizes : List ℕ) (pinned : List Bool) (i : ℕ) → length sizes ≡ length pinned → IsFree l sizes pinned i
    → is_free l (get_or sizes i 0, get_or pinned i false) ≡ true
free_at l sizes pinned i e f = let u = get_or_from_slice_get pinned i false false f.unpinned in rw (f.of_level, u) refl

count_at : (l : ℕ) (sizes : List ℕ) (pinned : List Bool) (n : ℕ) (b : Bool) → length sizes ≡ length pinned → n < length sizes
    → is_free l (get_or sizes n 0, get_or pinned n false) ≡ b → is_free l (get_or (zip sizes pinned) n (0, false)) ≡ b
count_at l sizes pinned n b e h t = rw (get_or-zip sizes pinned n (0, false) h (omega arith)) t

in_zip : (sizes : List ℕ) (pinned : List Bool) (n : ℕ) → length sizes ≡ length pinned → n < length sizes → n < length (zip sizes pinned)
in_zip sizes pinned n e h = omega (arith, length-zip sizes pinned)

pub front_skip : (l : ℕ) (sizes : List ℕ) (pinned : List Bool) (n : ℕ) (xs : List ℕ) → length sizes ≡ length pinned → n < length sizes
    → is_free l (get_or sizes n 0, get_or pinned n false) ≡ false → IsFront l sizes pinned n xs → IsFront l sizes pinned (n + 1) xs
front_skip l sizes pinned n xs e h taken f = record {
  rising = f.rising;
  below = λ k d h. omega (arith, f.below k d h);
  free = f.free;
  whole = λ i h free. go i h free (cases_lt i n);
  counted = count_by_more_no (is_free l) (zip sizes pinned) n (0, false) (in_zip sizes pinned n e h) (count_at l sizes pinned n false e h taken) ∙ f.counted;
}
  where
    go : (i : ℕ) → i < n + 1 → IsFree l sizes pinned i → (i < n) ⊎ (n ≤ i) → Contains xs i
    go i h free (inl lt) = f.whole i lt free
    go i h free (inr ge) =
        let same : i ≡ n = omega arith in
        absurd (cc (taken, free_at l sizes pinned i e free))

rising_push : (xs : List ℕ) (n : ℕ) → IsStrictlyIncreasing xs → All (λ i. i < n) xs → IsStrictlyIncreasing (xs ++ n ∷ [])
rising_push xs n r b k h = go (omega (arith, length_push xs n)) (cases_lt (k + 1) (length xs))
  where
    go : k + 1 ≤ length xs → (k + 1 < length xs) ⊎ (length xs ≤ k + 1) → get_or (xs ++ n ∷ []) k 0 < get_or (xs ++ n ∷ []) (k + 1) 0
    go short (inl lt) = rw (get_or_append_left xs (n ∷ []) 0 k (omega arith), get_or_append_left xs (n ∷ []) 0 (k + 1) lt) (r k lt)
    go short (inr ge) =
        rw (get_or_append_left xs (n ∷ []) 0 k (omega arith), get_or_push xs n 0 (k + 1) (omega arith)) (b k 0 (omega arith))

pub front_push : (l : ℕ) (sizes : List ℕ) (pinned : List Bool) (n : ℕ) (xs : List ℕ) → length sizes ≡ length pinned → n < length sizes
    → IsFree l sizes pinned n → IsFront l sizes pinned n xs → IsFront l sizes pinned (n + 1) (xs ++ n ∷ [])
front_push l sizes pinned n xs e h free f = record {
  rising = rising_push xs n f.rising f.below;
  below = All-push (λ i. i < n + 1) xs n (λ k d h. omega (arith, f.below k d h)) (omega arith);
  free = All-push (IsFree l sizes pinned) xs n f.free free;
  whole = λ i h free. go i h free (cases_lt i n);
  counted = count_by_more_yes (is_free l) (zip sizes pinned) n (0, false) (in_zip sizes pinned n e h)
      (count_at l sizes pinned n true e h (free_at l sizes pinned n e free))
      ∙ ap (λ k. k + 1) f.counted ∙ sym (length_push xs n);
}
  where
    go : (i : ℕ) → i < n + 1 → IsFree l sizes pinned i → (i < n) ⊎ (n ≤ i) → Contains (xs ++ n ∷ []) i
    go i h free (inl lt) = Contains-append_left xs (n ∷ []) i (f.whole i lt free)
    go i h free (inr ge) = let same : n ≡ i = omega arith in rw (← same) (Contains-push xs n)

pub front_ten : (l : ℕ) (sizes : List ℕ) (pinned : List Bool) (n : ℕ) (xs : List ℕ) → length xs ≡ 10 → IsFront l sizes pinned n xs
    → AreFirstTen l sizes pinned xs
front_ten l sizes pinned n xs ten f = record {
  ten = ten;
  rising = f.rising;
  free = f.free;
  first = λ i j free c lt. f.whole i (omega (arith, f.below c.0 j c.1, c.2)) free;
}

pub front_some : (l : ℕ) (sizes : List ℕ) (pinned : List Bool) (n : ℕ) (xs : List ℕ) → IsFront l sizes pinned n xs → length xs ≤ free_count l sizes pinned
unfolding free_count
front_some l sizes pinned n xs f = omega (arith, f.counted, sum_by-take-le (λ s. cond (is_free l s) 1 0) (zip sizes pinned) n)

pub front_all : (l : ℕ) (sizes : List ℕ) (pinned : List Bool) (n : ℕ) (xs : List ℕ) → n ≡ length sizes → length sizes ≡ length pinned
    → IsFront l sizes pinned n xs → free_count l sizes pinned ≡ length xs
unfolding free_count
front_all l sizes pinned n xs h e f =
    let whole : n ≡ length (zip sizes pinned) = omega (arith, length-zip sizes pinned) in
    sym (ap (count_by (is_free l)) (ap (λ k. take k (zip sizes pinned)) whole ∙ take-length (zip sizes pinned))) ∙ f.counted

-- what the code's test says of a position
pub free_from_test : (l : ℕ) (sizes : List ℕ) (pinned : List Bool) (i : ℕ) (has : Bool) → length sizes ≡ length pinned → i < length sizes
    → has ≡ is_of_level l (get_or sizes i 0) → has && not (get_or pinned i false) ≡ true → IsFree l sizes pinned i
free_from_test l sizes pinned i has e h t both =
    let pin = slice_get-get_or pinned i false (omega arith) in
    record { in_range = h; of_level = sym t ∙ and_left has _ both; unpinned = pin ∙ ap Some (not_true _ (and_right has (not (get_or pinned i false)) both)) }
  where
    and_left : (a b : Bool) → a && b ≡ true → a ≡ true
    and_left true b h = refl
    and_left false b h = h

    and_right : (a b : Bool) → a && b ≡ true → b ≡ true
    and_right true b h = h
    and_right false b h = absurd (cc)

    not_true : (b : Bool) → not b ≡ true → b ≡ false
    not_true true h = absurd (cc)
    not_true false h = refl
