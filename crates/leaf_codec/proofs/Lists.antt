-- Lists as functions of the place.
use Rattle.std.proofs.Common.{◌≡◌, ℕ, zero, suc, ◌+◌, ◌<◌, ◌≤◌, List, [], ◌∷◌, ◌++◌, map, length}
use Rattle.std.proofs.Common.{get_or, refl, sym, ap, ◌∙◌, arith, add-one, append-nil, append_assoc}
use Rattle.std.specs.List.{range_with_len, sum_by, flat_map}
use Rattle.std.proofs.Common.{set, get_or-set_same, get_or-set_other, inl, inr}
use Rattle.std.proofs.lemmas.Bool.{cases_eq}
use Rattle.std.proofs.lemmas.List.Concat.{flat_map-append}
use Rattle.std.proofs.lemmas.List.FromFn.{fill_by_all}
use Rattle.std.proofs.lemmas.List.Sums.{sum_by-cons}

-- a list is its elements at the places
pub as_range : {X : Type 0} (xs : List X) (d : X) → xs ≡ map (λ i. get_or xs i d) (range_with_len 0 (length xs))
as_range xs d = fill_by_all (λ i. get_or xs i d) xs (length xs) d refl (λ k h. refl)

pub sum_by-map : {X Y : Type 0} (g : Y → ℕ) (f : X → Y) (xs : List X) → sum_by g (map f xs) ≡ sum_by (λ x. g (f x)) xs
sum_by-map g f [] = refl
sum_by-map g f (x ∷ xs) =
    sum_by-cons g (f x) (map f xs) ∙ ap (λ n. g (f x) + n) (sum_by-map g f xs) ∙ sym (sum_by-cons (λ y. g (f y)) x xs)

-- two functions that agree in a range have one sum there
pub sum_agree : (f g : ℕ → ℕ) (a n : ℕ) → ((i : ℕ) → a ≤ i → i < a + n → f i ≡ g i) → sum_by f (range_with_len a n) ≡ sum_by g (range_with_len a n)
sum_agree f g a zero h = refl
sum_agree f g a (suc n) h =
    sum_by-cons f a (range_with_len (a + 1) n)
    ∙ (λ j. h a (omega arith) (omega arith) j + sum_agree f g (a + 1) n (λ i low high. h i (omega arith) (omega arith)) j)
    ∙ sym (sum_by-cons g a (range_with_len (a + 1) n))

-- one more place of a list is filled as f says
pub fills_more : (f : ℕ → ℕ) (xs : List ℕ) (i v : ℕ) → i < length xs → ((k : ℕ) → k < i → get_or xs k 0 ≡ f k) → v ≡ f i → (k : ℕ) → k < i + 1
    → get_or (set xs i v) k 0 ≡ f k
fills_more f xs i v lt h is k under = elim (cases_eq k i) [
  | inl same ↦ rw (same, get_or-set_same xs i v 0 lt) is
  | inr apart ↦ get_or-set_other xs i k v 0 apart ∙ h k (omega arith)
]

-- ---- ranges

pub range_more : (a n : ℕ) → range_with_len a (n + 1) ≡ range_with_len a n ++ (a + n) ∷ []
range_more a n = rw add-one (go a n)
  where
    go : (a n : ℕ) → range_with_len a (suc n) ≡ range_with_len a n ++ (a + n) ∷ []
    go a zero = λ i. zero_behind a i ∷ []
      where
        zero_behind : (a : ℕ) → a ≡ a + 0
        zero_behind a = omega arith
    go a (suc n) = ap (λ (xs : List ℕ). a ∷ xs) (go (a + 1) n) ∙ ap (λ m. (a ∷ range_with_len (a + 1) n) ++ m ∷ []) (behind a n)
      where
        behind : (a n : ℕ) → (a + 1) + n ≡ a + suc n
        behind a n = omega arith

-- what f makes of one number more
pub flat_map-range_more : {A : Type 0} (f : ℕ → List A) (n : ℕ) → flat_map f (range_with_len 0 (n + 1)) ≡ flat_map f (range_with_len 0 n) ++ f n
flat_map-range_more f n =
    ap (flat_map f) (range_more 0 n ∙ ap (λ m. range_with_len 0 n ++ m ∷ []) (omega arith))
    ∙ flat_map-append f (range_with_len 0 n) (n ∷ [])
    ∙ ap (λ (t : List _). flat_map f (range_with_len 0 n) ++ t) (append-nil (f n))

-- two functions that agree in a range make one list of it
pub flat_map_agree : {A : Type 0} (f g : ℕ → List A) (a n : ℕ) → ((i : ℕ) → a ≤ i → i < a + n → f i ≡ g i)
    → flat_map f (range_with_len a n) ≡ flat_map g (range_with_len a n)
flat_map_agree f g a zero h = refl
flat_map_agree f g a (suc n) h =
    λ j. h a (omega arith) (omega arith) j ++ flat_map_agree f g (a + 1) n (λ i low high. h i (omega arith) (omega arith)) j

-- a list that grew by done grew by one more step
pub grows : {A : Type 0} (new now old done step all : List A) → new ≡ now ++ step → now ≡ old ++ done → done ++ step ≡ all → new ≡ old ++ all
grows new now old done step all grew so_far is =
    grew ∙ ap (λ (t : List _). t ++ step) so_far ∙ append_assoc old done step ∙ ap (λ (t : List _). old ++ t) is
