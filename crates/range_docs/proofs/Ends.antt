-- Ends that stand one after the other, dimension by dimension.
use Rattle.std.proofs.Common.{◌≡◌, true, ◌&&◌, List, [], ◌∷◌, ◌++◌, length, replicate, ℤ, int_le, refl, ◌∙◌, arith, sym}
use Rattle.std.specs.Prelude.{All, FitsSigned}
use Rattle.std.proofs.lemmas.List.Elements.{All-head, All-tail}
use Rattle.std.proofs.lemmas.Int.{ints}
use mir.Syntax.{w32}
use Rattle.point_codec.specs.Points.{all_le, in_box}
use Rattle.point_codec.proofs.Corners.{both_true, both_assoc}
use Rattle.range_docs.specs.Ranges.{least, greatest}

pub all_le-append : (a b c d : List ℤ) → length a ≡ length c → all_le (a ++ b) (c ++ d) ≡ (all_le a c && all_le b d)
all_le-append [] b [] d h = refl
all_le-append [] b (z ∷ c) d h = absurd (omega arith)
all_le-append (x ∷ a) b [] d h = absurd (omega arith)
all_le-append (x ∷ a) b (z ∷ c) d h =
    let rest : length a ≡ length c = omega arith in
    rw (all_le-append a b c d rest) (both_assoc (int_le x z) (all_le a c) (all_le b d))

-- no number of 32 bits is below the least or above the greatest
pub all_above : (a : List ℤ) → All (λ x. FitsSigned w32 x) a → all_le (replicate (length a) least) a ≡ true
all_above [] h = refl
all_above (x ∷ a) h =
    let first : FitsSigned w32 x = All-head (λ y. FitsSigned w32 y) x a h in
    rw (all_above a (All-tail (λ y. FitsSigned w32 y) x a h)) (grind (arith, ints, first))

pub all_below : (a : List ℤ) → All (λ x. FitsSigned w32 x) a → all_le a (replicate (length a) greatest) ≡ true
all_below [] h = refl
all_below (x ∷ a) h =
    let first : FitsSigned w32 x = All-head (λ y. FitsSigned w32 y) x a h in
    rw (all_below a (All-tail (λ y. FitsSigned w32 y) x a h)) (grind (arith, ints, first))

-- lower ends a and upper ends b between two ends each
pub record AreBetween (l1 l2 h1 h2 a b : List ℤ) : Type 0 where
  pub lower_from : all_le l1 a ≡ true
  pub upper_from : all_le l2 b ≡ true
  pub lower_to : all_le a h1 ≡ true
  pub upper_to : all_le b h2 ≡ true

module _ (l1 l2 h1 h2 a b : List ℤ) (from : length l1 ≡ length a) (to : length a ≡ length h1) where
  pub between : in_box (record { lo = l1 ++ l2; hi = h1 ++ h2 }) (a ++ b) ≡ true → AreBetween l1 l2 h1 h2 a b
  between h =
      let sides = both_true (all_le (l1 ++ l2) (a ++ b)) (all_le (a ++ b) (h1 ++ h2)) h in
      let low = both_true (all_le l1 a) (all_le l2 b) (sym (all_le-append l1 l2 a b from) ∙ sides.0) in
      let high = both_true (all_le a h1) (all_le b h2) (sym (all_le-append a b h1 h2 to) ∙ sides.1) in
      record { lower_from = low.0; upper_from = low.1; lower_to = high.0; upper_to = high.1 }

  pub in_box-between : AreBetween l1 l2 h1 h2 a b → in_box (record { lo = l1 ++ l2; hi = h1 ++ h2 }) (a ++ b) ≡ true
  in_box-between n =
      rw (all_le-append l1 l2 a b from, all_le-append a b h1 h2 to, n.lower_from, n.upper_from, n.lower_to, n.upper_to) refl
