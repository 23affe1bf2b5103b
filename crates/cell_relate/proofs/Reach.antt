-- How far a box reaches in one dimension.
use Rattle.std.proofs.Common.{◌≡◌, ℕ, zero, suc, true, List, [], ◌∷◌, get_or, ℤ, pos, int_le, refl, ap, ◌∙◌}
use Rattle.std.specs.Prelude.{FitsSigned}
use Rattle.std.specs.Int.{w32}
use Rattle.std.proofs.lemmas.Int.{to_z-of_z}
use mir.Val.{to_z, of_z}
use Rattle.point_codec.specs.Points.{Region, all_le, in_box}
use Rattle.cell_relate.specs.Relations.{IsReach}
use Rattle.point_codec.proofs.Corners.{both_true}

-- what holds in each dimension holds in one
all_le_in : (a b : List ℤ) (d : ℕ) → all_le a b ≡ true → int_le (get_or a d (pos 0)) (get_or b d (pos 0)) ≡ true
all_le_in [] [] d h = refl
all_le_in [] (y ∷ ys) d h = absurd cc
all_le_in (x ∷ xs) [] d h = absurd cc
all_le_in (x ∷ xs) (y ∷ ys) zero h = (both_true (int_le x y) (all_le xs ys) h).0
all_le_in (x ∷ xs) (y ∷ ys) (suc d) h = all_le_in xs ys d (both_true (int_le x y) (all_le xs ys) h).1

-- the corners' coordinates as they are read
pub corners_reach : (box : Region) (d : ℕ) → FitsSigned w32 (get_or box.lo d (pos 0)) → FitsSigned w32 (get_or box.hi d (pos 0))
    → IsReach (in_box box) d (to_z w32 (of_z w32 (get_or box.lo d (pos 0)))) (to_z w32 (of_z w32 (get_or box.hi d (pos 0))))
corners_reach box d lo_fits hi_fits p h =
    let lo : ℤ = get_or box.lo d (pos 0) in
    let hi : ℤ = get_or box.hi d (pos 0) in
    let c : ℤ = get_or p d (pos 0) in
    let both = both_true (all_le box.lo p) (all_le p box.hi) h in (
      ap (λ z. int_le z c) (to_z-of_z w32 lo lo_fits) ∙ all_le_in box.lo p d both.0,
      ap (λ z. int_le c z) (to_z-of_z w32 hi hi_fits) ∙ all_le_in p box.hi d both.1,
    )
