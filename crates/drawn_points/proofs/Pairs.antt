-- The two draws that make a point, and where the draws stand behind it.
use Rattle.std.proofs.Common.{◌≡◌, ◌∙◌, ◌+◌, ◌*◌, ap, ℕ, arith, add-one}
use Rattle.drawn_points.specs.Draws.{draw, next}

one_more : (seed i : ℕ) → draw seed (i + 1) ≡ next (draw seed i)
unfolding draw
one_more seed i = ap (draw seed) (add-one i)

module _ (seed i : ℕ) where
  pub first : draw seed (2 * i + 1) ≡ next (draw seed (2 * i))
  first = one_more seed (2 * i)

  pub second : draw seed (2 * i + 2) ≡ next (next (draw seed (2 * i)))
  second =
      let place : 2 * i + 2 ≡ (2 * i + 1) + 1 = omega arith in
      ap (draw seed) place ∙ (one_more seed (2 * i + 1) ∙ ap next first)

  -- where the draws stand after the point
  pub behind : draw seed (2 * (i + 1)) ≡ next (next (draw seed (2 * i)))
  behind =
      let place : 2 * (i + 1) ≡ 2 * i + 2 = omega arith in
      ap (draw seed) place ∙ second
