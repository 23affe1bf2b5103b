-- The corners of a cell beside an edge's line, by the four products that their sides are made of.
use Rattle.std.proofs.Common.{◌≡◌, ℤ, pos, ◌-ℤ◌, ◌*ℤ◌, Bool, true, false, ◌&&◌, refl, arith, ◌∙◌}
use Rattle.std.specs.Prelude.{◌<ℤ◌, ◌≤ℤ◌, int_lt}
use Rattle.std.specs.List.{list_all}
use Rattle.std.proofs.lemmas.Int.{ints, by_lt_z}
use Rattle.point_codec.specs.Points.{Region}
use Rattle.ring_parity.specs.Edges.{EdgeEnds, x_of, y_of, side, is_left, is_right, corners}

positive_difference : (a b : ℤ) → int_lt (pos 0) (a -ℤ b) ≡ int_lt b a
positive_difference a b =
    by_lt_z b a
    (λ (h : b <ℤ a). let p : true ≡ int_lt (pos 0) (a -ℤ b) = omega (arith, ints) in let q : true ≡ int_lt b a = omega (arith, ints) in cc)
    (λ (h : a ≤ℤ b). let p : false ≡ int_lt (pos 0) (a -ℤ b) = omega (arith, ints) in let q : false ≡ int_lt b a = omega (arith, ints) in cc)

negative_difference : (a b : ℤ) → int_lt (a -ℤ b) (pos 0) ≡ int_lt a b
negative_difference a b =
    by_lt_z a b
    (λ (h : a <ℤ b). let p : true ≡ int_lt (a -ℤ b) (pos 0) = omega (arith, ints) in let q : true ≡ int_lt a b = omega (arith, ints) in cc)
    (λ (h : b ≤ℤ a). let p : false ≡ int_lt (a -ℤ b) (pos 0) = omega (arith, ints) in let q : false ≡ int_lt a b = omega (arith, ints) in cc)

four : (a b c d : Bool) → (a && b && c && d) ≡ (a && (b && (c && (d && true))))
four true true true true = refl
four true true true false = refl
four true true false d = refl
four true false c d = refl
four false b c d = refl

four_across : (a b c d : Bool) → (a && b && c && d) ≡ (a && (c && (b && (d && true))))
four_across true true true true = refl
four_across true true true false = refl
four_across true true false d = refl
four_across true false true d = refl
four_across true false false d = refl
four_across false b c d = refl

-- the products of which the sides of the corners are the differences
pub record AreProducts (e : EdgeEnds) (cell : Region) (south north west east : ℤ) : Type 0 where
  pub south_is : south ≡ (x_of e.1 -ℤ x_of e.0) *ℤ (y_of cell.lo -ℤ y_of e.0)
  pub north_is : north ≡ (x_of e.1 -ℤ x_of e.0) *ℤ (y_of cell.hi -ℤ y_of e.0)
  pub west_is : west ≡ (y_of e.1 -ℤ y_of e.0) *ℤ (x_of cell.lo -ℤ x_of e.0)
  pub east_is : east ≡ (y_of e.1 -ℤ y_of e.0) *ℤ (x_of cell.hi -ℤ x_of e.0)

pub corners_left : (e : EdgeEnds) (cell : Region) (south north west east : ℤ) → AreProducts e cell south north west east
    → (int_lt west south && int_lt west north && int_lt east south && int_lt east north) ≡ list_all (is_left e) (corners cell)
unfolding side
corners_left e cell south north west east h =
    four (int_lt west south) (int_lt west north) (int_lt east south) (int_lt east north)
    ∙ (rw (h.south_is, h.north_is, h.west_is, h.east_is) (simp positive_difference))

pub corners_right : (e : EdgeEnds) (cell : Region) (south north west east : ℤ) → AreProducts e cell south north west east
    → (int_lt south west && int_lt south east && int_lt north west && int_lt north east) ≡ list_all (is_right e) (corners cell)
unfolding side
corners_right e cell south north west east h =
    four_across (int_lt south west) (int_lt south east) (int_lt north west) (int_lt north east)
    ∙ (rw (h.south_is, h.north_is, h.west_is, h.east_is) (simp negative_difference))
