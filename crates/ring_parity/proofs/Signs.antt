-- Products of signed numbers and the sign of a turn, over plain numbers.
use Rattle.std.proofs.Common.{◌≡◌, ℕ, ℤ, pos, negsuc, ◌+◌, ◌*◌, ◌+ℤ◌, ◌-ℤ◌, ◌*ℤ◌, ap, arith, suc, zero}
use Rattle.std.specs.Prelude.{◌<ℤ◌, ◌≤ℤ◌}
use Rattle.std.proofs.lemmas.Int.{ints, by_lt_z}
use borrow.Author.Differences.{up, down}

-- the side of a point (x, y) beside the line from (ax, ay) to (bx, by)
unfoldable pub turn : (ax ay bx by x y : ℤ) → ℤ
turn ax ay bx by x y = (bx -ℤ ax) *ℤ (y -ℤ ay) -ℤ (by -ℤ ay) *ℤ (x -ℤ ax)

scaled : (a b : ℤ) (n : ℕ) → (up (a -ℤ b) + down a + up b) * n ≡ (down (a -ℤ b) + up a + down b) * n
scaled a b n = let e : up (a -ℤ b) + down a + up b ≡ down (a -ℤ b) + up a + down b = omega (arith, ints) in ap (λ k. k * n) e

-- a product of a difference, multiplied out
pub difference_times : (a b c : ℤ) → (a -ℤ b) *ℤ c ≡ a *ℤ c -ℤ b *ℤ c
difference_times a b c = omega (arith, ints, scaled a b (up c), scaled a b (down c))

pub times_difference : (a b c : ℤ) → c *ℤ (a -ℤ b) ≡ c *ℤ a -ℤ c *ℤ b
times_difference a b c = omega (arith, ints, scaled a b (up c), scaled a b (down c))

pub product_not_negative : (a b : ℤ) → pos 0 ≤ℤ a → pos 0 ≤ℤ b → pos 0 ≤ℤ (a *ℤ b)
product_not_negative (pos a) (pos b) p q = omega (arith, ints)
product_not_negative (pos a) (negsuc b) p q = absurd (omega (arith, ints))
product_not_negative (negsuc a) b p q = absurd (omega (arith, ints))

pub product_positive : (a b : ℤ) → pos 0 <ℤ a → pos 0 <ℤ b → pos 0 <ℤ (a *ℤ b)
product_positive (pos zero) b p q = absurd (omega (arith, ints))
product_positive (pos (suc a)) (pos zero) p q = absurd (omega (arith, ints))
product_positive (pos (suc a)) (pos (suc b)) p q = omega (arith, ints)
product_positive (pos (suc a)) (negsuc b) p q = absurd (omega (arith, ints))
product_positive (negsuc a) b p q = absurd (omega (arith, ints))

-- the turn at the height of each end, and as a mean of both
pub turn-at_start : (ax ay bx by x : ℤ) → turn ax ay bx by x ay ≡ (by -ℤ ay) *ℤ (ax -ℤ x)
unfolding turn
turn-at_start ax ay bx by x = simp (difference_times, times_difference) (omega (arith, ints))

pub turn-at_end : (ax ay bx by x : ℤ) → turn ax ay bx by x by ≡ (by -ℤ ay) *ℤ (bx -ℤ x)
unfolding turn
turn-at_end ax ay bx by x = simp (difference_times, times_difference) (omega (arith, ints))

pub turn-mean : (ax ay bx by x y : ℤ) → turn ax ay bx by x y ≡ (y -ℤ ay) *ℤ (bx -ℤ x) +ℤ (by -ℤ y) *ℤ (ax -ℤ x)
unfolding turn
turn-mean ax ay bx by x y = simp (difference_times, times_difference) (omega (arith, ints))

pub turn-turned : (ax ay bx by x y : ℤ) → turn bx by ax ay x y ≡ pos 0 -ℤ turn ax ay bx by x y
unfolding turn
turn-turned ax ay bx by x y = simp (difference_times, times_difference) (omega (arith, ints))

-- an edge that rises past the height y is to the left or right of a point there, as both its ends are
pub rising_east : (ax ay bx by x y : ℤ) → ay ≤ℤ y → y <ℤ by → x <ℤ ax → x <ℤ bx → pos 0 <ℤ turn ax ay bx by x y
rising_east ax ay bx by x y p q r s =
    omega (
      arith,
      ints,
      turn-mean ax ay bx by x y,
      product_not_negative (y -ℤ ay) (bx -ℤ x) (omega (arith, ints)) (omega (arith, ints)),
      product_positive (by -ℤ y) (ax -ℤ x) (omega (arith, ints)) (omega (arith, ints)),
    )

mirrored : (c a b : ℤ) → c *ℤ (a -ℤ b) ≡ pos 0 -ℤ c *ℤ (b -ℤ a)
mirrored c a b = simp times_difference (omega (arith, ints))

pub rising_west : (ax ay bx by x y : ℤ) → ay ≤ℤ y → y <ℤ by → ax <ℤ x → bx <ℤ x → turn ax ay bx by x y <ℤ pos 0
rising_west ax ay bx by x y p q r s =
    omega (
      arith,
      ints,
      turn-mean ax ay bx by x y,
      mirrored (y -ℤ ay) bx x,
      mirrored (by -ℤ y) ax x,
      product_not_negative (y -ℤ ay) (x -ℤ bx) (omega (arith, ints)) (omega (arith, ints)),
      product_positive (by -ℤ y) (x -ℤ ax) (omega (arith, ints)) (omega (arith, ints)),
    )

pub falling_east : (ax ay bx by x y : ℤ) → by ≤ℤ y → y <ℤ ay → x <ℤ ax → x <ℤ bx → turn ax ay bx by x y <ℤ pos 0
falling_east ax ay bx by x y p q r s = omega (arith, ints, turn-turned ax ay bx by x y, rising_east bx by ax ay x y p q s r)

pub falling_west : (ax ay bx by x y : ℤ) → by ≤ℤ y → y <ℤ ay → ax <ℤ x → bx <ℤ x → pos 0 <ℤ turn ax ay bx by x y
falling_west ax ay bx by x y p q r s = omega (arith, ints, turn-turned ax ay bx by x y, rising_west bx by ax ay x y p q s r)

-- a linear form that is positive at both ends of a range is positive within it
positive_between : (c d lo z hi : ℤ) → lo ≤ℤ z → z ≤ℤ hi → pos 0 <ℤ (c +ℤ d *ℤ lo) → pos 0 <ℤ (c +ℤ d *ℤ hi) → pos 0 <ℤ (c +ℤ d *ℤ z)
positive_between c d lo z hi p q r s =
    by_lt_z d (pos 0)
    (λ (h : d <ℤ pos 0). omega (
      arith,
      ints,
      mirrored d z hi,
      times_difference z hi d,
      difference_times (pos 0) d (hi -ℤ z),
      times_difference hi z d,
      product_not_negative (pos 0 -ℤ d) (hi -ℤ z) (omega (arith, ints)) (omega (arith, ints)),
    ))
    (λ (h : pos 0 ≤ℤ d). omega (arith, ints, times_difference z lo d, product_not_negative d (z -ℤ lo) (omega (arith, ints)) (omega (arith, ints))))

turn-along_x : (ax ay bx by x y : ℤ) → turn ax ay bx by x y ≡ ((bx -ℤ ax) *ℤ (y -ℤ ay) +ℤ (by -ℤ ay) *ℤ ax) +ℤ (ay -ℤ by) *ℤ x
unfolding turn
turn-along_x ax ay bx by x y = simp (difference_times, times_difference) (omega (arith, ints))

turn-along_y : (ax ay bx by x y : ℤ) → turn ax ay bx by x y ≡ ((ax -ℤ bx) *ℤ ay -ℤ (by -ℤ ay) *ℤ (x -ℤ ax)) +ℤ (bx -ℤ ax) *ℤ y
unfolding turn
turn-along_y ax ay bx by x y = simp (difference_times, times_difference) (omega (arith, ints))

-- the corners of a cell are left of the edge's line
pub record CornersLeft (ax ay bx by lx ly hx hy : ℤ) : Type 0 where
  pub low_low : pos 0 <ℤ turn ax ay bx by lx ly
  pub low_high : pos 0 <ℤ turn ax ay bx by lx hy
  pub high_low : pos 0 <ℤ turn ax ay bx by hx ly
  pub high_high : pos 0 <ℤ turn ax ay bx by hx hy

left_along_x : (ax ay bx by lo x hi y : ℤ) → lo ≤ℤ x → x ≤ℤ hi → pos 0 <ℤ turn ax ay bx by lo y → pos 0 <ℤ turn ax ay bx by hi y → pos 0 <ℤ turn ax ay bx by x y
left_along_x ax ay bx by lo x hi y p q r s =
    rw turn-along_x (positive_between _ (ay -ℤ by) lo x hi p q (rw turn-along_x at r) (rw turn-along_x at s))

left_along_y : (ax ay bx by x lo y hi : ℤ) → lo ≤ℤ y → y ≤ℤ hi → pos 0 <ℤ turn ax ay bx by x lo → pos 0 <ℤ turn ax ay bx by x hi → pos 0 <ℤ turn ax ay bx by x y
left_along_y ax ay bx by x lo y hi p q r s =
    rw turn-along_y (positive_between _ (bx -ℤ ax) lo y hi p q (rw turn-along_y at r) (rw turn-along_y at s))

-- so is each point of the cell
pub left_of_line : (ax ay bx by lx ly hx hy x y : ℤ) → CornersLeft ax ay bx by lx ly hx hy → lx ≤ℤ x → x ≤ℤ hx → ly ≤ℤ y → y ≤ℤ hy
    → pos 0 <ℤ turn ax ay bx by x y
left_of_line ax ay bx by lx ly hx hy x y c p q r s =
    left_along_y ax ay bx by x ly y hy r s
    (left_along_x ax ay bx by lx x hx ly p q c.low_low c.high_low)
    (left_along_x ax ay bx by lx x hx hy p q c.low_high c.high_high)

-- the sign of a factor, from the sign of the product
pub factor_positive : (a b : ℤ) → pos 0 <ℤ a → pos 0 <ℤ (a *ℤ b) → pos 0 <ℤ b
factor_positive a b p q =
    by_lt_z (pos 0) b
    (λ (h : pos 0 <ℤ b). h)
    (λ (h : b ≤ℤ pos 0).
    absurd (omega (arith, ints, product_not_negative a (pos 0 -ℤ b) (omega (arith, ints)) (omega (arith, ints)), times_difference (pos 0) b a)))

pub factor_negative : (a b : ℤ) → a ≤ℤ pos 0 → pos 0 <ℤ (a *ℤ b) → b <ℤ pos 0
factor_negative a b p q =
    by_lt_z b (pos 0)
    (λ (h : b <ℤ pos 0). h)
    (λ (h : pos 0 ≤ℤ b).
    absurd (omega (arith, ints, product_not_negative (pos 0 -ℤ a) b (omega (arith, ints)) (omega (arith, ints)), difference_times (pos 0) a b)))
