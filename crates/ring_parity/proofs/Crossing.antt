-- An edge that misses a cell has one bit for the whole cell, and the edges of a closed ring change their counts in
-- pairs. Over plain numbers: an edge runs from (ax, ay) to (bx, by), a cell from (lx, ly) to (hx, hy).
use Rattle.std.proofs.Common.{◌≡◌, ℤ, pos, ◌-ℤ◌, ◌*ℤ◌, Bool, true, false, not, cond, ◌&&◌, ◌||◌, refl, sym, arith}
use Rattle.std.specs.Prelude.{◌<ℤ◌, ◌≤ℤ◌, int_lt}
use Rattle.std.proofs.lemmas.Int.{ints, by_lt_z}
use Rattle.ring_parity.proofs.Signs.{turn, rising_east, rising_west, falling_east, falling_west, turn-at_start}
use Rattle.ring_parity.proofs.Signs.{turn-at_end, turn-turned, CornersLeft, left_of_line, factor_positive, factor_negative}

-- just one of the two is true
abbrev pub xor : Bool → Bool → Bool
xor a b = cond a (not b) b

-- the counting of an edge, from the four tests that it makes: its start and its end are above the point, the point is
-- left of it, right of it
abbrev pub counted : Bool → Bool → Bool → Bool → Bool
counted start end left right = (not start && end && left) || (start && not end && right)

-- within the cell an edge counts by the heights of its ends and one bit
counted_by : (start end left right bit : Bool) → (start ≡ false → end ≡ true → left ≡ bit) → (start ≡ true → end ≡ false → right ≡ bit)
    → counted start end left right ≡ (xor start end && bit)
counted_by true true left right bit p q = refl
counted_by true false left right true p q = q refl refl
counted_by true false left right false p q = q refl refl
counted_by false true left right true p q = grind (arith, p refl refl)
counted_by false true left right false p q = grind (arith, p refl refl)
counted_by false false left right bit p q = refl

abbrev pub counts_at : (ax ay bx by x y : ℤ) → Bool
counts_at ax ay bx by x y = counted (int_lt y ay) (int_lt y by) (int_lt (pos 0) (turn ax ay bx by x y)) (int_lt (turn ax ay bx by x y) (pos 0))

pub record InCell (lx ly hx hy x y : ℤ) : Type 0 where
  pub west : lx ≤ℤ x
  pub east : x ≤ℤ hx
  pub south : ly ≤ℤ y
  pub north : y ≤ℤ hy

-- what the bit tells: how the edge counts at each point of the cell, and on which side of it an end is that stands at
-- one of its heights
pub record Tells (ax ay bx by lx ly hx hy : ℤ) (bit : Bool) : Type 0 where
  pub counting : (x y : ℤ) → InCell lx ly hx hy x y → counts_at ax ay bx by x y ≡ (xor (int_lt y ay) (int_lt y by) && bit)
  pub start : (x : ℤ) → lx ≤ℤ x → x ≤ℤ hx → ly ≤ℤ ay → ay ≤ℤ hy → int_lt x ax ≡ bit
  pub end : (x : ℤ) → lx ≤ℤ x → x ≤ℤ hx → ly ≤ℤ by → by ≤ℤ hy → int_lt x bx ≡ bit

pub tells_west : (ax ay bx by lx ly hx hy : ℤ) → ax <ℤ lx → bx <ℤ lx → Tells ax ay bx by lx ly hx hy false
tells_west ax ay bx by lx ly hx hy a b = record {
  counting = λ x y c. counted_by (int_lt y ay) (int_lt y by) _ _ false
      (λ (s : int_lt y ay ≡ false) (e : int_lt y by ≡ true).
      sym (omega (arith, ints, rising_west ax ay bx by x y (omega (arith, ints)) (omega (arith, ints)) (omega (arith, ints)) (omega (arith, ints)))))
      (λ (s : int_lt y ay ≡ true) (e : int_lt y by ≡ false).
      sym (omega (arith, ints, falling_west ax ay bx by x y (omega (arith, ints)) (omega (arith, ints)) (omega (arith, ints)) (omega (arith, ints)))));
  start = λ x p q r s. sym (omega (arith, ints));
  end = λ x p q r s. sym (omega (arith, ints));
}

pub tells_east : (ax ay bx by lx ly hx hy : ℤ) → hx <ℤ ax → hx <ℤ bx → Tells ax ay bx by lx ly hx hy true
tells_east ax ay bx by lx ly hx hy a b = record {
  counting = λ x y c. counted_by (int_lt y ay) (int_lt y by) _ _ true
      (λ (s : int_lt y ay ≡ false) (e : int_lt y by ≡ true).
      sym (omega (arith, ints, rising_east ax ay bx by x y (omega (arith, ints)) (omega (arith, ints)) (omega (arith, ints)) (omega (arith, ints)))))
      (λ (s : int_lt y ay ≡ true) (e : int_lt y by ≡ false).
      sym (omega (arith, ints, falling_east ax ay bx by x y (omega (arith, ints)) (omega (arith, ints)) (omega (arith, ints)) (omega (arith, ints)))));
  start = λ x p q r s. sym (omega (arith, ints));
  end = λ x p q r s. sym (omega (arith, ints));
}

pub tells_south : (ax ay bx by lx ly hx hy : ℤ) → ay <ℤ ly → by <ℤ ly → Tells ax ay bx by lx ly hx hy false
tells_south ax ay bx by lx ly hx hy a b = record {
  counting = λ x y c. counted_by (int_lt y ay) (int_lt y by) _ _ false
      (λ (s : int_lt y ay ≡ false) (e : int_lt y by ≡ true). absurd (omega (arith, ints)))
      (λ (s : int_lt y ay ≡ true) (e : int_lt y by ≡ false). absurd (omega (arith, ints)));
  start = λ x p q r s. absurd (omega (arith, ints));
  end = λ x p q r s. absurd (omega (arith, ints));
}

pub tells_north : (ax ay bx by lx ly hx hy : ℤ) → hy <ℤ ay → hy <ℤ by → Tells ax ay bx by lx ly hx hy false
tells_north ax ay bx by lx ly hx hy a b = record {
  counting = λ x y c. counted_by (int_lt y ay) (int_lt y by) _ _ false
      (λ (s : int_lt y ay ≡ false) (e : int_lt y by ≡ true). absurd (omega (arith, ints)))
      (λ (s : int_lt y ay ≡ true) (e : int_lt y by ≡ false). absurd (omega (arith, ints)));
  start = λ x p q r s. absurd (omega (arith, ints));
  end = λ x p q r s. absurd (omega (arith, ints));
}

-- an end at a height of the cell is east of the cell where the edge rises, and west of it otherwise
start_of_left : (ax ay bx by lx ly hx hy x : ℤ) → CornersLeft ax ay bx by lx ly hx hy → lx ≤ℤ x → x ≤ℤ hx → ly ≤ℤ ay → ay ≤ℤ hy → int_lt x ax ≡ int_lt ay by
start_of_left ax ay bx by lx ly hx hy x c p q r s =
    let positive : pos 0 <ℤ ((by -ℤ ay) *ℤ (ax -ℤ x)) = rw turn-at_start at (left_of_line ax ay bx by lx ly hx hy x ay c p q r s) in
    by_lt_z ay by
    (λ (h : ay <ℤ by).
    let e : pos 0 <ℤ (ax -ℤ x) = factor_positive (by -ℤ ay) (ax -ℤ x) (omega (arith, ints)) positive in
    let t : true ≡ int_lt ay by = omega (arith, ints) in let u : true ≡ int_lt x ax = omega (arith, ints) in cc)
    (λ (h : by ≤ℤ ay).
    let e : (ax -ℤ x) <ℤ pos 0 = factor_negative (by -ℤ ay) (ax -ℤ x) (omega (arith, ints)) positive in
    let t : false ≡ int_lt ay by = omega (arith, ints) in let u : false ≡ int_lt x ax = omega (arith, ints) in cc)

end_of_left : (ax ay bx by lx ly hx hy x : ℤ) → CornersLeft ax ay bx by lx ly hx hy → lx ≤ℤ x → x ≤ℤ hx → ly ≤ℤ by → by ≤ℤ hy → int_lt x bx ≡ int_lt ay by
end_of_left ax ay bx by lx ly hx hy x c p q r s =
    let positive : pos 0 <ℤ ((by -ℤ ay) *ℤ (bx -ℤ x)) = rw turn-at_end at (left_of_line ax ay bx by lx ly hx hy x by c p q r s) in
    by_lt_z ay by
    (λ (h : ay <ℤ by).
    let e : pos 0 <ℤ (bx -ℤ x) = factor_positive (by -ℤ ay) (bx -ℤ x) (omega (arith, ints)) positive in
    let t : true ≡ int_lt ay by = omega (arith, ints) in let u : true ≡ int_lt x bx = omega (arith, ints) in cc)
    (λ (h : by ≤ℤ ay).
    let e : (bx -ℤ x) <ℤ pos 0 = factor_negative (by -ℤ ay) (bx -ℤ x) (omega (arith, ints)) positive in
    let t : false ≡ int_lt ay by = omega (arith, ints) in let u : false ≡ int_lt x bx = omega (arith, ints) in cc)

pub tells_left : (ax ay bx by lx ly hx hy : ℤ) → CornersLeft ax ay bx by lx ly hx hy → Tells ax ay bx by lx ly hx hy (int_lt ay by)
tells_left ax ay bx by lx ly hx hy c = record {
  counting = λ x y i. let left : pos 0 <ℤ turn ax ay bx by x y = left_of_line ax ay bx by lx ly hx hy x y c i.west i.east i.south i.north in
      counted_by (int_lt y ay) (int_lt y by) _ _ (int_lt ay by)
      (λ (s : int_lt y ay ≡ false) (e : int_lt y by ≡ true).
      let t : true ≡ int_lt ay by = omega (arith, ints) in
      let u : true ≡ int_lt (pos 0) (turn ax ay bx by x y) = omega (arith, ints) in cc)
      (λ (s : int_lt y ay ≡ true) (e : int_lt y by ≡ false).
      let t : false ≡ int_lt ay by = omega (arith, ints) in
      let u : false ≡ int_lt (turn ax ay bx by x y) (pos 0) = omega (arith, ints) in cc);
  start = λ x p q r s. start_of_left ax ay bx by lx ly hx hy x c p q r s;
  end = λ x p q r s. end_of_left ax ay bx by lx ly hx hy x c p q r s;
}

-- the corners are right of an edge where they are left of the turned edge
pub tells_right : (ax ay bx by lx ly hx hy : ℤ) → CornersLeft bx by ax ay lx ly hx hy → Tells ax ay bx by lx ly hx hy (int_lt by ay)
tells_right ax ay bx by lx ly hx hy c = record {
  counting = λ x y i. let right : pos 0 <ℤ turn bx by ax ay x y = left_of_line bx by ax ay lx ly hx hy x y c i.west i.east i.south i.north in
      let turned : turn ax ay bx by x y ≡ pos 0 -ℤ turn bx by ax ay x y = turn-turned bx by ax ay x y in
      counted_by (int_lt y ay) (int_lt y by) _ _ (int_lt by ay)
      (λ (s : int_lt y ay ≡ false) (e : int_lt y by ≡ true).
      let t : false ≡ int_lt by ay = omega (arith, ints) in
      let u : false ≡ int_lt (pos 0) (turn ax ay bx by x y) = omega (arith, ints) in cc)
      (λ (s : int_lt y ay ≡ true) (e : int_lt y by ≡ false).
      let t : true ≡ int_lt by ay = omega (arith, ints) in
      let u : true ≡ int_lt (turn ax ay bx by x y) (pos 0) = omega (arith, ints) in cc);
  start = λ x p q r s. end_of_left bx by ax ay lx ly hx hy x c p q r s;
  end = λ x p q r s. start_of_left bx by ax ay lx ly hx hy x c p q r s;
}
