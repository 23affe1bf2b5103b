-- A part of one list that was copied to the front of another.
use Rattle.std.proofs.Common.{◌≡◌, ℕ, ◌+◌, ◌-◌, ◌≤◌, min, List, ◌++◌, length, take, drop, sym, arith, length-take}
use Rattle.std.proofs.lemmas.List.{take_rest, take_at, take-append-drop, drop-drop}

-- n bytes were copied to the front of a buffer: the buffer begins with them
pub take-copied : (from rest : List ℕ) (n : ℕ) → n ≤ length from → take n (take n from ++ rest) ≡ take n from
take-copied from rest n h = take_at (take n from) rest n (omega (arith, length-take n from))

-- n bytes from `at` on were copied to the front of a buffer: those and what stands behind them in the first list are
-- all that it has from `at` on
pub taken_next : (bytes buf : List ℕ) (at n most : ℕ) → n ≡ min most (length (take (length bytes - at) (drop at bytes)))
    → drop at bytes ≡ take n (take n (take (length bytes - at) (drop at bytes)) ++ buf) ++ drop (at + n) bytes
taken_next bytes buf at n most count =
    rw (take-copied (take (length bytes - at) (drop at bytes)) buf n (omega (arith, count)), take_rest bytes at, ← drop-drop n at bytes)
    (sym (take-append-drop n (drop at bytes)))
