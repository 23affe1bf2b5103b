-- The cells of a tree lie one within the other.
use Rattle.std.proofs.Common.{◌≡◌, ℕ, ℤ, pos, zero, suc, ◌≤ℤ◌, ◌<◌, ◌≤◌, List, [], ◌∷◌, length, set, get_or, true, int_le, refl, sym, ap, ◌∙◌, arith}
use Rattle.std.specs.Int.Signed.{≤ℤ_refl}
use Rattle.std.proofs.lemmas.Int.{ints}
use Rattle.point_codec.specs.Points.{Region, all_le}
use Rattle.point_codec.specs.Cells.{within, left_of, right_of}
use Rattle.inner_pack.specs.Places.{Spot, end_of}
use Rattle.inner_pack.specs.Trees.{IndexTree, Leaf, Split, IsInCell, IsCell, HasCells, cell_of, lengths_of}
use Rattle.inner_pack.specs.Bodies.{right_begin}
use Rattle.inner_pack.proofs.PlaceLemmas.{AreLengths, end_first, end_of_append, end_of_from}
use Rattle.inner_pack.proofs.SpelledLemmas.{all_le_self, within_self}

le_said : (x y : ℤ) → x ≤ℤ y → int_le x y ≡ true
le_said x y h = grind (arith, ints)

set_below : (hi : List ℤ) (d : ℕ) (x : ℤ) → d < length hi → x ≤ℤ get_or hi d (pos 0) → all_le (set hi d x) hi ≡ true
set_below [] d x lt h = absurd (omega arith)
set_below (y ∷ ys) zero x lt h = rw (le_said x y h, all_le_self ys) refl
set_below (y ∷ ys) (suc d) x lt h = rw (le_said y y (≤ℤ_refl y), set_below ys d x (omega arith) h) refl

set_above : (lo : List ℤ) (d : ℕ) (x : ℤ) → d < length lo → get_or lo d (pos 0) ≤ℤ x → all_le lo (set lo d x) ≡ true
set_above [] d x lt h = absurd (omega arith)
set_above (y ∷ ys) zero x lt h = rw (le_said y x h, all_le_self ys) refl
set_above (y ∷ ys) (suc d) x lt h = rw (le_said y y (≤ℤ_refl y), set_above ys d x (omega arith) h) refl

pub left_within : (D : ℕ) (path : Region) (d : ℕ) (x : ℤ) → IsCell D path → IsInCell D path d x → within (left_of path d x) path ≡ true
left_within D path d x cell h = rw (all_le_self path.lo, set_below path.hi d x (omega (arith, h.dimension, cell.hi_dims)) h.to) refl

pub right_within : (D : ℕ) (path : Region) (d : ℕ) (x : ℤ) → IsCell D path → IsInCell D path d x → within (right_of path d x) path ≡ true
right_within D path d x cell h = rw (set_above path.lo d x (omega (arith, h.dimension, cell.lo_dims)) h.from, all_le_self path.hi) refl

pub node_within : (D : ℕ) (path : Region) (t : IndexTree) → HasCells D path t → within (cell_of path t) path ≡ true
node_within D path (Leaf n own) h = h.1
node_within D path (Split d x l r) h = within_self path

-- the leaves of both children end where those of the node do
pub right_ends : (s : Spot) (d : ℕ) (x : ℤ) (l r : IndexTree) → AreLengths (lengths_of r)
    → end_of (right_begin s l r) (lengths_of r) ≡ end_of s (lengths_of (Split d x l r))
unfolding right_begin
right_ends s d x l r h = end_first (end_of s (lengths_of l)) r h ∙ sym (end_of_append s (lengths_of l) (lengths_of r))

pub left_ends : (s : Spot) (d : ℕ) (x : ℤ) (l r : IndexTree) → (end_of s (lengths_of l)).page ≤ (end_of s (lengths_of (Split d x l r))).page
left_ends s d x l r =
    omega (arith, end_of_from (end_of s (lengths_of l)) (lengths_of r), ap (λ (e : Spot). e.page) (end_of_append s (lengths_of l) (lengths_of r)))
