-- The trees of the tests.
use Rattle.std.proofs.Common.{◌≡◌, ◌≤◌, ℕ, List, [], ◌∷◌, map, refl, arith, rules, All, true, ◌&&◌, ℤ, pos, FitsSigned, w32, replicate}
use Rattle.std.specs.Prelude.{int_le}
use Rattle.std.proofs.lemmas.List.Elements.{All-nil, All-cons, All-replicate}
use Rattle.point_codec.specs.Points.{Region}
use Rattle.point_codec.specs.Seen.{region_of}
use Rattle.point_codec.specs.declared.boxes.Cell.{Cell}
use Rattle.inner_pack.specs.Trees.{IndexTree, Leaf, Split, IsCell, IsInCell, IsTree}
use Rattle.inner_pack.specs.Parts.{ArePartsOf, AreParts}

-- ---- cells and lengths

abbrev pub line : ℤ → ℤ → Region
line lo hi = record { lo = lo ∷ []; hi = hi ∷ [] }

is_line : (lo hi : ℤ) → FitsSigned w32 lo → FitsSigned w32 hi → (int_le lo hi && true) ≡ true → IsCell 1 (line lo hi)
is_line lo hi low high le = record {
  lo_dims = refl;
  hi_dims = refl;
  ordered = le;
  lo_fits = All-cons (λ (x : ℤ). FitsSigned w32 x) lo [] low (All-nil (λ (x : ℤ). FitsSigned w32 x));
  hi_fits = All-cons (λ (x : ℤ). FitsSigned w32 x) hi [] high (All-nil (λ (x : ℤ). FitsSigned w32 x));
}

-- the cell of one point, with each coordinate 0
abbrev pub origin : ℕ → Region
origin D = record { lo = replicate D (pos 0); hi = replicate D (pos 0) }

zeros_fit : (D : ℕ) → All (λ (x : ℤ). FitsSigned w32 x) (replicate D (pos 0))
zeros_fit D = All-replicate (λ (x : ℤ). FitsSigned w32 x) D (pos 0) (search rules)

in_page : (n : ℕ) (ns : List ℕ) → 1 ≤ n → n ≤ 4064 → All (λ (n : ℕ). (1 ≤ n) × (n ≤ 4064)) ns → All (λ (n : ℕ). (1 ≤ n) × (n ≤ 4064)) (n ∷ ns)
in_page n ns low high rest = All-cons (λ (n : ℕ). (1 ≤ n) × (n ≤ 4064)) n ns (low, high) rest

no_more : All (λ (n : ℕ). (1 ≤ n) × (n ≤ 4064)) []
no_more = All-nil (λ (n : ℕ). (1 ≤ n) × (n ≤ 4064))

-- ---- three leaves

abbrev pub three : IndexTree
three = Split 0 (pos 7) (Split 0 (pos 7) (Leaf 12 (line (pos 5) (pos 7))) (Leaf 9 (line (pos 7) (pos 7)))) (Leaf 9 (line (pos 7) (pos 7)))

pub are_three_parts : (cells : List (Cell 1)) → map region_of cells ≡ line (pos 5) (pos 7) ∷ line (pos 7) (pos 7) ∷ line (pos 7) (pos 7) ∷ []
    → ArePartsOf 1 (line (pos 5) (pos 7)) ((0, pos 7) ∷ (0, pos 7) ∷ []) (12 ∷ 9 ∷ 9 ∷ []) cells three
are_three_parts cells e =
    let five : IsCell 1 (line (pos 5) (pos 7)) = is_line (pos 5) (pos 7) (search rules) (search rules) refl in
    let seven : IsCell 1 (line (pos 7) (pos 7)) = is_line (pos 7) (pos 7) (search rules) (search rules) refl in
    let cut : IsInCell 1 (line (pos 5) (pos 7)) 0 (pos 7) = record { dimension = omega arith; from = search rules; to = search rules } in
    let tree : IsTree 1 3 (line (pos 5) (pos 7)) three = record {
      some_dims = omega arith;
      few_dims = omega arith;
      some = omega arith;
      few = omega arith;
      root_cell = five;
      shaped = (omega arith, (omega arith, refl, refl), refl);
      cells = (cut, (cut, (five, refl), (seven, refl)), (seven, refl));
      lengths = in_page 12 (9 ∷ 9 ∷ []) (omega arith) (omega arith)
          (in_page 9 (9 ∷ []) (omega arith) (omega arith) (in_page 9 [] (omega arith) (omega arith) no_more));
    } in
    record { tree = tree; nodes_are = refl; lengths_are = refl; cells_are = e }

pub three_parts : (cells : List (Cell 1)) → map region_of cells ≡ line (pos 5) (pos 7) ∷ line (pos 7) (pos 7) ∷ line (pos 7) (pos 7) ∷ []
    → AreParts 1 (line (pos 5) (pos 7)) ((0, pos 7) ∷ (0, pos 7) ∷ []) (12 ∷ 9 ∷ 9 ∷ []) cells
three_parts cells e = record { tree = three; are = are_three_parts cells e }

-- ---- one leaf in two dimensions

pub one_part : (cells : List (Cell 2)) → map region_of cells ≡ origin 2 ∷ [] → AreParts 2 (origin 2) [] (300 ∷ []) cells
one_part cells e =
    let cell : IsCell 2 (origin 2) = record { lo_dims = refl; hi_dims = refl; ordered = refl; lo_fits = zeros_fit 2; hi_fits = zeros_fit 2 } in
    let tree : IsTree 2 1 (origin 2) (Leaf 300 (origin 2)) = record {
      some_dims = omega arith;
      few_dims = omega arith;
      some = omega arith;
      few = omega arith;
      root_cell = cell;
      shaped = refl;
      cells = (cell, refl);
      lengths = in_page 300 [] (omega arith) (omega arith) no_more;
    } in
    record { tree = Leaf 300 (origin 2); are = record { tree = tree; nodes_are = refl; lengths_are = refl; cells_are = e } }

-- ---- four leaves in three pages

abbrev four : IndexTree
four = Split 0 (pos 0) (Split 0 (pos 0) (Leaf 4064 (origin 1)) (Leaf 1 (origin 1))) (Split 0 (pos 0) (Leaf 4063 (origin 1)) (Leaf 2 (origin 1)))

pub four_parts : (cells : List (Cell 1)) → map region_of cells ≡ origin 1 ∷ origin 1 ∷ origin 1 ∷ origin 1 ∷ []
    → AreParts 1 (origin 1) ((0, pos 0) ∷ (0, pos 0) ∷ (0, pos 0) ∷ []) (4064 ∷ 1 ∷ 4063 ∷ 2 ∷ []) cells
four_parts cells e =
    let cell : IsCell 1 (origin 1) = record { lo_dims = refl; hi_dims = refl; ordered = refl; lo_fits = zeros_fit 1; hi_fits = zeros_fit 1 } in
    let cut : IsInCell 1 (origin 1) 0 (pos 0) = record { dimension = omega arith; from = search rules; to = search rules } in
    let tree : IsTree 1 4 (origin 1) four = record {
      some_dims = omega arith;
      few_dims = omega arith;
      some = omega arith;
      few = omega arith;
      root_cell = cell;
      shaped = (omega arith, (omega arith, refl, refl), (omega arith, refl, refl));
      cells = (cut, (cut, (cell, refl), (cell, refl)), (cut, (cell, refl), (cell, refl)));
      lengths = in_page 4064 (1 ∷ 4063 ∷ 2 ∷ []) (omega arith) (omega arith)
          (in_page 1 (4063 ∷ 2 ∷ []) (omega arith) (omega arith)
          (in_page 4063 (2 ∷ []) (omega arith) (omega arith) (in_page 2 [] (omega arith) (omega arith) no_more)));
    } in
    record { tree = four; are = record { tree = tree; nodes_are = refl; lengths_are = refl; cells_are = e } }

-- ---- two leaves in eight dimensions

abbrev two : IndexTree
two = Split 7 (pos 0) (Leaf 1 (origin 8)) (Leaf 1 (origin 8))

pub two_parts : (cells : List (Cell 8)) → map region_of cells ≡ origin 8 ∷ origin 8 ∷ [] → AreParts 8 (origin 8) ((7, pos 0) ∷ []) (1 ∷ 1 ∷ []) cells
two_parts cells e =
    let cell : IsCell 8 (origin 8) = record { lo_dims = refl; hi_dims = refl; ordered = refl; lo_fits = zeros_fit 8; hi_fits = zeros_fit 8 } in
    let cut : IsInCell 8 (origin 8) 7 (pos 0) = record { dimension = omega arith; from = search rules; to = search rules } in
    let tree : IsTree 8 2 (origin 8) two = record {
      some_dims = omega arith;
      few_dims = omega arith;
      some = omega arith;
      few = omega arith;
      root_cell = cell;
      shaped = (omega arith, refl, refl);
      cells = (cut, (cell, refl), (cell, refl));
      lengths = in_page 1 (1 ∷ []) (omega arith) (omega arith) (in_page 1 [] (omega arith) (omega arith) no_more);
    } in
    record { tree = two; are = record { tree = tree; nodes_are = refl; lengths_are = refl; cells_are = e } }
