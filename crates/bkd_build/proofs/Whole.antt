-- From the pieces of a canonical tree to the parts of an index, and to what is built.
use Rattle.std.proofs.Common.{◌≡◌, ℕ, ◌≤◌, true, List, [], ◌∷◌, length, map, ℤ, sym, ap, ◌∙◌, subst, arith}
use Rattle.std.specs.List.{All}
use Rattle.std.proofs.lemmas.List.{length-map}
use Rattle.std.proofs.lemmas.List.Elements.{All-nil, All-cons, All-head, All-tail}
use Rattle.std.proofs.lemmas.List.Sorted.{IsPermutation-sym, All-permutation, length_permutation}
use Rattle.point_codec.specs.Points.{Item, Region, in_box}
use Rattle.point_codec.specs.Cells.{IsLeastCell}
use Rattle.point_codec.specs.Seen.{region_of, items_of}
use Rattle.point_codec.specs.declared.boxes.Cell.{Cell}
use Rattle.point_codec.specs.declared.entries.Entry.{Entry}
use Rattle.leaf_codec.specs.Leaves.{IsPoint}
use Rattle.inner_pack.specs.Trees.{IndexTree, IsCell, IsShaped, lengths_of}
use Rattle.inner_pack.specs.Bodies.{Body, HasTree}
use Rattle.inner_pack.specs.Parts.{ArePartsOf}
use Rattle.bkd_build.specs.Canon.{KdTree, entries_of, index_tree_of, leaves_for, IsBuilt}
use Rattle.bkd_build.specs.Pieces.{AddsPieces, Pieces, no_pieces, held_pieces}
use Rattle.bkd_build.specs.declared.parts.BuiltSubtree.{BuiltSubtree}
use Rattle.bkd_build.proofs.Shapes.{shaped, shaped_count, all_points, all_fit, few_leaves, some_leaves}
use Rattle.bkd_build.proofs.Fits.{cell_round_points, cells_lie}

pub unmapped : (P : List ℤ → Type 0) (items : List Item) → All P (map (λ (x : Item). x.at) items) → All (λ (x : Item). P x.at) items
unmapped P [] h = All-nil (λ (x : Item). P x.at)
unmapped P (x ∷ xs) h =
    All-cons (λ (y : Item). P y.at) x xs (All-head P x.at (map (λ (y : Item). y.at) xs) h) (unmapped P xs (All-tail P x.at (map (λ (y : Item). y.at) xs) h))

pub parts_are : (D leaf_size : ℕ) (items : List Item) (root : Region) (nodes : List (ℕ × ℤ)) (lengths : List ℕ) (cells : List (Cell D)) (leaves : List (List ℕ))
    → 1 ≤ D → D ≤ 8 → 2 ≤ leaf_size → 1 ≤ length items → length items ≤ 16777216 → IsLeastCell (map (λ (x : Item). x.at) items) root
    → (a : AddsPieces D leaf_size items no_pieces (record { nodes = nodes; lengths = lengths; cells = map region_of cells; leaves = leaves }))
    → ArePartsOf D root nodes lengths cells (index_tree_of D a.tree)
parts_are D leaf_size items root nodes lengths cells leaves dims few two some count cell a =
    let t : KdTree = a.tree in
    let tree : IndexTree = index_tree_of D t in
    let one : 1 ≤ leaf_size = omega arith in
    let all : length (entries_of t) ≡ length items = length_permutation items (entries_of t) a.same in
    let n : ℕ = leaves_for leaf_size (length (entries_of t)) in
    let shape : IsShaped n tree = shaped D leaf_size t one a.canon in
    let lengths_are : lengths ≡ lengths_of tree = ap (λ (ps : Pieces). ps.lengths) a.is in
    let long : length lengths ≡ n = ap (λ (ns : List ℕ). length ns) lengths_are ∙ shaped_count n tree shape in
    let points : All (λ (x : Item). IsPoint D x.at) items =
    All-permutation (λ (x : Item). IsPoint D x.at) (entries_of t) items (IsPermutation-sym items (entries_of t) a.same) (all_points D leaf_size t a.canon) in
    let whole : IsCell D root = cell_round_points D items root some points cell in
    let inside : All (λ (x : Item). in_box root x.at ≡ true) (entries_of t) =
    All-permutation (λ (x : Item). in_box root x.at ≡ true) items (entries_of t) a.same (unmapped (λ (p : List ℤ). in_box root p ≡ true) items cell.holds) in
    let enough : 1 ≤ n = some_leaves leaf_size (length (entries_of t)) one (omega (arith, all, some)) in
    let few_enough : n ≤ 8388608 = few_leaves leaf_size (length (entries_of t)) two (omega (arith, all, count)) in
    record {
      tree = record {
        some_dims = dims;
        few_dims = few;
        some = omega (arith, long, enough);
        few = omega (arith, long, few_enough);
        root_cell = whole;
        shaped = subst (λ (m : ℕ). IsShaped m tree) (sym long) shape;
        cells = cells_lie D leaf_size root t a.canon whole.lo_dims whole.hi_dims inside;
        lengths = all_fit D leaf_size t few a.canon;
      };
      nodes_are = ap (λ (ps : Pieces). ps.nodes) a.is;
      lengths_are = lengths_are;
      cells_are = ap (λ (ps : Pieces). ps.cells) a.is;
    }

-- the same of what is lent of a part
pub parts_lent : (D leaf_size : ℕ) (es : List (Entry D)) (root : Region) (part : BuiltSubtree D) (nodes : List (ℕ × ℤ)) (lengths : List ℕ)
    (cells : List (Cell D))
    → 1 ≤ D → D ≤ 8 → 2 ≤ leaf_size → 1 ≤ length es → length es ≤ 16777216 → IsLeastCell (map (λ (x : Item). x.at) (items_of es)) root
    → nodes ≡ part.nodes.items → lengths ≡ part.lengths.items → cells ≡ part.cells.items
    → (a : AddsPieces D leaf_size (items_of es) no_pieces (held_pieces part)) → ArePartsOf D root nodes lengths cells (index_tree_of D a.tree)
parts_lent D leaf_size es root part nodes lengths cells dims few two some count cell nodes_are lengths_are cells_are a =
    let long : length (items_of es) ≡ length es = length-map es (λ (e : Entry D). record { doc = e.doc; at = e.point.c }) in
    rw (nodes_are, lengths_are, cells_are)
    (parts_are D leaf_size (items_of es) root part.nodes.items part.lengths.items part.cells.items part.leaves.items dims few two (omega (arith, long, some))
    (omega (arith, long, count)) cell a)

pub whole_built : (D leaf_size : ℕ) (items : List Item) (root : Region) (pieces : Pieces) (index : Body) → IsLeastCell (map (λ (x : Item). x.at) items) root
    → (a : AddsPieces D leaf_size items no_pieces pieces) → index.form ≡ 3 → HasTree D index root (index_tree_of D a.tree)
    → IsBuilt D leaf_size items (record { index = index; leaves = pieces.leaves })
whole_built D leaf_size items root pieces index cell a form has = record {
  tree = a.tree;
  root = root;
  canon = record { canon = a.canon; same = a.same; cell = cell };
  form = form;
  index = has;
  leaves = ap (λ (ps : Pieces). ps.leaves) a.is;
}
