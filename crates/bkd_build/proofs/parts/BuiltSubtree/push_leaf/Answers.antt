use Rattle.std.proofs.Common.{rules, ◌≡◌, ◌≤◌, length, ℕ, arith, sym, ap, ◌∙◌, List, [], ◌∷◌, ◌++◌, map}
use Rattle.std.proofs.lemmas.List.{append-nil, map-append, length-map}
use Rattle.point_codec.specs.Seen.{items_of, region_of}
use Rattle.point_codec.specs.declared.boxes.Cell.{Cell}
use Rattle.leaf_codec.specs.Leaves.{leaf_limit}
use Rattle.leaf_codec.specs.Spelling.{spelling}
use Rattle.bkd_build.specs.Pieces.{AreEntries, held_pieces}
use Rattle.bkd_build.proofs.Nodes.{items-IsPermutation, leaf_adds}
use Rattle.bkd_build.proofs.parts.BuiltSubtree.push_leaf.Goals as goal

pub encode_entries-requires : goal.encode_entries-requires
encode_entries-requires g c =
    let few : length c.args.entries.now ≤ leaf_limit g.row.D = omega (arith, c.requires.few, c.requires.leaf_size) in
    let entries : AreEntries c.args.entries.now = c.requires.entries in
    search rules

pub returns-clause-added : goal.returns-clause-added
returns-clause-added g c =
    let few : length (items_of c.args.entries.now) ≤ c.args.leaf_size = rw length-map c.requires.few in
    let spelled : List ℕ = spelling g.row.D (items_of c.encode_entries.new.entries) in
    let was = c.args.self.now in
    let arranged = c.encode_entries.new.entries in
    let lengths : c.push.new.self.items ≡ was.lengths.items ++ length spelled ∷ [] =
    cc (c.in_ok-push.ensures.items, ap length c.as_slice.ensures, ap length c.in_ok-bytes.ensures.spelled.is) in
    let cells : map region_of c.push-2.new.self.items ≡ map region_of was.cells.items ++ region_of c.cell_round-cell.result ∷ [] =
    ap (map region_of) c.in_ok-push-2.ensures.items ∙ map-append (λ (cell : Cell g.row.D). region_of cell) was.cells.items (c.cell_round-cell.result ∷ []) in
    let leaves : c.push-3.new.self.items ≡ was.leaves.items ++ spelled ∷ [] =
    c.in_ok-push-3.ensures.items ∙ ap (λ (b : List ℕ). was.leaves.items ++ b ∷ []) c.in_ok-bytes.ensures.spelled.is in
    let nodes : was.nodes.items ≡ was.nodes.items ++ [] = sym (append-nil was.nodes.items) in
    leaf_adds g.row.D c.args.leaf_size (items_of c.args.entries.now) (items_of arranged) (region_of c.cell_round-cell.result) (held_pieces was) _
    (items-IsPermutation c.args.entries.now arranged c.encode_entries.ensures.same) few c.in_ok-bytes.ensures.spelled.are_leaf c.cell_round-cell.ensures
    (λ i. record { nodes = nodes i; lengths = lengths i; cells = cells i; leaves = leaves i })
