use Rattle.std.proofs.Common.{rules, ◌≡◌, length}
use Rattle.point_codec.specs.Seen.{items_of, region_of}
use Rattle.inner_pack.specs.Parts.{AreParts}
use Rattle.bkd_build.specs.Canon.{index_tree_of}
use Rattle.bkd_build.specs.Pieces.{AreEntriesIn, held_pieces}
use Rattle.bkd_build.proofs.Sides.{cell_holds}
use Rattle.bkd_build.proofs.Whole.{parts_lent, whole_built}
use Rattle.bkd_build.proofs.builder.build.Goals as goal

pub build_part-requires-after_bounds : goal.build_part-requires-after_bounds
build_part-requires-after_bounds g c = λ κs _.
    let root = region_of c.cell_round-root.result in
    let lo : length root.lo ≡ g.row.D = search rules in
    let hi : length root.hi ≡ g.row.D = search rules in
    let entries : AreEntriesIn root c.args.entries.now = record {
      are = record { some = c.requires.some; numbers = c.requires.numbers; once = c.requires.once };
      inside = cell_holds g.row.D root (items_of c.args.entries.now) lo hi c.cell_round-root.ensures;
    } in
    search rules

pub pack-requires : goal.pack-requires
pack-requires g c =
    let a = c.in_ok-part.ensures.built in
    let are : AreParts g.row.D (region_of c.cell_round-root.result) c.as_slice.result.now c.as_slice-2.result.now c.as_slice-3.result.now = record {
      tree = index_tree_of g.row.D a.tree;
      are = parts_lent g.row.D c.args.leaf_size c.args.entries.now (region_of c.cell_round-root.result) c.in_ok-part.part c.as_slice.result.now
          c.as_slice-2.result.now c.as_slice-3.result.now
          c.requires.dims.0 c.requires.dims.1 c.requires.least_leaf c.requires.some c.requires.few c.cell_round-root.ensures c.as_slice.ensures.value
          c.as_slice-2.ensures.value c.as_slice-3.ensures.value a;
    } in
    search rules

pub returns-clause-built : goal.returns-clause-built
returns-clause-built g c =
    let a = c.in_ok-part.ensures.built in
    let root = region_of c.cell_round-root.result in
    let are =
    parts_lent g.row.D c.args.leaf_size c.args.entries.now root c.in_ok-part.part c.as_slice.result.now c.as_slice-2.result.now c.as_slice-3.result.now
    c.requires.dims.0 c.requires.dims.1 c.requires.least_leaf c.requires.some c.requires.few c.cell_round-root.ensures c.as_slice.ensures.value
    c.as_slice-2.ensures.value c.as_slice-3.ensures.value a in
    let packed = c.in_ok-index.ensures.packed (index_tree_of g.row.D a.tree) are in
    whole_built g.row.D c.args.leaf_size (items_of c.args.entries.now) root (held_pieces c.in_ok-part.part) c.in_ok-index.index c.cell_round-root.ensures a
    packed.0
    packed.2
