use Rattle.std.proofs.Common.{rules, arith, ◌≡◌, ◌∙◌, length, map, refl, sym, ap, subst}
use Rattle.point_codec.specs.Seen.{region_of}
use Rattle.inner_pack.specs.Bodies.{Body, HasTree, IsSpelled}
use Rattle.inner_pack.proofs.PackWhole.{dimensions_below, lengths_small, places_small, counted, whole_part, spelled_body, is_index}
use Rattle.inner_pack.proofs.index.Index.pack.Goals as goal
use Rattle.inner_pack.specs.Heads.{placed_of}

pub invariant_of-whole : goal.invariant_of-whole
invariant_of-whole g c =
    let root = region_of c.args.root in
    let h = c.requires.tree in
    let nodes = c.args.nodes.now in
    let lengths = c.args.lengths.now in
    let cells = c.args.cells.now in
    let places = c.as_slice.result.now in
    let counts = counted g.row.D root nodes lengths cells places h (ap (map placed_of) c.as_slice.ensures.value ∙ c.in_ok-layout.ensures.places) in
    record {
      dims = h.are.tree.few_dims;
      dimensions = dimensions_below g.row.D root nodes lengths cells h;
      lengths = places_small places lengths (ap (map placed_of) c.as_slice.ensures.value ∙ c.in_ok-layout.ensures.places)
          (lengths_small g.row.D root nodes lengths cells h);
      many_nodes = counts.nodes_are;
      many_cells = counts.cells_are;
    }

pub body_of-requires : goal.body_of-requires
body_of-requires g c =
    let counts = counted g.row.D (region_of c.args.root) c.args.nodes.now c.args.lengths.now c.args.cells.now c.as_slice.result.now c.requires.tree
    (ap (map placed_of) c.as_slice.ensures.value ∙ c.in_ok-layout.ensures.places) in
    let same = counts.places_are in
    let few = counts.few in
    (search rules, (search rules, omega arith))

pub of_parts-requires : goal.of_parts-requires
of_parts-requires g c = (
  search rules,
  (
    search rules,
    is_index g.row.D (region_of c.args.root) c.args.nodes.now c.args.lengths.now c.args.cells.now c.in_ok-bytes.bytes.items c.in_ok-layout.layout.pages
        c.requires.tree
        (c.in_ok-bytes.ensures c.requires.tree.tree
        (whole_part g.row.D (region_of c.args.root) c.args.nodes.now c.args.lengths.now c.args.cells.now c.as_slice.result.now c.requires.tree.tree
        c.requires.tree.are
        (ap (map placed_of) c.as_slice.ensures.value ∙ c.in_ok-layout.ensures.places))) c.in_ok-layout.ensures.pages,
  ),
)

pub returns-clause-packed : goal.returns-clause-packed
returns-clause-packed g c = λ t h.
    let root = region_of c.args.root in
    subst (λ (b : Body). (b.form ≡ 3) × (b.leaves ≡ length c.args.lengths.now) × HasTree g.row.D b root t) (sym c.of_parts.ensures) (
      refl,
      refl,
      spelled_body g.row.D root c.args.nodes.now c.args.lengths.now c.args.cells.now c.in_ok-bytes.bytes.items t h
          (c.in_ok-bytes.ensures t (whole_part g.row.D root c.args.nodes.now c.args.lengths.now c.args.cells.now c.as_slice.result.now t h
          (ap (map placed_of) c.as_slice.ensures.value ∙ c.in_ok-layout.ensures.places))),
    )

pub returns-clause-spelled : goal.returns-clause-spelled
returns-clause-spelled g c =
    let root = region_of c.args.root in
    let h = c.requires.tree in
    subst (IsSpelled g.row.D) (sym c.of_parts.ensures) (record {
      root = root;
      tree = h.tree;
      has = spelled_body g.row.D root c.args.nodes.now c.args.lengths.now c.args.cells.now c.in_ok-bytes.bytes.items h.tree h.are
          (c.in_ok-bytes.ensures h.tree (whole_part g.row.D root c.args.nodes.now c.args.lengths.now c.args.cells.now c.as_slice.result.now h.tree h.are
          (ap (map placed_of) c.as_slice.ensures.value ∙ c.in_ok-layout.ensures.places)));
    })
