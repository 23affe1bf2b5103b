use Rattle.std.proofs.Common.{◌≡◌, ◌+◌, ◌∙◌, map, sym, refl, ap, arith}
use Rattle.point_codec.specs.Keys.{key}
use Rattle.point_codec.specs.Seen.{region_of}
use Rattle.inner_pack.specs.Places.{Spot, front, leaf_begin}
use Rattle.inner_pack.specs.Bodies.{first_length}
use Rattle.inner_pack.specs.Spelled.{spelled_part, told_part}
use Rattle.inner_pack.proofs.PlaceLemmas.{fitted_here, first_fits}
use Rattle.inner_pack.proofs.NodeLemmas.{said_otherwise}
use Rattle.inner_pack.proofs.OneTree.{root_node}
use Rattle.inner_pack.proofs.SameNodes.{with_bytes}
use Rattle.inner_pack.proofs.index.checked_tree.Goals as goal

pub returns-in_err-part-clause-only : goal.returns-in_err-part-clause-only
returns-in_err-part-clause-only g c t h =
    absurd (c.in_err-part.ensures.only (map key (region_of c.args.root.now).lo) t h.shaped h.spelled)

pub returns-in_err-span-clause-only : goal.returns-in_err-span-clause-only
returns-in_err-span-clause-only g c t h =
    let D = g.row.D in
    let form = c.args.form in
    let n = c.args.leaves in
    let root = region_of c.args.root.now in
    let refs = map key root.lo in
    let same : c.keys_of.result ≡ refs = c.keys_of.ensures ∙ ap (map key) c.lo.ensures.value in
    let parts = c.in_ok-part.ensures.only refs t h.shaped h.spelled in
    let here : leaf_begin front (first_length t) ≡ front = fitted_here front (first_length t) (omega (arith, first_fits t h.lengths)) in
    let node = with_bytes D form n front root root refs refs (spelled_part form refs front t) c.in_ok-part.part.bytes.now (told_part form front t)
    c.in_ok-part.part.places.now t refl refl parts.0 parts.1 (root_node D form n root c.args.b.now t c.requires.form.0 c.requires.form.1 h) in
    absurd (c.in_err-span.ensures.only t
    (said_otherwise D form n front (leaf_begin front (first_length t)) root root refs c.keys_of.result c.in_ok-part.part.bytes.now c.in_ok-part.part.places.now
    t
    here refl same node))

pub returns-clause-found : goal.returns-clause-found
returns-clause-found g c =
    let D = g.row.D in
    let form = c.args.form in
    let n = c.args.leaves in
    let root = region_of c.args.root.now in
    let refs = map key root.lo in
    let same : c.keys_of.result ≡ refs = c.keys_of.ensures ∙ ap (map key) c.lo.ensures.value in
    let found = c.in_ok-span.ensures.found in
    let t = found.tree in
    let here : leaf_begin front (first_length t) ≡ front = fitted_here front (first_length t) (omega (arith, first_fits t found.is.lengths)) in
    let node = said_otherwise D form n (leaf_begin front (first_length t)) front root root c.keys_of.result refs c.in_ok-part.part.bytes.now
    c.in_ok-part.part.places.now t (sym here) refl (sym same) found.is in
    record {
      tree = t;
      is = record {
        shaped = node.shaped;
        cells = node.cells;
        path_cells = node.path_cells;
        lengths = node.lengths;
        spelled = c.in_ok-part.ensures.found refs t node.spelled node.told;
      };
      pages_are = ap (λ (s : Spot). s.page + 1) found.span.end;
    }
