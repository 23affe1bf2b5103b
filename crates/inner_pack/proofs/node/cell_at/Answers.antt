use Rattle.std.proofs.Common.{◌≡◌, ◌≤◌, ◌∙◌, sym, ap, arith}
use Rattle.std.proofs.lemmas.Grind.{not_there}
use Rattle.point_codec.specs.Seen.{region_of}
use Rattle.inner_pack.specs.Trees.{cell_of}
use Rattle.inner_pack.proofs.SpelledLemmas.{to_packed_leaf}
use Rattle.inner_pack.proofs.Walking.{leaf_node}
use Rattle.inner_pack.proofs.node.cell_at.Goals as goal

pub unreachable-requires : goal.unreachable-requires
unreachable-requires g c =
    let one : c.args.leaves ≡ 1 = omega (arith, c.if-leaves-gt1.false, c.requires.leaves) in
    let packed : 2 ≤ c.args.form = omega (arith, c.if-form-ne3.false) in
    let path = region_of c.args.path.now in
    not_there c.requires.some (λ q.
    let lf = leaf_node g.row.D c.args.form c.args.leaves q.begin path q.references c.args.b.now q.places q.tree one q.is in
    c.in_default.ensures.only lf.size lf.own
    (to_packed_leaf g.row.D c.args.form c.args.leaves q.begin path q.references c.args.b.now q.places lf.size lf.own packed lf.node))

pub returns : goal.returns
returns g c s references places t h =
    let one : c.args.leaves ≡ 1 = omega (arith, c.if-leaves-gt1.false, c.requires.leaves) in
    let packed : 2 ≤ c.args.form = omega (arith, c.if-form-ne3.false) in
    let path = region_of c.args.path.now in
    let lf = leaf_node g.row.D c.args.form c.args.leaves s path references c.args.b.now places t one h in
    (c.in-Some.ensures.only lf.size lf.own
    (to_packed_leaf g.row.D c.args.form c.args.leaves s path references c.args.b.now places lf.size lf.own packed lf.node)).1 ∙ sym (ap (cell_of path) lf.is)
