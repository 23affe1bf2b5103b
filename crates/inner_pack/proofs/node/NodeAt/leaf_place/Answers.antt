use Rattle.std.proofs.Common.{◌≡◌, ◌∙◌, sym, ap, subst, arith}
use Rattle.std.proofs.Math.Logic.{∥∥₁_elim}
use Rattle.std.proofs.Math.Bridge.{le_prop}
use Rattle.inner_pack.specs.Places.{Spot, spot_at}
use Rattle.inner_pack.specs.Trees.{Leaf}
use Rattle.inner_pack.specs.Bodies.{first_length}
use Rattle.inner_pack.specs.Spelled.{IsNodeOf}
use Rattle.inner_pack.proofs.Walking.{leaf_node}
use Rattle.inner_pack.proofs.node.NodeAt.leaf_place.Goals as goal

pub returns-clause-some : goal.returns-clause-some
returns-clause-some g c first s path t h =
    let N = c.args.self.now in
    let same : s ≡ spot_at N.page N.offset = (λ i. spot_at (sym h.page_is i) (sym h.offset_is i)) in
    let here = subst (λ (v : Spot). IsNodeOf g.row.D N.form N.leaves v path N.references N.bytes.now N.places.now t) same h.is in
    let one : N.leaves ≡ 1 = omega arith in
    let lf = leaf_node g.row.D N.form N.leaves (spot_at N.page N.offset) path N.references N.bytes.now N.places.now t one here in
    let size : c.length.result ≡ lf.size = c.length.ensures path t here ∙ ap first_length lf.is in
    record { own = lf.own; is = lf.is ∙ (λ i. Leaf (sym size i) lf.own); page = h.page_is; offset = h.offset_is }

pub returns-clause-fits : goal.returns-clause-fits
returns-clause-fits g c =
    let N = c.args.self.now in
    ∥∥₁_elim N.some le_prop (λ q. let room = q.is.fits in let size = c.length.ensures q.path q.tree q.is in omega arith)
