use Rattle.std.proofs.Common.{refl, rules}
use Rattle.std.proofs.Math.Logic.{∥∥₁_elim, ∥∥₁_prop}
use Rattle.std.proofs.lemmas.Grind.{merely}
use Rattle.point_codec.specs.Seen.{region_of}
use Rattle.inner_pack.specs.Spelled.{IsSomeLeaf}
use Rattle.inner_pack.specs.Heads.{spot_of}
use Rattle.inner_pack.proofs.node.NodeAt.new.Goals as goal

pub cell_at-requires : goal.cell_at-requires
cell_at-requires g c =
    let some : ∥ IsSomeLeaf g.row.D c.args.form c.args.leaves (region_of c.args.path.now) c.args.part.bytes.now ∥₁ =
    ∥∥₁_elim c.requires.some ∥∥₁_prop
    (λ q. merely (record { begin = spot_of c.args.begin; references = c.args.references.now; places = c.args.part.places.now; tree = q.tree; is = q.is })) in
    search rules

pub invariant_of-result-clause-some : goal.invariant_of-result-clause-some
invariant_of-result-clause-some g c =
    ∥∥₁_elim c.requires.some ∥∥₁_prop (λ q. merely (record {
      path = region_of c.args.path.now;
      tree = q.tree;
      cell_is = c.cell_at.ensures (spot_of c.args.begin) c.args.references.now c.args.part.places.now q.tree q.is;
      is = q.is;
    }))

pub returns-clause-at : goal.returns-clause-at
returns-clause-at g c t h = record {
  first_is = refl;
  page_is = refl;
  offset_is = refl;
  cell_is = c.cell_at.ensures (spot_of c.args.begin) c.args.references.now c.args.part.places.now t h;
  is = h;
}
