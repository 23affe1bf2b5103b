use Rattle.std.proofs.Common.{arith, rules}
use Rattle.leaf_codec.proofs.ViewLemmas.{said_length, said_point}
use Rattle.leaf_codec.proofs.view.LeafView.point.Goals as goal

pub point-requires : goal.point-requires
point-requires g c =
    let h = c.self.inside.readable in (
      search rules,
      (
        search rules,
        (
          (h.some_dims, h.few_dims),
          (
            h.keys,
            (h.slots, omega (arith, h.counted, said_length g.row.D c.self.inside.numbers c.self.inside.parts c.args.self.now c.self.view_is, c.requires)),
          ),
        ),
      ),
    )

pub returns : goal.returns
returns g c =
    let v = c.self.inside in
    said_point g.row.D v.numbers v.parts c.args.i c.args.self.now c.point.result.c c.self.view_is c.requires c.point.ensures
