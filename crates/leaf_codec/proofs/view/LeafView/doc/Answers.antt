use Rattle.std.proofs.Common.{arith}
use Rattle.leaf_codec.proofs.ViewLemmas.{said_length, said_doc}
use Rattle.leaf_codec.proofs.view.LeafView.doc.Goals as goal

pub number-requires-clause-within : goal.number-requires-clause-within
number-requires-clause-within g c =
    omega (arith, said_length g.row.D c.self.inside.numbers c.self.inside.parts c.args.self.now c.self.view_is, c.requires)

pub returns : goal.returns
returns g c =
    let v = c.self.inside in
    said_doc g.row.D v.numbers v.parts c.args.i c.args.self.now c.number.result c.self.view_is c.requires c.number.ensures.value
