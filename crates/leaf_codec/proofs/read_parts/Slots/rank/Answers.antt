use Rattle.std.proofs.Common.{arith}
use Rattle.leaf_codec.proofs.ReadKeys.{rank_read, rank_value}
use Rattle.leaf_codec.proofs.read_parts.Slots.rank.Goals as goal

pub word-requires : goal.word-requires
word-requires g c =
    (rank_read g.row.D c.args.parts.now c.args.self.now c.args.i c.args.d c.requires.parts c.requires.slots c.requires.within c.requires.dimension).within

pub overflow_add-i : goal.overflow_add-i
overflow_add-i g c =
    omega (
      arith,
      (rank_read g.row.D c.args.parts.now c.args.self.now c.args.i c.args.d c.requires.parts c.requires.slots c.requires.within c.requires.dimension).within,
      c.type_inv.parts,
    )

pub overflow_mul-result : goal.overflow_mul-result
overflow_mul-result g c =
    let v = rank_value g.row.D c.args.parts.now c.args.self.now c.args.i c.args.d c.from.result c.word.result c.requires.parts c.requires.slots
    c.requires.within c.requires.dimension c.from.ensures c.word.ensures in
    omega (arith, v.0, v.1)

pub overflow_add-result : goal.overflow_add-result
overflow_add-result g c =
    let v = rank_value g.row.D c.args.parts.now c.args.self.now c.args.i c.args.d c.from.result c.word.result c.requires.parts c.requires.slots
    c.requires.within c.requires.dimension c.from.ensures c.word.ensures in
    omega (arith, v.0, v.1)

pub overflow_add-result-2 : goal.overflow_add-result-2
overflow_add-result-2 g c =
    let v = rank_value g.row.D c.args.parts.now c.args.self.now c.args.i c.args.d c.from.result c.word.result c.requires.parts c.requires.slots
    c.requires.within c.requires.dimension c.from.ensures c.word.ensures in
    omega (arith, v.0, v.1)

pub returns : goal.returns
returns g c =
    (rank_value g.row.D c.args.parts.now c.args.self.now c.args.i c.args.d c.from.result c.word.result c.requires.parts c.requires.slots c.requires.within
    c.requires.dimension c.from.ensures c.word.ensures).0
