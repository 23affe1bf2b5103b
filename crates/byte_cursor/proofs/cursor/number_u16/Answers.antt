use Rattle.std.proofs.Common.{arith}
use Rattle.byte_cursor.proofs.Numbers.{spelt_16}
use Rattle.byte_cursor.proofs.cursor.number_u16.Goals as goal

pub returns : goal.returns
returns c = spelt_16 c.args.front.now c.read_u16.result c.requires (λ i. omega (arith, c.type_inv.front i)) c.read_u16.ensures
