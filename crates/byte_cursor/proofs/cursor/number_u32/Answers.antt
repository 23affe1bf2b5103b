use Rattle.std.proofs.Common.{arith}
use Rattle.byte_cursor.proofs.Numbers.{spelt_32}
use Rattle.byte_cursor.proofs.cursor.number_u32.Goals as goal

pub returns : goal.returns
returns c = spelt_32 c.args.front.now c.read_u32.result c.requires (λ i. omega (arith, c.type_inv.front i)) c.read_u32.ensures
