use Rattle.std.proofs.Common.{arith}
use Rattle.byte_cursor.proofs.Numbers.{spelt_64}
use Rattle.byte_cursor.proofs.cursor.number_u64.Goals as goal

pub returns : goal.returns
returns c = spelt_64 c.args.front.now c.read_u64.result c.requires (λ i. omega (arith, c.type_inv.front i)) c.read_u64.ensures
