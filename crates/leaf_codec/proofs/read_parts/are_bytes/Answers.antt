use Rattle.std.proofs.Common.{arith}
use Rattle.leaf_codec.proofs.CanonicalNumbers.{AreBytes-from}
use Rattle.leaf_codec.proofs.read_parts.are_bytes.Goals as goal

pub returns : goal.returns
returns c = AreBytes-from c.args.bytes.now (λ i. omega (arith, c.type_inv.bytes i))
