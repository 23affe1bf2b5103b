use Rattle.std.proofs.Common.{arith, get_or}
use Rattle.leaf_codec.proofs.Pieces.{pieces_from}
use Rattle.leaf_codec.proofs.runs.first_piece.Goals as goal

pub returns-clause-piece : goal.returns-clause-piece
returns-clause-piece c =
    pieces_from (get_or c.args.bytes.now 0 0) c.min-most.result c.args.bytes.now (omega arith) (omega arith) (omega arith)
    (λ k lt. c.loop-n.invariant k (omega arith)) (λ lt few. absurd (omega arith))

pub returns-then-bytes-n-clause-piece : goal.returns-then-bytes-n-clause-piece
returns-then-bytes-n-clause-piece c =
    pieces_from (get_or c.args.bytes.now 0 0) c.loop-n.n c.args.bytes.now (omega arith) (omega arith) (omega arith)
    c.loop-n.invariant (λ lt few. c.if-bytes-n.true)
