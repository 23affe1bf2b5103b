-- What is behind the copied bytes are the zeros that were there.
use Rattle.std.proofs.Common.{ap, length, ◌++◌}
use Rattle.std.proofs.lemmas.List.{drop-replicate}
use Rattle.point_codec.proofs.names.padded.Goals as goal

pub returns : goal.returns
returns c = rw c.copy_from_slice.ensures.after (ap (λ z. c.args.b.now ++ z) (drop-replicate (length c.args.b.now) 32 0))
