use Rattle.std.proofs.Common.{length}
use Rattle.inner_pack.proofs.pack.+put_node.Given as goal

abbrev pub decreases-put_node : goal.decreases-put_node
decreases-put_node g l = length l.part.places.now
