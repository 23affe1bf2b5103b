use Rattle.std.proofs.Common.{◌∙◌}
use Rattle.ring_parity.specs.Edges.{side}
use Rattle.ring_parity.proofs.Wide.{kept-difference, kept_difference_fits}
use Rattle.ring_parity.proofs.edges.side.Goals as goal

pub overflow_sub-result : goal.overflow_sub-result
overflow_sub-result c = kept_difference_fits c.product-across.result c.product-along.result c.product-across.ensures.small c.product-along.ensures.small

pub returns : goal.returns
unfolding side
returns c =
    kept-difference c.product-across.result c.product-along.result c.product-across.ensures.small c.product-along.ensures.small
    ∙ (cc (c.product-across.ensures.value, c.product-along.ensures.value))
