use Rattle.std.proofs.Common.{◌∙◌}
use Rattle.ring_parity.proofs.Wide.{kept-product, kept_product_fits, kept_product_small}
use Rattle.ring_parity.proofs.edges.product.Goals as goal

pub overflow_mul-result : goal.overflow_mul-result
overflow_mul-result c =
    kept_product_fits c.difference-first.result c.difference-second.result c.difference-first.ensures.small c.difference-second.ensures.small

pub returns-clause-value : goal.returns-clause-value
returns-clause-value c =
    kept-product c.difference-first.result c.difference-second.result c.difference-first.ensures.small c.difference-second.ensures.small
    ∙ (cc (c.difference-first.ensures.value, c.difference-second.ensures.value))

pub returns-clause-small : goal.returns-clause-small
returns-clause-small c =
    kept_product_small c.difference-first.result c.difference-second.result c.difference-first.ensures.small c.difference-second.ensures.small
