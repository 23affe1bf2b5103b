-- The order of the bytes is that of the numbers.
use Rattle.std.proofs.Common.{◌∙◌}
use Rattle.std.specs.Ordering.{nat_cmp}
use Rattle.std.specs.Cmp.Lexicographic.{slice_cmp}
use Rattle.point_codec.proofs.KeyOrder.{keys_cmp}
use Rattle.point_codec.proofs.keys.key_order.Goals as goal

pub returns-clause-numbers : goal.returns-clause-numbers
returns-clause-numbers c x y f g a b = c.cmp.ensures ∙ (λ i. slice_cmp nat_cmp (a i) (b i)) ∙ keys_cmp x y f g
