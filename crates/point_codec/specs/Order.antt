-- The different elements of a list in ascending order.
use Rattle.std.specs.Prelude.{List, map}
use Rattle.std.specs.declared.cmp.Ordering.{Ordering}
use Rattle.std.specs.FinMap.{keys, from_entries}

-- the different ones among the elements, in ascending order: the keys of a finite map with an entry for each
abbrev pub in_order : {K : Type 0} → (K → K → Ordering) → List K → List K
in_order {K} cmp xs = keys (from_entries {R = cmp} (map {B = K × Unit {0}} (λ x. (x, tt)) xs))
