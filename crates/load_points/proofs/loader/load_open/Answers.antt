-- As many columns as dimensions are loaded, and others refused.
use Rattle.std.proofs.Common.{refl}
use Rattle.index_core.proofs.Sizes.{session_fits}
use Rattle.load_points.proofs.Loading.{loads_as, loads_told}
use Rattle.load_points.proofs.loader.load_open.Goals as goal

pub load_into-requires-after_bounds : goal.load_into-requires-after_bounds
load_into-requires-after_bounds g c κs = λ _. (session_fits g.row.D c.requires.most_dims, (c.requires.least_dims, (c.requires.most_dims, c.if-count.true)))

pub returns-then-count : goal.returns-then-count
returns-then-count g c = loads_as _ _ _ _ _ _ _ _ _ c.load_into.result (λ trusts. trusts) (λ stored h. h.0) (λ stored h. refl) c.load_into.ensures

pub returns-else-count : goal.returns-else-count
returns-else-count g c =
    loads_as _ _ _ _ _ _ _ _ _ c.refuse_dims.result (λ trusts. tt) (λ stored h. h.1) (λ stored h. refl)
    (loads_told _ _ _ _ _ _ c.refuse_dims.result (c.refuse_dims.ensures _ _))
