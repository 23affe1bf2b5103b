use Rattle.std.proofs.Common.{subst}
use Rattle.std.proofs.Math.Logic.{∥∥₁_elim, ∥∥₁_prop}
use Rattle.std.proofs.lemmas.Grind.{merely}
use Rattle.point_codec.specs.Seen.{region_of}
use Rattle.inner_pack.specs.Bodies.{Body, IsSpelled}
use Rattle.inner_pack.proofs.index.Index.is_spelled.Goals as goal

pub returns : goal.returns
returns g c =
    let i = c.self.inside in
    subst (λ (b : Body). ∥ IsSpelled g.row.D b ∥₁) c.self.view_is
    (∥∥₁_elim i.valid ∥∥₁_prop (λ v. merely (record { root = region_of i.root; tree = v.tree; has = v.spelled })))
