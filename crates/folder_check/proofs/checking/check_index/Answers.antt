use Rattle.std.proofs.Common.{◌≤◌, subst}
use Rattle.point_codec.proofs.Sizes.{entry_fits}
use Rattle.folder_check.proofs.checking.check_index.Goals as goal

pub look_through-requires : goal.look_through-requires
look_through-requires g c = (entry_fits g.row.D (subst (λ n. n ≤ 8) c.requires c.dims-dims.ensures.commit.ranges.most_dims), c.requires)
