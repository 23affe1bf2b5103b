use Rattle.std.proofs.Common.{refl}
use Rattle.edge_tree.proofs.Levels.{lowest_stands}
use Rattle.edge_tree.proofs.locator.lowest.Goals as goal

pub returns : goal.returns
returns c =
    lowest_stands c.args.edges.now c.args.plane.now c.location_in-corner.result.odd c.turned-beside.result.odd _ c.location_in-corner.ensures.odd_is
    c.turned-beside.ensures.odd_is refl
