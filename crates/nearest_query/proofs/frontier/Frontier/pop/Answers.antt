use Rattle.std.proofs.Common.{arith}
use Rattle.nearest_query.proofs.frontier.Frontier.pop.Goals as goal

pub returns-clause-fits : goal.returns-clause-fits
returns-clause-fits g c = omega (arith, c.self.inside.nodes.ok.0, c.self.inside.nodes.ok.1, c.self.inside.nodes.small)
