-- A commit has 1 to 8 dimensions, and so has a new index.
use Rattle.std.proofs.Common.{arith}
use Rattle.script_run.proofs.origin.Origin.dims.Goals as goal

pub returns-in-Stored-clause-some : goal.returns-in-Stored-clause-some
returns-in-Stored-clause-some c = omega (arith, c.dims.ensures.value, c.dims.ensures.commit.ranges.some_dims)

pub returns-in-Stored-clause-few : goal.returns-in-Stored-clause-few
returns-in-Stored-clause-few c = omega (arith, c.dims.ensures.value, c.dims.ensures.commit.ranges.most_dims)

pub returns-in-New-clause-some : goal.returns-in-New-clause-some
returns-in-New-clause-some c = let made = rw c.in-New.is at c.requires in made.0

pub returns-in-New-clause-few : goal.returns-in-New-clause-few
returns-in-New-clause-few c = let made = rw c.in-New.is at c.requires in made.1
