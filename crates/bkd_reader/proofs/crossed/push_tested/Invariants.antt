use Rattle.std.proofs.Common.{◌≡◌, ◌≤◌, ◌+◌, ◌++◌, length, take}
use Rattle.bkd_reader.specs.Hits.{hits_in}
use Rattle.bkd_reader.proofs.crossed.push_tested.Given as goal

abbrev pub invariant-loop-i : goal.invariant-loop-i
invariant-loop-i g l = record {
  hits : l.hits.items ≡ l.initial.hits.items ++ hits_in (g.S.Shape.has l.initial.shape) l.live (take l.i l.leaf);
  within : l.i ≤ length l.leaf;
  tests : g.S.Shape.tests l.shape ≤ g.S.Shape.tests l.initial.shape + l.i;
  compares : g.S.Shape.compares l.shape ≡ g.S.Shape.compares l.initial.shape;
  has : g.S.Shape.has l.shape ≡ g.S.Shape.has l.initial.shape;
  crosses : g.S.Shape.crosses l.shape ≡ g.S.Shape.crosses l.initial.shape;
}
