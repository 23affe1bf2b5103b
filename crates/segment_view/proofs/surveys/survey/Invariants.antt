use Rattle.std.proofs.Common.{◌≡◌, ◌≤◌, ◌+◌, ◌*◌, take}
use Rattle.segment_view.specs.LiveSegments.{heads_of}
use Rattle.segment_view.specs.Costs.{leaves_in, AreTested, AreTouched}
use Rattle.segment_view.proofs.surveys.survey.Given as goal

abbrev pub invariant-loop-i : goal.invariant-loop-i
invariant-loop-i g l = record {
  tested : AreTested g.row.D (g.S.Shape.crosses l.initial.shape) (heads_of (take l.i l.segments)) l.all.tested;
  touched : AreTouched g.row.D (g.S.Shape.has l.initial.shape) (g.S.Shape.crosses l.initial.shape) (heads_of (take l.i l.segments)) l.all.touched;
  leaves : l.all.leaves ≡ leaves_in (heads_of (take l.i l.segments));
  few_tested : l.all.tested ≤ l.i * (4000 * 8388608);
  few_touched : l.all.touched ≤ l.i * 8388608;
  few_leaves : l.all.leaves ≤ l.i * 8388608;
  tests : g.S.Shape.tests l.shape ≡ g.S.Shape.tests l.initial.shape;
  compares : g.S.Shape.compares l.shape ≤ g.S.Shape.compares l.initial.shape + 2 * leaves_in (heads_of (take l.i l.segments));
  has : g.S.Shape.has l.shape ≡ g.S.Shape.has l.initial.shape;
  crosses : g.S.Shape.crosses l.shape ≡ g.S.Shape.crosses l.initial.shape;
}
