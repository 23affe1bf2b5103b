use Rattle.std.proofs.Common.{◌≡◌, ◌≤◌, ◌+◌, ◌++◌, take}
use Rattle.point_codec.specs.Seen.{items_of}
use Rattle.documents.specs.Entries.{numbers_found}
use Rattle.segment_view.proofs.visiting.visit_buffer.Given as goal

abbrev pub invariant-loop-entry : goal.invariant-loop-entry
invariant-loop-entry g l = record {
  found : l.hits.items ≡ l.initial.hits.items ++ numbers_found (g.S.Shape.has l.initial.shape) (items_of (take l.entry-index l.buffer));
  tests : g.S.Shape.tests l.shape ≤ g.S.Shape.tests l.initial.shape + l.entry-index;
  compares : g.S.Shape.compares l.shape ≡ g.S.Shape.compares l.initial.shape;
  has : g.S.Shape.has l.shape ≡ g.S.Shape.has l.initial.shape;
  crosses : g.S.Shape.crosses l.shape ≡ g.S.Shape.crosses l.initial.shape;
}
