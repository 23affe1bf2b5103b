-- The numbers of what waits stay below the next.
use Rattle.std.proofs.Common.{◌+◌, ◌<◌, arith}
use Rattle.std.proofs.lemmas.List.Elements.{All-weaker}
use Rattle.point_codec.specs.Points.{Item}
use Rattle.point_codec.specs.Seen.{items_of}
use Rattle.segment_set.specs.Waiting.{came_as}
use Rattle.segment_set.proofs.buffer.Buffer.pass.Goals as goal

pub invariant_of-self : goal.invariant_of-self
invariant_of-self g c = record {
  ordered = c.self.invariant.ordered;
  below = All-weaker (λ (x : Item). came_as x.doc < c.self.inside.next) (λ (x : Item). came_as x.doc < c.self.inside.next + c.args.count)
      (λ x lt. omega (arith, lt)) (items_of c.self.inside.entries.items) c.self.invariant.below;
  counted = c.self.invariant.counted;
}
