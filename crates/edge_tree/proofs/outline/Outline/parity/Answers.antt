use Rattle.std.proofs.Common.{sym, ◌∙◌}
use Rattle.edge_tree.specs.Outlines.{Outlines}
use Rattle.edge_tree.proofs.Passing.{off_ray, place_west}
use Rattle.edge_tree.proofs.outline.Outline.parity.Goals as goal

pub returns-then-is_off_ray : goal.returns-then-is_off_ray
returns-then-is_off_ray c = λ run (o : Outlines run c.args.self.now).
    off_ray c.args.self.now.bounds run c.args.p.now.c o.boxed (sym c.is_off_ray.ensures ∙ c.if-is_off_ray.true)

pub returns-in-Some : goal.returns-in-Some
returns-in-Some c = λ run (o : Outlines run c.args.self.now).
    place_west c.args.self.now run c.args.p.now.c c.in-Some.climb c.passes.result o (sym c.is_east_of.ensures ∙ c.if-not-is_east_of.false) c.in-Some.is
    c.passes.ensures
