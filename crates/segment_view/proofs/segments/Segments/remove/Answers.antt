use Rattle.segment_view.proofs.Beside.{ids_in_step, in_step_but}
use Rattle.segment_view.proofs.segments.Segments.remove.Goals as goal

pub invariant_of-self : goal.invariant_of-self
invariant_of-self g c =
    in_step_but g.row.D c.args.ids.now c.self.inside.heads.items c.remove_pairs.new.heads.items c.self.inside.lives.items c.remove_pairs.new.lives.items
    c.self.invariant c.remove_pairs.ensures.same c.remove_pairs.ensures.rest

pub returns-clause-ascend : goal.returns-clause-ascend
returns-clause-ascend g c =
    ids_in_step g.row.D c.remove_pairs.new.heads.items c.remove_pairs.new.lives.items
    (in_step_but g.row.D c.args.ids.now c.self.inside.heads.items c.remove_pairs.new.heads.items c.self.inside.lives.items c.remove_pairs.new.lives.items
    c.self.invariant c.remove_pairs.ensures.same c.remove_pairs.ensures.rest)
