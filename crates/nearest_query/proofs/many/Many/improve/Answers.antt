use Rattle.std.proofs.Common.{◌∷◌, refl}
use Rattle.nearest_query.specs.Best.{AreKept, IsInserted}
use Rattle.nearest_query.proofs.Kept.{stay_best, improved_best}
use Rattle.nearest_query.proofs.many.Many.improve.Goals as goal
use Rattle.segment_file.proofs.Subtrees.{on_ok}

pub returns-then-dist2-near-clause-best : goal.returns-then-dist2-near-clause-best
returns-then-dist2-near-clause-best c = λ entries best e. stay_best entries c.args.self.now c.args.near c.args.dist2 best e c.if-dist2-near.true

pub returns-clause-best : goal.returns-clause-best
returns-clause-best c = λ entries best e.
    on_ok (IsInserted c.args.near (record c.args.self.now { in_order = c.remove.new.self }) c.insert_near.new.self)
    (AreKept (c.args.near ∷ entries) c.insert_near.new.self)
    c.insert_near.result
    (λ put.
    improved_best entries c.args.self.now (record c.args.self.now { in_order = c.remove.new.self }) c.insert_near.new.self c.args.near c.args.dist2 best e
    c.if-dist2-near.false refl refl c.remove.ensures.updates (rw (← c.remove.ensures.test) c.remove.ensures.len) put)
    c.insert_near.ensures.put
