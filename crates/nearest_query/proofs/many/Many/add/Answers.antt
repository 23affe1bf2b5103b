use Rattle.std.proofs.Common.{◌∷◌, refl, arith}
use Rattle.nearest_query.specs.Best.{AreKept, IsInserted}
use Rattle.nearest_query.proofs.Kept.{added_best, replaced_best}
use Rattle.nearest_query.proofs.many.Many.add.Goals as goal
use Rattle.segment_file.proofs.Subtrees.{on_ok}

pub returns-then-len-self-clause-best : goal.returns-then-len-self-clause-best
returns-then-len-self-clause-best c = λ entries best e after.
    on_ok (IsInserted c.args.near c.args.self.now c.insert_near.new.self) (AreKept (c.args.near ∷ entries) c.insert_near.new.self) c.insert_near.result
    (λ put. added_best entries c.args.self.now c.insert_near.new.self c.args.near best e (omega (arith, c.if-len-self.true, c.len.ensures.len)) put)
    c.insert_near.ensures.put

pub returns-in-Some-clause-best : goal.returns-in-Some-clause-best
returns-in-Some-clause-best c = λ entries best e after.
    on_ok (IsInserted c.args.near (record c.args.self.now { in_order = c.pop_last.new.self; distances = c.remove.new.self }) c.insert_near-in-Some.new.self)
    (AreKept (c.args.near ∷ entries) c.insert_near-in-Some.new.self) c.insert_near-in-Some.result
    (λ put. replaced_best entries c.args.self.now (record c.args.self.now { in_order = c.pop_last.new.self; distances = c.remove.new.self })
    c.insert_near-in-Some.new.self c.args.near c.in-Some.last best e
    (omega (arith, c.if-len-self.false, c.len.ensures.len)) (after (omega (arith, c.if-len-self.false, c.len.ensures.len))) refl c.in-Some.ensures.removal
    c.in-Some.ensures.all_below c.in-Some.ensures.updates c.remove.ensures.updates put)
    c.insert_near-in-Some.ensures.put
