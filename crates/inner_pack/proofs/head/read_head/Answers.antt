use Rattle.std.proofs.Common.{◌≤◌, arith}
use Rattle.inner_pack.proofs.head.read_head.Goals as goal

pub returns-else-form-eq1-clause-only : goal.returns-else-form-eq1-clause-only
returns-else-form-eq1-clause-only g c s path d x l r room fits h =
    let packed : 2 ≤ c.args.form = omega (arith, c.requires.form, c.if-form-eq1.false) in
    c.packed_head.ensures.only c.args.form c.args.leaves s path d x l r packed c.requires.leaves.1 fits h
