-- The body of a commit is short.
use Rattle.std.proofs.Common.{arith, ap, length}
use Rattle.commit_list.proofs.CommitPages.{body_short}
use Rattle.batch_run.proofs.copying.commit_file.Goals as goal

pub pages_of-requires : goal.pages_of-requires
pages_of-requires c =
    let short = body_short c.in_ok-body.body c.args.c.now c.in_ok-body.ensures.spells in
    omega (arith, short.1, ap length c.as_slice.ensures)
