-- A damage that is answered is told as the status.
use Rattle.index_opening.proofs.Evident.{on_evident_files}
use Rattle.std.proofs.Common.{IsTrue}
use Rattle.batch_queries.proofs.run.run_batch.Goals as goal

pub returns-in-Ok-clause-evident : goal.returns-in-Ok-clause-evident
returns-in-Ok-clause-evident g c =
    let new = g.F.Pages.files c.answer.new.folder in
    c.tell.ensures.evident g.F.Pages.told new
    (on_evident_files (IsTrue g.F.Pages.told) (IsTrue g.F.Pages.told) (g.F.Pages.files c.args.folder.now) new c.answer.result (λ told. told)
    c.answer.ensures.files c.answer.ensures.evident)
