use Rattle.std.proofs.Common.{refl}
use Rattle.page_file.specs.Page.{page_digest}
use Rattle.page_file.proofs.digest.digest_of.Goals as goal

pub returns-clause-value : goal.returns-clause-value
unfolding page_digest
returns-clause-value c =
    let all = c.finalize.ensures _ (c.update-4.ensures _ (c.update-3.ensures _ (c.update-2.ensures _ (c.update.ensures _ c.new-hasher.ensures)))) in
    rw (all, c.to_be_bytes.ensures, c.to_be_bytes-2.ensures) refl
