-- What the call read is appended.
use Rattle.std.proofs.Common.{ℕ, List, ◌++◌, ◌*◌, ◌∙◌, ap, replicate}
use Rattle.std.proofs.lemmas.List.{length-replicate}
use Rattle.batch_run.proofs.PartsRead.{part_read}
use Rattle.batch_run.proofs.copying.append_page.Goals as goal

pub returns-clause-page : goal.returns-clause-page
returns-clause-page g c = λ told.
    c.in_ok-extend_from_slice.ensures.items
    ∙ ap (λ (xs : List ℕ). c.args.bytes.now.items ++ xs)
    (part_read (g.F.Pages.files c.args.folder.now c.args.name.now) (4096 * c.args.page) c.in_ok-count.count (replicate 4096 0) c.read_at.new.buf
    (length-replicate {A = ℕ} 4096 0) (c.in_ok-count.ensures.bytes told))
