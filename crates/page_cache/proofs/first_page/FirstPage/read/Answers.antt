use Rattle.std.proofs.Common.{sym, ap}
use Rattle.outer_io.specs.Files.{size_of}
use Rattle.page_cache.proofs.FileSizes.{no_file_no_page}
use Rattle.page_cache.proofs.first_page.FirstPage.read.Goals as goal

pub returns-in-None-clause-whole : goal.returns-in-None-clause-whole
returns-in-None-clause-whole g c = λ told page.
    let gone = rw c.in-None.is at (c.in_ok-first.ensures.none told) in
    no_file_no_page c.args.name.now (g.F.Pages.files c.args.folder.now c.args.name.now) (sym (ap size_of gone)) page
