use Rattle.page_cache.specs.FilePages.{kind_of, number_of}
use Rattle.page_file.specs.Page.{IsPage}
use Rattle.page_cache.proofs.OneRead.{page_of_file, checked_whole}
use Rattle.page_cache.proofs.read.read_over.Goals as goal

pub returns-clause-whole : goal.returns-clause-whole
returns-clause-whole g c = λ told page.
    let came = c.in_ok-count.ensures.whole told c.if-count-lt-PAGE_LEN.false in
    checked_whole c.checked.result (IsPage (kind_of c.args.name.now) (number_of c.args.name.now) c.args.number c.read_bytes.new.page.b)
    (page_of_file (g.F.Pages.files c.args.folder.now) c.args.name.now c.args.number c.read_bytes.new.page.b came page) c.checked.ensures.invalid
