use Rattle.std.proofs.Common.{◌∙◌, ap, sym}
use Rattle.page_file.specs.Page.{payload_of}
use Rattle.page_cache.specs.FirstPages.{first_name, first_payload, first_size}
use Rattle.page_cache.proofs.FileSizes.{size_is_length, small_file_no_page}
use Rattle.page_cache.proofs.OneRead.{file_of_page}
use Rattle.page_cache.proofs.first_page.FirstPage.find.Goals as goal

pub returns-then-size-clause-whole : goal.returns-then-size-clause-whole
returns-then-size-clause-whole g c = λ told page.
    small_file_no_page c.args.name.now (g.F.Pages.files c.args.folder.now c.args.name.now) c.in-Some.size (sym c.in-Some.is ∙ c.in_ok-size.ensures.length told)
    c.if-size.true page

pub returns-clause-first : goal.returns-clause-first
unfolding first_name first_payload first_size
returns-clause-first g c = λ told.
    let came = rw (c.in_ok-size.ensures.same told) at (c.in_ok-page.ensures.bytes told) in record {
      size = size_is_length (g.F.Pages.files c.args.folder.now c.args.name.now) c.in-Some.size (sym c.in-Some.is ∙ c.in_ok-size.ensures.length told);
      page = file_of_page (g.F.Pages.files c.args.folder.now) c.args.name.now 0 c.in_ok-page.page.value.b came c.in_ok-page.ensures.valid;
      payload = ap payload_of came;
    }
