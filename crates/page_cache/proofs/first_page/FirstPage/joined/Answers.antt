use Rattle.std.proofs.Common.{◌∙◌}
use Rattle.outer_io.specs.Files.{bytes_of}
use Rattle.page_cache.specs.FirstPages.{first_name, first_payload}
use Rattle.page_cache.proofs.PageRuns.{joined_payloads}
use Rattle.page_cache.proofs.first_page.FirstPage.joined.Goals as goal

pub returns-clause-payloads : goal.returns-clause-payloads
unfolding first_name first_payload
returns-clause-payloads g c = λ told first.
    joined_payloads (bytes_of (g.F.Pages.files c.args.folder.now c.args.self.now.name)) c.in_ok-out.out.items c.extend_from_slice.new.self.items
    c.append_payloads.new.out.items
    c.payload.result.now c.args.pages c.requires c.in_ok-out.ensures.items c.in_ok-extend_from_slice.ensures.items (c.payload.ensures.bytes ∙ first.payload)
    (c.in_ok-append_payloads.ensures.payloads told)
