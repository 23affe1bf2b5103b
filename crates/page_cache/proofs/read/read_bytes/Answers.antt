use Rattle.std.proofs.Common.{◌*◌, arith}
use Rattle.page_cache.proofs.OneRead.{read_whole, short_is_none}
use Rattle.page_cache.proofs.read.read_bytes.Goals as goal

pub returns-clause-whole : goal.returns-clause-whole
returns-clause-whole g c = λ told full.
    read_whole (g.F.Pages.files c.args.folder.now) c.args.name.now c.args.number (4096 * c.from.result) c.in_ok-count.count c.args.page.now.b c.read_at.new.buf
    (omega arith) (omega arith) full (c.in_ok-count.ensures.bytes told)

pub returns-clause-none : goal.returns-clause-none
returns-clause-none g c = λ told short.
    short_is_none (g.F.Pages.files c.args.folder.now) c.args.name.now c.args.number (4096 * c.from.result) c.in_ok-count.count c.args.page.now.b
    c.read_at.new.buf
    (omega arith) (omega arith) short (c.in_ok-count.ensures.bytes told)
