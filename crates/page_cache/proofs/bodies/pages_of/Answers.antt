use Rattle.page_cache.proofs.Sealed.{body_file}
use Rattle.page_cache.proofs.bodies.pages_of.Goals as goal

pub returns : goal.returns
returns c = body_file c.args.name.now c.args.body.now c.new-out.result.items c.put_pages.new.out.items c.new-out.ensures.items c.in_ok-put_pages.ensures.ok
