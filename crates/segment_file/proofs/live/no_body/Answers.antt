use Rattle.std.proofs.Common.{refl}
use Rattle.segment_file.proofs.live.no_body.Goals as goal

pub returns-in-Ok-clause-shown : goal.returns-in-Ok-clause-shown
returns-in-Ok-clause-shown c = (refl, rw (c.new.ensures, c.in-Ok.ensures.items) c.requires)
