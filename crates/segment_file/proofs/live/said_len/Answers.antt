use Rattle.std.proofs.Common.{arith, ◌-◌, ◌*◌, length, replicate}
use Rattle.page_cache.specs.Bodies.{pages_for}
use Rattle.segment_file.proofs.live.said_len.Goals as goal

pub no_body-requires : goal.no_body-requires
no_body-requires c = λ s body rest h e. c.in-None.ensures.none s body rest (replicate (4064 * pages_for (length body) - length body) 0) (omega arith) h e

pub returns-in-Some-clause-len : goal.returns-in-Some-clause-len
returns-in-Some-clause-len c = λ s body x y h e. c.in-Some.ensures.some s body x y (omega arith) h e
