use Rattle.commit_list.proofs.Bodies.{begins-ranges}
use Rattle.commit_list.proofs.reading.body_length.Goals as goal

pub returns-then-not-is_in_range-clause-none : goal.returns-then-not-is_in_range-clause-none
returns-then-not-is_in_range-clause-none c = λ n h.
    absurd (let fine =
    c.if-not-is_in_range.ensures.1 (begins-ranges c.args.bytes.now n c.in_ok-head.head _ c.in_ok-head.ensures.fits c.in_ok-head.ensures.some h) in cc)
