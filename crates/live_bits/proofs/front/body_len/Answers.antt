use Rattle.std.proofs.Common.{arith}
use Rattle.live_bits.proofs.Fronts.{begins, front_of}
use Rattle.live_bits.proofs.front.body_len.Goals as goal

pub returns-clause-some : goal.returns-clause-some
returns-clause-some c = λ s body x y long h e.
    let f = c.in_ok-sizes.sizes in
    let fits = c.in_ok-sizes.ensures.fits in
    let front = front_of c.args.segment c.args.generation s c.args.front.now body x y f.base f.span f.count _ long h e fits.0 fits.1 fits.2
    c.in_ok-sizes.ensures.some in
    front.len

pub returns-in_err-sizes-clause-none : goal.returns-in_err-sizes-clause-none
returns-in_err-sizes-clause-none c =
    rw c.from_residual.ensures
    (λ s body x y long h e. c.in_err-sizes.ensures.none _ _ _ _ (begins c.args.segment c.args.generation s c.args.front.now body x y long h e))

pub returns-then-sizes-gt-MOST_POINTS-clause-none : goal.returns-then-sizes-gt-MOST_POINTS-clause-none
returns-then-sizes-gt-MOST_POINTS-clause-none c = λ s body x y long h e.
    let f = c.in_ok-sizes.sizes in
    let fits = c.in_ok-sizes.ensures.fits in
    let front = front_of c.args.segment c.args.generation s c.args.front.now body x y f.base f.span f.count _ long h e fits.0 fits.1 fits.2
    c.in_ok-sizes.ensures.some in
    omega arith

pub returns-then-sizes-clause-none : goal.returns-then-sizes-clause-none
returns-then-sizes-clause-none c = λ s body x y long h e.
    let f = c.in_ok-sizes.sizes in
    let fits = c.in_ok-sizes.ensures.fits in
    let front = front_of c.args.segment c.args.generation s c.args.front.now body x y f.base f.span f.count _ long h e fits.0 fits.1 fits.2
    c.in_ok-sizes.ensures.some in
    omega arith
