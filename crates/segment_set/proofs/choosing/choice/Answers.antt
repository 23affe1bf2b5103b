use Rattle.std.proofs.Common.{◌<◌, ◌^◌, get_or, arith}
use Rattle.std.proofs.lemmas.Grind.{get_or_default_zero}
use Rattle.segment_set.proofs.Chosen.{if_none}
use Rattle.segment_set.proofs.choosing.choice.Goals as goal

pub returns-clause-left : goal.returns-clause-left
returns-clause-left c =
    let sizes = c.args.sizes.now in
    if_none c.choose.result (λ none. c.few_are_left.ensures sizes c.args.pins.now c.requires.same
    (λ k d lt. let fits : get_or sizes k 0 < 2 ^ 32 = omega (arith, c.type_inv.sizes k) in rw (get_or_default_zero sizes k d lt) fits)
    (c.choose.ensures.none.0 none))

pub returns-clause-none : goal.returns-clause-none
returns-clause-none c = if_none c.choose.result (λ none. c.choose.ensures.none.0 none)
