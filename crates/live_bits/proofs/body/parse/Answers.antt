use Rattle.std.proofs.Common.{arith, refl, sym, ap, ◌∙◌, length}
use Rattle.live_bits.specs.LiveBody.{head, AreBits}
use Rattle.live_bits.proofs.Heads.{spelt, bytes_behind, body_of}
use Rattle.live_bits.proofs.Tally.{sum_ones}
use Rattle.live_bits.proofs.body.parse.Goals as goal

pub returns-then-sizes-gt-MOST_POINTS-clause-none : goal.returns-then-sizes-gt-MOST_POINTS-clause-none
returns-then-sizes-gt-MOST_POINTS-clause-none c = λ s h.
    let f = c.in_ok-sizes.sizes in
    let fits = c.in_ok-sizes.ensures.fits in
    let same = spelt c.args.segment c.args.generation s c.args.body.now f.base f.span f.count c.in_ok-sizes.bits.now fits.0 fits.1 fits.2 h
    c.in_ok-sizes.ensures.some in
    let limit = same.are_bits.limit in
    omega arith

pub returns-then-sizes-clause-none : goal.returns-then-sizes-clause-none
returns-then-sizes-clause-none c = λ s h.
    let f = c.in_ok-sizes.sizes in
    let fits = c.in_ok-sizes.ensures.fits in
    let same = spelt c.args.segment c.args.generation s c.args.body.now f.base f.span f.count c.in_ok-sizes.bits.now fits.0 fits.1 fits.2 h
    c.in_ok-sizes.ensures.some in
    let limit = same.are_bits.limit in
    omega arith

pub returns-then-not-is_filled-clause-none : goal.returns-then-not-is_filled-clause-none
returns-then-not-is_filled-clause-none c = λ s h.
    let f = c.in_ok-sizes.sizes in
    let fits = c.in_ok-sizes.ensures.fits in
    let same = spelt c.args.segment c.args.generation s c.args.body.now f.base f.span f.count c.in_ok-sizes.bits.now fits.0 fits.1 fits.2 h
    c.in_ok-sizes.ensures.some in
    absurd (let filled = c.is_filled.ensures.1 (same.are_bits.len, same.are_bits.past) in cc)

pub returns-then-count_set-sizes-clause-none : goal.returns-then-count_set-sizes-clause-none
returns-then-count_set-sizes-clause-none c = λ s h.
    let f = c.in_ok-sizes.sizes in
    let fits = c.in_ok-sizes.ensures.fits in
    let same = spelt c.args.segment c.args.generation s c.args.body.now f.base f.span f.count c.in_ok-sizes.bits.now fits.0 fits.1 fits.2 h
    c.in_ok-sizes.ensures.some in
    c.if-count_set-sizes.true
    (c.count_set.ensures.value ∙ sum_ones f.base f.span c.in_ok-sizes.bits.now same.are_bits same.are_bytes ∙ sym (ap length same.numbers) ∙ same.count_is)

pub returns-clause-some : goal.returns-clause-some
returns-clause-some c =
    let f = c.in_ok-sizes.sizes in
    let filled = c.if-not-is_filled.ensures.0 refl in
    let are : AreBits f.base f.span c.in_ok-sizes.bits.now = record { limit = omega arith; len = filled.0; past = filled.1 } in
    let all = bytes_behind c.args.body.now (head c.args.segment c.args.generation f.base f.span f.count) c.in_ok-sizes.bits.now
    (λ i. omega (arith, c.type_inv.body i)) c.in_ok-sizes.ensures.some in
    body_of c.args.segment c.args.generation f.base f.span f.count c.args.body.now c.in_ok-sizes.bits.now are all
    (sym c.if-count_set-sizes.false ∙ c.count_set.ensures.value ∙ sum_ones f.base f.span c.in_ok-sizes.bits.now are all) c.in_ok-sizes.ensures.some

pub returns-clause-stored : goal.returns-clause-stored
returns-clause-stored c =
    let f = c.in_ok-sizes.sizes in
    let filled = c.if-not-is_filled.ensures.0 refl in
    let are : AreBits f.base f.span c.in_ok-sizes.bits.now = record { limit = omega arith; len = filled.0; past = filled.1 } in
    let all = bytes_behind c.args.body.now (head c.args.segment c.args.generation f.base f.span f.count) c.in_ok-sizes.bits.now
    (λ i. omega (arith, c.type_inv.body i)) c.in_ok-sizes.ensures.some in
    record { are_bits = are; counted = sym c.if-count_set-sizes.false ∙ c.count_set.ensures.value ∙ sum_ones f.base f.span c.in_ok-sizes.bits.now are all }
