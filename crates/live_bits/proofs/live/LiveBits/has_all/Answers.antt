use Rattle.std.proofs.Common.{ℕ, get_or, ap, ◌∙◌, sym}
use Rattle.live_bits.specs.LiveSet.{LiveSet, is_live}
use Rattle.live_bits.proofs.KeptLive.{full_live}
use Rattle.live_bits.proofs.live.LiveBits.has_all.Goals as goal

pub returns : goal.returns
returns c = λ yes k d lt.
    let b = c.self.inside in
    let n : ℕ = get_or c.args.numbers.now k d in
    let within = c.lie_between.ensures yes k d lt in
    sym (ap (λ (s : LiveSet). is_live s n) c.self.view_is)
    ∙ full_live b.base b.span b.bits.items n (sym c.self.invariant.counted ∙ c.if-self.false) within.0 within.1
