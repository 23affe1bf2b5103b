use Rattle.std.proofs.Common.{◌+◌, ◌-◌, ◌&&◌, ℕ, List, nat_le, ap, ◌∙◌, arith}
use Rattle.live_bits.specs.LiveSet.{LiveSet, is_live}
use Rattle.live_bits.specs.LiveBody.{is_set}
use Rattle.live_bits.proofs.WordBits.{live-from, live-after}
use Rattle.live_bits.proofs.live.LiveBits.word.Goals as goal

pub returns-in-Some : goal.returns-in-Some
returns-in-Some c k lt =
    let b = c.self.inside in
    c.word_from.ensures k lt
    ∙ ap (λ (bits : List ℕ). is_set bits (c.in-Some.i + k)) c.as_slice.ensures.value
    ∙ live-from b.base b.span c.args.first c.in-Some.i k b.bits.items c.self.invariant.are_bits c.in-Some.ensures.0 c.in-Some.ensures.1
    ∙ ap (λ (s : LiveSet). is_live s (c.args.first + k)) c.self.view_is

pub returns-in-None : goal.returns-in-None
returns-in-None c k lt =
    let b = c.self.inside in
    let gap = b.base - c.args.first in
    c.word_after.ensures k lt
    ∙ ap (λ (bits : List ℕ). nat_le gap k && is_set bits (k - gap)) c.as_slice-in-None.ensures.value
    ∙ live-after b.base b.span c.args.first k b.bits.items c.self.invariant.are_bits (omega (arith, c.in-None.ensures))
    ∙ ap (λ (s : LiveSet). is_live s (c.args.first + k)) c.self.view_is
