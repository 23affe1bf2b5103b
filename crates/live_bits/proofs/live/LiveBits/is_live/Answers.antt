use Rattle.std.proofs.Common.{ℕ, List, sym, ap, ◌∙◌, arith, inl, inr}
use Rattle.live_bits.specs.LiveSet.{LiveSet, is_live}
use Rattle.live_bits.specs.LiveBody.{is_set}
use Rattle.live_bits.proofs.AllLive.{all_live}
use Rattle.live_bits.proofs.LiveNumbers.{live_inside, live_outside}
use Rattle.live_bits.proofs.live.LiveBits.is_live.Goals as goal

pub returns-in-None : goal.returns-in-None
returns-in-None c =
    let b = c.self.inside in
    sym (live_outside b.base b.span b.bits.items c.args.doc (inl (omega (arith, c.in-None.ensures))))
    ∙ ap (λ (s : LiveSet). is_live s c.args.doc) c.self.view_is

pub returns-in-Some : goal.returns-in-Some
returns-in-Some c =
    let b = c.self.inside in
    sym (live_outside b.base b.span b.bits.items c.args.doc (inr (omega (arith, c.in-Some.ensures))))
    ∙ ap (λ (s : LiveSet). is_live s c.args.doc) c.self.view_is

pub returns-in-Some-2 : goal.returns-in-Some-2
returns-in-Some-2 c =
    let b = c.self.inside in
    let full = sym c.self.invariant.counted ∙ c.if-self.true in
    sym (all_live b.base b.span c.args.doc b.bits.items full (omega (arith, c.in-Some.ensures)) (omega (arith, c.in-Some.ensures)))
    ∙ sym (live_inside b.base b.span b.bits.items c.args.doc c.in-Some.ensures.0 (omega (arith, c.in-Some.ensures)))
    ∙ ap (λ (s : LiveSet). is_live s c.args.doc) c.self.view_is

pub returns-in-Some-3 : goal.returns-in-Some-3
returns-in-Some-3 c =
    let b = c.self.inside in
    c.bit_at.ensures ∙ ap (λ (bits : List ℕ). is_set bits c.in-Some.i) c.as_slice.ensures.value ∙ ap (λ (i : ℕ). is_set b.bits.items i) c.in-Some.ensures.1
    ∙ sym (live_inside b.base b.span b.bits.items c.args.doc c.in-Some.ensures.0 (omega (arith, c.in-Some.ensures)))
    ∙ ap (λ (s : LiveSet). is_live s c.args.doc) c.self.view_is
