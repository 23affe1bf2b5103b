use Rattle.std.proofs.Common.{get_or, refl, sym, ◌∙◌, arith}
use Rattle.live_bits.specs.LiveSet.{is_live}
use Rattle.live_bits.proofs.KeptLive.{kept_none, kept_not, kept_more, kept_all}
use Rattle.live_bits.proofs.live.LiveBits.move_live.Goals as goal

pub loop-i-init : goal.loop-i-init
loop-i-init c = kept_none (is_live c.args.self.now) c.args.from c.args.numbers.now c.requires

pub loop-i-preserved-then-not-is_live : goal.loop-i-preserved-then-not-is_live
loop-i-preserved-then-not-is_live c =
    let l = c.loop-i in
    kept_not (is_live c.args.self.now) c.args.from c.args.numbers.now l.numbers l.kept l.i (get_or l.numbers l.i 0) l.invariant
    (omega (arith, c.loop-i-test.true, l.invariant.long)) refl (sym c.is_live.ensures ∙ c.if-not-is_live.true)

pub loop-i-preserved : goal.loop-i-preserved
loop-i-preserved c =
    let l = c.loop-i in
    kept_more (is_live c.args.self.now) c.args.from c.args.numbers.now l.numbers l.kept l.i (get_or l.numbers l.i 0) l.invariant
    (omega (arith, c.loop-i-test.true, l.invariant.long)) refl (sym c.is_live.ensures ∙ c.if-not-is_live.false)

pub returns : goal.returns
returns c =
    let l = c.loop-i in
    kept_all (is_live c.args.self.now) c.args.from c.args.numbers.now l.numbers l.kept l.i l.invariant (omega (arith, c.loop-i-test.false))
