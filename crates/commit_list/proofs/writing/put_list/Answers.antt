use Rattle.std.proofs.Common.{refl}
use Rattle.commit_list.proofs.Lists.{writes-none, writes-more, writes-all}
use Rattle.commit_list.proofs.writing.put_list.Goals as goal

pub loop-s-init : goal.loop-s-init
loop-s-init c = writes-none c.args.out.now.items c.args.out.now.items c.args.listed.now refl

pub loop-s-preserved : goal.loop-s-preserved
loop-s-preserved c =
    writes-more c.args.out.now.items c.loop-s.out.items c.put_listed.new.out.items c.args.listed.now c.loop-s.s-index _ c.loop-s-test.true
    c.in_ok-put_listed.ensures.fits c.in_ok-put_listed.ensures.spelling c.loop-s.invariant

pub returns : goal.returns
returns c =
    let all = writes-all c.args.out.now.items c.loop-s.out.items c.args.listed.now c.loop-s.s-index c.loop-s-test.false c.loop-s.invariant in
    record { spelling = all.0; fits = all.1 }
