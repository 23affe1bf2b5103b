use Rattle.std.proofs.Common.{arith, refl, ◌≡◌, length, subst, ℕ}
use Rattle.commit_list.proofs.Lists.{Reaches, reaches-none, reaches-more, reaches-all, reaches-not}
use Rattle.commit_list.proofs.listed.are_listed.Goals as goal

pub loop-s-init : goal.loop-s-init
loop-s-init c = reaches-none c.args.next_segment c.args.listed.now

pub loop-s-preserved : goal.loop-s-preserved
loop-s-preserved c =
    reaches-more c.args.next_segment c.args.listed.now c.loop-s.s-index c.loop-s.least _ c.loop-s-test.true (c.if-not-is_listed.ensures.0 refl)
    c.if-s-least.false c.loop-s.invariant

pub returns-then-s-least : goal.returns-then-s-least
returns-then-s-least c = (
  λ t. absurd (cc),
  λ are.
      absurd (reaches-not c.args.next_segment c.args.listed.now c.loop-s.s-index c.loop-s.least _ c.loop-s-test.true c.if-s-least.true c.loop-s.invariant are),
)

pub returns-then-not-is_listed : goal.returns-then-not-is_listed
returns-then-not-is_listed c = (λ t. absurd (cc), λ are. c.if-not-is_listed.ensures.1 (are.each c.loop-s.s-index _ c.loop-s-test.true))

pub returns : goal.returns
returns c = (
  λ t.
      let all : c.loop-s.s-index ≡ length c.args.listed.now = omega arith in
      reaches-all c.args.next_segment c.args.listed.now c.loop-s.least
      (subst (λ (n : ℕ). Reaches c.args.next_segment c.args.listed.now n c.loop-s.least) all c.loop-s.invariant),
  λ are. refl,
)
