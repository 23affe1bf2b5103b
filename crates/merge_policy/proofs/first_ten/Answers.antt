use Rattle.std.proofs.Common.{◌+◌, ◌≡◌, length, arith}
use Rattle.std.proofs.lemmas.Bool.Decides.{nat_tests}
use Rattle.merge_policy.proofs.Front.{front_skip, front_push, front_ten, front_some, front_all, free_from_test}
use Rattle.merge_policy.proofs.first_ten.Goals as goal
use Rattle.merge_policy.proofs.first_ten.Goals.{then-has-pinned+else-is_full, else-has-pinned}

pub returns-then-is_full-clause-some : goal.returns-then-is_full-clause-some
returns-then-is_full-clause-some c =
    let sizes = c.args.sizes.now in
    let pinned = c.args.pinned.now in
    let free = free_from_test c.args.level.number sizes pinned c.loop-i.i c.has.result c.requires.one_pin_a_size c.loop-i-test.true c.has.ensures
    c.if-has-pinned.true in
    let front = front_push c.args.level.number sizes pinned c.loop-i.i c.loop-i.positions.items c.requires.one_pin_a_size c.loop-i-test.true free
    c.loop-i.invariant.front in
    let ten : length c.push.new.self.items ≡ 10 = grind (arith, nat_tests) in
    rw c.push.ensures.items (front_ten c.args.level.number sizes pinned (c.loop-i.i + 1) _ (rw c.push.ensures.items at ten) front)

pub returns-then-is_full-clause-has_ten : goal.returns-then-is_full-clause-has_ten
returns-then-is_full-clause-has_ten c =
    let sizes = c.args.sizes.now in
    let pinned = c.args.pinned.now in
    let free = free_from_test c.args.level.number sizes pinned c.loop-i.i c.has.result c.requires.one_pin_a_size c.loop-i-test.true c.has.ensures
    c.if-has-pinned.true in
    let front = front_push c.args.level.number sizes pinned c.loop-i.i c.loop-i.positions.items c.requires.one_pin_a_size c.loop-i-test.true free
    c.loop-i.invariant.front in
    let ten : length c.push.new.self.items ≡ 10 = grind (arith, nat_tests) in
    omega (arith, rw c.push.ensures.items at ten, front_some c.args.level.number sizes pinned (c.loop-i.i + 1) _ front)

pub loop-i-preserved : goal.loop-i-preserved
loop-i-preserved c =
    let sizes = c.args.sizes.now in
    let pinned = c.args.pinned.now in
    elim c.if-has-pinned.branch [
      | then-has-pinned+else-is_full w ↦
          let free = free_from_test c.args.level.number sizes pinned c.loop-i.i c.has.result c.requires.one_pin_a_size c.loop-i-test.true c.has.ensures
          w.if-has-pinned.true in
          let front = front_push c.args.level.number sizes pinned c.loop-i.i c.loop-i.positions.items c.requires.one_pin_a_size c.loop-i-test.true free
          c.loop-i.invariant.front in
          record { front = rw (w.positions-is, w.push.ensures.items) front; room = grind (arith, nat_tests) }
      | else-has-pinned w ↦
          let taken = w.if-has-pinned.false in
          record {
            front = rw w.positions-is
                (front_skip c.args.level.number sizes pinned c.loop-i.i c.loop-i.positions.items c.requires.one_pin_a_size c.loop-i-test.true
                (rw c.has.ensures at taken) c.loop-i.invariant.front);
            room = rw w.positions-is c.loop-i.invariant.room;
          }
    ]

pub returns-clause-none : goal.returns-clause-none
returns-clause-none c =
    omega (
      arith,
      front_all c.args.level.number c.args.sizes.now c.args.pinned.now c.loop-i.i c.loop-i.positions.items (omega arith) c.requires.one_pin_a_size
          c.loop-i.invariant.front,
    )
