use Rattle.std.proofs.Common.{arith, rules}
use Rattle.point_codec.specs.Seen.{region_of}
use Rattle.byte_cursor.specs.Vint.{vint}
use Rattle.byte_cursor.proofs.SpelledVints.{length-vint}
use Rattle.inner_pack.specs.Bodies.{leaf_bytes, cell_bytes}
use Rattle.inner_pack.proofs.PackBytes.{turned, length-turned, leaf_joined, length-leaf, vint_appended, grown}
use Rattle.inner_pack.proofs.pack.put_leaf.Goals as goal

pub returns-clause-spelled : goal.returns-clause-spelled
returns-clause-spelled g c =
    let old = c.args.out.now.items in
    let own = region_of c.args.own.now in
    turned old c.put_cell.new.out.items c.reverse_from.new.out.items (leaf_bytes 3 c.args.size own) c.len-from.result (search rules)
    (leaf_joined old c.put_vint.new.out.items c.put_cell.new.out.items c.args.size own
    (vint_appended old c.put_vint.new.out.items c.from.result c.args.size (search rules) (omega arith) c.in_ok-put_vint.ensures.ok)
    c.in_ok-put_cell.ensures.spelled)
    c.reverse_from.ensures

pub returns-clause-room : goal.returns-clause-room
returns-clause-room g c =
    let own = region_of c.args.own.now in
    let vint_short = length-vint c.args.size (omega arith) in
    let longer = length-turned c.args.out.now.items c.reverse_from.new.out.items (leaf_bytes 3 c.args.size own) (returns-clause-spelled g c) in
    let short = length-leaf c.args.size own (omega arith) in
    let written = grown c.args.out.now.items c.put_vint.new.out.items (vint c.args.size)
    (vint_appended c.args.out.now.items c.put_vint.new.out.items c.from.result c.args.size (search rules) (omega arith) c.in_ok-put_vint.ensures.ok) in
    let cell = grown c.put_vint.new.out.items c.put_cell.new.out.items (cell_bytes own) c.in_ok-put_cell.ensures.spelled in
    omega (arith, c.in_ok-put_cell.ensures.room)

pub returns-clause-more : goal.returns-clause-more
returns-clause-more g c =
    let longer =
    length-turned c.args.out.now.items c.reverse_from.new.out.items (leaf_bytes 3 c.args.size (region_of c.args.own.now)) (returns-clause-spelled g c) in
    omega arith
