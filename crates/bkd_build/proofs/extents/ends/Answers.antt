use Rattle.std.proofs.Common.{rules, ◌≡◌, ℤ, w32, to_z, of_z, ap, ◌∙◌, take}
use Rattle.std.specs.Int.{int_max, int_min}
use Rattle.point_codec.specs.Seen.{items_of}
use Rattle.leaf_codec.specs.LeafOrder.{item_of}
use Rattle.leaf_codec.proofs.Items.{items_more, items_all, Contains-items}
use Rattle.bkd_build.specs.Extents.{coordinate}
use Rattle.bkd_build.proofs.Sides.{reaches_more}
use Rattle.bkd_build.proofs.extents.ends.Goals as goal

pub loop-entry-preserved : goal.loop-entry-preserved
loop-entry-preserved g c =
    let es = c.args.entries.now in
    let i = c.loop-entry.entry-index in
    let e = c.entry-item.result in
    let at : to_z w32 (of_z w32 (coordinate c.args.d (item_of e))) ≡ coordinate c.args.d (item_of e) = search rules in
    let low : to_z w32 (of_z w32 c.min-least.result) ≡ int_min (to_z w32 c.loop-entry.least-bits) (coordinate c.args.d (item_of e)) =
    search rules ∙ c.min-least.ensures.value ∙ ap (λ (z : ℤ). int_min (to_z w32 c.loop-entry.least-bits) z) at in
    let high : to_z w32 (of_z w32 c.max-greatest.result) ≡ int_max (to_z w32 c.loop-entry.greatest-bits) (coordinate c.args.d (item_of e)) =
    search rules ∙ c.max-greatest.ensures.value ∙ ap (λ (z : ℤ). int_max (to_z w32 c.loop-entry.greatest-bits) z) at in
    rw (items_more es i e c.loop-entry-test.true c.entry-item.is, low, high)
    (reaches_more c.args.d (to_z w32 c.loop-entry.least-bits) (to_z w32 c.loop-entry.greatest-bits) (take i (items_of es)) (items_of es) (item_of e)
    (Contains-items es i e c.loop-entry-test.true c.entry-item.is) c.loop-entry.invariant)

pub returns-clause-least : goal.returns-clause-least
returns-clause-least g c =
    let h = rw (items_all c.args.entries.now c.loop-entry.entry-index c.loop-entry-test.false) at c.loop-entry.invariant in
    record { bound = h.low; reached = h.has_low }

pub returns-clause-greatest : goal.returns-clause-greatest
returns-clause-greatest g c =
    let h = rw (items_all c.args.entries.now c.loop-entry.entry-index c.loop-entry-test.false) at c.loop-entry.invariant in
    record { bound = h.high; reached = h.has_high }
