use Rattle.std.proofs.Common.{◌≡◌, ◌<◌, ◌≤◌, ℕ, subst, arith}
use Rattle.point_codec.specs.Seen.{region_of}
use Rattle.bkd_build.specs.Extents.{IsWidestSide, width}
use Rattle.bkd_build.proofs.Sides.{first_side, wider_side, same_side}
use Rattle.bkd_build.proofs.extents.widest_side.Goals as goal
use Rattle.bkd_build.proofs.extents.widest_side.Goals.{then-other-greatest, else-other-greatest}

pub loop-d-init : goal.loop-d-init
loop-d-init g c = record { side = first_side (region_of c.args.cell.now); is = c.width-greatest.ensures }

pub loop-d-preserved : goal.loop-d-preserved
loop-d-preserved g c =
    let r = region_of c.args.cell.now in
    let h = c.loop-d.invariant in
    elim c.if-other-greatest.branch [
      | then-other-greatest w ↦
          (let more : width r c.loop-d.widest < width r c.loop-d.d = omega (arith, w.if-other-greatest.true, h.is, c.width-other.ensures) in
          rw (w.widest-is, w.greatest-is) (record { side = wider_side c.loop-d.d c.loop-d.widest r h.side more; is = c.width-other.ensures }))
      | else-other-greatest w ↦
          (let le : width r c.loop-d.d ≤ width r c.loop-d.widest = omega (arith, w.if-other-greatest.false, h.is, c.width-other.ensures) in
          rw (w.widest-is, w.greatest-is) (record { side = same_side c.loop-d.d c.loop-d.widest r h.side le; is = h.is }))
    ]

pub returns : goal.returns
returns g c =
    let all : c.loop-d.d ≡ g.row.D = omega (arith, c.loop-d-test.false, c.loop-d.auto.d-end, c.args.cell.now.lo.low) in
    subst (λ (n : ℕ). IsWidestSide n c.loop-d.widest (region_of c.args.cell.now)) all c.loop-d.invariant.side
