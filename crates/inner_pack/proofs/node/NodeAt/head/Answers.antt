use Rattle.std.proofs.Common.{◌≤◌, ◌-◌, ◌/◌, arith, inl, inr}
use Rattle.std.proofs.Props.{props}
use Rattle.std.proofs.Math.Logic.{∥∥₁_elim}
use Rattle.std.proofs.lemmas.Bool.{cases_lt}
use Rattle.std.proofs.lemmas.Grind.{not_there}
use Rattle.point_codec.specs.Seen.{region_of}
use Rattle.inner_pack.specs.Places.{spot_at}
use Rattle.inner_pack.proofs.Walking.{opened, in_cell_said, pages_said}
use Rattle.inner_pack.proofs.node.NodeAt.head.Goals as goal

pub unreachable-requires : goal.unreachable-requires
unreachable-requires g c =
    let N = c.args.self.now in
    let s = spot_at N.page N.offset in
    let cell = region_of N.cell in
    let room : s.page ≤ 8388608 = omega (arith, N.numbered) in
    not_there N.some (λ q.
    let o = opened g.row.D N.form N.leaves s cell N.references N.bytes.now N.places.now q.path q.tree c.requires c.is_cell.ensures q.cell_is q.is in
    c.in_default.ensures.only s cell o.d o.x o.l o.r room o.fits o.node)

pub returns-clause-cell : goal.returns-clause-cell
returns-clause-cell g c =
    let N = c.args.self.now in
    let s = spot_at N.page N.offset in
    let cell = region_of N.cell in
    let room : s.page ≤ 8388608 = omega (arith, N.numbered) in
    ∥∥₁_elim N.some (hlevel props) (λ q.
    let o = opened g.row.D N.form N.leaves s cell N.references N.bytes.now N.places.now q.path q.tree c.requires c.is_cell.ensures q.cell_is q.is in
    in_cell_said g.row.D N.form s cell N.references o.d o.x o.l o.r c.in-Some.head (c.in-Some.ensures.only s cell o.d o.x o.l o.r room o.fits o.node)
    o.node.cells.0)

pub returns-clause-room : goal.returns-clause-room
returns-clause-room g c =
    let N = c.args.self.now in
    let s = spot_at N.page N.offset in
    let cell = region_of N.cell in
    let room : s.page ≤ 8388608 = omega (arith, N.numbered) in
    elim (cases_lt (N.leaves - N.leaves / 2) c.in-Some.head.pages) [
      | inl lt ↦ absurd (not_there N.some (λ q.
          let o = opened g.row.D N.form N.leaves s cell N.references N.bytes.now N.places.now q.path q.tree c.requires c.is_cell.ensures q.cell_is q.is in
          let few = pages_said g.row.D N.form N.leaves s cell N.references N.bytes.now N.places.now o.d o.x o.l o.r c.in-Some.head o.node
          (c.in-Some.ensures.only s cell o.d o.x o.l o.r room o.fits o.node) in
          omega (arith, lt, few)))
      | inr le ↦ le
    ]

pub returns-clause-says : goal.returns-clause-says
returns-clause-says g c path t same h =
    let N = c.args.self.now in
    let s = spot_at N.page N.offset in
    let cell = region_of N.cell in
    let room : s.page ≤ 8388608 = omega (arith, N.numbered) in
    let o = opened g.row.D N.form N.leaves s cell N.references N.bytes.now N.places.now path t c.requires c.is_cell.ensures same h in
    record { dimension = o.d; value = o.x; l = o.l; r = o.r; is = o.is; says = c.in-Some.ensures.only s cell o.d o.x o.l o.r room o.fits o.node }
