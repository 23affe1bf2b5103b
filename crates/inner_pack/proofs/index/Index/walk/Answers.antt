use Rattle.std.proofs.Common.{◌≡◌, ◌*◌, ◌∙◌, [], length, map, drop, sym, ap, subst, arith, rules}
use Rattle.std.proofs.Props.{props}
use Rattle.std.proofs.Math.Logic.{∥∥₁_elim, ∥∥₁_prop}
use Rattle.std.proofs.lemmas.Grind.{merely, not_there}
use Rattle.point_codec.specs.Points.{Region}
use Rattle.point_codec.specs.Keys.{key}
use Rattle.point_codec.specs.Seen.{region_of}
use Rattle.inner_pack.specs.Places.{front}
use Rattle.inner_pack.specs.Bodies.{Body, HasTree, SpellsIndex}
use Rattle.inner_pack.specs.Nodes.{IsAt}
use Rattle.inner_pack.specs.Spelled.{IsSomeTree}
use Rattle.inner_pack.proofs.OneTree.{one_index}
use Rattle.inner_pack.proofs.Walking.{le_there, after_cell, cell_before, root_at}
use Rattle.inner_pack.proofs.index.Index.walk.Goals as goal

pub split_at-requires : goal.split_at-requires
split_at-requires g c =
    let i = c.self.inside in
    let long =
    le_there (8 * g.row.D) (length i.bytes.items) i.valid (λ v. cell_before g.row.D i.form i.leaves i.bytes.items (region_of i.root) v.tree v.spelled) in
    omega (arith, long, ap length c.as_slice.ensures.value)

pub root_part-requires-clause-form : goal.root_part-requires-clause-form
root_part-requires-clause-form g c = le_there 1 c.self.inside.form c.self.inside.valid (λ v. v.spelled.least_form)

pub root_part-requires-clause-leaves : goal.root_part-requires-clause-leaves
root_part-requires-clause-leaves g c = (
  le_there 1 c.self.inside.leaves c.self.inside.valid (λ v. v.spelled.tree.some),
  le_there c.self.inside.leaves 8388608 c.self.inside.valid (λ v. v.spelled.tree.few),
)

pub unreachable-requires : goal.unreachable-requires
unreachable-requires g c =
    let D = g.row.D in
    let i = c.self.inside in
    let root = region_of i.root in
    let rest = c.split_at.ensures.back ∙ ap (drop (8 * D)) c.as_slice.ensures.value in
    not_there i.valid
    (λ v. c.in_default.ensures.only (map key root.lo) v.tree v.spelled.tree.shaped (rest ∙ after_cell D i.form i.leaves i.bytes.items root v.tree v.spelled))

pub new-requires : goal.new-requires
new-requires g c =
    let D = g.row.D in
    let i = c.self.inside in
    let root = region_of i.root in
    let rest = c.split_at.ensures.back ∙ ap (drop (8 * D)) c.as_slice.ensures.value in
    let keys : c.keys_of.result ≡ map key root.lo = c.keys_of.ensures ∙ ap (map key) c.lo.ensures.value in
    let low = le_there 1 i.leaves i.valid (λ v. v.spelled.tree.some) in
    let high = le_there i.leaves 8388608 i.valid (λ v. v.spelled.tree.few) in
    let some : ∥ IsSomeTree D i.form i.leaves front root c.keys_of.result c.in-Some.part.bytes.now c.in-Some.part.places.now ∥₁ =
    ∥∥₁_elim i.valid ∥∥₁_prop (λ v.
    let parts =
    c.in-Some.ensures.only (map key root.lo) v.tree v.spelled.tree.shaped (rest ∙ after_cell D i.form i.leaves i.bytes.items root v.tree v.spelled) in
    merely (record {
      tree = v.tree;
      is = root_at D i.form i.leaves i.bytes.items [] root v.tree c.keys_of.result c.in-Some.part.bytes.now c.in-Some.part.places.now v.spelled keys parts.0
          parts.1;
    })) in
    search rules

pub returns : goal.returns
returns g c other t h =
    let D = g.row.D in
    let i = c.self.inside in
    let root = region_of i.root in
    let rest = c.split_at.ensures.back ∙ ap (drop (8 * D)) c.as_slice.ensures.value in
    let keys : c.keys_of.result ≡ map key root.lo = c.keys_of.ensures ∙ ap (map key) c.lo.ensures.value in
    let here = subst (λ (b : Body). HasTree D b other t) (sym c.self.view_is) h in
    let same : root ≡ other = ∥∥₁_elim i.valid (hlevel props) (λ v. (one_index D i.form i.leaves i.bytes.items root other v.tree t v.spelled here).0) in
    let mine : SpellsIndex D i.form i.leaves i.bytes.items root t = subst (λ (r : Region). SpellsIndex D i.form i.leaves i.bytes.items r t) (sym same) here in
    let parts = c.in-Some.ensures.only (map key root.lo) t mine.tree.shaped (rest ∙ after_cell D i.form i.leaves i.bytes.items root t mine) in
    subst (λ (r : Region). IsAt c.new.result 0 front r t) same
    (c.new.ensures.at t
    (root_at D i.form i.leaves i.bytes.items [] root t c.keys_of.result c.in-Some.part.bytes.now c.in-Some.part.places.now mine keys parts.0 parts.1))
