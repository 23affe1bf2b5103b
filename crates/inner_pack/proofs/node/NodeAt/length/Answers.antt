use Rattle.std.proofs.Common.{◌≤◌, ◌∙◌, [], sym, ap, arith, append-nil, cond, eqb}
use Rattle.std.proofs.lemmas.Grind.{not_there}
use Rattle.inner_pack.specs.Places.{LeafSpan, spot_at, leaf_begin}
use Rattle.inner_pack.specs.Trees.{Leaf}
use Rattle.inner_pack.specs.Bodies.{place_bytes, cell_bytes, first_length}
use Rattle.inner_pack.proofs.PlaceLemmas.{fitted_to, fitted_fits}
use Rattle.inner_pack.proofs.SpelledLemmas.{told_one, leaf_in_table, spelled_packed, leaf_bytes_is}
use Rattle.inner_pack.proofs.Walking.{leaf_node}
use Rattle.inner_pack.proofs.node.NodeAt.length.Goals as goal

pub unreachable-requires : goal.unreachable-requires
unreachable-requires g c =
    let N = c.args.self.now in
    let s = spot_at N.page N.offset in
    let room : s.page ≤ 8388608 = omega (arith, N.numbered) in
    not_there N.some (λ q.
    let lf = leaf_node g.row.D N.form N.leaves s q.path N.references N.bytes.now N.places.now q.tree c.requires q.is in
    let one = c.if-self-eq1.true in
    let told = lf.node.told ∙ told_one N.form s (Leaf lf.size lf.own) one ∙ leaf_in_table s lf.size lf.own
    ∙ sym (append-nil (place_bytes (record { at = leaf_begin s lf.size; length = lf.size }))) in
    c.in_default.ensures.only (record { at = leaf_begin s lf.size; length = lf.size }) [] (omega (arith, fitted_to s lf.size, room))
    (omega (arith, fitted_fits s lf.size lf.greatest)) (omega (arith, lf.greatest)) told)

pub returns-then-self-eq1 : goal.returns-then-self-eq1
returns-then-self-eq1 g c path t h =
    let N = c.args.self.now in
    let s = spot_at N.page N.offset in
    let room : s.page ≤ 8388608 = omega (arith, N.numbered) in
    let lf = leaf_node g.row.D N.form N.leaves s path N.references N.bytes.now N.places.now t c.requires h in
    let one = c.if-self-eq1.true in
    let told = lf.node.told ∙ told_one N.form s (Leaf lf.size lf.own) one ∙ leaf_in_table s lf.size lf.own
    ∙ sym (append-nil (place_bytes (record { at = leaf_begin s lf.size; length = lf.size }))) in
    let both = c.in-Some.ensures.only (record { at = leaf_begin s lf.size; length = lf.size }) [] (omega (arith, fitted_to s lf.size, room))
    (omega (arith, fitted_fits s lf.size lf.greatest)) (omega (arith, lf.greatest)) told in
    ap (λ (p : LeafSpan). p.length) both.0 ∙ sym (ap first_length lf.is)

pub unreachable-requires-in_default-take_length : goal.unreachable-requires-in_default-take_length
unreachable-requires-in_default-take_length g c =
    let N = c.args.self.now in
    let s = spot_at N.page N.offset in
    let room : s.page ≤ 8388608 = omega (arith, N.numbered) in
    not_there N.some (λ q.
    let lf = leaf_node g.row.D N.form N.leaves s q.path N.references N.bytes.now N.places.now q.tree c.requires q.is in
    let packed : 2 ≤ N.form = omega (arith, lf.node.least_form, c.if-self-eq1.false) in
    let told = lf.node.spelled ∙ spelled_packed N.form N.references s (Leaf lf.size lf.own) packed ∙ leaf_bytes_is N.form lf.size lf.own in
    c.in_default-take_length.ensures.only lf.size (cond (eqb N.form 3) (cell_bytes lf.own) []) lf.least lf.greatest told)

pub returns : goal.returns
returns g c path t h =
    let N = c.args.self.now in
    let s = spot_at N.page N.offset in
    let room : s.page ≤ 8388608 = omega (arith, N.numbered) in
    let lf = leaf_node g.row.D N.form N.leaves s path N.references N.bytes.now N.places.now t c.requires h in
    let packed : 2 ≤ N.form = omega (arith, lf.node.least_form, c.if-self-eq1.false) in
    let told = lf.node.spelled ∙ spelled_packed N.form N.references s (Leaf lf.size lf.own) packed ∙ leaf_bytes_is N.form lf.size lf.own in
    (c.in-Some-take_length.ensures.only lf.size (cond (eqb N.form 3) (cell_bytes lf.own) []) lf.least lf.greatest told).0 ∙ sym (ap first_length lf.is)
