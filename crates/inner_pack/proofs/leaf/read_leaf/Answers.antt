use Rattle.std.proofs.Common.{◌≡◌, ◌≤◌, arith, length, ap}
use Rattle.std.proofs.lemmas.Grind.{common_steps}
use Rattle.point_codec.specs.Seen.{region_of}
use Rattle.inner_pack.specs.Places.{leaf_begin}
use Rattle.inner_pack.specs.Trees.{Leaf}
use Rattle.inner_pack.specs.Heads.{spot_of}
use Rattle.inner_pack.proofs.CellLemmas.{if_map, none_long}
use Rattle.inner_pack.proofs.SpelledLemmas.{of_table_leaf, to_table_leaf, of_packed_leaf, to_packed_leaf, no_places}
use Rattle.inner_pack.proofs.leaf.read_leaf.Goals as goal

pub returns-then-form-eq1-clause-found : goal.returns-then-form-eq1-clause-found
returns-then-form-eq1-clause-found g c references =
    if_map c.table_leaf.result _ _ c.table_leaf.ensures.found
    (λ n h. of_table_leaf g.row.D c.args.form (spot_of c.args.behind) (region_of c.args.path.now) references c.args.part.bytes.now c.args.part.places.now n
    c.if-form-eq1.true c.is_cell.ensures h)

pub returns-then-form-eq1-clause-only : goal.returns-then-form-eq1-clause-only
returns-then-form-eq1-clause-only g c references n own h =
    c.table_leaf.ensures.only n
    (to_table_leaf g.row.D c.args.form (spot_of c.args.behind) (region_of c.args.path.now) references c.args.part.bytes.now c.args.part.places.now n own
    c.if-form-eq1.true h)

pub returns-then-not-is_empty-clause-only : goal.returns-then-not-is_empty-clause-only
returns-then-not-is_empty-clause-only g c references n own h =
    let packed : 2 ≤ c.args.form = omega (arith, c.requires.form, c.if-form-eq1.false) in
    let none = no_places g.row.D c.args.form 1 (leaf_begin (spot_of c.args.behind) n) (region_of c.args.path.now) references c.args.part.bytes.now
    c.args.part.places.now (Leaf n own) packed h in
    let long : length c.args.part.places.now ≡ 0 = ap length none in
    grind (arith, common_steps)

pub returns-in_err-length-clause-only : goal.returns-in_err-length-clause-only
returns-in_err-length-clause-only g c references n own h =
    let packed : 2 ≤ c.args.form = omega (arith, c.requires.form, c.if-form-eq1.false) in
    absurd (c.in_err-length.ensures.only n own
    (to_packed_leaf g.row.D c.args.form 1 (leaf_begin (spot_of c.args.behind) n) (region_of c.args.path.now) references c.args.part.bytes.now
    c.args.part.places.now
    n own packed h))

pub returns-clause-found : goal.returns-clause-found
returns-clause-found g c references =
    let packed : 2 ≤ c.args.form = omega (arith, c.requires.form, c.if-form-eq1.false) in
    let none : length c.args.part.places.now ≡ 0 = grind (arith, common_steps) in
    of_packed_leaf g.row.D c.args.form (spot_of c.args.behind) (region_of c.args.path.now) references c.args.part.bytes.now c.args.part.places.now
    c.in_ok-length.length (region_of c.in_ok-length.field-0-1) packed c.requires.form.1 (none_long c.args.part.places.now none) c.in_ok-length.ensures.found

pub returns-clause-only : goal.returns-clause-only
returns-clause-only g c references n own h =
    let packed : 2 ≤ c.args.form = omega (arith, c.requires.form, c.if-form-eq1.false) in
    (c.in_ok-length.ensures.only n own
    (to_packed_leaf g.row.D c.args.form 1 (leaf_begin (spot_of c.args.behind) n) (region_of c.args.path.now) references c.args.part.bytes.now
    c.args.part.places.now
    n own packed h)).0
