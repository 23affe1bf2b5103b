use Rattle.std.proofs.Common.{List, sym, subst, ◌∙◌, arith}
use Rattle.std.proofs.Math.Logic.{∥∥₁_elim}
use Rattle.std.proofs.Props.{props}
use Rattle.point_codec.specs.Points.{Item}
use Rattle.point_codec.specs.Seen.{region_of}
use Rattle.leaf_codec.proofs.Ascending.{ascend_in}
use Rattle.leaf_codec.proofs.ItemsDecoded.{docs}
use Rattle.leaf_codec.proofs.KeysOf.{raw_keys}
use Rattle.leaf_codec.proofs.RawNumbersLemmas.{raw_numbers}
use Rattle.leaf_codec.specs.Leaves.{SpellsLeafIn}
use Rattle.leaf_codec.specs.Raw.{keys_bytes}
use Rattle.leaf_codec.specs.Views.{items_said}
use Rattle.leaf_codec.proofs.ReadLeaf.{spelled_fields, after_numbers, said_are, order_of, within_500}
use Rattle.leaf_codec.proofs.view.LeafView.of_valid.Goals as goal

pub read-requires : goal.read-requires
read-requires g c =
    ∥∥₁_elim c.requires (hlevel props) (λ x. within_500 g.row.D c.args.count c.args.cell.now.lo.low (omega (arith, x.1.counted, x.1.spells.are_leaf.few)))

pub unreachable-requires : goal.unreachable-requires
unreachable-requires g c = ∥∥₁_elim c.requires (hlevel props) (λ x.
    let f = spelled_fields g.row.D c.args.count c.args.b.now (region_of c.args.cell.now) x.0 x.1 in
    let found = c.read.ensures.only (raw_numbers (docs x.0)) (keys_bytes g.row.D (raw_keys g.row.D x.0)) f.numbers f.is in
    absurd (let none = rw c.in_default.is at found in cc))

pub unreachable-requires-in_default-read : goal.unreachable-requires-in_default-read
unreachable-requires-in_default-read g c = ∥∥₁_elim c.requires (hlevel props) (λ x.
    let cell = region_of c.args.cell.now in
    let f = spelled_fields g.row.D c.args.count c.args.b.now cell x.0 x.1 in
    let found = c.read-2.ensures.only (raw_keys g.row.D x.0) f.keys
    (after_numbers g.row.D c.args.count c.in-Some.at c.args.b.now cell x.0 c.in-Some.numbers x.1 c.in-Some.ensures.found).1 in
    absurd (let none = rw c.in_default-read.is at found in cc))

pub invariant_of-result : goal.invariant_of-result
invariant_of-result g c = (
  record {
    some_dims = c.args.cell.now.lo.low;
    few_dims = c.args.cell.now.lo.high;
    numbers = c.in-Some.ensures.found.numbers;
    keys = c.in-Some-read.ensures.found.keys;
    counted = c.in-Some-read.ensures.found.counted ∙ sym c.in-Some.ensures.found.counted;
    slots = c.of-slots.ensures;
  },
  (
    ∥∥₁_elim c.requires (hlevel props) (λ x.
        ascend_in _ (items_said g.row.D c.in-Some.numbers c.in-Some-read.parts)
        (order_of g.row.D c.args.count c.in-Some.at c.args.b.now (region_of c.args.cell.now) x.0 c.in-Some.numbers c.in-Some-read.parts x.1
        c.in-Some.ensures.found c.in-Some-read.ensures.found).ascending),
    tt,
  ),
)

pub returns : goal.returns
returns g c = ∥∥₁_elim c.requires (hlevel props) (λ x.
    let cell = region_of c.args.cell.now in
    subst (λ (items : List Item). SpellsLeafIn g.row.D c.args.b.now c.args.count cell items)
    (sym (said_are g.row.D c.args.count c.in-Some.at c.args.b.now cell x.0 c.in-Some.numbers c.in-Some-read.parts x.1 c.in-Some.ensures.found
    c.in-Some-read.ensures.found)) x.1)
