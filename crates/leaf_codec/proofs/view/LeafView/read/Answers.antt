use Rattle.std.proofs.Common.{sym, ◌∙◌, arith, rules, true≢false}
use Rattle.point_codec.specs.Seen.{region_of}
use Rattle.leaf_codec.specs.Views.{IsReadable, items_said, raw_numbers_of}
use Rattle.leaf_codec.proofs.Ascending.{ascend_in}
use Rattle.leaf_codec.proofs.ItemsDecoded.{docs}
use Rattle.leaf_codec.proofs.KeysOf.{raw_keys}
use Rattle.leaf_codec.proofs.RawNumbersLemmas.{raw_numbers}
use Rattle.leaf_codec.proofs.SortedRise.{sorted_rise}
use Rattle.leaf_codec.specs.Raw.{keys_bytes}
use Rattle.leaf_codec.proofs.ReadLeaf.{if_none, spelled_fields, after_numbers, canonical_of, dimensions_of, order_of, spelled_from}
use Rattle.leaf_codec.proofs.view.LeafView.read.Goals as goal

pub returns-in_err-numbers-clause-none : goal.returns-in_err-numbers-clause-none
returns-in_err-numbers-clause-none g c = if_none c.from_residual.result _ (λ items h.
    let f = spelled_fields g.row.D c.args.count c.args.b.now (region_of c.args.cell.now) items h in
    absurd (true≢false (sym (c.in_err-numbers.ensures.only (raw_numbers (docs items)) (keys_bytes g.row.D (raw_keys g.row.D items)) f.numbers f.is))))

pub returns-in_err-parts-clause-none : goal.returns-in_err-parts-clause-none
returns-in_err-parts-clause-none g c = if_none c.from_residual-in_err-parts.result _ (λ items h.
    let cell = region_of c.args.cell.now in
    let f = spelled_fields g.row.D c.args.count c.args.b.now cell items h in
    absurd (true≢false (sym (c.in_err-parts.ensures.only (raw_keys g.row.D items) f.keys
    (after_numbers g.row.D c.args.count c.in_ok-numbers.at c.args.b.now cell items c.in_ok-numbers.numbers h c.in_ok-numbers.ensures.found).1))))

pub returns-then-not-are_canonical-clause-none : goal.returns-then-not-are_canonical-clause-none
returns-then-not-are_canonical-clause-none g c items h =
    absurd (true≢false
    (sym (c.are_canonical.ensures.1
    (canonical_of g.row.D c.args.count c.in_ok-numbers.at c.args.b.now (region_of c.args.cell.now) items c.in_ok-numbers.numbers h
    c.in_ok-numbers.ensures.found)) ∙ c.if-not-are_canonical.true))

pub returns-then-not-has_these_dimensions-clause-none : goal.returns-then-not-has_these_dimensions-clause-none
returns-then-not-has_these_dimensions-clause-none g c items h =
    absurd (true≢false (sym ((c.has_these_dimensions.ensures (raw_numbers_of c.in_ok-numbers.numbers)).1
    (dimensions_of g.row.D c.args.count c.in_ok-numbers.at c.args.b.now (region_of c.args.cell.now) items c.in_ok-numbers.numbers c.in_ok-parts.parts h
    c.in_ok-numbers.ensures.found c.in_ok-parts.ensures.found)) ∙ c.if-not-has_these_dimensions.true))

pub are_in_order-requires : goal.are_in_order-requires
are_in_order-requires g c =
    let readable : IsReadable g.row.D c.in_ok-numbers.numbers c.in_ok-parts.parts c.of-slots.result = record {
      some_dims = c.args.cell.now.lo.low;
      few_dims = c.args.cell.now.lo.high;
      numbers = c.in_ok-numbers.ensures.found.numbers;
      keys = c.in_ok-parts.ensures.found.keys;
      counted = c.in_ok-parts.ensures.found.counted ∙ sym c.in_ok-numbers.ensures.found.counted;
      slots = c.of-slots.ensures;
    } in
    (search rules, (search rules, (readable, omega (arith, c.in_ok-numbers.ensures.found.counted, c.if-count-eq0.false))))

pub returns-then-not-are_in_order-clause-none : goal.returns-then-not-are_in_order-clause-none
returns-then-not-are_in_order-clause-none g c items h =
    absurd (true≢false (sym (c.are_in_order.ensures.1
    (order_of g.row.D c.args.count c.in_ok-numbers.at c.args.b.now (region_of c.args.cell.now) items c.in_ok-numbers.numbers c.in_ok-parts.parts h
    c.in_ok-numbers.ensures.found c.in_ok-parts.ensures.found)) ∙ c.if-not-are_in_order.true))

pub has_these_dimensions-requires : goal.has_these_dimensions-requires
has_these_dimensions-requires g c =
    let n = c.in_ok-numbers.ensures.found in
    let p = c.in_ok-parts.ensures.found in
    record {
      dims = (c.args.cell.now.lo.low, c.args.cell.now.lo.high);
      parts = p.keys;
      some = omega (arith, p.counted, c.if-count-eq0.false);
      rises = λ lt. sorted_rise g.row.D c.in_ok-numbers.numbers c.in_ok-parts.parts (region_of c.args.cell.now) p.keys
          (p.counted ∙ sym n.counted) (c.are_in_order.ensures.0 c.if-not-are_in_order.false) lt;
    }

pub invariant_of-result : goal.invariant_of-result
invariant_of-result g c = (
  record {
    some_dims = c.args.cell.now.lo.low;
    few_dims = c.args.cell.now.lo.high;
    numbers = c.in_ok-numbers.ensures.found.numbers;
    keys = c.in_ok-parts.ensures.found.keys;
    counted = c.in_ok-parts.ensures.found.counted ∙ sym c.in_ok-numbers.ensures.found.counted;
    slots = c.of-slots.ensures;
  },
  (ascend_in _ (items_said g.row.D c.in_ok-numbers.numbers c.in_ok-parts.parts) (c.are_in_order.ensures.0 c.if-not-are_in_order.false).ascending, tt),
)

pub returns-clause-some : goal.returns-clause-some
returns-clause-some g c =
    let n = c.in_ok-numbers.numbers in
    spelled_from g.row.D c.args.count c.in_ok-numbers.at c.args.b.now (region_of c.args.cell.now) n c.in_ok-parts.parts
    (omega (arith, c.if-count-eq0.false)) (omega (arith, c.if-count-greatest_leaf.false, c.greatest_leaf.ensures)) c.in_ok-numbers.ensures.found
    c.in_ok-parts.ensures.found
    (c.are_canonical.ensures.0 c.if-not-are_canonical.false)
    ((c.has_these_dimensions.ensures (raw_numbers_of n)).0 c.if-not-has_these_dimensions.false)
    (c.are_in_order.ensures.0 c.if-not-are_in_order.false)
