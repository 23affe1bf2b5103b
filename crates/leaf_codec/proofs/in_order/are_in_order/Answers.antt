use Rattle.std.proofs.Common.{◌≡◌, ◌+◌, ℕ, sym, ap, subst, ◌∙◌, ◌<◌, arith, rules, true≢false}
use Rattle.point_codec.specs.Points.{Item, in_box}
use Rattle.point_codec.specs.Seen.{region_of}
use Rattle.leaf_codec.specs.LeafOrder.{leaf_cmp}
use Rattle.leaf_codec.specs.Raw.{raw_item}
use Rattle.leaf_codec.specs.Views.{raw_numbers_of, raw_keys_of, items_said, AscendInside}
use Rattle.leaf_codec.proofs.ItemsDecoded.{raw_item_is}
use Rattle.leaf_codec.proofs.OrderedKeys.{less_rank}
use Rattle.leaf_codec.proofs.ViewLemmas.{inside_at, up_at, ascends}
use Rattle.leaf_codec.proofs.in_order.are_in_order.Goals as goal

pub returns-then-not-ascend : goal.returns-then-not-ascend
returns-then-not-ascend g c =
    let n = raw_numbers_of c.args.numbers.now in
    let r = raw_keys_of c.args.parts.now in
    let cell = region_of c.args.cell.now in (
      λ no. absurd (true≢false (sym no)),
      λ a.
          let up = c.ascend.ensures.1
          (λ k lt. (λ j. leaf_cmp (c.leading-d.ensures.value j) (raw_item g.row.D n r k) (raw_item g.row.D n r (k + 1)))
          ∙ up_at g.row.D c.args.numbers.now.count k _ n r cell a lt) in
          absurd (true≢false (sym up ∙ c.if-not-ascend.true)),
    )

pub lie_inside-requires : goal.lie_inside-requires
lie_inside-requires g c =
    let h = c.requires.readable in
    let rises = λ (k : ℕ) (lt : k + 1 < c.args.parts.now.count).
    less_rank g.row.D c.leading-d.result k (k + 1) (raw_numbers_of c.args.numbers.now) (raw_keys_of c.args.parts.now) c.leading-d.ensures.within
    (c.ascend.ensures.0 c.if-not-ascend.false k (omega (arith, lt, h.counted))) in (
      search rules,
      (search rules, ((h.some_dims, h.few_dims), (h.keys, (h.slots, (omega (arith, c.requires.some, h.counted), (c.leading-d.ensures.value, rises)))))),
    )

pub returns : goal.returns
returns g c =
    let n = raw_numbers_of c.args.numbers.now in
    let r = raw_keys_of c.args.parts.now in
    let cell = region_of c.args.cell.now in
    let same : c.args.parts.now.count ≡ c.args.numbers.now.count = c.requires.readable.counted in
    let at = λ (k : ℕ). ap (λ (x : Item). in_box cell x.at) (raw_item_is g.row.D k n r) in (
      λ t. subst (λ (d : ℕ). AscendInside d cell (items_said g.row.D c.args.numbers.now c.args.parts.now)) c.leading-d.ensures.value
          (ascends g.row.D c.args.numbers.now.count c.leading-d.result n r cell (λ k lt. at k ∙ c.lie_inside.ensures.0 t k (omega (arith, lt, same)))
          (c.ascend.ensures.0 c.if-not-ascend.false)),
      λ a. c.lie_inside.ensures.1 (λ k lt. sym (at k) ∙ inside_at g.row.D c.args.numbers.now.count k _ n r cell a (omega (arith, lt, same))),
    )
